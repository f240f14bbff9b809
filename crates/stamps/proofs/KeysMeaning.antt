-- What the shut definitions of keys say. For this crate alone: the layers above use Laws.
-- Assumes nothing.
use Rattle.std.specs.Prelude.{◌≡◌, refl, true, ℕ, ◌%◌, ◌≤◌, eqb}
use Rattle.std.proofs.Common.{sym, ◌∙◌, leb-true}
use Rattle.stamps.specs.declared.Message.{Message}
use Rattle.stamps.specs.declared.Item.{Item}
use Rattle.stamps.specs.Counting.{all_of}
use Rattle.stamps.proofs.CountingLaws.{each}
use Rattle.stamps.specs.Keys.{key_of, range_tests, in_range, item_of, items_match, part_of}

pub in_range_is : (m : Message) → in_range m ≡ all_of (range_tests m)
unfolding in_range
in_range_is m = refl

-- the largest numbers in range
pub ranges : (m : Message) → in_range m ≡ true → (m.heat ≤ 9) × (m.car ≤ 999) × (m.lap ≤ 999)
ranges m h = let t = each (range_tests m) (sym (in_range_is m) ∙ h) in (leb-true _ _ t.1.0, leb-true _ _ t.1.1.1.0, leb-true _ _ t.1.1.1.1.0)

pub item_of_is : (m : Message) → item_of m ≡ record { key = key_of m.heat m.car m.lap }
unfolding item_of
item_of_is m = refl

pub items_match_is : (x y : Item) → items_match x y ≡ eqb x.key y.key
unfolding items_match
items_match_is x y = refl

pub part_of_is : (parts : ℕ) (x : Item) → part_of parts x ≡ x.key % parts
unfolding part_of
part_of_is parts x = refl
