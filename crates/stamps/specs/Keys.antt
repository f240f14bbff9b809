-- Keys and items: what a feed sends, and what is kept of it.
use Rattle.std.specs.Prelude.{Bool, cond, Option, Some, None, List, [], ◌∷◌, ℕ, ◌+◌, ◌*◌, ◌%◌, leb, eqb}
use Rattle.stamps.specs.declared.Message.{Message}
use Rattle.stamps.specs.declared.Item.{Item}
use Rattle.stamps.specs.Counting.{all_of}

-- "The key becomes heat x 1000000 + car x 1000 + lap"
abbrev pub key_of : ℕ → ℕ → ℕ → ℕ
key_of heat car lap = heat * 1000000 + car * 1000 + lap

-- "heat 1 to 9", "car 1 to 999, lap 0 to 999"
abbrev pub range_tests : Message → List Bool
range_tests m = leb 1 m.heat ∷ leb m.heat 9 ∷ leb 1 m.car ∷ leb m.car 999 ∷ leb m.lap 999 ∷ []

-- the numbers of a message are in range
unfoldable pub in_range : Message → Bool
in_range m = all_of (range_tests m)

-- what is kept of a message
unfoldable pub item_of : Message → Item
item_of m = record { key = key_of m.heat m.car m.lap }

-- "Two rows of different sources match when their keys are equal"
unfoldable pub items_match : Item → Item → Bool
items_match x y = eqb x.key y.key

-- "Partition of a row: key mod P"
unfoldable pub part_of : ℕ → Item → ℕ
part_of parts x = x.key % parts

-- refusal 2, BadKey, where there is none: a heat, car or lap out of range
abbrev pub made : Message → Option Item
made m = cond (in_range m) (Some (item_of m)) None
