-- What the layers above may know of keys: matching is symmetric, matching items have one key and one partition, and they are of one lap.
-- Assumes nothing.
use Rattle.std.specs.Prelude.{◌≡◌, refl, Bool, true, false, cond, Some, None, ◌↔◌, ℕ, ◌+◌, ◌*◌, ◌%◌, ◌≤◌, ◌<◌, eqb}
use Rattle.std.proofs.Common.{sym, ap, mod-lt, arith, eqb-true, eq-eqb, ne_eqb}
use Rattle.std.proofs.lemmas.Bool.{eqb-false}
use Rattle.std.proofs.lemmas.Option.{cond_some}
use Rattle.stamps.specs.declared.Message.{Message}
use Rattle.stamps.specs.declared.Item.{Item}
use Rattle.stamps.specs.Keys.{in_range, item_of, made, items_match, part_of}
use Rattle.stamps.proofs.KeysMeaning.{ranges, item_of_is}

eqb_comm : (i j : ℕ) → eqb i j ≡ eqb j i
eqb_comm i j = go (eqb j i) refl
  where
    go : (u : Bool) → eqb j i ≡ u → eqb i j ≡ u
    go true e = eq-eqb i j (sym (eqb-true j i e))
    go false e = ne_eqb i j (λ h. eqb-false j i e (sym h))

match_own : (x : Item) → items_match x x ≡ true
unfolding items_match
match_own x = eq-eqb x.key x.key refl

pub match_comm : (x y : Item) → items_match x y ≡ items_match y x
unfolding items_match
match_comm x y = eqb_comm x.key y.key

pub match_keys : (x y : Item) → items_match x y ≡ true → x.key ≡ y.key
unfolding items_match
match_keys x y = eqb-true x.key y.key

pub match_part : (parts : ℕ) (x y : Item) → items_match x y ≡ true → part_of parts x ≡ part_of parts y
unfolding part_of
match_part parts x y e = ap (λ (k : ℕ). k % parts) (match_keys x y e)

pub part_below : (parts : ℕ) (x : Item) → 0 < parts → part_of parts x < parts
unfolding part_of
part_below parts x h = mod-lt x.key h

-- a number is its last three digits, and what stands before them
same_digits : (i j k l : ℕ) → j ≤ 999 → l ≤ 999 → i * 1000 + j ≡ k * 1000 + l → (i ≡ k) × (j ≡ l)
same_digits i j k l h g e = (omega arith, omega arith)

-- two messages in range match exactly if they are of one lap, of one car in one heat
pub match_same : (m n : Message) → in_range m ≡ true → in_range n ≡ true → (items_match (item_of m) (item_of n) ≡ true) ↔ (m ≡ n)
match_same m n h g = (one_lap, λ e. rw e (match_own (item_of n)))
  where
    one_lap : items_match (item_of m) (item_of n) ≡ true → m ≡ n
    one_lap e =
        let (heat-m, car-m, lap-m) = ranges m h in
        let (heat-n, car-n, lap-n) = ranges n g in
        let k = match_keys (item_of m) (item_of n) e in
        let key = rw (item_of_is m, item_of_is n) at k in
        let (before, lap) = same_digits (m.heat * 1000 + m.car) m.lap (n.heat * 1000 + n.car) n.lap lap-m lap-n (omega arith) in
        let (heat, car) = same_digits m.heat m.car n.heat n.car car-m car-n before in
        let own : record { heat = m.heat; car = m.car; lap = m.lap } ≡ n = rw (heat, car, lap) in own

-- a message makes an item exactly if it is in range
pub made_good : (m : Message) (x : Item) → made m ≡ Some x → (in_range m ≡ true) × (x ≡ item_of m)
made_good m x e = let p = cond_some (in_range m) (item_of m) x e in (p.0, sym p.1)

pub made_bad : (m : Message) → made m ≡ None → in_range m ≡ false
made_bad m = go (in_range m)
  where
    go : (u : Bool) → cond u (Some (item_of m)) None ≡ None → u ≡ false
    go true e = cc
    go false e = refl
