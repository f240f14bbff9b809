-- Lone calls hand out the rows without partner: their numbers rise, and what a list of them leaves out is what is left.
-- Assumes nothing.
use Rattle.std.proofs.Common.{◌≡◌, refl, sym, ap, ◌∙◌, Bool, true, false, not, ◌&&◌, List, [], ◌∷◌, map, ℕ, zero, suc, ◌+◌, ◌*◌, ◌≤◌, ◌<◌, zero-add, le_refl, ltb, leb, eqb, take, drop, lt-ltb, le-ltb, eqb-true, eq-eqb, arith}
use Rattle.stamps.specs.Counting.{bit, span, count}
use Rattle.stamps.proofs.CountingLaws.{tests, count-keep, keep_cong}
use Rattle.sheets.specs.Layout.{Single}
use Rattle.pairs.specs.Lones.{Items, is_lone, lones, number, lones_from, single, is_single, same_single, listings, unlisted}
use Rattle.pairs.specs.Rooms.{onward}
use Rattle.pairs.proofs.Counts.{count-rows, told-passed}
use Rattle.pairs.proofs.Handing.{Rises, rises_keep, rises_from, Parts, onward-parts, left_after, handed-count, missing-left}

rises-span : (i n : ℕ) → Rises number i (span i n) (i + n)
rises-span i zero = omega arith
rises-span i (suc n) = let e : i + suc n ≡ suc i + n = omega arith in (le_refl i, rw e (rises-span (suc i) n))

module _ (t : Items) where
  count_lones : (i : ℕ) → count eqb i (lones t) ≡ bit (is_lone t i) * bit (ltb i t.rows)
  unfolding lones
  count_lones i = rw (count-keep eqb eqb-true (is_lone t) i (span 0 t.rows), count-rows i t.rows)

  -- what is told of a row
  listings_told : (x : Single) (is : List ℕ) → listings x (map (single t) is) ≡ bit (eqb x.key (t.item x.row).key) * count eqb x.row is
  listings_told x [] = omega arith
  listings_told x (i ∷ is) = rw (listings_told x is) (go (eqb x.row i) refl)
    where
      go : (u : Bool) → eqb x.row i ≡ u
          → bit (u && eqb x.key (t.item i).key) + bit (eqb x.key (t.item x.row).key) * count eqb x.row is
          ≡ bit (eqb x.key (t.item x.row).key) * (bit u + count eqb x.row is)
      go true e = rw (← eqb-true x.row i e) (held (eqb x.key (t.item x.row).key))
        where
          held : (v : Bool) → bit v + bit v * count eqb x.row is ≡ bit v * (1 + count eqb x.row is)
          held true = omega arith
          held false = omega arith
      go false e = zero-add _ ∙ ap (λ (n : ℕ). bit (eqb x.key (t.item x.row).key) * n) (sym (zero-add (count eqb x.row is)))

  module _ (k : ℕ) where
    -- the position after a call with room r
    pub lone_parts : (r : ℕ) → k ≤ t.rows → Parts number k r t.rows (onward number t.rows k r (lones_from k t)) (lones_from k t)
    unfolding lones_from lones
    lone_parts r h = onward-parts number k r t.rows (lones_from k t)
        (rises_from number k 0 t.rows (lones t) h (rises_keep number (is_lone t) 0 t.rows (span 0 t.rows) (rw zero-add at (rises-span 0 t.rows))))

    module _ (r next : ℕ) (h : Parts number k r t.rows next (lones_from k t)) where
      -- what it writes makes listed exactly the rows that its position has passed
      pub lone_tells : (x : Single) → bit (is_single t x && ltb x.row k) + listings x (map (single t) (take r (lones_from k t))) ≡ bit (is_single t x && ltb x.row next)
      unfolding lones_from
      lone_tells x = rw (listings_told x (take r (lones_from k t)))
          (told-passed (ltb x.row t.rows) (is_lone t x.row) (eqb x.key (t.item x.row).key) (ltb x.row k) (ltb x.row next) _
          (rw (count_lones x.row) at (handed-count number eqb eqb-true k r t.rows next (lones t) h x.row)))

      -- and leaves the others
      pub lones-after : lones_from next t ≡ drop r (lones_from k t)
      unfolding lones_from
      lones-after = left_after number k r t.rows next (lones t) h

    pub unlisted-left : (l : List Single) → ((x : Single) → listings x l ≡ bit (is_single t x && ltb x.row k)) → unlisted t l ≡ map (single t) (lones_from k t)
    unfolding unlisted lones_from
    unlisted-left l h = missing-left eqb same_single (single t) (λ i. eq-eqb i i refl) l (λ i. ltb i k) (lones t) listed
        ∙ ap (map (single t)) (keep_cong eqb (λ i. eq-eqb i i refl) (λ i. not (ltb i k)) (λ i. leb k i) (lones t) (λ i b. later i))
      where
        listed : (i : ℕ) → 0 < count eqb i (lones t) → listings (single t i) l ≡ bit (ltb i k)
        listed i b = rw (h (single t i), eq-eqb (t.item i).key (t.item i).key refl) (go (ltb i t.rows) (is_lone t i) (rw (count_lones i) at b))
          where
            go : (u v : Bool) → 0 < bit v * bit u → bit ((u && (v && true)) && ltb i k) ≡ bit (ltb i k)
            go true true z = refl
            go true false z = absurd (omega arith)
            go false true z = absurd (omega arith)
            go false false z = absurd (omega arith)

        later : (i : ℕ) → not (ltb i k) ≡ leb k i
        later i = go (leb k i) refl
          where
            go : (u : Bool) → leb k i ≡ u → not (ltb i k) ≡ u
            go true e = rw (le-ltb i k (omega (arith, tests)))
            go false e = rw (lt-ltb i k (omega (arith, tests)))
