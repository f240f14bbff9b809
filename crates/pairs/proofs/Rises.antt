-- Drains hand out the pairs that are owed: their positions rise, and what is missing of the join is what is owed.
-- Assumes nothing.
use Rattle.std.proofs.Common.{◌≡◌, refl, sym, ap, ◌∙◌, Bool, true, false, not, ◌&&◌, ◌||◌, List, ℕ, zero, suc, ◌+◌, ◌*◌, ◌≤◌, ◌<◌, add-zero, zero-add, add-suc, suc-add, zero-mul, suc-mul, mul-le-mul_right, le_refl, ltb, leb, take, drop, lt-ltb, le-ltb, arith}
use Rattle.std.proofs.Math.Bool.{and-true, and-false}
use Rattle.std.proofs.lemmas.Bool.{and_parts}
use Rattle.stamps.specs.declared.Source.TheVariants.{A}
use Rattle.stamps.specs.Counting.{bit, keep, count}
use Rattle.stamps.proofs.CountingLaws.{tests, keep-keep, count-keep, keep_cong}
use Rattle.sheets.specs.Layout.{Told, Pair}
use Rattle.sheets.proofs.LayoutLaws.{shown_own}
use Rattle.pairs.specs.Joins.{inside, numbers, is_pair, join, same, times, missing}
use Rattle.pairs.specs.Pairs.{Table, across, down, every, position, tell_of, told, matches, done, is_due, due_pairs, due_from}
use Rattle.pairs.specs.Rooms.{onward}
use Rattle.pairs.proofs.Counts.{at, at-eq, at_refl, times-tell, count-every, told-passed, shown_by}
use Rattle.pairs.proofs.Handing.{Rises, rises_append, rises_keep, rises_from, Parts, onward-parts, left_after, handed-count, missing-left}

rises-across : (t : Table) (i j n : ℕ) → Rises (position t) (i * t.b.count + j) (across i j n) (i * t.b.count + (j + n))
rises-across t i j zero = omega arith
rises-across t i j (suc n) = (le_refl _, rw (add-suc (i * t.b.count) j, suc-add j n, ← add-suc j n) at (rises-across t i (suc j) n))

rises-down : (t : Table) (i n : ℕ) → Rises (position t) (i * t.b.count) (down i n t.b.count) ((i + n) * t.b.count)
rises-down t i zero = rw (add-zero i) (le_refl _)
rises-down t i (suc n) = rises_append (position t) (i * t.b.count) (suc i * t.b.count) ((i + suc n) * t.b.count) (across i 0 t.b.count) (down (suc i) n t.b.count)
    row (rw (suc-add i n, ← add-suc i n) at (rises-down t (suc i) n))
  where
    row : Rises (position t) (i * t.b.count) (across i 0 t.b.count) (suc i * t.b.count)
    row = let e : i * t.b.count + 0 ≡ i * t.b.count = omega arith in let f : i * t.b.count + (0 + t.b.count) ≡ suc i * t.b.count = rw suc-mul (omega arith) in
        rw (e, f) at (rises-across t i 0 t.b.count)

-- ---- the pairs owed from a position on

module _ (t : Table) (k : ℕ) where
  abbrev owed : List Pair
  owed = due_from k t

  owed_rises : k ≤ t.a.count * t.b.count → Rises (position t) k owed (t.a.count * t.b.count)
  unfolding due_from due_pairs
  owed_rises h = rises_from (position t) k 0 (t.a.count * t.b.count) (keep (is_due t) (every t)) h
      (rises_keep (position t) (is_due t) 0 (t.a.count * t.b.count) (every t) (rw (zero-mul, zero-add) at (rises-down t 0 t.a.count)))

  -- the position after a drain of r
  pub drain-parts : (r : ℕ) → k ≤ t.a.count * t.b.count
      → Parts (position t) k r (t.a.count * t.b.count) (onward (position t) (t.a.count * t.b.count) k r owed) owed
  drain-parts r h = onward-parts (position t) k r (t.a.count * t.b.count) owed (owed_rises h)

  -- what a drain of r writes makes written exactly the pairs that its position has passed
  module _ (r next : ℕ) (h : Parts (position t) k r (t.a.count * t.b.count) next owed) where
    pub drain_tells : (x : Told) → bit (is_pair t x && (done t (numbers x) || ltb (position t (numbers x)) k)) + times x (told A t (take r owed))
        ≡ bit (is_pair t x && (done t (numbers x) || ltb (position t (numbers x)) next))
    unfolding due_from due_pairs is_due
    drain_tells x = rw (times-tell A (λ i. (t.a.row i).item) (λ j. (t.b.row j).item) x (take r owed))
        (go (inside t (numbers x)) (matches t (numbers x)) (shown_by A (λ i. (t.a.row i).item) (λ j. (t.b.row j).item) x) (done t (numbers x)) (ltb (position t (numbers x)) k) (ltb (position t (numbers x)) next)
        (rw (count-keep at at-eq (is_due t) (numbers x) (every t), count-every t (numbers x)) at (handed-count (position t) at at-eq k r _ next (due_pairs t) h (numbers x))))
      where
        go : (i m c d u v : Bool) → bit u * (bit (m && not d) * bit i) + count at (numbers x) (take r owed) ≡ bit v * (bit (m && not d) * bit i)
            → bit ((i && (m && c)) && (d || u)) + bit c * count at (numbers x) (take r owed) ≡ bit ((i && (m && c)) && (d || v))
        go i m c false u v e = told-passed i m c u v _ (rw and-true at e)
        go i m c true u v e = let z : count at (numbers x) (take r owed) ≡ 0 = omega (arith, rw and-false at e) in rw z (omega arith)

    -- and leaves the others
    pub owed-after : due_from next t ≡ drop r owed
    unfolding due_from
    owed-after = left_after (position t) k r (t.a.count * t.b.count) next (due_pairs t) h

-- ---- what is missing is what is owed

pub missing-owed : (t : Table) (k : ℕ) (l : List Told)
    → ((x : Told) → times x l ≡ bit (is_pair t x && (done t (numbers x) || ltb (position t (numbers x)) k))) → missing t l ≡ told A t (due_from k t)
unfolding missing join due_from due_pairs is_due
missing-owed t k l h = missing-left at same (tell_of A t) at_refl l out (keep (matches t) (every t)) written
    ∙ ap (told A t) (keep-keep (λ p. not (out p)) (matches t) (every t) ∙ keep_cong at at_refl _ _ (every t) (λ p b. agree p) ∙ sym (keep-keep (λ p. leb k (position t p)) (is_due t) (every t)))
  where
    out : Pair → Bool
    out p = done t p || ltb (position t p) k

    written : (p : Pair) → 0 < count at p (keep (matches t) (every t)) → times (tell_of A t p) l ≡ bit (out p)
    written p b = rw (h (tell_of A t p), shown_own (tell_of A t p).shown)
        (go (inside t p) (matches t p) (rw (count-keep at at-eq (matches t) p (every t), count-every t p) at b))
      where
        go : (i m : Bool) → 0 < bit m * bit i → bit ((i && (m && true)) && out p) ≡ bit (out p)
        go true true z = refl
        go true false z = absurd (omega arith)
        go false true z = absurd (omega arith)
        go false false z = absurd (omega arith)

    agree : (p : Pair) → (matches t p && not (out p)) ≡ (is_due t p && leb k (position t p))
    agree p = go (matches t p) (done t p) (leb k (position t p)) refl
      where
        go : (m d u : Bool) → leb k (position t p) ≡ u → (m && not (d || ltb (position t p) k)) ≡ ((m && not d) && u)
        go false d u e = refl
        go true true u e = refl
        go true false true e = rw (le-ltb (position t p) k (omega (arith, tests)))
        go true false false e = rw (lt-ltb (position t p) k (omega (arith, tests)))

-- no position lies beyond the last
pub position-inside : (t : Table) (p : Pair) → inside t p ≡ true → position t p < t.a.count * t.b.count
position-inside t p h = let b = and_parts (ltb p.a t.a.count) (ltb p.b t.b.count) h in
    let e : suc p.a * t.b.count ≤ t.a.count * t.b.count = mul-le-mul_right t.b.count (omega (arith, tests, b)) in omega (arith, tests, b, e, suc-mul p.a t.b.count)
