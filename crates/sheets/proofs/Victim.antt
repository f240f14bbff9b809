-- What the rule of the victim means: which source it is of, that its portion is the first of the largest, and that flushing it moves a row.
-- By induction on the partitions, and on the rows. Assumes nothing.
use Rattle.std.proofs.Common.{◌≡◌, refl, ap, Bool, true, false, cond, ℕ, zero, suc, ◌+◌, ◌≤◌, ◌<◌, ltb, lt-ltb, le-ltb, eq-eqb, arith}
use Rattle.std.proofs.Math.Bool.{and-true}
use Rattle.stamps.specs.declared.Source.{Source}
use Rattle.stamps.specs.declared.Source.TheVariants.{A, B}
use Rattle.stamps.specs.declared.Row.{Row}
use Rattle.stamps.specs.Counting.{bit}
use Rattle.stamps.proofs.CountingLaws.{tests, one_more}
use Rattle.stamps.specs.Keys.{part_of}
use Rattle.stamps.proofs.KeysLaws.{part_below}
use Rattle.stamps.specs.Stamps.{in_memory}
use Rattle.sheets.specs.Rows.{memory_rows, portion_rows, Held, held_in, first_largest, largest_part, victim}
use Rattle.sheets.specs.declared.rows.Victim.{Victim}

-- ---- the first of the largest

pub first_within : (size : ℕ → ℕ) (n m : ℕ) → n ≤ m → 0 < m → first_largest size n < m
first_within size zero m b z = z
first_within size (suc n) m b z = go (ltb (size (first_largest size n)) (size n)) (first_within size n m (omega arith) z)
  where
    go : (u : Bool) → first_largest size n < m → cond u n (first_largest size n) < m
    go true h = omega arith
    go false h = h

-- none is larger, and those before it are smaller
pub record FirstLargest (size : ℕ → ℕ) (n q : ℕ) : Type 0 where
  pub largest : (k : ℕ) → k < n → size k ≤ size q
  pub first : (k : ℕ) → k < q → size k < size q

pub first_largest_lem : (size : ℕ → ℕ) (n : ℕ) → FirstLargest size n (first_largest size n)
first_largest_lem size zero = record { largest = λ k b. absurd (omega arith); first = λ k b. absurd (omega arith) }
first_largest_lem size (suc n) = go (ltb (size (first_largest size n)) (size n)) refl (first_largest_lem size n)
  where
    go : (u : Bool) → ltb (size (first_largest size n)) (size n) ≡ u → FirstLargest size n (first_largest size n)
        → FirstLargest size (suc n) (cond u n (first_largest size n))
    go true e h = record {
      largest = one_more (λ k. size k ≤ size n) n (λ k b. omega (arith, tests, h.largest k b)) (omega arith);
      first = λ k b. omega (arith, tests, h.largest k b);
    }
    go false e h = record { largest = one_more (λ k. size k ≤ size (first_largest size n)) n h.largest (omega (arith, tests)); first = h.first }

-- ---- a largest portion is not empty

-- each row in memory is of a portion
none_hot : (parts : ℕ) (f : ℕ → Row) (n : ℕ) → 0 < parts → ((q : ℕ) → q < parts → portion_rows parts q f n ≤ 0) → memory_rows f n ≤ 0
none_hot parts f zero z h = omega arith
none_hot parts f (suc n) z h =
    let own = part_of parts (f n).item in
    let none = h own (part_below parts (f n).item z) in
    let not_last : portion_rows parts own f n + bit (in_memory (f n)) ≤ 0 = rw (eq-eqb own own refl, and-true) at none in
    omega (arith, none_hot parts f n z (λ q b. omega (arith, h q b)), not_last)

-- a source with a row in memory has one in its largest portion
largest_some : (parts : ℕ) (f : ℕ → Row) (n : ℕ) → 0 < parts → 0 < memory_rows f n → 0 < portion_rows parts (largest_part parts (held_in parts f n)) f n
unfolding largest_part
largest_some parts f n z h = go (portion_rows parts (largest_part parts (held_in parts f n)) f n) refl
  where
    go : (k : ℕ) → portion_rows parts (largest_part parts (held_in parts f n)) f n ≡ k → 0 < k
    go zero e = absurd (omega (arith, none_hot parts f n z λ q b. omega (arith, e, (first_largest_lem (λ q. portion_rows parts q f n) parts).largest q b)))
    go (suc k) e = omega arith

-- ---- the victim

module _ (parts : ℕ) (a b : Held) where
  abbrev of_a : Victim
  of_a = record { source = A; part = largest_part parts a }

  abbrev of_b : Victim
  of_b = record { source = B; part = largest_part parts b }

  pub victim-a : b.rows ≤ a.rows → victim parts a b ≡ of_a
  unfolding victim
  victim-a h = ap (λ more. cond more of_b of_a) (le-ltb a.rows b.rows h)

  -- so a burst of the pack feed pushes out its own rows
  pub victim-b : a.rows < b.rows → victim parts a b ≡ of_b
  unfolding victim
  victim-b h = ap (λ more. cond more of_b of_a) (lt-ltb a.rows b.rows h)

-- a for A, b for B
abbrev held_by : Held → Held → Source → Held
held_by a b A = a
held_by a b B = b

-- so a flush for room moves a row
module _ (parts : ℕ) (f : ℕ → Row) (n : ℕ) (g : ℕ → Row) (m : ℕ) where
  abbrev in_a : Held
  in_a = held_in parts f n

  abbrev in_b : Held
  in_b = held_in parts g m

  pub victim_some : 0 < parts → 0 < memory_rows f n + memory_rows g m → let v = victim parts in_a in_b in 0 < (held_by in_a in_b v.source).portion v.part
  victim_some z h = go (ltb (memory_rows f n) (memory_rows g m)) refl
    where
      go : (u : Bool) → ltb (memory_rows f n) (memory_rows g m) ≡ u → let v = victim parts in_a in_b in 0 < (held_by in_a in_b v.source).portion v.part
      go true e = rw (victim-b parts in_a in_b (omega (arith, tests))) (largest_some parts g m z (omega (arith, tests)))
      go false e = rw (victim-a parts in_a in_b (omega (arith, tests))) (largest_some parts f n z (omega (arith, tests)))
