-- The turns of the loops that walk the grid of pairs: what is left from the next spot on is what was left, less what was written.
-- Assumes nothing.
use Rattle.std.proofs.Common.{◌≡◌, refl, sym, ap, ◌∙◌, false, List, [], ◌∷◌, ◌++◌, map, ℕ, zero, suc, ◌+◌, ◌*◌, ◌-◌, ◌^◌, ◌≤◌, ◌<◌, suc-mul, mul-zero, le_trans, mul-le-mul_right, add-one, ltb, length, length-append, le-ltb, None, Some, arith}
use Rattle.std.proofs.Math.Nat.{sub-zero}
use Rattle.std.proofs.Math.Seq.{take-nil}
use Rattle.std.proofs.lemmas.Iterator.{YieldsList}
use Rattle.std.proofs.lemmas.Iterator.Consumers.{YieldsList-from_shown}
use Rattle.stamps.specs.declared.Source.{Source}
use Rattle.stamps.specs.Counting.{span, keep}
use Rattle.stamps.proofs.CountingLaws.{keep_append, keep-map, length-keep}
use Rattle.sheets.specs.Layout.{put_pair, Pair}
use Rattle.sheets.proofs.LayoutLaws.{length-put_pair}
use Rattle.pairs.specs.Pairs.{Table, across, down, position, wanted, wanted_pairs, tell_of, NextIs, left_rows, left_from, table_of, pair_of, due_left, DueStep, Writes}
use Rattle.pairs.specs.declared.due.Due.{Due}
use Rattle.pairs.specs.declared.walks.Job.{Job}
use Rattle.pairs.specs.declared.walks.Scope.{Scope}
use Rattle.pairs.specs.declared.walks.Spot.{Spot}
use Rattle.pairs.proofs.Laws.{length-across, length-down, product_few}
use Rattle.pairs.proofs.PairTurns.{kept_none, kept_next}
use Rattle.pairs.proofs.RoomTurns.{Giving, giving_first, giving_next}

down-left : (i k m : ℕ) → down i k m ≡ left_rows m i 0 k
down-left i zero m = refl
down-left i (suc k) m = rw sub-zero

length-left : (m i j k : ℕ) → length (left_rows m i j k) ≤ k * m
length-left m i j zero = omega arith
length-left m i j (suc k) = rw (length-append, length-across i j (m - j), length-down (suc i) k m, suc-mul) (omega arith)

module _ (scope : Scope) (t : Table) where
  -- the pair at a spot
  abbrev pub at : ℕ → ℕ → Pair
  at i j = record { a = i; b = j }

  pub left-every : left_from scope t 0 0 ≡ wanted_pairs scope t
  unfolding wanted_pairs
  left-every = rw (sub-zero, ← down-left)

  -- by columns, the rest of a row and the rows below it
  left_split : (i j : ℕ) → i < t.a.count → left_from scope t i j
      ≡ map (at i) (keep (λ c. wanted scope t (at i c)) (span j (t.b.count - j))) ++ keep (wanted scope t) (down (suc i) (t.a.count - suc i) t.b.count)
  left_split i j h = let e : t.a.count - i ≡ suc (t.a.count - suc i) = omega arith in
      rw e (keep_append (wanted scope t) (across i j (t.b.count - j)) (down (suc i) (t.a.count - suc i) t.b.count)
      ∙ ap (λ (l : List Pair). l ++ keep (wanted scope t) (down (suc i) (t.a.count - suc i) t.b.count)) (keep-map (at i) (wanted scope t) (span j (t.b.count - j))))

  -- the next of a row's wanted pairs; a row with none
  pub left_next : (i j r : ℕ) → i < t.a.count → NextIs (λ c. wanted scope t (at i c)) t.b.count j (Some r) → left_from scope t i j ≡ at i r ∷ left_from scope t i (r + 1)
  left_next i j r h n = left_split i j h
      ∙ ap (λ (l : List ℕ). map (at i) l ++ keep (wanted scope t) (down (suc i) (t.a.count - suc i) t.b.count)) (kept_next (λ c. wanted scope t (at i c)) t.b.count j r n.0 n.1 n.2 n.3)
      ∙ ap (λ (l : List Pair). at i r ∷ l) (sym (left_split i (r + 1) h))

  pub left_row : (i j : ℕ) → i < t.a.count → NextIs (λ c. wanted scope t (at i c)) t.b.count j None → left_from scope t i j ≡ left_from scope t (i + 1) 0
  left_row i j h n = left_split i j h
      ∙ ap (λ (l : List ℕ). map (at i) l ++ keep (wanted scope t) (down (suc i) (t.a.count - suc i) t.b.count)) (kept_none (λ c. wanted scope t (at i c)) t.b.count j n)
      ∙ rw (add-one i, down-left)

  -- no more pairs than the grid has
  left_size : (i j : ℕ) → length (left_from scope t i j) ≤ t.a.count * t.b.count
  left_size i j = le_trans (length-keep (wanted scope t) (left_rows t.b.count i j (t.a.count - i)))
      (le_trans (length-left t.b.count i j (t.a.count - i)) (mul-le-mul_right t.b.count (omega arith)))

-- ---- from row to row

-- as much is left of t as of s
pub record Walked (s t : Due) : Type 0 where
  pub same_job : t.job ≡ s.job
  pub none_between : due_left s ≡ due_left t

module _ (s t : Due) (h : Walked s t) where
  pub walked_row : t.from.row < t.job.own.rows → NextIs (λ c. wanted t.job.scope (table_of t.job) (record { a = t.from.row; b = c })) t.job.facing.rows t.from.facing None
      → Walked s (record { job = t.job; from = record { row = t.from.row + 1; facing = 0 } })
  walked_row l n = record { same_job = h.same_job; none_between = h.none_between ∙ left_row t.job.scope (table_of t.job) t.from.row t.from.facing l n }

  pub walked-found : (r : ℕ) → t.from.row < t.job.own.rows → NextIs (λ c. wanted t.job.scope (table_of t.job) (record { a = t.from.row; b = c })) t.job.facing.rows t.from.facing (Some r)
      → DueStep s (Some (record { row = t.from.row; facing = r })) (record { job = t.job; from = record { row = t.from.row; facing = r + 1 } })
  walked-found r l n = (h.same_job, (h.none_between ∙ left_next t.job.scope (table_of t.job) t.from.row t.from.facing r l n, rw (← h.same_job) l, rw (← h.same_job) n.1))

-- ---- counting

-- a walk gives what is left, one after the other
pub due-walk : (d : Due) → YieldsList DueStep pair_of d (due_left d)
due-walk d = YieldsList-from_shown DueStep pair_of due_left (λ s t step. ap length step.1.0) (λ s x t step. step.1.0) d

pub due_few : (d : Due) → length (due_left d) < 2 ^ 64
due_few d = omega (arith, left_size d.job.scope (table_of d.job) d.from.row d.from.facing, product_few d.job.own.rows d.job.facing.rows d.job.own_few d.job.facing_few)

-- ---- writing

-- from pair to pair within the room
pub record Writing (job : Job) (all : List Pair) (from room : ℕ) (o out : List ℕ) (n next : ℕ) (d : Due) : Type 0 where
  pub same_job : d.job ≡ job
  pub gives : Giving (position (table_of job)) (job.own.rows * job.facing.rows) (tell_of job.source (table_of job)) put_pair all (due_left d) from room o out n next

pub writing_first : (job : Job) (spot : Spot) (from room : ℕ) (o : List ℕ) → from ≤ job.own.rows * job.facing.rows
    → let d : Due = record { job = job; from = spot } in Writing job (due_left d) from room o o 0 from d
writing_first job spot from room o h = record {
  same_job = refl;
  gives = giving_first _ _ _ put_pair _ from room o h (left_size job.scope (table_of job) spot.row spot.facing);
}

module _ (job : Job) (all : List Pair) (from room : ℕ) (o out : List ℕ) (n next : ℕ) (d : Due) (h : Writing job all from room o out n next d) where
  module _ (d' : Due) (x : Spot) (step : DueStep d (Some x) d') where
    pub writing-row : x.row < job.own.rows
    writing-row = rw (← h.same_job) step.1.1

    pub writing-facing : x.facing < job.facing.rows
    writing-facing = rw (← h.same_job) step.1.2

    pub writing_next : (out' : List ℕ) → n < room → out' ≡ put_pair n (tell_of job.source (table_of job) (pair_of x)) out
        → Writing job all from room o out' (n + 1) (x.row * job.facing.rows + x.facing + 1) d'
    writing_next out' b e = record {
      same_job = step.0 ∙ h.same_job;
      gives = rw (add-one (x.row * job.facing.rows + x.facing)) (giving_next _ _ _ put_pair all from room o out n next (pair_of x) _ (rw step.1.0 at h.gives) length-put_pair out' b
          (omega (arith, writing-facing, suc-mul x.row job.facing.rows, mul-le-mul_right job.facing.rows writing-row)) e);
    }

-- nothing is wanted, and the grid has no columns
pub writing_none : (s : Source) (t : Table) (all : List Pair) (from room : ℕ) (o : List ℕ) → all ≡ [] → t.b.count ≡ 0
    → Writes s t all from room o o (record { count = 0; more = false; next = 0 })
writing_none s t all from room o e z = let more : ltb room 0 ≡ false = le-ltb room 0 (omega arith) in
    record { count = rw (e, take-nil); more = rw (e, more); next = rw (e, more, z, mul-zero); out = rw (e, take-nil); few = omega arith; within = omega arith }
