-- What number 1 has seen to.
-- Assumes nothing.
use Rattle.std.specs.Prelude.{◌≡◌, true, List, ℕ, zero, suc, ◌*◌, ◌≤◌, ◌<◌, leb, get_or}
use Rattle.std.proofs.lemmas.Bool.{and_parts}
use Rattle.std.proofs.Common.{arith}
use Rattle.stamps.proofs.CountingLaws.{tests, one_more, Each, each}
use Rattle.sheets.specs.Layout.{rows_need, probe_need}
use Rattle.rules.specs.Refusals.{between, size_tests, sizes_fit, number_tests, numbers_fit, counts_fit, session_fits}
use Rattle.rules.specs.World.{lengths, World, Lengths}

-- ---- number 1, taken apart

-- P, M and N in range, and sheets that are long enough
pub record Sizes (p m n : ℕ) (k : Lengths) : Type 0 where
  pub parts : (1 ≤ p) × (p ≤ 16)
  pub slots : (1 ≤ m) × (m ≤ 1024)
  pub limit : (1 ≤ n) × (n ≤ 4096)
  pub a_long : rows_need n ≤ k.a
  pub b_long : rows_need n ≤ k.b
  pub probe_long : probe_need p ≤ k.probe

-- with these, a record whose numbers and counts are in range
pub record Fits (w : World) : Type 0 where
  pub sizes : Sizes w.session.parts w.session.slots w.session.limit (lengths w.sheets)
  pub a_few : w.session.feeds.a.rows ≤ w.session.limit
  pub b_few : w.session.feeds.b.rows ≤ w.session.limit
  pub clock : w.session.clock ≤ 16384
  pub next : w.session.next ≤ w.session.feeds.a.rows * w.session.feeds.b.rows
  pub a_lone : w.session.lone.a ≤ w.session.feeds.a.rows
  pub b_lone : w.session.lone.b ≤ w.session.feeds.b.rows
  pub short : (i : ℕ) → i < 2 * w.session.parts → get_or w.session.counts i 0 ≤ 32

between_is : (low high n : ℕ) → between low high n ≡ true → (low ≤ n) × (n ≤ high)
between_is low high n h = let p = and_parts (leb low n) (leb n high) h in omega (arith, tests, p)

pub sizes_are : (p m n : ℕ) (k : Lengths) → sizes_fit p m n k ≡ true → Sizes p m n k
sizes_are p m n k h = let t : Each (size_tests p m n k) = each (size_tests p m n k) h in
    record {
      parts = between_is 1 16 p t.0;
      slots = between_is 1 1024 m t.1.0;
      limit = between_is 1 4096 n t.1.1.0;
      a_long = omega (arith, tests);
      b_long = omega (arith, tests);
      probe_long = omega (arith, tests);
    }

counts_are : (counts : List ℕ) (n : ℕ) → counts_fit counts n ≡ true → (k : ℕ) → k < n → get_or counts k 0 ≤ 32
counts_are counts zero h k b = absurd (omega arith)
counts_are counts (suc n) h k b = let p = and_parts (counts_fit counts n) (leb (get_or counts n 0) 32) h in
    one_more (λ k. get_or counts k 0 ≤ 32) n (counts_are counts n p.0) (omega (arith, tests, p.1)) k b

pub fits_are : (w : World) → session_fits w ≡ true → Fits w
unfolding session_fits
fits_are w h =
    let t = w.session in
    let p = and_parts (sizes_fit t.parts t.slots t.limit (lengths w.sheets)) _ h in
    let q = and_parts (numbers_fit t) (counts_fit t.counts (2 * t.parts)) p.1 in
    let e : Each (number_tests t) = each (number_tests t) q.0 in
    record {
      sizes = sizes_are _ _ _ _ p.0;
      a_few = omega (arith, tests);
      b_few = omega (arith, tests);
      clock = omega (arith, tests);
      next = omega (arith, tests);
      a_lone = omega (arith, tests);
      b_lone = omega (arith, tests);
      short = counts_are t.counts (2 * t.parts) q.1;
    }
