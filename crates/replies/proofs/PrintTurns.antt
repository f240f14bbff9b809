-- The rows of an output, as numbers, are the pairs or the rows without partner that it holds.
-- Assumes nothing.
use Rattle.std.proofs.Common.{◌≡◌, refl, List, map, ℕ, zero, suc, ◌+◌, ◌*◌, ◌/◌, ◌≤◌, length, take, drop, drop-drop, arith}
use Rattle.std.specs.Simd.{first_chunks}
use Rattle.text.proofs.PutTurns.{row_fits}
use Rattle.sheets.proofs.LayoutLaws.{pair_read, single-read}
use Rattle.sheets.specs.Layout.{pairs_need, pair_at, pair_words, singles_need, single_at, single_words}
use Rattle.pairs.specs.Rooms.{read_all}

-- ---- the rows of an output are what it holds

module _ {Y : Type 0} (width : ℕ) (at : List ℕ → ℕ → Y) (numbers : Y → List ℕ) (o : List ℕ) (is : (w : ℕ) → width * w + width ≤ length o → take width (drop (width * w) o) ≡ numbers (at o w)) where
  rows_are : (w n k : ℕ) → n ≤ k → width * (w + n) ≤ length o → take n (first_chunks width k (drop (width * w) o)) ≡ map numbers (read_all at o w n)
  rows_are w zero k b h = refl
  rows_are w (suc n) zero b h = absurd (omega arith)
  rows_are w (suc n) (suc k) b h = let f : width * w + width ≤ length o = omega (arith, row_fits width w (w + suc n) (omega arith)) in
      let j : width * (suc w + n) ≤ length o = omega arith in let q : width * w + width ≡ width * suc w = omega arith in
      rw (is w f, drop-drop, q, rows_are (suc w) n k (omega arith) j)

pub pairs_are : (o : List ℕ) (n : ℕ) → pairs_need n ≤ length o → take n (first_chunks 3 (length o / 3) o) ≡ map pair_words (read_all pair_at o 0 n)
pairs_are o n h = rows_are 3 pair_at pair_words o (λ w b. pair_read o w (omega arith)) 0 n (length o / 3) (omega arith) (omega arith)

pub singles_are : (o : List ℕ) (n : ℕ) → singles_need n ≤ length o → take n (first_chunks 2 (length o / 2) o) ≡ map single_words (read_all single_at o 0 n)
singles_are o n h = rows_are 2 single_at single_words o (λ w b. single-read o w (omega arith)) 0 n (length o / 2) (omega arith) (omega arith)
