-- What a flush leaves: the record but for its clock, the other source, and of its own the rows but for their DTS. For all that does not open `flush`.
-- By the laws of the sheets. Assumes nothing.
use Rattle.std.specs.Prelude.{◌≡◌, refl, ℕ, ◌+◌, ◌≤◌, ◌<◌, length}
use Rattle.std.proofs.Common.{ap, ◌∙◌, lt-ltb}
use Rattle.stamps.specs.Counting.{up_to}
use Rattle.stamps.proofs.CountingLaws.{tally_le, length-kept}
use Rattle.stamps.specs.Sources.{other}
use Rattle.stamps.specs.declared.Source.{Source}
use Rattle.stamps.specs.declared.Source.TheVariants.{A, B}
use Rattle.stamps.specs.declared.Row.{Row}
use Rattle.sheets.specs.Layout.{rows_need}
use Rattle.sheets.specs.Rows.{hot, portion_rows, leave, flushed}
use Rattle.sheets.proofs.Laws.{rows-leave, length-leave}
use Rattle.rules.specs.World.{World, count_of, sheet_of, rows_of, with_clock, leaving, flush}

-- as many rows as the portion has in memory
pub leaving-count : (w : World) (s : Source) (q : ℕ) → length (leaving w s q) ≡ portion_rows w.session.parts q (rows_of w s) (count_of w s)
leaving-count w s q = length-kept (λ i. hot w.session.parts q (rows_of w s i)) (count_of w s)

pub leaving_few : (w : World) (s : Source) (q : ℕ) → length (leaving w s q) ≤ count_of w s
leaving_few w s q = rw (leaving-count w s q) (tally_le (λ i. hot w.session.parts q (rows_of w s i)) (count_of w s))

module _ (s : Source) (q : ℕ) (w : World) where
  pub flush_session : (flush s q w).session ≡ with_clock (w.session.clock + length (leaving w s q)) w.session
  unfolding flush
  flush_session = refl

  -- its own sheet
  flush_sheet : sheet_of (flush s q w) s ≡ leave w.session.clock (leaving w s q) (sheet_of w s)
  unfolding flush
  flush_sheet = go s
    where
      go : (s : Source) → sheet_of (flush s q w) s ≡ leave w.session.clock (leaving w s q) (sheet_of w s)
      go A = refl
      go B = refl

  -- and the other's
  pub flush_facing : sheet_of (flush s q w) (other s) ≡ sheet_of w (other s)
  unfolding flush
  flush_facing = go s
    where
      go : (s : Source) → sheet_of (flush s q w) (other s) ≡ sheet_of w (other s)
      go A = refl
      go B = refl

  pub flush_long : length (sheet_of (flush s q w) s) ≡ length (sheet_of w s)
  flush_long = ap length flush_sheet ∙ length-leave w.session.clock (leaving w s q) (sheet_of w s)

  pub flush-rows : rows_need (count_of w s) ≤ length (sheet_of w s)
      → rows_of (flush s q w) s ≡ up_to (count_of w s) (flushed w.session.parts q w.session.clock (rows_of w s)) (rows_of w s)
  flush-rows h = rw flush_sheet (rows-leave w.session.parts q w.session.clock (sheet_of w s) (count_of w s) h)

  pub flush-row : rows_need (count_of w s) ≤ length (sheet_of w s) → (j : ℕ) → j < count_of w s
      → rows_of (flush s q w) s j ≡ flushed w.session.parts q w.session.clock (rows_of w s) j
  flush-row h j b = ap (λ (g : ℕ → Row). g j) (flush-rows h) ∙ rw (lt-ltb j (count_of w s) b)

-- of both sources
pub flush-length : (s : Source) (q : ℕ) (w : World) (u : Source) → length (sheet_of (flush s q w) u) ≡ length (sheet_of w u)
flush-length A q w A = flush_long A q w
flush-length A q w B = ap length (flush_facing A q w)
flush-length B q w A = ap length (flush_facing B q w)
flush-length B q w B = flush_long B q w
