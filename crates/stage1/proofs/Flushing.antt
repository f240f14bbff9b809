-- A flush, and what an eviction leaves.
-- Assumes nothing.
use Rattle.std.specs.Prelude.{◌≡◌, List, ℕ, ◌+◌}
use Rattle.std.proofs.Common.{ap, ◌∙◌}
use Rattle.stamps.specs.declared.Source.{Source}
use Rattle.sheets.specs.Rows.{Flushes}
use Rattle.rules.specs.Calls.{after, evicts}
use Rattle.rules.specs.World.{World, world, sheet_of, count_of, with_clock, with_sheet, flush, Sheets, with_rows}
use Rattle.rules.specs.declared.Answer.TheVariants.{Flushed}
use Rattle.rules.specs.declared.Session.{Session}
use Rattle.stage1.specs.Work.{Clears}

pub flush_is : (s : Source) (q : ℕ) (w : World) (n : ℕ) (l : List ℕ) → Flushes w.session.parts q w.session.clock (count_of w s) (sheet_of w s) n l
    → world (with_clock (w.session.clock + n) w.session) (with_sheet s l w.sheets) ≡ flush s q w
unfolding flush
flush_is s q w n l h = rw (h.count, h.sheet)

pub evicted : (s : Source) (q : ℕ) (t : Session) (a b : List ℕ) (t' : Session) (n : ℕ) (a' b' : List ℕ) (x : Sheets) (o : List ℕ) → Clears s q t a b t' n a' b'
    → after (Flushed n) (world t' (with_rows a' b' x)) o ≡ evicts s q (world t (with_rows a b x)) o
unfolding evicts
evicted s q t a b t' n a' b' x o h = ap (λ (w : World). after (Flushed n) w o) (h.worlds x) ∙ ap (λ (k : ℕ). after (Flushed k) (flush s q (world t (with_rows a b x))) o) h.count
