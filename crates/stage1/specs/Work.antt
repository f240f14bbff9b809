-- What the workers of flushes and arrivals promise each other, whatever the sheets that they are not lent hold.
use Rattle.std.specs.Prelude.{◌≡◌, cond, Option, Some, None, List, ℕ, length}
use Rattle.stamps.specs.declared.Source.{Source}
use Rattle.stamps.specs.declared.Row.{Row}
use Rattle.sheets.specs.Layout.{row_at}
use Rattle.sheets.specs.Rows.{flushed, hot_rows}
use Rattle.sheets.specs.declared.rows.Victim.{Victim}
use Rattle.rules.specs.World.{Sheets, world, pick, same, with_rows, flush}
use Rattle.rules.specs.declared.Session.{Session}

-- a portion flushed: the record, the rows flushed, and the sheets
pub record Clears (s : Source) (q : ℕ) (t : Session) (a b : List ℕ) (t' : Session) (n : ℕ) (a' b' : List ℕ) : Type 0 where
  pub worlds : (x : Sheets) → world t' (with_rows a' b' x) ≡ flush s q (world t (with_rows a b x))
  pub count : n ≡ length (hot_rows t.parts q (row_at (pick s a b)) (pick s t.feeds.a t.feeds.b).rows)

-- the rows of source s once there is room
abbrev pub rows_after : Option Victim → Source → ℕ → ℕ → (ℕ → Row) → ℕ → Row
rows_after None s parts clock f = f
rows_after (Some v) s parts clock f = cond (same v.source s) (flushed parts v.part clock f) f
