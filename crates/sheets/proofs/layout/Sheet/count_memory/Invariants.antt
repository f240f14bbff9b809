-- The count so far is that of the rows passed.
use Rattle.std.proofs.Common.{◌≡◌, ◌≤◌}
use Rattle.sheets.specs.Layout.{row_at}
use Rattle.sheets.specs.Rows.{memory_rows}
use Rattle.sheets.proofs.layout.Sheet.count_memory.Given as goal

abbrev pub invariant-loop-row : goal.invariant-loop-row
invariant-loop-row l = (l.count ≤ l.row) × (l.count ≡ memory_rows (row_at l.self.words.now) l.row)
