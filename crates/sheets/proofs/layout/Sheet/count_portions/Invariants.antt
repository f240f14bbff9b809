-- The sizes so far are those of the rows passed.
use Rattle.std.proofs.Common.{◌≡◌}
use Rattle.stamps.specs.Counting.{values}
use Rattle.sheets.specs.Layout.{row_at}
use Rattle.sheets.specs.Rows.{portion_rows}
use Rattle.sheets.proofs.layout.Sheet.count_portions.Given as goal

abbrev pub invariant-loop-row : goal.invariant-loop-row
invariant-loop-row l = l.sizes ≡ values (λ q. portion_rows l.parts.count q (row_at l.self.words.now) l.row) 16
