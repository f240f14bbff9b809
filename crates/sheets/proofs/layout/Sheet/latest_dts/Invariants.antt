-- The largest DTS so far is that of the rows passed.
use Rattle.std.proofs.Common.{◌≡◌}
use Rattle.sheets.specs.Layout.{row_at}
use Rattle.sheets.specs.Rows.{latest}
use Rattle.sheets.proofs.layout.Sheet.latest_dts.Given as goal

abbrev pub invariant-loop-row : goal.invariant-loop-row
invariant-loop-row l = l.last ≡ latest l.parts.count l.part (row_at l.self.words.now) l.row
