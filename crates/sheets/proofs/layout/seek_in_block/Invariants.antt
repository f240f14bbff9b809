-- No row of the block passed so far matches.
use Rattle.std.proofs.Common.{◌+◌}
use Rattle.sheets.specs.Layout.{row_of, row_at}
use Rattle.sheets.specs.Rows.{NoneMatches}
use Rattle.sheets.proofs.layout.seek_in_block.Given as goal

abbrev pub invariant-loop-row : goal.invariant-loop-row
invariant-loop-row l = NoneMatches l.item (row_at l.words) (row_of l.place) (row_of l.place + l.row)
