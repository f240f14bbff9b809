-- The sizes that `first_largest` compares are the portions'.
use Rattle.std.proofs.Common.{◌∙◌}
use Rattle.sheets.proofs.RowTurns.{largest_is}
use Rattle.sheets.proofs.layout.Sheet.largest_part.Goals as goal

pub returns : goal.returns
returns c = c.first_largest.ensures ∙ largest_is _ _ _ c.requires c.count_portions-sizes.ensures
