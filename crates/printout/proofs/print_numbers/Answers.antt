-- A piece more is written.
use Rattle.std.proofs.Common.{◌∙◌}
use Rattle.printout.proofs.Texts.{going_piece}
use Rattle.printout.proofs.print_numbers.Goals as goal

pub loop-piece-preserved : goal.loop-piece-preserved
loop-piece-preserved g c = (c.in-Some.ensures.steps.0 ∙ c.loop-piece.invariant.0, going_piece _ _ _ _ _ _ _ c.loop-piece.invariant.1 c.in-Some.ensures.steps.1.0 c.in_ok-print_piece.ensures)
