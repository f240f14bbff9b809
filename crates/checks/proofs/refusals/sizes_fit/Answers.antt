-- A sheet of B that is too short fails the last test but one.
use Rattle.std.proofs.Common.{arith}
use Rattle.std.proofs.lemmas.Grind.{common_steps}
use Rattle.checks.proofs.refusals.sizes_fit.Goals as goal

pub returns-else-rows-b : goal.returns-else-rows-b
returns-else-rows-b c = grind (arith, common_steps)
