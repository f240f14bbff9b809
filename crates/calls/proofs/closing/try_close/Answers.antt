-- The verdict settles it.
use Rattle.rules.specs.Calls.{effect}
use Rattle.rules.specs.World.{shut}
use Rattle.rules.specs.Refusals.{own_checks}
use Rattle.checks.proofs.Passing.{call_refused, call_done}
use Rattle.calls.proofs.closing.try_close.Goals as goal

pub returns-in_err-check_close : goal.returns-in_err-check_close
unfolding own_checks
returns-in_err-check_close c = λ o. call_refused _ _ _ c.check_close.ensures _ c.in_err-check_close.was _ c.from_residual.ensures.1

pub returns : goal.returns
unfolding own_checks effect shut
returns c = λ o. call_done _ _ _ c.check_close.ensures c.in_ok-check_close.was _ _ o (rw (c.with.ensures, c.of.ensures))
