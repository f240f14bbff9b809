-- The verdict settles it, and `clear` does the flush.
use Rattle.rules.specs.Calls.{effect}
use Rattle.rules.specs.World.{bundle}
use Rattle.rules.specs.Refusals.{own_checks}
use Rattle.checks.proofs.Passing.{good_rows, call_refused, call_done}
use Rattle.stage1.proofs.Flushing.{evicted}
use Rattle.stage1.proofs.evicting.try_evict.Goals as goal

pub returns-in_err-check_portion : goal.returns-in_err-check_portion
unfolding own_checks
returns-in_err-check_portion c = λ o. call_refused _ _ _ c.check_portion.ensures _ c.in_err-check_portion.was _ c.from_residual.ensures.1

pub clear-rows-requires : goal.clear-rows-requires
clear-rows-requires c = good_rows _ _ _ c.check_portion.ensures c.in_ok-check_portion.was

pub returns : goal.returns
unfolding own_checks effect
returns c = λ o. call_done _ _ _ c.check_portion.ensures c.in_ok-check_portion.was _ _ o (evicted _ _ _ _ _ _ _ _ _ (bundle c.args.a.now c.args.b.now c.args.probe.now) o c.clear-rows.ensures)
