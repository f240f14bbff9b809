-- The checks settle it, or what the walk over the whole grid wrote, from the position on.
use Rattle.std.specs.Prelude.{◌≡◌, cond, ◌*◌}
use Rattle.std.proofs.Common.{ap, arith}
use Rattle.pairs.specs.Pairs.{Table}
use Rattle.rules.specs.Calls.{effect}
use Rattle.rules.specs.Refusals.{own_checks}
use Rattle.rules.specs.World.{bundle, given}
use Rattle.rules.specs.declared.Call.TheVariants.{Drain}
use Rattle.rules.specs.declared.Answer.TheVariants.{More, Done}
use Rattle.checks.proofs.Passing.{good_fits, call_refused, call_done}
use Rattle.stage3.proofs.Owed.{job_drained}
use Rattle.stage3.proofs.draining.try_drain.Goals as goal
use Rattle.stage3.proofs.draining.try_drain.Goals.{then-written, else-written}

pub returns-in_err-check_drain : goal.returns-in_err-check_drain
unfolding own_checks
returns-in_err-check_drain c = call_refused _ (given Drain c.args.out.now) c.check_drain.result (rw c.room_in-room.ensures at c.check_drain.ensures) _ c.in_err-check_drain.was c.from_residual.result c.from_residual.ensures.1

pub write_from-written-requires : goal.write_from-written-requires
write_from-written-requires c = (rw (ap (λ (t : Table). t.a.count * t.b.count) c.job-job.ensures.table) (good_fits _ _ c.check_drain.result c.check_drain.ensures c.in_ok-check_drain.was).next, omega arith)

pub returns : goal.returns
unfolding own_checks effect
returns c =
    let r = c.write_from-written.result in
    let said : c.if-written.answer ≡ cond r.more More Done r.count =
    elim c.if-written.branch [ then-written w ↦ rw (w.answer-is, w.if-written.true) | else-written w ↦ rw (w.answer-is, w.if-written.false) ] in
    call_done _ (given Drain c.args.out.now) c.check_drain.result (rw c.room_in-room.ensures at c.check_drain.ensures) c.in_ok-check_drain.was _ (bundle c.args.a.now c.args.b.now c.args.probe.now) _
    (rw said (job_drained _ c.job-job.result c.job-job.ensures c.args.out.now _ _ r c.room_in-room.ensures c.write_from-written.ensures))
