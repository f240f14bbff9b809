-- The checks, then what is to be done: the pairs are counted, then written, and the entry added; or they do not fit.
use Rattle.std.specs.Prelude.{refl}
use Rattle.std.proofs.Common.{sym, ap, ◌∙◌}
use Rattle.pairs.specs.Pairs.{Table}
use Rattle.rules.specs.Refusals.{own_checks, portion_checks}
use Rattle.rules.specs.World.{bundle, given}
use Rattle.rules.specs.declared.Call.TheVariants.{Run}
use Rattle.checks.proofs.Passing.{portion_fits, first_refused}
use Rattle.stage2.proofs.Runs.{job-idle, job_crowded, job_short, job-done, upto_listed}
use Rattle.stage2.proofs.running.try_run.Goals as goal

pub returns-in_err-check_portion : goal.returns-in_err-check_portion
unfolding own_checks
returns-in_err-check_portion c = first_refused _ (given (Run c.args.source c.args.part) c.args.out.now) (portion_checks c.args.session c.args.part) _ refl _
    (sym c.check_portion.ensures ∙ c.in_err-check_portion.was) c.from_residual.result c.from_residual.ensures.1

pub find_task-requires : goal.find_task-requires
find_task-requires c = rw (ap (λ (t : Table). t.parts) c.job-job.ensures.table) (portion_fits _ c.args.part c.check_portion.result c.check_portion.ensures c.in_ok-check_portion.was).2

pub returns-in_err-last : goal.returns-in_err-last
returns-in_err-last c = job_crowded c.check_portion.ensures c.in_ok-check_portion.was c.job-job.ensures c.find_task.ensures c.args.out.now _ c.in_err-last.was c.from_residual-in_err-last.result c.from_residual-in_err-last.ensures.1

pub returns-in_default : goal.returns-in_default
returns-in_default c = job-idle c.check_portion.ensures c.in_ok-check_portion.was c.job-job.ensures c.find_task.ensures c.args.out.now (rw c.in_default.is at c.in_ok-last.was)

pub returns-then-room_in-pairs : goal.returns-then-room_in-pairs
returns-then-room_in-pairs c = job_short c.check_portion.ensures c.in_ok-check_portion.was c.job-job.ensures c.find_task.ensures c.args.out.now c.in-Some.last (rw c.in-Some.is at c.in_ok-last.was) c.count_due-pairs.ensures (rw (← c.room_in.ensures) c.if-room_in-pairs.true)

pub add_entry-requires : goal.add_entry-requires
add_entry-requires c = upto_listed c.check_portion.ensures c.in_ok-check_portion.was c.job-job.ensures c.find_task.ensures c.args.out.now c.in-Some.last (rw c.in-Some.is at c.in_ok-last.was)

pub returns : goal.returns
returns c = job-done c.check_portion.ensures c.in_ok-check_portion.was c.job-job.ensures c.find_task.ensures c.args.out.now c.in-Some.last (rw c.in-Some.is at c.in_ok-last.was) c.count_due-pairs.ensures _ _ c.write_from.result (rw (← c.room_in.ensures) c.if-room_in-pairs.false) c.write_from.ensures
    (c.add_entry.ensures (bundle c.args.a.now c.args.b.now c.args.probe.now))
