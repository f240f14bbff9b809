-- Each return is the case of `task_of` that the tests before it leave.
use Rattle.std.proofs.Common.{arith}
use Rattle.std.proofs.lemmas.Bool.Decides.{nat_tests}
use Rattle.sheets.proofs.Laws.{length-entries}
use Rattle.pairs.specs.Pairs.{table_of}
use Rattle.stage2.proofs.Runs.{task_is}
use Rattle.stage2.proofs.running.find_task.Goals as goal

pub returns-then-last-eq0 : goal.returns-then-last-eq0
returns-then-last-eq0 c = rw (task_is (table_of c.args.job.now) c.args.clock c.args.part _ c.latest_dts-last.ensures, ← c.of-list.ensures.entries) (grind (arith, nat_tests))

pub returns-then-list-ge32 : goal.returns-then-list-ge32
returns-then-list-ge32 c = rw (task_is (table_of c.args.job.now) c.args.clock c.args.part _ c.latest_dts-last.ensures, ← c.of-list.ensures.entries, length-entries) (grind (arith, nat_tests))

pub returns : goal.returns
returns c = rw (task_is (table_of c.args.job.now) c.args.clock c.args.part _ c.latest_dts-last.ensures, ← c.of-list.ensures.entries, length-entries) (grind (arith, nat_tests))
