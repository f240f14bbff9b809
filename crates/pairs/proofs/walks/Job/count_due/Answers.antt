-- The walk from the first spot on gives all of them.
use Rattle.std.proofs.Common.{arith, ap, ◌∙◌, inl, length}
use Rattle.std.proofs.lemmas.Iterator.Consumers.{count_from_yields_List}
use Rattle.pairs.specs.Pairs.{table_of}
use Rattle.pairs.proofs.GridTurns.{due-walk, due_few, left-every}
use Rattle.pairs.proofs.walks.Job.count_due.Goals as goal

pub count-requires-clause-fits : goal.count-requires-clause-fits
count-requires-clause-fits c = inl (omega (arith, due_few c.all.result))

pub returns : goal.returns
returns c = count_from_yields_List c.all.result _ c.count.ensures.ran (due-walk c.all.result) ∙ rw c.all.ensures (ap length (left-every c.args.self.now.scope (table_of c.args.self.now)))
