-- What is written, then what is left within the room, is the whole.
use Rattle.pairs.specs.Pairs.{table_of, left_from}
use Rattle.pairs.proofs.GridTurns.{Writing}
use Rattle.pairs.proofs.walks.Job.write_due.Given as goal

abbrev pub invariant-loop-spot : goal.invariant-loop-spot
invariant-loop-spot l = Writing l.self (left_from l.self.scope (table_of l.self) l.fn.from.row l.fn.from.facing) l.position l.room l.initial.out l.out l.count l.next l.spot-iterator
