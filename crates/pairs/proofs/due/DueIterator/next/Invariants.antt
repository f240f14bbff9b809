-- As much is left from the row in hand on as was from the first spot.
use Rattle.std.proofs.Common.{◌-◌}
use Rattle.pairs.proofs.GridTurns.{Walked}
use Rattle.pairs.proofs.due.DueIterator.next.Given as goal

abbrev pub invariant-loop-self : goal.invariant-loop-self
invariant-loop-self l = Walked l.initial.self l.self

abbrev pub decreases-loop-self : goal.decreases-loop-self
decreases-loop-self l = l.self.job.own.rows - l.self.from.row
