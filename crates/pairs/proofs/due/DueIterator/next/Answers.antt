-- As much is left from the row in hand on as was from the first spot.
use Rattle.std.proofs.Common.{arith}
use Rattle.pairs.specs.Pairs.{due_left}
use Rattle.pairs.proofs.GridTurns.{walked_row, walked-found}
use Rattle.pairs.proofs.RoomTurns.{goes_on}
use Rattle.pairs.proofs.due.DueIterator.next.Goals as goal

pub overflow_add-self : goal.overflow_add-self
overflow_add-self c = omega (arith, c.in-Some.ensures.1, c.loop-self.self.job.facing_few)

pub returns-in-Some-clause-steps : goal.returns-in-Some-clause-steps
returns-in-Some-clause-steps c = walked-found _ _ c.loop-self.invariant c.in-Some.facing c.loop-self-test.true c.in-Some.ensures

pub returns-in-Some-clause-goes : goal.returns-in-Some-clause-goes
returns-in-Some-clause-goes c = goes_on due_left _ _ _ _ (walked-found _ _ c.loop-self.invariant c.in-Some.facing c.loop-self-test.true c.in-Some.ensures).1.0

pub overflow_add-self-in-loop-self : goal.overflow_add-self-in-loop-self
overflow_add-self-in-loop-self c = omega (arith, c.loop-self-test.true, c.loop-self.self.job.own_few)

pub loop-self-preserved : goal.loop-self-preserved
loop-self-preserved c = walked_row _ _ c.loop-self.invariant c.loop-self-test.true c.in_default.ensures
