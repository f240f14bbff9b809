-- What is written, then what is left within the room, is the whole.
use Rattle.std.proofs.Common.{arith}
use Rattle.pairs.proofs.GridTurns.{writing_first, writing_next}
use Rattle.pairs.proofs.walks.Job.write_due.Goals as goal

pub loop-spot-init : goal.loop-spot-init
loop-spot-init c = rw c.into_iter-spot-iterator.ensures.into_iter_gives (writing_first c.args.self.now c.args.from _ _ _ c.requires.0)

pub loop-spot-preserved : goal.loop-spot-preserved
loop-spot-preserved c = writing_next _ _ _ _ _ _ _ _ _ c.loop-spot.invariant _ _ c.in-Some.ensures.steps _ (omega (arith, c.loop-spot.invariant.gives.in_room, c.if-count-room.false)) (rw (← c.item-x.ensures, ← c.item-y.ensures) c.put_told.ensures)
