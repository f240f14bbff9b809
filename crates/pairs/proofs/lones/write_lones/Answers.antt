-- What is written, then what is ahead within the room, is the whole.
use Rattle.std.proofs.Common.{arith}
use Rattle.pairs.proofs.LoneTurns.{listing_first, listing_next}
use Rattle.pairs.proofs.lones.write_lones.Goals as goal

pub loop-row-init : goal.loop-row-init
loop-row-init c = rw c.into_iter-row-iterator.ensures.into_iter_gives (listing_first _ _ _ c.requires.1)

pub loop-row-preserved : goal.loop-row-preserved
loop-row-preserved c = listing_next _ _ _ _ _ _ _ _ _ c.loop-row.invariant _ _ c.in-Some.ensures.steps _ (omega (arith, c.loop-row.invariant.gives.in_room, c.if-count-room.false)) (rw (← c.item.ensures) c.put_single.ensures)
