-- The checks before the pairs, then the room, settle it.
use Rattle.std.proofs.Common.{arith, ap, ◌∙◌}
use Rattle.rules.specs.Calls.{joins}
use Rattle.rules.specs.World.{World, bundle}
use Rattle.checks.proofs.Passing.{row_space}
use Rattle.stage1.proofs.Arrivals.{pairs_counted, room-rows, room-space, arrive_denied, arrive_short, arrive_taken}
use Rattle.stage1.proofs.arriving.try_arrive.Goals as goal

pub returns-in_err-item : goal.returns-in_err-item
returns-in_err-item c = arrive_denied _ _ _ _ _ c.admit.ensures _ c.in_err-item.was _ c.from_residual.ensures.1

pub invariant_of-rows : goal.invariant_of-rows
invariant_of-rows c = record { rows = (row_space _ _ _ _ c.admit.ensures _ c.in_ok-item.was).rows }

pub returns-then-room_in-count : goal.returns-then-room_in-count
returns-then-room_in-count c = arrive_short _ _ _ _ _ c.admit.ensures _ c.in_ok-item.was _ c.find_room-victim.ensures _ c.count_pairs-count.ensures (rw (← c.room_in.ensures) c.if-room_in-count.true)

pub take_row-requires : goal.take_row-requires
take_row-requires c = let x = bundle c.args.a.now c.args.b.now c.args.probe.now in
    let k = row_space _ _ _ _ c.admit.ensures _ c.in_ok-item.was in
    record {
      rows = room-rows _ _ _ _ _ _ _ _ k c.make_room-cleared.ensures;
      space = room-space _ _ _ _ _ _ _ _ k c.make_room-cleared.ensures;
      count = pairs_counted _ _ _ _ _ (c.make_room-cleared.ensures x) c.count_pairs-count.ensures;
      room = omega (arith, c.room_in.ensures, c.if-room_in-count.false);
    }

pub returns : goal.returns
returns c = let x = bundle c.args.a.now c.args.b.now c.args.probe.now in
    arrive_taken _ _ _ _ _ c.admit.ensures _ c.in_ok-item.was _ c.find_room-victim.ensures _ c.count_pairs-count.ensures _ _ _ _ (rw (← c.room_in.ensures) c.if-room_in-count.false)
    (c.take_row.ensures ∙ ap (λ (w : World). joins c.args.source c.in_ok-item.item w c.args.out.now) (c.make_room-cleared.ensures x))
