-- The checks settle it, or what the walk over the source's rows wrote, from its position on.
use Rattle.std.specs.Prelude.{◌≡◌, cond}
use Rattle.std.proofs.Common.{arith}
use Rattle.rules.specs.Calls.{effect}
use Rattle.rules.specs.Refusals.{own_checks}
use Rattle.rules.specs.World.{bundle, given}
use Rattle.rules.specs.declared.Call.TheVariants.{Lone}
use Rattle.rules.specs.declared.Answer.TheVariants.{MoreLone, DoneLone}
use Rattle.checks.proofs.Passing.{good_fits, call_refused, call_done}
use Rattle.stage3.proofs.Singles.{place-fits, listed}
use Rattle.stage3.proofs.listing.try_lone.Goals as goal
use Rattle.stage3.proofs.listing.try_lone.Goals.{then-written, else-written}

pub returns-in_err-check_drain : goal.returns-in_err-check_drain
unfolding own_checks
returns-in_err-check_drain c = call_refused _ (given (Lone c.args.source) c.args.out.now) c.check_drain.result (rw c.room_in-room.ensures at c.check_drain.ensures) _ c.in_err-check_drain.was c.from_residual.result c.from_residual.ensures.1

pub write_lones-written-requires : goal.write_lones-written-requires
write_lones-written-requires c = (c.sheet-own.ensures.few, rw (c.of-position.ensures, c.sheet-own.ensures.rows) (place-fits c.args.source _ (good_fits _ _ c.check_drain.result c.check_drain.ensures c.in_ok-check_drain.was)), omega arith)

pub returns : goal.returns
unfolding own_checks effect
returns c =
    let r = c.write_lones-written.result in
    let said : c.if-written.answer ≡ cond r.more MoreLone DoneLone r.count =
    elim c.if-written.branch [ then-written w ↦ rw (w.answer-is, w.if-written.true) | else-written w ↦ rw (w.answer-is, w.if-written.false) ] in
    call_done _ (given (Lone c.args.source) c.args.out.now) c.check_drain.result (rw c.room_in-room.ensures at c.check_drain.ensures) c.in_ok-check_drain.was _ (bundle c.args.a.now c.args.b.now c.args.probe.now) _
    (rw (said, c.with-lone.ensures) (listed c.args.source _ c.args.out.now _ _ r c.room_in-room.ensures (rw (← c.other_source-other.ensures) (rw (c.sheet-own.ensures.words, c.sheet-own.ensures.rows, c.sheet-facing.ensures.words, c.sheet-facing.ensures.rows, c.of-position.ensures) at c.write_lones-written.ensures))))
