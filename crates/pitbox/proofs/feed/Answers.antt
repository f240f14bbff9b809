-- Each look at the piece gets the session on.
use Rattle.std.proofs.lemmas.Result.{on_ok_weaker}
use Rattle.text.proofs.Laws.{gather_less}
use Rattle.pitbox.proofs.Underway.{none_gathered, gathered_written, serves_on, serves_end}
use Rattle.pitbox.proofs.feed.Goals as goal

pub loop-behind-init : goal.loop-behind-init
loop-behind-init g c = λ all begun k u. none_gathered _ c.new-text.ensures u

pub loop-behind-smaller : goal.loop-behind-smaller
loop-behind-smaller g c = gather_less _ _ _ c.in-Some.ensures.rest

pub loop-behind-preserved : goal.loop-behind-preserved
loop-behind-preserved g c = λ all begun k u.
    let e = c.in-Some.ensures in
    serves_on k _ _ _ _ _ _ _ _ _ (rw e.rest) (c.loop-behind.invariant all begun k u) e.says e.line (rw c.deref.ensures.0 at c.in_ok-add_reply.ensures.ok)

pub returns : goal.returns
returns g c = λ all begun k u.
    let e = c.in_default.ensures in
    on_ok_weaker c.write_all.result
    (gathered_written k _ _ _ (serves_end k _ _ _ _ _ _ _ e.rest (c.loop-behind.invariant all begun k u) e.says e.line))
    (rw c.deref-2.ensures.0 at c.write_all.ensures.bytes)
