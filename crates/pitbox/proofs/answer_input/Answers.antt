-- Each turn adds its bytes, and the last one meets the end of the input.
use Rattle.std.proofs.Common.{[], ◌++◌, refl, take, arith}
use Rattle.std.proofs.KnownBytes.{Consumes-nil, Consumes-trans}
use Rattle.answering.specs.Answering.{silent, unstarted}
use Rattle.pitbox.specs.Session.{sheets_of}
use Rattle.pitbox.proofs.Underway.{way_first, way_more, input_ends}
use Rattle.pitbox.proofs.answer_input.Goals as goal

pub loop-init : goal.loop-init
loop-init g c = record { bytes = []; taken = Consumes-nil _; way = way_first _ _ _ refl c.new.ensures }

pub returns-then-n-eq0 : goal.returns-then-n-eq0
returns-then-n-eq0 g c = λ _.
    let i = c.loop.invariant in
    let read = c.in_ok-n.ensures.bytes in
    input_ends _ i.bytes _ _ _ _ _ _ i.taken (rw c.if-n-eq0.true at read.0) (read.1 c.if-n-eq0.true (omega arith)) i.way c.in_ok-answer_rest.ensures

pub loop-preserved : goal.loop-preserved
loop-preserved g c =
    let i = c.loop.invariant in
    let whole = silent unstarted (sheets_of c.args.storage.now) c.args.storage.now.out in
    let piece = take c.in_ok-n.n c.read.new.buf in
    record { bytes = i.bytes ++ piece; taken = Consumes-trans _ _ _ _ _ i.taken c.in_ok-n.ensures.bytes.0; way = way_more whole i.bytes piece i.way c.in_ok-feed.ensures }
