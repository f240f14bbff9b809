-- The reply of the line's turn fits the text, begun anew, and is then all that it holds.
use Rattle.std.proofs.Common.{◌≡◌, ◌∙◌, ◌≤◌, ◌++◌, ap, arith}
use Rattle.rules.specs.World.{bundle}
use Rattle.rules.specs.Answers.{written_of}
use Rattle.reading.specs.Reading.{room_most}
use Rattle.replies.specs.Printing.{reply_text}
use Rattle.answering.specs.Answering.{replied, answered}
use Rattle.answering.proofs.Turns.{answer_fits}
use Rattle.answering.proofs.answer_line.Goals as goal

pub put_reply-requires : goal.put_reply-requires
put_reply-requires g c =
    let law = g.met.R.Text in
    let h : written_of c.respond-answer.result ≤ room_most = answer_fits c.args.line.now c.args.state.now (bundle c.args.a.now c.args.b.now c.args.probe.now) c.args.out.now _ c.respond-answer.ensures (omega arith) in
    record { room = omega (arith, law.clears_at _ _ c.clear.ensures, law.clears_most _ _ c.clear.ensures); pairs = omega arith; singles = omega arith }

pub returns : goal.returns
unfolding answered
returns g c =
    let law = g.met.R.Text in
    let text = reply_text c.respond-answer.new.out c.respond-answer.result in
    let begun = law.clears_at _ _ c.clear.ensures in
    let room = law.clears_most _ _ c.clear.ensures in
    let h : written_of c.respond-answer.result ≤ room_most = answer_fits c.args.line.now c.args.state.now (bundle c.args.a.now c.args.b.now c.args.probe.now) c.args.out.now _ c.respond-answer.ensures (omega arith) in
    let held : g.R.Text.held c.put_reply.new.text ≡ text =
    law.puts_held _ _ text (omega (arith, begun, room, law.puts_at _ _ _ c.put_reply.ensures.put)) c.put_reply.ensures.put ∙ ap (λ l. l ++ text) (law.clears_held _ _ c.clear.ensures) in record {
      says = rw held (ap replied c.respond-answer.ensures);
      reply = record { begun = c.clear.new.self; clears = c.clear.ensures; puts = rw held c.put_reply.ensures.put };
      fits = omega (arith, begun);
    }
