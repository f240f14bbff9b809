-- What the line's text holds, once bytes are put, is what a look at the input gathers.
use Rattle.text.proofs.Laws.{gather_fits, text_fits}
use Rattle.lines.proofs.serving.serve.Goals as goal

pub returns-in_default-clause-line : goal.returns-in_default-clause-line
returns-in_default-clause-line g c = let law = g.met.L.Text in
    rw (gather_fits, c.in_default.ensures.rest) (text_fits _ _ _ _ (law.held_room _) (λ b. law.puts_held _ _ _ b c.take_line.ensures.line))

pub returns-clause-says : goal.returns-clause-says
returns-clause-says g c = let law = g.met.L.Text in
    let held = text_fits _ _ _ _ (law.held_room _) (λ b. law.puts_held _ _ _ b c.take_line.ensures.line) in
    rw (gather_fits, c.in-Some.ensures.rest, ← held, ← c.held.ensures) c.answer_line.ensures.says
