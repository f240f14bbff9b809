-- The pairs, the rows without partner, then the answer.
use Rattle.replies.specs.Printing.{reply_text, pairs_of, singles_of}
use Rattle.replies.proofs.PrintTurns.{pairs_are, singles_are}
use Rattle.replies.proofs.put_reply.Goals as goal

pub returns-clause-put : goal.returns-clause-put
unfolding reply_text
returns-clause-put g c =
    let law = g.met.T.Text in
    let pairs = pairs_are c.args.out.now (pairs_of c.args.answer) c.requires.pairs in
    let singles = singles_are c.args.out.now (singles_of c.args.answer) c.requires.singles in
    let rows = law.puts_both _ _ _ _ _ c.put_lines.ensures.put c.put_lines-2.ensures.put in
    let all = law.puts_both _ _ _ _ _ rows c.put_answer.ensures.put in
    simp (c.pairs_of.ensures, c.singles_of.ensures, c.as_chunks.ensures.front, c.as_chunks-2.ensures.front, pairs, singles) at all
