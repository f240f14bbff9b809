-- A byte is put, if there is room for it, behind those before it.
use Rattle.std.proofs.Common.{◌≡◌, ◌∙◌, sym, ℕ, ◌-◌, length-take, arith}
use Rattle.text.proofs.GatherTurns.{fitting_byte, behind_byte}
use Rattle.text.proofs.gathering.take_line.Goals as goal

pub loop-at-preserved : goal.loop-at-preserved
loop-at-preserved g c = let law = g.met.T.Text in let text = g.T.Text in
    let room = text.most c.loop-at.line - text.at c.loop-at.line in
    let left : text.most c.keep.new.line - text.at c.keep.new.line ≡ room - 1 =
    omega (arith, law.puts_at _ _ _ c.keep.ensures, law.puts_most _ _ _ c.keep.ensures, length-take {A = ℕ}) in record {
      line = λ t p. c.loop-at.invariant.line t (rw (fitting_byte room _ _ _ c.loop-at-test.true c.if-byte-eq10.false left)
          (law.puts_both _ _ _ _ _ c.keep.ensures p));
      rest = sym (behind_byte _ _ c.loop-at-test.true c.if-byte-eq10.false) ∙ c.loop-at.invariant.rest;
    }
