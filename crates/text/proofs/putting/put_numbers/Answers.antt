-- A space and the next number are put behind those before them.
use Rattle.std.proofs.Common.{◌∙◌, arith}
use Rattle.text.proofs.PutTurns.{numbers_left}
use Rattle.text.proofs.putting.put_numbers.Goals as goal

pub loop-n-preserved : goal.loop-n-preserved
loop-n-preserved g c = let law = g.met.T.Text in record {
  fits = omega (arith, law.puts_at _ _ _ c.put_byte.ensures);
  most = law.puts_most _ _ _ c.put_number.ensures.put ∙ law.puts_most _ _ _ c.put_byte.ensures ∙ c.loop-n.invariant.most;
  put = λ t p. c.loop-n.invariant.put t (rw (numbers_left _ _ c.loop-n-test.true)
      (law.puts_both _ _ _ _ _ c.put_byte.ensures (law.puts_both _ _ _ _ _ c.put_number.ensures.put p)));
}
