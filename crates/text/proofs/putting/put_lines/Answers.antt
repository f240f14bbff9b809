-- The next line is put behind those before it.
use Rattle.std.proofs.Common.{◌∙◌, length, arith}
use Rattle.std.proofs.lemmas.List.{drop_more}
use Rattle.text.proofs.PutTurns.{row_fits}
use Rattle.text.specs.Putting.{line_need}
use Rattle.text.proofs.putting.put_lines.Goals as goal

pub put_row-requires : goal.put_row-requires
put_row-requires g c = omega (arith, row_fits (line_need (length c.args.word.now) g.row.WIDTH) _ _ c.loop-row-test.true)

pub loop-row-preserved : goal.loop-row-preserved
loop-row-preserved g c = let law = g.met.T.Text in record {
  fits = omega arith;
  most = law.puts_most _ _ _ c.put_row.ensures.put ∙ c.loop-row.invariant.most;
  put = λ t p. c.loop-row.invariant.put t (rw (drop_more _ _ c.row-item.result c.loop-row-test.true, ← c.row-item.is)
      (law.puts_both _ _ _ _ _ c.put_row.ensures.put p));
}
