-- The next line is put behind those before it.
use Rattle.std.proofs.Common.{◌≡◌, ◌∙◌, ◌-◌, arith}
use Rattle.text.proofs.PutTurns.{rows_left, row_lent, row_long}
use Rattle.text.proofs.putting.put_rows.Goals as goal

pub loop-row-preserved : goal.loop-row-preserved
loop-row-preserved g c =
    let law = g.met.T.Text in
    let lent = row_lent c.args.width c.args.table.now c.loop-row.row in
    let long = row_long c.args.width c.args.table.now c.loop-row.row c.args.n c.loop-row-test.true c.requires.rows in record {
      fits = omega (arith, rw (lent, long) at c.put_line.ensures.fits);
      most = law.puts_most _ _ _ c.put_line.ensures.put ∙ c.loop-row.invariant.most;
      put = λ t p. c.loop-row.invariant.put t (rw (rows_left _ _ _ _ _ c.loop-row-test.true, ← lent)
          (law.puts_both _ _ _ _ _ c.put_line.ensures.put p));
    }

pub returns-clause-put : goal.returns-clause-put
returns-clause-put g c = let q : c.args.n - c.loop-row.row ≡ 0 = omega arith in c.loop-row.invariant.put _ (rw q (g.met.T.Text.puts_none _))
