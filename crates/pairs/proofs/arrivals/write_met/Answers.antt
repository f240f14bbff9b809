-- What is written, then the pairs with the rows ahead, is the whole.
use Rattle.std.proofs.Common.{sym, ◌∙◌}
use Rattle.pairs.proofs.PairTurns.{arriving_first, arriving_one, arriving_none}
use Rattle.pairs.proofs.arrivals.write_met.Goals.{then-is_met, else-is_met}
use Rattle.pairs.proofs.arrivals.write_met.Goals as goal

pub loop-row-init : goal.loop-row-init
loop-row-init c = arriving_first _ _ _ _ _ _

pub loop-row-preserved : goal.loop-row-preserved
loop-row-preserved c = elim c.if-is_met.branch [
  | then-is_met w ↦ rw w.written-is (arriving_one _ _ _ _ _ _ _ _ _ c.loop-row.invariant _ c.loop-row-test.true (sym c.is_met.ensures ∙ w.if-is_met.true) (w.out-is ∙ rw (← w.item.ensures) w.put_told.ensures))
  | else-is_met w ↦ rw (w.out-is, w.written-is) (arriving_none _ _ _ _ _ _ _ _ _ c.loop-row.invariant c.loop-row-test.true (sym c.is_met.ensures ∙ w.if-is_met.false))
]
