-- The sheet so far has the flushed rows laid over those passed.
use Rattle.std.proofs.Common.{◌≡◌, sym, ◌∙◌, arith}
use Rattle.sheets.proofs.RowTurns.{flushing_first, flushing-hot, flushing_cold, flushing_end}
use Rattle.sheets.proofs.rows.flush.Goals.{then-is_hot, else-is_hot}
use Rattle.sheets.proofs.rows.flush.Goals as goal

pub loop-row-init : goal.loop-row-init
loop-row-init c = flushing_first _ _ _ _

pub loop-row-preserved : goal.loop-row-preserved
loop-row-preserved c = elim c.if-is_hot.branch [
  | then-is_hot w ↦ rw (w.words-is, w.done-is, w.put_dts.ensures) (flushing-hot _ _ _ _ _ _ _ c.loop-row.invariant (sym c.is_hot.ensures ∙ w.if-is_hot.true))
  | else-is_hot w ↦ rw (w.words-is, w.done-is) (flushing_cold _ _ _ _ _ _ _ c.loop-row.invariant (sym c.is_hot.ensures ∙ w.if-is_hot.false))
]

pub returns : goal.returns
returns c = let e : c.loop-row.row ≡ c.args.rows = omega arith in rw e at (flushing_end _ _ _ _ _ _ _ c.loop-row.invariant)
