-- The sizes so far are those of the rows passed.
use Rattle.std.proofs.Common.{sym, ap, ◌∙◌, eq-eqb, ne_eqb, arith}
use Rattle.stamps.specs.Keys.{part_of}
use Rattle.sheets.specs.Layout.{row_at}
use Rattle.sheets.proofs.RowTurns.{sized_first, sized_few, sized_none, sized_one}
use Rattle.sheets.proofs.layout.Sheet.count_portions.Goals.{then-dts-eq0, else-dts-eq0}
use Rattle.sheets.proofs.layout.Sheet.count_portions.Goals as goal

pub loop-row-init : goal.loop-row-init
loop-row-init c = sized_first c.args.parts.count (row_at c.args.self.now.words.now)

pub overflow_add-sizes : goal.overflow_add-sizes
overflow_add-sizes c = rw c.loop-row.invariant (omega (arith, sized_few c.args.parts.count (row_at c.args.self.now.words.now) c.loop-row.row c.of.result (omega arith)))

pub loop-row-preserved : goal.loop-row-preserved
loop-row-preserved c = let f = row_at c.args.self.now.words.now in elim c.if-dts-eq0.branch [
  | then-dts-eq0 w ↦ w.sizes-is ∙ rw c.loop-row.invariant (sized_one _ f _ w.of.result (omega arith) (eq-eqb _ _ (sym c.dts.ensures ∙ w.if-dts-eq0.true)) (w.of.ensures.0 ∙ ap (part_of _) w.item.ensures))
  | else-dts-eq0 w ↦ w.sizes-is ∙ c.loop-row.invariant ∙ sized_none _ f _ (ne_eqb _ _ (λ e. w.if-dts-eq0.false (c.dts.ensures ∙ e)))
]
