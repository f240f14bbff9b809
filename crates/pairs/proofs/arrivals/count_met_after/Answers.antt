-- Rows that match are of the item's partition, so a flush of it leaves none, and a flush of another leaves all.
use Rattle.std.proofs.Common.{sym, ◌∙◌}
use Rattle.sheets.specs.Layout.{row_at}
use Rattle.pairs.proofs.PairTurns.{gone_none, kept-count}
use Rattle.pairs.proofs.arrivals.count_met_after.Goals as goal

pub returns-then-of-part : goal.returns-then-of-part
returns-then-of-part c = gone_none _ _ _ (row_at c.args.sheet.now.words.now) c.args.sheet.now.rows (sym c.of.ensures.0 ∙ c.if-of-part.true)

pub returns : goal.returns
returns c = kept-count _ _ _ (row_at c.args.sheet.now.words.now) c.args.sheet.now.rows _ (λ e. c.if-of-part.false (c.of.ensures.0 ∙ e)) c.count_met.ensures
