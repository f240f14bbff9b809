-- What is written, then the pairs with the rows ahead, is the whole.
use Rattle.sheets.specs.Layout.{row_at}
use Rattle.pairs.proofs.PairTurns.{Arriving}
use Rattle.pairs.proofs.arrivals.write_met.Given as goal

abbrev pub invariant-loop-row : goal.invariant-loop-row
invariant-loop-row l = Arriving l.source l.new l.item (row_at l.sheet.words.now) l.sheet.rows l.initial.out l.out l.row l.written
