-- The count so far is that of the rows passed.
use Rattle.std.proofs.Common.{◌≡◌, ◌≤◌}
use Rattle.stamps.specs.Counting.{tally}
use Rattle.sheets.specs.Layout.{row_at}
use Rattle.pairs.specs.Pairs.{met}
use Rattle.pairs.proofs.arrivals.count_met.Given as goal

abbrev pub invariant-loop-row : goal.invariant-loop-row
invariant-loop-row l = (l.count ≤ l.row) × (l.count ≡ tally (λ k. met l.item (row_at l.sheet.words.now k)) l.row)
