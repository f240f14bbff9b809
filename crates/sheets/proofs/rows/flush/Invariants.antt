-- The sheet so far has the flushed rows laid over those passed.
use Rattle.sheets.proofs.RowTurns.{Flushing}
use Rattle.sheets.proofs.rows.flush.Given as goal

abbrev pub invariant-loop-row : goal.invariant-loop-row
invariant-loop-row l = Flushing l.parts.count l.part l.clock l.initial.words l.row l.done l.words
