-- What is left of the input, put from here on, makes the whole, and the same stands behind its LF.
use Rattle.std.proofs.Common.{◌≡◌, ◌-◌, drop}
use Rattle.text.specs.Gathering.{fitting, behind_lf}
use Rattle.text.proofs.gathering.take_line.Given as goal

abbrev pub invariant-loop-at : goal.invariant-loop-at
invariant-loop-at g l = let text = g.T.Text in record {
  line : (t : _) → text.Puts l.line (fitting (text.most l.line - text.at l.line) (drop l.at l.input)) t
      → text.Puts l.initial.line (fitting (text.most l.initial.line - text.at l.initial.line) l.input) t;
  rest : behind_lf (drop l.at l.input) ≡ behind_lf l.input;
}
