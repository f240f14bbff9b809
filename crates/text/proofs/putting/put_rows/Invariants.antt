-- What is left of the lines, put from here on, makes the whole.
use Rattle.std.proofs.Common.{◌≡◌, ◌+◌, ◌-◌, ◌*◌, ◌≤◌, length}
use Rattle.text.specs.Putting.{line_need, lines_text, rows_in}
use Rattle.text.proofs.putting.put_rows.Given as goal

abbrev pub invariant-loop-row : goal.invariant-loop-row
invariant-loop-row g l = record {
  fits : g.T.Text.at l.text ≤ g.T.Text.at l.initial.text + line_need (length l.word) l.width * l.row;
  most : g.T.Text.most l.text ≡ g.T.Text.most l.initial.text;
  put : (t : _) → g.T.Text.Puts l.text (lines_text l.word (rows_in l.width l.table l.row (l.n - l.row))) t
      → g.T.Text.Puts l.initial.text (lines_text l.word (rows_in l.width l.table 0 l.n)) t;
}
