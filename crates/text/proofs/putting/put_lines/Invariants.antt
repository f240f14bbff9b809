-- What is left of the lines, put from here on, makes the whole.
use Rattle.std.proofs.Common.{◌≡◌, ◌+◌, ◌*◌, ◌≤◌, length, drop}
use Rattle.text.specs.Putting.{line_need, lines_text}
use Rattle.text.proofs.putting.put_lines.Given as goal

abbrev pub invariant-loop-row : goal.invariant-loop-row
invariant-loop-row g l = record {
  fits : g.T.Text.at l.text ≤ g.T.Text.at l.initial.text + line_need (length l.word) g.row.WIDTH * l.row-index;
  most : g.T.Text.most l.text ≡ g.T.Text.most l.initial.text;
  put : (t : _) → g.T.Text.Puts l.text (lines_text l.word (drop l.row-index l.table)) t → g.T.Text.Puts l.initial.text (lines_text l.word l.table) t;
}
