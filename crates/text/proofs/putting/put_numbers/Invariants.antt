-- What is left of the numbers, put from here on, makes the whole.
use Rattle.std.proofs.Common.{◌≡◌, ◌+◌, ◌*◌, ◌≤◌, drop}
use Rattle.text.specs.Putting.{numbers_text}
use Rattle.text.proofs.putting.put_numbers.Given as goal

abbrev pub invariant-loop-n : goal.invariant-loop-n
invariant-loop-n g l = record {
  fits : g.T.Text.at l.text ≤ g.T.Text.at l.initial.text + 11 * l.n-index;
  most : g.T.Text.most l.text ≡ g.T.Text.most l.initial.text;
  put : (t : _) → g.T.Text.Puts l.text (numbers_text (drop l.n-index l.numbers)) t → g.T.Text.Puts l.initial.text (numbers_text l.numbers) t;
}
