-- The pieces make the line.
use Rattle.std.proofs.lemmas.Result.{on_ok_weaker}
use Rattle.text.specs.Putting.{line_text}
use Rattle.printout.proofs.Texts.{appends_line}
use Rattle.printout.proofs.print_line.Goals as goal

pub returns : goal.returns
unfolding line_text
returns g c = on_ok_weaker c.write_all-2.result (appends_line _ _ _ _ _ _ c.in_ok-write_all.ensures.bytes c.in_ok-print_numbers.ensures) c.write_all-2.ensures.bytes
