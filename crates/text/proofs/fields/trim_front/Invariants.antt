-- The blanks passed are none of the text's own.
use Rattle.std.proofs.Common.{◌≡◌, length}
use Rattle.text.specs.Fields.{front_cut}
use Rattle.text.proofs.fields.trim_front.Given as goal

abbrev pub invariant-loop-left : goal.invariant-loop-left
invariant-loop-left l = front_cut l.left ≡ front_cut l.text

abbrev pub decreases-loop-left : goal.decreases-loop-left
decreases-loop-left l = length l.left
