-- The digits passed, with those that are left, make the number.
use Rattle.text.proofs.NumberTurns.{Read}
use Rattle.text.proofs.numbers.read_number.Given as goal

abbrev pub invariant-loop-byte : goal.invariant-loop-byte
invariant-loop-byte l = Read l.text l.byte-index l.value
