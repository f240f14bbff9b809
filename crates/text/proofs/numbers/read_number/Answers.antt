-- A digit more makes the number.
use Rattle.std.proofs.Common.{sym, ◌∙◌}
use Rattle.text.proofs.NumberTurns.{read_digit}
use Rattle.text.proofs.numbers.read_number.Goals as goal

pub loop-byte-preserved : goal.loop-byte-preserved
loop-byte-preserved c = rw c.from.ensures (read_digit _ _ _ c.loop-byte.invariant c.loop-byte-test.true (sym c.is_ascii_digit.ensures.value ∙ c.if-not-is_ascii_digit.false))
