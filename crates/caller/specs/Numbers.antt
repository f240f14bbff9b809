-- Numbers that are read digit by digit.
use Rattle.std.specs.Prelude.{ℕ}
use Rattle.caller.specs.declared.numbers.Place.{Place}
use Rattle.caller.specs.declared.numbers.Place.TheVariants.{Start, Between, Number}

-- the value so far of the number that is begun, 0 where none is
abbrev pub value_of : Place → ℕ
value_of Start = 0
value_of Between = 0
value_of (Number value) = value
