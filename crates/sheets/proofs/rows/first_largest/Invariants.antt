-- The partition kept so far is the first of the largest of those passed.
use Rattle.std.proofs.Common.{◌≡◌, ◌<◌, length, get_or}
use Rattle.sheets.specs.Rows.{first_largest}
use Rattle.sheets.proofs.rows.first_largest.Given as goal

abbrev pub invariant-loop-part : goal.invariant-loop-part
invariant-loop-part l = record { in_sizes : l.best < length l.sizes; leads : l.best ≡ first_largest (λ q. get_or l.sizes q 0) l.part }
