-- The twelve small sums of document 01 hold: a single theorem about their list. Proved by opening the definitions and computing.
-- Assumes nothing.
use Rattle.std.specs.Prelude.{◌≡◌, true}
use Rattle.stamps.specs.Counting.{all_of}
use Rattle.stamps.specs.Sums.{sums}
use Rattle.stamps.proofs.KeysMeaning.{item_of_is, part_of_is}
use Rattle.stamps.proofs.StampsMeaning.{alive_is, present_at_is, together_is}

-- every one of them is true
pub sums_hold : all_of sums ≡ true
unfolding sums
sums_hold = simp (together_is, present_at_is, alive_is, part_of_is, item_of_is)
