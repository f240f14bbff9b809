-- It stands where a row begins, and no row passed so far makes a wanted pair.
use Rattle.std.proofs.Common.{◌≡◌, ℕ, ◌-◌, ◌≤◌, ◌<◌, false}
use Rattle.sheets.specs.Layout.{place_of, row_of, IsPlace, row_at}
use Rattle.sheets.specs.Lists.{entries_of}
use Rattle.pairs.specs.Pairs.{due}
use Rattle.pairs.proofs.walks.Job.next_in_row.Given as goal

abbrev pub invariant-loop-found : goal.invariant-loop-found
invariant-loop-found l = IsPlace l.self.facing.rows l.place × (row_of l.place < l.self.facing.rows → l.from ≤ row_of l.place)
    × ((k : ℕ) → l.from ≤ k → k < row_of l.place → due l.self.scope (entries_of l.mine) (entries_of l.theirs) l.x (row_at l.self.facing.words.now k) ≡ false)

abbrev pub decreases-loop-found : goal.decreases-loop-found
decreases-loop-found l = place_of l.self.facing.rows - l.place
