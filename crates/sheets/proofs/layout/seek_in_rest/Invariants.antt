-- It stands where a row begins, and no row passed so far matches.
use Rattle.std.proofs.Common.{◌-◌, ◌≤◌}
use Rattle.sheets.specs.Layout.{row_of, IsPlace, row_at}
use Rattle.sheets.specs.Rows.{NoneMatches}
use Rattle.sheets.proofs.layout.seek_in_rest.Given as goal

abbrev pub invariant-loop-word : goal.invariant-loop-word
invariant-loop-word l = IsPlace (row_of l.end) l.word × (row_of l.place ≤ row_of l.word) × NoneMatches l.item (row_at l.words) (row_of l.place) (row_of l.word)

abbrev pub decreases-loop-word : goal.decreases-loop-word
decreases-loop-word l = l.end - l.word
