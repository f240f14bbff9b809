-- The counts that it compares are those of the rows in memory.
use Rattle.std.proofs.Common.{sym}
use Rattle.sheets.proofs.Victim.{victim-a, victim-b}
use Rattle.sheets.proofs.rows.find_victim.Goals.{then-a_held-b_held, else-a_held-b_held}
use Rattle.sheets.proofs.rows.find_victim.Goals as goal

pub returns : goal.returns
returns c = elim c.if-a_held-b_held.branch [
  | then-a_held-b_held w ↦ rw (c.largest_part.ensures, w.source-is) (sym (victim-b _ _ _ (rw (← c.requires.held.0, ← c.requires.held.1) w.if-a_held-b_held.true)))
  | else-a_held-b_held w ↦ rw (c.largest_part.ensures, w.source-is) (sym (victim-a _ _ _ (rw (← c.requires.held.0, ← c.requires.held.1) w.if-a_held-b_held.false)))
]
