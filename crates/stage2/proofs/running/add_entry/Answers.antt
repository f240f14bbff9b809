-- The list's next place, and its count.
use Rattle.stage2.proofs.Runs.{noted}
use Rattle.stage2.proofs.running.add_entry.Goals as goal

pub returns : goal.returns
returns c = λ x. noted _ _ _ _ x _ _ _ _ c.list_of-number.ensures.number c.list_of-number.ensures.size c.put_entry.ensures
