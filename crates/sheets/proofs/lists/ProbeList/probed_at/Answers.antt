-- The last entry is the one before the size.
use Rattle.std.proofs.Common.{eq-eqb}
use Rattle.sheets.proofs.ListTurns.{probed_none, probed_some}
use Rattle.sheets.proofs.lists.ProbeList.probed_at.Goals as goal

pub returns-then-self-ne0 : goal.returns-then-self-ne0
returns-then-self-ne0 c = probed_some _ _ _ _ _ c.if-self-ne0.true c.entry.ensures

pub returns-else-self-ne0 : goal.returns-else-self-ne0
returns-else-self-ne0 c = rw (eq-eqb _ _ c.if-self-ne0.false) (probed_none _ _ _ _ c.if-self-ne0.false)
