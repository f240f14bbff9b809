-- Its number and size are those of the portion's list.
use Rattle.std.proofs.Common.{sym}
use Rattle.sheets.proofs.Laws.{list_entries}
use Rattle.sheets.proofs.lists.Lists.of.Goals as goal

pub returns-clause-entries : goal.returns-clause-entries
returns-clause-entries c = rw (c.list_of-number.ensures.number, c.list_of-number.ensures.size) (sym (list_entries _ _ _ _ _ c.requires))
