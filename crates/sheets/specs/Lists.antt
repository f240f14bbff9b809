-- Probe lists: the entries of each portion, oldest first.
use Rattle.std.specs.Prelude.{Bool, false, cond, List, [], ◌∷◌, ◌++◌, ℕ, zero, suc, ltb, eqb, get_or}
use Rattle.stamps.specs.declared.Source.{Source}
use Rattle.stamps.specs.declared.Entry.{Entry}
use Rattle.sheets.specs.declared.lists.ProbeList.{ProbeList}
use Rattle.sheets.specs.Layout.{list_no, entry_at}

-- the first n entries of list k
unfoldable pub entries : List ℕ → ℕ → ℕ → List Entry
entries probe k zero = []
entries probe k (suc n) = entries probe k n ++ (entry_at probe k n ∷ [])

-- those of a list in hand
abbrev pub entries_of : ProbeList → List Entry
entries_of l = entries l.probe.now l.number l.size

-- the list of a portion, with as many entries as are counted; a partition from P on has none
unfoldable pub list_of : ℕ → List ℕ → List ℕ → Source → ℕ → List Entry
list_of parts counts probe s q = cond (ltb q parts) (entries probe (list_no parts s q) (get_or counts (list_no parts s q) 0)) []

-- "its list's last entry has ProbeTS equal to the clock"
unfoldable pub probed_at : ℕ → List Entry → Bool
probed_at clock [] = false
probed_at clock (e ∷ []) = eqb e.probe clock
probed_at clock (e ∷ f ∷ es) = probed_at clock (f ∷ es)
