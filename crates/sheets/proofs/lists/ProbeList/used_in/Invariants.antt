-- The entries of the block so far have been asked.
use Rattle.std.proofs.Common.{◌≡◌, ◌-◌}
use Rattle.std.specs.List.{list_any, range_with_len}
use Rattle.stamps.specs.Stamps.{covers}
use Rattle.sheets.specs.Layout.{entry_at}
use Rattle.sheets.proofs.lists.ProbeList.used_in.Given as goal

abbrev pub invariant-loop-e : goal.invariant-loop-e
invariant-loop-e g l = l.found ≡ list_any (λ e. covers (entry_at l.self.probe.now l.self.number e) l.x l.y) (range_with_len l.first (l.e - l.first))
