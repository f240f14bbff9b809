-- The chain asks each entry in turn.
use Rattle.std.proofs.Common.{◌∙◌, arith, rules, tests}
use Rattle.std.proofs.lemmas.Iterator.{YieldsList-from_range}
use Rattle.std.proofs.lemmas.Iterator.Search.{any_from_yields_List}
use Rattle.stamps.specs.Stamps.{covers}
use Rattle.sheets.specs.Layout.{entry_at}
use Rattle.sheets.proofs.ListTurns.{used-range}
use Rattle.sheets.proofs.lists.ProbeList.used.Goals as goal

pub returns : goal.returns
returns c =
    let list = c.args.self.now in
    any_from_yields_List (λ e. covers (entry_at list.probe.now list.number e) c.args.x.now c.args.y.now) _ _ _ c.any.ensures.ran (YieldsList-from_range 0 list.size list.size (cc) (omega arith)) (λ x b q k. search (rules, tests))
    ∙ used-range _ _ _ _ _
