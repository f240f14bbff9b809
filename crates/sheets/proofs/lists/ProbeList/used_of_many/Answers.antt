-- Those that are asked together, then the entries behind them.
use Rattle.std.proofs.Common.{ℕ, ◌*◌, ◌/◌, ◌-◌, ◌∙◌, arith, rules, tests}
use Rattle.std.proofs.lemmas.Iterator.{YieldsList-from_range}
use Rattle.std.proofs.lemmas.Iterator.Search.{any_from_yields_List}
use Rattle.stamps.specs.Stamps.{covers}
use Rattle.sheets.specs.Layout.{entry_at}
use Rattle.sheets.specs.declared.lists.TheConstants.{HALF}
use Rattle.sheets.proofs.ListTurns.{first_asked, used-range}
use Rattle.sheets.proofs.lists.ProbeList.used_of_many.Goals as goal

pub returns-then-used_in_blocks : goal.returns-then-used_in_blocks
returns-then-used_in_blocks c =
    let list = c.args.self.now in
    let together = HALF * (list.size / HALF) in
    let test = λ (e : ℕ). covers (entry_at list.probe.now list.number e) c.args.x.now c.args.y.now in
    rw c.if-used_in_blocks.true at (first_asked test together list.size _ (omega arith) c.used_in_blocks.ensures) ∙ used-range _ _ _ _ _

pub returns : goal.returns
returns c =
    let list = c.args.self.now in
    let together = HALF * (list.size / HALF) in
    let test = λ (e : ℕ). covers (entry_at list.probe.now list.number e) c.args.x.now c.args.y.now in
    any_from_yields_List test _ _ _ c.any.ensures.ran (YieldsList-from_range together list.size (list.size - together) (cc) (omega arith)) (λ x b q k. search (rules, tests))
    ∙ rw c.if-used_in_blocks.false at (first_asked test together list.size _ (omega arith) c.used_in_blocks.ensures) ∙ used-range _ _ _ _ _
