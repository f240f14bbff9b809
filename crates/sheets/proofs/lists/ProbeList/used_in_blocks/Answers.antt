-- Block after block is asked, then half a block, if there is one.
use Rattle.std.proofs.Common.{ℕ, ◌*◌, ◌/◌, ◌∙◌, sym, false, arith, rules, tests}
use Rattle.std.specs.List.{list_any, range_with_len}
use Rattle.std.proofs.lemmas.Iterator.{YieldsList-from_range}
use Rattle.std.proofs.lemmas.Iterator.Search.{any_from_yields_List}
use Rattle.stamps.specs.Stamps.{covers}
use Rattle.sheets.specs.Layout.{entry_at}
use Rattle.sheets.specs.declared.lists.TheConstants.{BLOCK, HALF}
use Rattle.sheets.proofs.ListTurns.{blocks_asked, first_asked, half_asked, no_half}
use Rattle.sheets.proofs.lists.ProbeList.used_in_blocks.Goals as goal

pub returns-then-any : goal.returns-then-any
returns-then-any c =
    let list = c.args.self.now in
    let n = list.size / BLOCK in
    let test = λ (e : ℕ). covers (entry_at list.probe.now list.number e) c.args.x c.args.y in
    let asked = any_from_yields_List (λ k. list_any test (range_with_len (BLOCK * k) BLOCK)) _ _ _ c.any.ensures.ran (YieldsList-from_range 0 n n (cc) (omega arith)) (λ x b q k. search (rules, tests))
    ∙ blocks_asked test BLOCK n in
    rw c.if-any.true at (first_asked test (BLOCK * n) (HALF * (list.size / HALF)) _ (omega arith) asked)

pub returns-then-self-blocks : goal.returns-then-self-blocks
returns-then-self-blocks c =
    let list = c.args.self.now in
    let n = list.size / BLOCK in
    let test = λ (e : ℕ). covers (entry_at list.probe.now list.number e) c.args.x c.args.y in
    let asked = any_from_yields_List (λ k. list_any test (range_with_len (BLOCK * k) BLOCK)) _ _ _ c.any.ensures.ran (YieldsList-from_range 0 n n (cc) (omega arith)) (λ x b q k. search (rules, tests))
    ∙ blocks_asked test BLOCK n in
    no_half test (BLOCK * n) (HALF * (list.size / HALF)) false (omega (arith, c.if-self-blocks.true)) (sym c.if-any.false ∙ asked)

pub returns : goal.returns
returns c =
    let list = c.args.self.now in
    let n = list.size / BLOCK in
    let test = λ (e : ℕ). covers (entry_at list.probe.now list.number e) c.args.x c.args.y in
    let asked = any_from_yields_List (λ k. list_any test (range_with_len (BLOCK * k) BLOCK)) _ _ _ c.any.ensures.ran (YieldsList-from_range 0 n n (cc) (omega arith)) (λ x b q k. search (rules, tests))
    ∙ blocks_asked test BLOCK n in
    half_asked test (BLOCK * n) HALF (HALF * (list.size / HALF)) _ (omega (arith, c.if-self-blocks.false)) (sym c.if-any.false ∙ asked) c.used_in.ensures
