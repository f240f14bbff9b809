-- That all of the first counts pass is what `counts_fit` says of them one by one.
use Rattle.std.specs.Prelude.{leb, take}
use Rattle.std.proofs.Common.{◌∙◌, rules, tests}
use Rattle.std.proofs.lemmas.Iterator.{YieldsList-from_slice}
use Rattle.std.proofs.lemmas.Iterator.Search.{all_from_yields_List}
use Rattle.checks.proofs.Passing.{counts_pass}
use Rattle.checks.proofs.refusals.counts_fit.Goals as goal

pub returns : goal.returns
returns c =
    all_from_yields_List (λ n. leb n 32) _ _ c.all.result c.all.ensures.ran (YieldsList-from_slice (take c.args.lists c.args.counts.now) cc) (λ x b q k. search (rules, tests))
    ∙ counts_pass c.args.counts.now c.args.lists (search rules)
