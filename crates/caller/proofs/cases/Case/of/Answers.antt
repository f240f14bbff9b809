-- The sheets are what is left behind the head, cut in four.
use Rattle.std.proofs.Common.{rules}
use Rattle.caller.proofs.Sheets.{cut_whole, cut_lengths}
use Rattle.caller.proofs.cases.Case.of.Goals as goal

pub returns-clause-sheets : goal.returns-clause-sheets
returns-clause-sheets c =
    cut_whole 5 43 4 c.args.numbers.now _ _ _ _ _ _ _ _ _ _ c.in_ok-out.rest.now c.in_ok-asked.ensures.cases.1 c.in_ok-record.ensures.cases.3
    c.in_ok-lengths.ensures.cases.1 c.in_ok-a.ensures.whole c.in_ok-b.ensures.whole c.in_ok-probe.ensures.whole
    c.in_ok-out.ensures.whole (search rules)

pub returns-clause-lengths : goal.returns-clause-lengths
returns-clause-lengths c =
    cut_lengths 5 43 c.args.numbers.now _ _ c.in_ok-lengths.lengths.now _ _ _ _ c.in_ok-asked.ensures.cases.1
    c.in_ok-record.ensures.cases.3 c.in_ok-lengths.ensures.cases.0 (search rules) c.in_ok-a.ensures.size
    c.in_ok-b.ensures.size c.in_ok-probe.ensures.size c.in_ok-out.ensures.size
