-- The record's parts are those of the numbers.
use Rattle.std.proofs.Common.{rules}
use Rattle.caller.proofs.Records.{record_whole}
use Rattle.caller.proofs.cases.session_of.Goals as goal

pub returns : goal.returns
returns c =
    let whole = record_whole c.args.numbers.now c.in_ok-as_array.field-0.now (search rules) c.in_ok-as_array.ensures.cases.same in
    rw (c.in_ok-feed_of.ensures.0, c.in_ok-feed_of.ensures.1, c.in_ok-feed_of-2.ensures.0, c.in_ok-feed_of-2.ensures.1) whole
