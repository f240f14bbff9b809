-- The sheet that faces the source is looked at.
use Rattle.std.proofs.Common.{arith}
use Rattle.checks.specs.Viewed.{viewed}
use Rattle.stage1.proofs.Arrivals.{arrived-count}
use Rattle.stage1.proofs.looking.RowsView.count_pairs.Goals as goal

pub overflow_cast-result : goal.overflow_cast-result
overflow_cast-result c = let s = c.sheet in
    let long = rw (s.ensures.words, s.ensures.rows, c.other_source-facing.ensures) at s.result.fits in
    let met = rw (s.ensures.words, s.ensures.rows, c.other_source-facing.ensures) at c.count_new.ensures in
    omega (arith, (arrived-count c.args.source c.args.item c.args.room (viewed c.args.self.now.view) _ long met).1, rw (s.ensures.rows, c.other_source-facing.ensures) at s.ensures.few)

pub returns : goal.returns
returns c = let s = c.sheet in
    let long = rw (s.ensures.words, s.ensures.rows, c.other_source-facing.ensures) at s.result.fits in
    let met = rw (s.ensures.words, s.ensures.rows, c.other_source-facing.ensures) at c.count_new.ensures in
    (arrived-count c.args.source c.args.item c.args.room (viewed c.args.self.now.view) _ long met).0
