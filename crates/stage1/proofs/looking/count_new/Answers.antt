-- A flush of this source is told ahead; one of the other leaves the sheet alone.
use Rattle.std.proofs.Common.{rules, ◌≡◌, true}
use Rattle.sheets.specs.Layout.{row_at}
use Rattle.rules.specs.World.{same}
use Rattle.stage1.proofs.Arrivals.{count_same}
use Rattle.stage1.proofs.looking.count_new.Goals as goal

pub returns-in-Some : goal.returns-in-Some
returns-in-Some c = let k : same c.in-Some.victim.source c.args.source ≡ true = search rules in
    count_same _ c.args.source c.args.parts.count c.args.item (row_at c.args.sheet.now.words.now) c.args.sheet.now.rows _ _ _ c.in-Some.victim-is c.in-Some.is k c.count_met_after.ensures
