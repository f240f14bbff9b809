-- A row has no partner where no row across matches.
use Rattle.pairs.specs.Lones.{items_in}
use Rattle.pairs.proofs.LoneTurns.{lone_is}
use Rattle.pairs.proofs.lones.is_lone.Goals as goal

pub returns : goal.returns
returns c = lone_is (items_in c.args.own.now.rows c.args.facing.now.rows c.args.own.now.words.now c.args.facing.now.words.now) _ c.next_match.result c.is_none.result c.is_none.ensures (rw c.item.ensures at c.next_match.ensures)
