-- The position's row and column are where as much is left.
use Rattle.pairs.specs.Pairs.{table_of}
use Rattle.pairs.proofs.GridTurns.{writing_none}
use Rattle.pairs.proofs.Positions.{none_position, writes_from}
use Rattle.pairs.proofs.walks.Job.write_from.Goals as goal

pub returns-then-others-eq0 : goal.returns-then-others-eq0
returns-then-others-eq0 c = writing_none c.args.self.now.source (table_of c.args.self.now) _ _ _ _ (none_position _ _ _ c.if-others-eq0.true) c.if-others-eq0.true

pub returns : goal.returns
returns c = writes_from c.args.self.now.source c.args.self.now.scope (table_of c.args.self.now) _ _ _ _ _ c.if-others-eq0.false c.requires.0 c.write_due.ensures
