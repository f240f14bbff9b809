-- The chain asks each row in turn.
use Rattle.std.proofs.Common.{rules, tests}
use Rattle.pairs.specs.Lones.{walked, is_lone}
use Rattle.pairs.proofs.PairTurns.{next-chain}
use Rattle.pairs.proofs.lone_rows.LoneRows.first.Goals as goal

pub returns : goal.returns
returns c = next-chain _ _ (is_lone (walked c.args.self.now)) _ _ _ c.find.ensures.ran (λ x b q k. search (rules, tests))
