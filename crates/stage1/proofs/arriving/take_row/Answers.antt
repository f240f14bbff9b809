-- The pairs, and then the row.
use Rattle.std.specs.Prelude.{refl}
use Rattle.rules.specs.World.{bundle}
use Rattle.stage1.proofs.Arrivals.{joined}
use Rattle.stage1.proofs.arriving.take_row.Goals as goal

pub returns : goal.returns
returns c = joined _ _ _ _ _ _ _ _ c.requires.count refl (c.store_row-stored.ensures (bundle c.args.a.now c.args.b.now c.args.probe.now)) c.write_pairs.ensures
