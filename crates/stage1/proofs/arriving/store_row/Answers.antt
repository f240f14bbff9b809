-- Each arm is the case of `store` for its source.
use Rattle.stamps.specs.declared.Source.TheVariants.{A, B}
use Rattle.rules.specs.World.{world, with_rows}
use Rattle.stage1.proofs.Arrivals.{stored}
use Rattle.stage1.proofs.arriving.store_row.Goals.{in-A, in-B}
use Rattle.stage1.proofs.arriving.store_row.Goals as goal

pub returns : goal.returns
returns c = λ x. elim c.match-source.branch [
  | in-A w ↦ rw (w.a-is, w.b-is, c.with-feeds.ensures, c.of-feed.ensures, w.in-A.is) (stored A _ (world c.args.session (with_rows _ _ x)) _ (rw (c.of-feed.ensures, w.in-A.is) at w.put_row.ensures))
  | in-B w ↦ rw (w.a-is, w.b-is, c.with-feeds.ensures, c.of-feed.ensures, w.in-B.is) (stored B _ (world c.args.session (with_rows _ _ x)) _ (rw (c.of-feed.ensures, w.in-B.is) at w.put_row-in-B.ensures))
]
