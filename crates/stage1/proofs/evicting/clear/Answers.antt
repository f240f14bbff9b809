-- Each arm is the case of `flush` for its source.
use Rattle.stamps.specs.declared.Source.TheVariants.{A, B}
use Rattle.rules.specs.World.{world, with_rows}
use Rattle.stage1.proofs.Flushing.{flush_is}
use Rattle.stage1.proofs.evicting.clear.Goals.{in-A, in-B}
use Rattle.stage1.proofs.evicting.clear.Goals as goal

pub returns : goal.returns
returns c = elim c.match-source.branch [
  | in-A w ↦ let f = rw (c.of-held.ensures, w.in-A.is) at w.flush-rows.ensures in
      rw (w.rows-is, w.a-is, w.b-is, w.in-A.is) (record { worlds = λ x. flush_is A _ (world c.args.session (with_rows _ _ x)) _ _ f; count = f.count })
  | in-B w ↦ let f = rw (c.of-held.ensures, w.in-B.is) at w.flush-rows-in-B.ensures in
      rw (w.rows-is, w.a-is, w.b-is, w.in-B.is) (record { worlds = λ x. flush_is B _ (world c.args.session (with_rows _ _ x)) _ _ f; count = f.count })
]
