-- The job's sheets are the source's and the other's, its lists the box's.
use Rattle.std.specs.Prelude.{refl}
use Rattle.checks.proofs.Facing.{job_made}
use Rattle.checks.proofs.refusals.BoxView.job.Goals as goal

pub returns : goal.returns
returns c = job_made refl refl c.sheet.ensures.rows c.sheet.ensures.words (rw (← c.other_source.ensures) c.sheet-2.ensures.rows) (rw (← c.other_source.ensures) c.sheet-2.ensures.words) refl refl refl
