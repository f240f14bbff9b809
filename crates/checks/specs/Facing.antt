-- The box seen from one source, as the crate below is given it.
use Rattle.std.specs.Prelude.{◌≡◌}
use Rattle.stamps.specs.declared.Source.{Source}
use Rattle.pairs.specs.Pairs.{table_of}
use Rattle.pairs.specs.declared.walks.Job.{Job}
use Rattle.pairs.specs.declared.walks.Scope.{Scope}
use Rattle.rules.specs.World.{World, seen_from}

-- what is looked for there, with the source's rows first
pub record JobFrom (s : Source) (p : Scope) (w : World) (j : Job) : Type 0 where
  pub source : j.source ≡ s
  pub scope : j.scope ≡ p
  pub table : table_of j ≡ seen_from s w
