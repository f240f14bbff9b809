-- The box that a view shows.
use Rattle.rules.specs.World.{World, world, bundle}
use Rattle.checks.specs.declared.refusals.BoxView.{BoxView}

-- its session, and its sheets as they are
abbrev pub viewed : BoxView → World
viewed v = world v.session (bundle v.a.now v.b.now v.probe.now)
