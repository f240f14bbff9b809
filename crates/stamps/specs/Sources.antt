-- The two sources. What is said for one of them is said for the other with the two in each other's place.
use Rattle.std.specs.Prelude.{Bool, true, false}
use Rattle.stamps.specs.declared.Source.{Source}
use Rattle.stamps.specs.declared.Source.TheVariants.{A, B}
use Rattle.stamps.specs.declared.PerSource.{PerSource}

-- the source that faces a source
abbrev pub other : Source → Source
other A = B
other B = A

-- one and the same source
abbrev pub same : Source → Source → Bool
same A A = true
same A B = false
same B A = false
same B B = true

-- x for A, y for B
abbrev pub pick : {X : Type 0} → Source → X → X → X
pick A x y = x
pick B x y = y

-- the value of one source changed
abbrev pub put : {X : Type 0} → Source → X → PerSource X → PerSource X
put A v p = record { a = v; b = p.b }
put B v p = record { a = p.a; b = v }
