-- The bytes of the piece that are left fall, and the session is under way.
use Rattle.std.proofs.Common.{List, ℕ, length}
use Rattle.std.specs.Prelude.{Option}
use Rattle.std.specs.Io.KnownBytes.{append_known}
use Rattle.answering.specs.Answering.{Left}
use Rattle.pitbox.specs.Session.{Underway}
use Rattle.pitbox.proofs.feed.Given as goal

abbrev pub invariant-loop-behind : goal.invariant-loop-behind
invariant-loop-behind g l = (all : Left) (begun : List ℕ) (k : Option (List ℕ)) → Underway all begun k l.piece l.initial.going l.initial.storage (g.W.Write.contents l.initial.to)
    → Underway all begun k l.rest l.going l.storage (append_known (g.W.Write.contents l.to) l.text.items)

abbrev pub decreases-loop-behind : goal.decreases-loop-behind
decreases-loop-behind g l = length l.rest
