-- What a drain makes of the answer of the walk.
-- Assumes nothing.
use Rattle.std.specs.Prelude.{◌≡◌, cond, List, ℕ, length}
use Rattle.stamps.specs.declared.Source.TheVariants.{A}
use Rattle.sheets.specs.Layout.{room_of}
use Rattle.pairs.specs.Pairs.{table_of, Writes, pairs_from}
use Rattle.pairs.specs.declared.walks.Job.{Job}
use Rattle.pairs.specs.declared.rooms.Written.{Written}
use Rattle.pairs.specs.declared.walks.Scope.TheVariants.{All}
use Rattle.pairs.proofs.Laws.{due_from_is}
use Rattle.checks.proofs.Facing.{seen_by}
use Rattle.checks.specs.Facing.{JobFrom}
use Rattle.rules.specs.Calls.{after, drains}
use Rattle.rules.specs.World.{World, world, seen_from, with_next, move}
use Rattle.rules.specs.declared.Answer.TheVariants.{More, Done}

pub drained : (w : World) (o o' : List ℕ) (room : ℕ) (r : Written) → room ≡ room_of (length o)
    → Writes A (seen_from A w) (pairs_from All w.session.next (seen_from A w)) w.session.next room o o' r
    → after (cond r.more More Done r.count) (world (with_next r.next w.session) w.sheets) o' ≡ drains w o
unfolding drains move
drained w o o' room r e h = rw (h.count, h.more, h.next, h.out, e, ← due_from_is w.session.next (seen_from A w))

-- the same, of a job that was made of the box
pub job_drained : (w : World) (j : Job) → JobFrom A All w j → (o o' : List ℕ) (room : ℕ) (r : Written) → room ≡ room_of (length o)
    → Writes j.source (table_of j) (pairs_from j.scope w.session.next (table_of j)) w.session.next room o o' r
    → after (cond r.more More Done r.count) (world (with_next r.next w.session) w.sheets) o' ≡ drains w o
job_drained w j k o o' room r e x = drained w o o' room r e (seen_by A All w j k (λ s p t. Writes s t (pairs_from p w.session.next t) w.session.next room o o' r) x)
