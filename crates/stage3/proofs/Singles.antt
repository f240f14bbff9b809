-- What a lone call asks of the walk over its rows, and what it makes of the answer. A and B are one argument: a source and the other.
-- Assumes nothing.
use Rattle.std.specs.Prelude.{◌≡◌, cond, List, ℕ, ◌≤◌, length}
use Rattle.stamps.specs.Sources.{put}
use Rattle.stamps.specs.declared.Source.{Source}
use Rattle.stamps.specs.declared.Source.TheVariants.{A, B}
use Rattle.sheets.specs.Layout.{single_room}
use Rattle.pairs.specs.Lones.{lones_from, Lists}
use Rattle.pairs.specs.declared.rooms.Written.{Written}
use Rattle.rules.specs.Calls.{after, lists}
use Rattle.rules.specs.World.{World, world, with_lone, pass, place_of, count_of, items_from}
use Rattle.rules.specs.declared.Answer.TheVariants.{MoreLone, DoneLone}
use Rattle.rules.proofs.Checks.{Fits}

-- the position of a source's lone calls is no higher than its rows
pub place-fits : (s : Source) (w : World) → Fits w → place_of w s ≤ count_of w s
place-fits A w f = f.a_lone
place-fits B w f = f.b_lone

-- what is made of the walk's answer
pub listed : (s : Source) (w : World) (o o' : List ℕ) (room : ℕ) (r : Written) → room ≡ single_room (length o)
    → Lists (items_from s w) (lones_from (place_of w s) (items_from s w)) (place_of w s) room o o' r
    → after (cond r.more MoreLone DoneLone r.count) (world (with_lone (put s r.next w.session.lone) w.session) w.sheets) o' ≡ lists s w o
unfolding lists pass
listed s w o o' room r e h = rw (h.count, h.more, h.next, h.out, e)
