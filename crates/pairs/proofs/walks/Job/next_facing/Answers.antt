-- A row that is not looked at has none; else the lists are those of its partition.
use Rattle.std.proofs.Common.{sym, ◌∙◌}
use Rattle.pairs.proofs.PairTurns.{next_left_out, next_taken}
use Rattle.pairs.proofs.walks.Job.next_facing.Goals as goal

pub returns-then-not-takes : goal.returns-then-not-takes
returns-then-not-takes c = next_left_out c.args.self.now c.args.spot.row c.args.spot.facing (rw (← c.row-x.ensures) (sym c.takes.ensures ∙ c.if-not-takes.true))

pub returns : goal.returns
returns c = next_taken c.args.self.now c.args.spot.row c.of-part.result c.args.spot.facing c.next_in_row.result (rw (← c.row-x.ensures) (sym c.takes.ensures ∙ c.if-not-takes.false)) (rw (← c.row-x.ensures) c.of-part.ensures.0)
    (rw (← c.row-x.ensures, ← c.of-mine.ensures.entries, ← c.other_source.ensures, ← c.of-theirs.ensures.entries) c.next_in_row.ensures)
