-- What is written, then what is ahead within the room, is the whole.
use Rattle.pairs.specs.Lones.{items_in, lones_from}
use Rattle.pairs.proofs.LoneTurns.{Listing}
use Rattle.pairs.proofs.lones.write_lones.Given as goal

abbrev pub invariant-loop-row : goal.invariant-loop-row
invariant-loop-row l = let t = items_in l.own.rows l.facing.rows l.own.words.now l.facing.words.now in
    Listing t (lones_from l.position t) l.position l.room l.initial.out l.out l.count l.next l.row-iterator
