-- A line's answer lists no more than the output has room for. By cases on what the line asks for. Assumes nothing.
use Rattle.std.proofs.Common.{◌≡◌, ℕ, ◌≤◌, List, length, take, length-take, arith}
use Rattle.std.specs.Prelude.{Option, Some, None}
use Rattle.sheets.specs.Layout.{pairs_need, singles_need}
use Rattle.rules.specs.Answers.{written_of}
use Rattle.rules.specs.World.{world, Sheets, given}
use Rattle.rules.specs.Rounds.{room_in}
use Rattle.rules.specs.declared.Call.{Call}
use Rattle.rules.specs.declared.Call.TheVariants as call
use Rattle.rules.specs.declared.Session.{Session}
use Rattle.rules.proofs.Laws.{written-fits, opens_none}
use Rattle.reading.specs.Reading.{room_most, read_line}
use Rattle.reading.specs.declared.Line.{Line}
use Rattle.reading.specs.declared.Line.TheVariants as line
use Rattle.reading.proofs.Laws.{AskedFits, room_fits}
use Rattle.answering.specs.Answering.{Turn, asks, asks_in, turn_of}

asks-fits : (c : Call) (t : Option Session) (z : Sheets) (o : List ℕ) → written_of (asks c t z o).told ≤ room_in c (length o)
unfolding asks
asks-fits c (Some s) z o = written-fits (world s z) (given c o)
asks-fits c None z o = omega arith

-- fewer words have no more room
room_less : (c : Call) (m n : ℕ) → m ≤ n → room_in c m ≤ room_in c n
room_less (call.Arrive s m') m n h = omega arith
room_less (call.Evict s q) m n h = omega arith
room_less (call.Run s q) m n h = omega arith
room_less (call.Close s) m n h = omega arith
room_less call.Drain m n h = omega arith
room_less (call.Lone s) m n h = omega arith

asks_in-fits : (words : ℕ) (c : Call) (t : Option Session) (z : Sheets) (o : List ℕ) → written_of (asks_in words c t z o).told ≤ room_in c words
unfolding asks_in
asks_in-fits words c t z o = let k : length (take words o) ≤ words = omega (arith, length-take words o) in
    omega (arith, asks-fits c t z (take words o), room_less c (length (take words o)) words k)

turn_fits : (x : Option Line) (t : Option Session) (z : Sheets) (o : List ℕ) → AskedFits x → length o ≡ pairs_need room_most → written_of (turn_of x t z o).told ≤ room_most
turn_fits (Some (line.Start p m n)) t z o h e = omega (arith, opens_none p m n z)
turn_fits (Some (line.Ask c)) t z o h e = omega (arith, rw e at (asks-fits c t z o), h)
turn_fits (Some (line.Drain room)) t z o h e = omega (arith, asks_in-fits (pairs_need room) call.Drain t z o, h)
turn_fits (Some (line.Lone s room)) t z o h e = omega (arith, asks_in-fits (singles_need room) (call.Lone s) t z o, h)
turn_fits None t z o h e = omega arith

-- the answer of a line fits its text
pub answer_fits : (l : List ℕ) (t : Option Session) (z : Sheets) (o : List ℕ) (x : Turn) → x ≡ turn_of (read_line l) t z o → length o ≡ pairs_need room_most → written_of x.told ≤ room_most
answer_fits l t z o x e h = rw e (turn_fits (read_line l) t z o (room_fits l) h)
