-- The words that a call is lent are no more than the output has.
use Rattle.std.proofs.Common.{arith}
use Rattle.reading.proofs.Laws.{read_fits}
use Rattle.answering.proofs.respond.Goals as goal

pub ask_in-requires : goal.ask_in-requires
ask_in-requires c = let h = rw c.in-Drain.is at (read_fits _ c.read_line.ensures c.in-Some.is) in omega (arith, h, c.words_of.ensures)

pub ask_in-requires-in-Lone : goal.ask_in-requires-in-Lone
ask_in-requires-in-Lone c = let h = rw c.in-Lone.is at (read_fits _ c.read_line.ensures c.in-Some.is) in omega (arith, h, c.words_of-words.ensures)
