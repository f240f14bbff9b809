-- What is written and what is left to cut into pieces make the numbers.
use Rattle.std.proofs.Common.{◌≡◌}
use Rattle.std.specs.Slice.Iter.{chunks_rest, chunks_size}
use Rattle.printout.specs.declared.TheConstants.{PIECE}
use Rattle.printout.proofs.Texts.{Going}
use Rattle.printout.proofs.print_numbers.Given as goal

abbrev pub invariant-loop-piece : goal.invariant-loop-piece
invariant-loop-piece g l = (chunks_size l.piece-iterator ≡ PIECE) × Going l.numbers (g.W.Write.contents l.initial.out) (g.W.Write.contents l.out) (chunks_rest l.piece-iterator)
