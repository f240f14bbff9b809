-- The bytes read so far are answered, up to the line that is begun.
use Rattle.std.proofs.Common.{List, [], ℕ}
use Rattle.std.specs.Io.KnownBytes.{Consumes}
use Rattle.text.specs.Gathering.{cut}
use Rattle.answering.specs.Answering.{silent, unstarted}
use Rattle.lines.specs.Serving.{talk}
use Rattle.pitbox.specs.Session.{sheets_of, Underway}
use Rattle.pitbox.proofs.answer_input.Given as goal

abbrev pub invariant-loop : goal.invariant-loop
invariant-loop g l = record {
  bytes : List ℕ;
  taken : Consumes (g.R.Read.remaining l.initial.from) (g.R.Read.remaining l.from) bytes;
  way : Underway (talk (silent unstarted (sheets_of l.initial.storage) l.initial.storage.out) (cut [] bytes).ended) (cut [] bytes).begun (g.W.Write.contents l.initial.to) [] l.going l.storage (g.W.Write.contents l.to);
}
