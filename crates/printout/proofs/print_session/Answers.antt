-- The pieces make the line.
use Rattle.std.proofs.Common.{[], ◌∷◌}
use Rattle.std.proofs.lemmas.Result.{on_ok_weaker}
use Rattle.text.specs.Putting.{line_text}
use Rattle.std.specs.Int.{from_bool}
use Rattle.printout.proofs.Texts.{appends_line, appends_parts}
use Rattle.printout.proofs.print_session.Goals as goal

pub returns : goal.returns
unfolding line_text
returns g c =
    let s = c.args.session in
    let first = s.parts ∷ s.slots ∷ s.limit ∷ s.clock ∷ s.feeds.a.rows ∷ s.feeds.b.rows ∷ from_bool s.feeds.a.closed ∷ from_bool s.feeds.b.closed ∷ [] in
    let last = s.next ∷ s.lone.a ∷ s.lone.b ∷ [] in
    on_ok_weaker c.write_all-2.result
    (appends_line _ _ _ _ _ _ c.in_ok-write_all.ensures.bytes
    (appends_parts _ _ _ _ first s.counts last (rw (c.from.ensures, c.from-2.ensures) at c.in_ok-print_numbers.ensures) c.in_ok-print_numbers-2.ensures c.in_ok-print_numbers-3.ensures))
    c.write_all-2.ensures.bytes
