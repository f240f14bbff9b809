-- The lines make the text.
use Rattle.std.proofs.lemmas.Result.{on_ok_weaker}
use Rattle.caller.proofs.Answered.{appends_text}
use Rattle.caller.proofs.cases.Case.answer.Goals as goal

pub returns : goal.returns
returns g c =
    on_ok_weaker c.print_line-4.result
    (appends_text _ _ _ _ _ _ _ _ _ _ _ _ c.perform-reply.ensures c.in_ok-print_reply.ensures c.in_ok-print_line.ensures
    c.in_ok-print_line-2.ensures c.in_ok-print_line-3.ensures) c.print_line-4.ensures
