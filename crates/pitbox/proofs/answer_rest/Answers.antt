-- The end of the input answers the rest.
use Rattle.std.proofs.lemmas.Result.{on_ok_weaker}
use Rattle.pitbox.proofs.Underway.{rest_comes}
use Rattle.pitbox.proofs.answer_rest.Goals as goal

pub returns : goal.returns
returns g c = λ all begun k u.
    on_ok_weaker c.write_all.result (rest_comes k _ _ c.args.going.now c.args.storage.now _ u (rw c.deref.ensures.0 at c.finish.ensures.says)) (rw c.deref-2.ensures.0 at c.write_all.ensures.bytes)
