-- The field is what stands between its commas, without the blanks.
use Rattle.std.proofs.Common.{rules, refl, tests}
use Rattle.std.proofs.lemmas.Iterator.Consumers.{nth_from_yields_List}
use Rattle.text.specs.Fields.{trim}
use Rattle.text.proofs.FieldTurns.{split_yields, field_found}
use Rattle.text.proofs.fields.field.Goals as goal

pub returns : goal.returns
unfolding trim
returns c = let nth = nth_from_yields_List _ _ _ c.nth.ensures.ran (split_yields c.split.ensures.rest c.split.ensures.done c.split.ensures.closure (λ x b q k. search (rules, tests))) in
    rw (c.trim_end.ensures, c.trim_front.ensures, c.unwrap_or-raw.ensures) (field_found _ _ _ _ nth refl)
