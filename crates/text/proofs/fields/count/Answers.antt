-- The fields are as many as the texts between commas.
use Rattle.std.proofs.Common.{rules, tests}
use Rattle.std.proofs.lemmas.Iterator.Consumers.{count_from_yields_List}
use Rattle.std.proofs.lemmas.List.{length-map}
use Rattle.text.specs.Fields.{fields}
use Rattle.text.proofs.FieldTurns.{split_yields}
use Rattle.text.proofs.fields.count.Goals as goal

pub returns : goal.returns
unfolding fields
returns c = rw length-map (count_from_yields_List _ _ c.count.ensures.ran (split_yields c.split.ensures.rest c.split.ensures.done c.split.ensures.closure (λ x b q k. search (rules, tests))))
