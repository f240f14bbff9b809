-- The words of a line, in capitals, and the two sources.
use Rattle.std.specs.Prelude.{cond, List, ℕ, codes, Option, Some, None}
use Rattle.std.specs.Option.{option_map}
use Rattle.std.specs.Str.{bytes_eq}
use Rattle.stamps.specs.declared.Source.{Source}
use Rattle.stamps.specs.declared.Source.TheVariants as source
use Rattle.reading.specs.declared.words.Word.{Word}
use Rattle.reading.specs.declared.words.Word.TheVariants as word

-- "A source is A or B"
unfoldable pub source_of : List ℕ → Option Source
source_of f = cond (bytes_eq f (codes "A")) (Some source.A) (cond (bytes_eq f (codes "B")) (Some source.B) None)

-- "The first field is one of the words START, A, B, EVICT, RUN, CLOSE, DRAIN", and LONE
unfoldable pub word_of : List ℕ → Option Word
word_of f =
    cond (bytes_eq f (codes "START")) (Some word.Start)
    (cond (bytes_eq f (codes "EVICT")) (Some word.Evict)
    (cond (bytes_eq f (codes "RUN")) (Some word.Run)
    (cond (bytes_eq f (codes "CLOSE")) (Some word.Close)
    (cond (bytes_eq f (codes "DRAIN")) (Some word.Drain)
    (cond (bytes_eq f (codes "LONE")) (Some word.Lone)
    (option_map word.Arrive (source_of f)))))))
