-- What the program prints: "PAIR", "LONE", "OK", "DONE" and "NO" lines, fields "parted by one space", numbers as "plain decimals".
use Rattle.std.specs.Prelude.{List, [], ◌∷◌, ◌++◌, map, ℕ, ◌+◌, ◌*◌, codes, Option, Some, None}
pub use Rattle.rules.specs.Answers.{code_of, pairs_of, singles_of, written_of}
use Rattle.text.specs.Putting.{line_text, lines_text, said}
use Rattle.sheets.specs.Layout.{pair_at, pair_words, single_at, single_words}
use Rattle.pairs.specs.Rooms.{read_all}
use Rattle.rules.specs.declared.Answer.{Answer}
use Rattle.rules.specs.declared.Answer.TheVariants as answer
use Rattle.rules.specs.declared.Why.{Why}
use Rattle.rules.specs.declared.Why.TheVariants as why

-- ---- fixed words

-- the word of a pair
abbrev pub PAIR : List ℕ
PAIR = codes "PAIR"

-- of a row without partner
abbrev pub LONE : List ℕ
LONE = codes "LONE"

-- of a call that was done, where more may remain
abbrev pub OK : List ℕ
OK = codes "OK"

-- of one after which none remains
abbrev pub DONE : List ℕ
DONE = codes "DONE"

-- of a refusal
abbrev pub NO : List ℕ
NO = codes "NO"

-- ---- what an output holds

-- the bytes that a line of an output takes at most, which are those of a pair
abbrev pub row_most : ℕ
row_most = 38

-- ---- answers

-- the count that a refusal names, where it names one
abbrev pub need_of : Why → Option ℕ
need_of (why.RoomShort n) = Some n
need_of _ = None

-- "with the needed count after code 8"
abbrev pub need_numbers : Option ℕ → List ℕ
need_numbers (Some n) = n ∷ []
need_numbers None = []

-- "NO code"
abbrev pub no_text : Why → List ℕ
no_text w = line_text NO (code_of w ∷ need_numbers (need_of w))

-- "n is pairs written; rows flushed for EVICT; 0 for START and CLOSE", rows listed for LONE: "OK n", "DONE n" or "NO code"
abbrev pub answer_text : Answer → List ℕ
answer_text answer.Opened = said OK 0
answer_text (answer.Taken n) = said OK n
answer_text (answer.Flushed n) = said OK n
answer_text (answer.Ran n) = said OK n
answer_text answer.Shut = said OK 0
answer_text (answer.More n) = said OK n
answer_text (answer.Done n) = said DONE n
answer_text (answer.MoreLone n) = said OK n
answer_text (answer.DoneLone n) = said DONE n
answer_text (answer.Refused w) = no_text w

-- the bytes that an answer takes at most
abbrev pub answer_most : ℕ
answer_most = 25

-- "For each line it prints the pairs", as A row, B row and key, or the rows without partner, as row and key, "then" the answer
unfoldable pub reply_text : List ℕ → Answer → List ℕ
reply_text out a =
    lines_text PAIR (map pair_words (read_all pair_at out 0 (pairs_of a)))
    ++ lines_text LONE (map single_words (read_all single_at out 0 (singles_of a)))
    ++ answer_text a

-- the bytes that a reply with n lines before the answer takes at most
abbrev pub reply_most : ℕ → ℕ
reply_most n = row_most * n + answer_most
