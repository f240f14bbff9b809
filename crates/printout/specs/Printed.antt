-- What is printed, as bytes: each line is a word and numbers.
use Rattle.std.specs.Prelude.{List, [], ◌∷◌, ◌++◌, ℕ, codes}
use Rattle.std.specs.Int.{from_bool}
use Rattle.text.specs.Putting.{line_text}
use Rattle.replies.specs.Printing.{code_of, need_of, need_numbers}
use Rattle.rules.specs.declared.Answer.{Answer}
use Rattle.rules.specs.declared.Answer.TheVariants as answer
use Rattle.rules.specs.declared.Reply.{Reply}
use Rattle.rules.specs.declared.Session.{Session}

-- ---- fixed words

-- "BAD"
abbrev pub BAD : List ℕ
BAD = codes "BAD"

-- "ANSWER"
abbrev pub ANSWER : List ℕ
ANSWER = codes "ANSWER"

-- "SESSION"
abbrev pub SESSION : List ℕ
SESSION = codes "SESSION"

-- ---- an answer

-- an answer's kind, and its own number; a refusal's is its code
abbrev pub told_of : Answer → ℕ × ℕ
told_of answer.Opened = (0, 0)
told_of (answer.Taken n) = (1, n)
told_of (answer.Flushed n) = (2, n)
told_of (answer.Ran n) = (3, n)
told_of answer.Shut = (4, 0)
told_of (answer.More n) = (5, n)
told_of (answer.Done n) = (6, n)
told_of (answer.MoreLone n) = (7, n)
told_of (answer.DoneLone n) = (8, n)
told_of (answer.Refused w) = (9, code_of w)

-- the count that a refusal names, where it names one
abbrev pub named : Answer → List ℕ
named (answer.Refused w) = need_numbers (need_of w)
named _ = []

-- the line of an answer
abbrev pub answer_line : Answer → List ℕ
answer_line a = line_text ANSWER ((told_of a).0 ∷ (told_of a).1 ∷ named a)

-- ---- a record

-- a record's numbers, in the order of a case
abbrev pub session_numbers : Session → List ℕ
session_numbers s =
    s.parts ∷ s.slots ∷ s.limit ∷ s.clock ∷ s.feeds.a.rows ∷ s.feeds.b.rows ∷ from_bool s.feeds.a.closed ∷ from_bool s.feeds.b.closed ∷ (s.counts ++ (s.next ∷ s.lone.a ∷ s.lone.b ∷ []))

-- the line of a record
abbrev pub session_line : Session → List ℕ
session_line s = line_text SESSION (session_numbers s)

-- both lines of what a call hands back
abbrev pub reply_lines : Reply → List ℕ
reply_lines r = answer_line r.answer ++ session_line r.session
