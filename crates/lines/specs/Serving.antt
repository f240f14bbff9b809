-- What a look at the input leaves: its next line gathered, and answered where it ended.
use Rattle.std.specs.Prelude.{◌≡◌, List, [], ◌∷◌, ◌++◌, ℕ, Option, Some, None, MatchOption}
use Rattle.text.specs.Gathering.{Held}
use Rattle.rules.specs.World.{Sheets}
use Rattle.rules.specs.declared.Session.{Session}
use Rattle.answering.specs.Answering.{Left, left, answered, silent}

-- "A line ends at LF": then it is answered
abbrev pub served : Held → Option Session → Sheets → List ℕ → Left
served h t z o = elim h.rest [ Some rest ↦ answered h.line t z o | None ↦ silent t z o ]

-- and the next one begins
abbrev pub begun_after : Held → List ℕ
begun_after h = elim h.rest [ Some rest ↦ [] | None ↦ h.line ]

-- and in the text that the line stands in: these bytes are put, and where the line ended, the text is begun anew; `rest` is what
-- stands behind its LF
pub record BegunIn {S : Type 0} (Puts : S → List ℕ → S → Type 0) (Clears : S → S → Type 0) (s : S) (bytes : List ℕ) (rest : Option (List ℕ)) (t : S) : Type 0 where
  pub gathered : S
  pub puts : Puts s bytes gathered
  pub next : MatchOption rest (t ≡ gathered) (λ rest. Clears gathered t)

-- "or at the end of input, an empty rest giving no line"
abbrev pub finished : List ℕ → Option Session → Sheets → List ℕ → Left
finished [] t z o = silent t z o
finished (x ∷ l) t z o = answered (x ∷ l) t z o

-- ---- a whole input

-- all that is there after y, which was said after x
abbrev pub and_then : Left → Left → Left
and_then x y = left y.state y.sheets y.out (x.text ++ y.text)

-- lines answered one after the other
unfoldable pub talk : Left → List (List ℕ) → Left
talk x [] = x
talk x (l ∷ ls) = talk (and_then x (answered l x.state x.sheets x.out)) ls
