-- How bytes become lines: "A line ends at LF or at the end of input, an empty rest giving no line."
use Rattle.std.specs.Prelude.{◌≡◌, Bool, cond, List, [], ◌∷◌, ◌++◌, ℕ, eqb, ltb, length, take, Option, Some, None, MatchOption}
use Rattle.std.specs.Borrow.{Bor}

-- 10 is LF
abbrev pub is_lf : ℕ → Bool
is_lf x = eqb x 10

-- ---- the lines of some bytes

-- the lines that have ended, and the line that is begun
pub record Cut : Type 0 where
  pub ended : List (List ℕ)
  pub begun : List ℕ

-- a line begun, and none before it
abbrev pub only : List ℕ → Cut
only l = record { ended = []; begun = l }

-- a line ended before the others
abbrev pub before : List ℕ → Cut → Cut
before l c = record { ended = l ∷ c.ended; begun = c.begun }

-- what more bytes make of a line that is begun
unfoldable pub cut : List ℕ → List ℕ → Cut
cut l [] = only l
cut l (x ∷ bytes) = cond (is_lf x) (before l (cut [] bytes)) (cut (l ++ (x ∷ [])) bytes)

-- "an empty rest giving no line"
abbrev pub rest_line : List ℕ → List (List ℕ)
rest_line [] = []
rest_line (x ∷ l) = (x ∷ l) ∷ []

-- the lines of an input whose first line is begun
unfoldable pub lines_from : List ℕ → List ℕ → List (List ℕ)
lines_from l bytes = (cut l bytes).ended ++ rest_line (cut l bytes).begun

-- the lines of an input
abbrev pub lines_of : List ℕ → List (List ℕ)
lines_of bytes = lines_from [] bytes

-- ---- a look at an input

-- the bytes of its first line: those before the LF, or all
unfoldable pub before_lf : List ℕ → List ℕ
before_lf [] = []
before_lf (x ∷ bytes) = cond (is_lf x) [] (x ∷ before_lf bytes)

-- and what stands behind the LF, where there is one
unfoldable pub behind_lf : List ℕ → Option (List ℕ)
behind_lf [] = None
behind_lf (x ∷ bytes) = cond (is_lf x) (Some bytes) (behind_lf bytes)

-- as many of the line's bytes as there is room for
abbrev pub fitting : ℕ → List ℕ → List ℕ
fitting room input = take room (before_lf input)

-- bytes that are lent, if there are some
abbrev pub Lent : Option (List ℕ) → Option (Bor (List ℕ)) → Type 0
Lent rest r = MatchOption r (rest ≡ None) (λ lent. rest ≡ Some lent.now)

-- ---- a line in its buffer

-- a byte put behind those that the buffer holds, or dropped where these are `most`
abbrev pub kept : ℕ → List ℕ → ℕ → List ℕ
kept most l x = cond (ltb (length l) most) (l ++ (x ∷ [])) l

-- a buffer of `most` bytes holds as many first bytes of the line
abbrev pub Holds : ℕ → List ℕ → List ℕ → Type 0
Holds most l line = l ≡ take most line

-- what the buffer holds, and what is behind the LF where one was met
pub record Held : Type 0 where
  pub line : List ℕ
  pub rest : Option (List ℕ)

-- the two, made of their parts
abbrev pub held : List ℕ → Option (List ℕ) → Held
held l rest = record { line = l; rest = rest }

-- bytes put into the buffer up to an LF, or all of them
unfoldable pub gather : ℕ → List ℕ → List ℕ → Held
gather most l [] = held l None
gather most l (x ∷ bytes) = cond (is_lf x) (held l (Some bytes)) (gather most (kept most l x) bytes)

-- what a look at the input answers: what is behind the LF, where one was met
abbrev pub Took : Held → Option (Bor (List ℕ)) → Type 0
Took h r = Lent h.rest r
