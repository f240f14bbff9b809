-- Texts put behind others: plain decimals, and lines of a word and numbers, "parted by one space".
use Rattle.std.specs.Prelude.{cond, List, [], ◌∷◌, ◌++◌, ℕ, zero, suc, ◌+◌, ◌*◌, ◌/◌, ◌%◌, ltb, take, drop}

-- ---- numbers

-- the decimal digits of n, the most significant first, where it has at most k of them
unfoldable pub digits_up : ℕ → ℕ → List ℕ
digits_up zero n = []
digits_up (suc k) n = cond (ltb n 10) ((48 + n) ∷ []) (digits_up k (n / 10) ++ ((48 + n % 10) ∷ []))

-- a 32-bit number has at most ten digits
abbrev pub number_most : ℕ
number_most = 10

-- a number as plain decimals
unfoldable pub decimal : ℕ → List ℕ
decimal n = digits_up number_most n

-- ---- lines

-- what a line ends with
abbrev pub LF : List ℕ
LF = 10 ∷ []

-- a number, and the space that parts it from what stands before it
unfoldable pub spaced : ℕ → List ℕ
spaced n = 32 ∷ decimal n

-- numbers, one after the other
abbrev pub numbers_text : List ℕ → List ℕ
numbers_text [] = []
numbers_text (n ∷ ns) = spaced n ++ numbers_text ns

-- a line: a word, numbers, LF
unfoldable pub line_text : List ℕ → List ℕ → List ℕ
line_text word ns = word ++ numbers_text ns ++ LF

-- the bytes that a line takes at most, by the length of its word and the count of its numbers
abbrev pub line_need : ℕ → ℕ → ℕ
line_need word numbers = word + (1 + number_most) * numbers + 1

-- a word and one number
abbrev pub said : List ℕ → ℕ → List ℕ
said word n = line_text word (n ∷ [])

-- lines with one word, one for each row of numbers
abbrev pub lines_text : List ℕ → List (List ℕ) → List ℕ
lines_text word [] = []
lines_text word (ns ∷ rows) = line_text word ns ++ lines_text word rows

-- ---- tables of numbers

-- row w of a table whose rows are of so many numbers
abbrev pub row_in : ℕ → List ℕ → ℕ → List ℕ
row_in width o w = take width (drop (width * w) o)

-- n of its rows, from row w on
abbrev pub rows_in : ℕ → List ℕ → ℕ → ℕ → List (List ℕ)
rows_in width o w zero = []
rows_in width o w (suc n) = row_in width o w ∷ rows_in width o (suc w) n
