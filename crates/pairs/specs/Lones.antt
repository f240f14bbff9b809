-- Rows without partner: which they are, and what is written of them.
-- All is said for source A with B across from it. For B it is the same with the two in each other's place.
use Rattle.std.specs.Prelude.{◌≡◌, Bool, ◌&&◌, List, [], ◌∷◌, map, Option, MatchOption, ℕ, ◌-◌, ◌<◌, ltb, eqb}
use Rattle.stamps.specs.declared.Item.{Item}
use Rattle.stamps.specs.Counting.{tally, span, keep, count, missing_in}
use Rattle.stamps.specs.Keys.{items_match}
use Rattle.sheets.specs.Layout.{row_at, Single, put_single}
use Rattle.pairs.specs.Rooms.{on_from, HandsOut}
use Rattle.pairs.specs.declared.lone_rows.LoneRows.{LoneRows}
use Rattle.pairs.specs.declared.rooms.Written.{Written}

-- ---- which they are

-- the rows of A, their items by number, and the same of B
pub record Items : Type 0 where
  pub rows : ℕ
  pub item : ℕ → Item
  pub others : ℕ
  pub facing : ℕ → Item

-- as two row sheets hold them
abbrev pub items_in : ℕ → ℕ → List ℕ → List ℕ → Items
items_in rows others own facing = record { rows = rows; item = λ i. (row_at own i).item; others = others; facing = λ j. (row_at facing j).item }

-- a row that matches "no row of the other source"
abbrev pub is_lone : Items → ℕ → Bool
is_lone t i = eqb (tally (λ j. items_match (t.item i) (t.facing j)) t.others) 0

-- all rows without partner, "ascending"
unfoldable pub lones : Items → List ℕ
lones t = keep (is_lone t) (span 0 t.rows)

-- a row's position is its number
abbrev pub number : ℕ → ℕ
number i = i

-- from a position on
unfoldable pub lones_from : ℕ → Items → List ℕ
lones_from k t = on_from number k (lones t)

-- ---- in an output: "each as row number and key"

-- what is written of a row
abbrev pub single : Items → ℕ → Single
single t i = record { row = i; key = (t.item i).key }

-- an accepted row without partner, with its key
abbrev pub is_single : Items → Single → Bool
is_single t x = ltb x.row t.rows && (is_lone t x.row && eqb x.key (t.item x.row).key)

-- one and the same row
abbrev pub same_single : Single → Single → Bool
same_single x y = eqb x.row y.row && eqb x.key y.key

-- how often a row stands in a list
abbrev pub listings : Single → List Single → ℕ
listings = count same_single

-- the rows without partner that a list leaves out
unfoldable pub unlisted : Items → List Single → List Single
unlisted t l = missing_in same_single l (map (single t) (lones t))

-- ---- what the functions promise

-- as a walk's sheets hold them
abbrev pub walked : LoneRows → Items
walked l = items_in l.own.rows l.facing.rows l.own.words.now l.facing.words.now

-- the rows without partner that a walk has not come to
abbrev pub lones_left : LoneRows → List ℕ
lones_left l = keep (is_lone (walked l)) (span l.from (l.own.rows - l.from))

-- a walk's next step: to the first of these
abbrev pub LoneStep : LoneRows → Option ℕ → LoneRows → Type 0
LoneStep s r t = (walked t ≡ walked s)
    × MatchOption r ((lones_left s ≡ []) × (lones_left t ≡ [])) (λ i. (lones_left s ≡ i ∷ lones_left t) × (i < s.own.rows))

-- as many of the rows as there is room for are written; if none remains, the position becomes the row count
abbrev pub Lists : Items → List ℕ → ℕ → ℕ → List ℕ → List ℕ → Written → Type 0
Lists t = HandsOut number t.rows (single t) put_single
