-- The join that is owed, as it is written, and how often a pair stands in a list.
use Rattle.std.specs.Prelude.{Bool, ◌&&◌, List, ℕ, ltb, eqb}
use Rattle.stamps.specs.declared.Source.TheVariants.{A}
use Rattle.stamps.specs.Counting.{keep, count, missing_in}
use Rattle.sheets.specs.Layout.{Pair, Told, shows, same_shown}
use Rattle.pairs.specs.Pairs.{Table, row_a, row_b, matches, every, told}

-- ---- pairs of row numbers

-- both rows were accepted
abbrev pub inside : Table → Pair → Bool
inside t p = ltb p.a t.a.count && ltb p.b t.b.count

-- ---- pairs as they are written: "A pair is (A row number, B row number, key)"

-- its row numbers
abbrev pub numbers : Told → Pair
numbers x = record { a = x.a; b = x.b }

-- a pair of accepted rows that match, shown as they are
abbrev pub is_pair : Table → Told → Bool
is_pair t x = inside t (numbers x) && (matches t (numbers x) && same_shown x.shown (shows (row_a t (numbers x)).item (row_b t (numbers x)).item))

-- all of them, by A row, then B row
unfoldable pub join : Table → List Told
join t = told A t (keep (matches t) (every t))

-- one and the same pair
abbrev pub same : Told → Told → Bool
same x y = eqb x.a y.a && (eqb x.b y.b && same_shown x.shown y.shown)

-- how often a pair stands in a list
abbrev pub times : Told → List Told → ℕ
times = count same

-- those of the join that a list leaves out
unfoldable pub missing : Table → List Told → List Told
missing t l = missing_in same l (join t)
