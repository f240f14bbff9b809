-- Rows by number: which are in memory, which belong to a portion, what a flush makes of them, and the victim.
-- `f` gives the rows of one source by their numbers, and n is how many there are.
use Rattle.std.specs.Prelude.{◌≡◌, Bool, true, false, cond, not, ◌&&◌, List, [], ◌∷◌, ℕ, zero, suc, ◌+◌, ◌≤◌, ◌<◌, ltb, eqb, length}
use Rattle.stamps.specs.declared.Source.TheVariants.{A, B}
use Rattle.stamps.specs.declared.Item.{Item}
use Rattle.stamps.specs.declared.Row.{Row}
use Rattle.stamps.specs.Counting.{tally, top, span, keep}
use Rattle.stamps.specs.Keys.{items_match, part_of}
use Rattle.stamps.specs.Stamps.{in_memory, stamp}
use Rattle.sheets.specs.Layout.{place_of, row_of, row_at, put_row}
use Rattle.sheets.specs.declared.rows.Victim.{Victim}

-- ---- memory rows and spooled rows

-- a memory row of partition q
abbrev pub hot : ℕ → ℕ → Row → Bool
hot parts q r = in_memory r && eqb (part_of parts r.item) q

-- a spooled row of it
abbrev pub spooled : ℕ → ℕ → Row → Bool
spooled parts q r = not (in_memory r) && eqb (part_of parts r.item) q

-- the numbers of a portion's spooled rows, "ascending"
abbrev pub spooled_rows : ℕ → ℕ → (ℕ → Row) → ℕ → List ℕ
spooled_rows parts q f n = keep (λ i. spooled parts q (f i)) (span 0 n)

-- and of all rows in memory
abbrev pub rows_in_memory : (ℕ → Row) → ℕ → List ℕ
rows_in_memory f n = keep (λ i. in_memory (f i)) (span 0 n)

-- how many rows are in memory
abbrev pub memory_rows : (ℕ → Row) → ℕ → ℕ
memory_rows f n = tally (λ i. in_memory (f i)) n

-- how many rows of a portion are in memory
abbrev pub portion_rows : ℕ → ℕ → (ℕ → Row) → ℕ → ℕ
portion_rows parts q f n = tally (λ i. hot parts q (f i)) n

-- the largest DTS in a portion's spooled rows, 0 if it has none
abbrev pub latest : ℕ → ℕ → (ℕ → Row) → ℕ → ℕ
latest parts q f n = top (λ i. cond (spooled parts q (f i)) (f i).dts 0) n

-- ---- flush of a portion

-- "Its memory rows in ascending row number"
abbrev pub hot_rows : ℕ → ℕ → (ℕ → Row) → ℕ → List ℕ
hot_rows parts q f n = keep (λ i. hot parts q (f i)) (span 0 n)

-- of these rows, one after the other: "the clock goes up by one, and the row's DTS becomes the clock"
unfoldable pub leave : ℕ → List ℕ → List ℕ → List ℕ
leave clock [] l = l
leave clock (i ∷ is) l = leave (suc clock) is (put_row i (stamp (suc clock) (row_at l i)) l)

-- ---- the victim

-- of one source: how many rows are in memory, and how many of each partition
pub record Held : Type 0 where
  pub rows : ℕ
  pub portion : ℕ → ℕ

-- as a reading of all its rows finds it
abbrev pub held_in : ℕ → (ℕ → Row) → ℕ → Held
held_in parts f n = record { rows = memory_rows f n; portion = λ q. portion_rows parts q f n }

-- the first of the largest of so many sizes, 0 if there is none
abbrev pub first_largest : (ℕ → ℕ) → ℕ → ℕ
first_largest size zero = 0
first_largest size (suc q) = cond (ltb (size (first_largest size q)) (size q)) q (first_largest size q)

-- a source's "largest portion, lower partition at a tie"
unfoldable pub largest_part : ℕ → Held → ℕ
largest_part parts h = first_largest h.portion parts

-- "from the source with more rows in memory, A at a tie, and within it from the largest portion": a and b are held of A and B
unfoldable pub victim : ℕ → Held → Held → Victim
victim parts a b =
    cond (ltb a.rows b.rows)
    (record { source = B; part = largest_part parts b })
    (record { source = A; part = largest_part parts a })

-- ---- what the functions promise

-- no row from row `from` on and below n has an item that matches
abbrev pub NoneMatches : Item → (ℕ → Row) → ℕ → ℕ → Type 0
NoneMatches x f from n = (k : ℕ) → from ≤ k → k < n → items_match x (f k).item ≡ false

-- the first that has one is the row at place w
abbrev pub FirstAt : Item → (ℕ → Row) → ℕ → ℕ → ℕ → Type 0
FirstAt x f from n w = (w ≡ place_of (row_of w)) × (from ≤ row_of w) × (row_of w < n) × (items_match x (f (row_of w)).item ≡ true) × NoneMatches x f from (row_of w)

-- what a flush answers and leaves
pub record Flushes (parts q clock n : ℕ) (l : List ℕ) (r : ℕ) (l' : List ℕ) : Type 0 where
  pub count : r ≡ length (hot_rows parts q (row_at l) n)
  pub sheet : l' ≡ leave clock (hot_rows parts q (row_at l) n) l
  pub few : r ≤ n

-- row i after it, by how many of the portion's memory rows there are up to row i
abbrev pub flushed : ℕ → ℕ → ℕ → (ℕ → Row) → ℕ → Row
flushed parts q clock f i = cond (hot parts q (f i)) (stamp (clock + portion_rows parts q f (suc i)) (f i)) (f i)
