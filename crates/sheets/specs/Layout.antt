-- How rows, entries and pairs stand in 32-bit words. Only this module and those below it know how many words each has.
use Rattle.std.specs.Prelude.{◌≡◌, ◌≤◌, Bool, List, [], ◌∷◌, ℕ, ◌+◌, ◌*◌, ◌/◌, eqb, get_or}
use Rattle.std.proofs.lemmas.List.Edits.{sets}
use Rattle.stamps.specs.declared.Source.{Source}
use Rattle.stamps.specs.declared.Source.TheVariants.{A, B}
use Rattle.stamps.specs.declared.Item.{Item}
use Rattle.stamps.specs.declared.Row.{Row}
use Rattle.stamps.specs.declared.Entry.{Entry}

-- ---- rows: "three words a row (key, ATS, DTS), row r at word 3r"

-- the words that n rows take
abbrev pub rows_need : ℕ → ℕ
rows_need n = 3 * n

-- row r of a sheet
unfoldable pub row_at : List ℕ → ℕ → Row
row_at l r = record { item = record { key = get_or l (3 * r) 0 }; ats = get_or l (3 * r + 1) 0; dts = get_or l (3 * r + 2) 0 }

-- where row r begins
abbrev pub place_of : ℕ → ℕ
place_of r = 3 * r

-- the row that begins there
abbrev pub row_of : ℕ → ℕ
row_of w = w / 3

-- where one of n rows begins, or they end
abbrev pub IsPlace : ℕ → ℕ → Type 0
IsPlace n w = (w ≡ place_of (row_of w)) × (row_of w ≤ n)

-- its words, in their order
abbrev pub row_words : Row → List ℕ
row_words x = x.item.key ∷ x.ats ∷ x.dts ∷ []

-- row r written
unfoldable pub put_row : ℕ → Row → List ℕ → List ℕ
put_row r x l = sets l (3 * r) (row_words x)

-- ---- entries: "Entry e of source s (A is 0, B is 1), partition p, is at word 64(sP + p) + 2e: DTS-last, then ProbeTS"

-- the words that the lists of P partitions take, for both sources
abbrev pub probe_need : ℕ → ℕ
probe_need parts = 128 * parts

-- the words up to the end of entry n - 1 of list k
abbrev pub list_need : ℕ → ℕ → ℕ
list_need k n = 64 * k + 2 * n

-- the number of a list, sP + p
abbrev pub list_no : ℕ → Source → ℕ → ℕ
list_no parts A p = p
list_no parts B p = parts + p

-- entry e of list k
unfoldable pub entry_at : List ℕ → ℕ → ℕ → Entry
entry_at l k e = record { last = get_or l (64 * k + 2 * e) 0; probe = get_or l (64 * k + 2 * e + 1) 0 }

-- its words, in their order
abbrev pub entry_words : Entry → List ℕ
entry_words x = x.last ∷ x.probe ∷ []

-- entry e of list k written
unfoldable pub put_entry : ℕ → ℕ → Entry → List ℕ → List ℕ
put_entry k e x l = sets l (64 * k + 2 * e) (entry_words x)

-- ---- pairs: "A pair is (A row number, B row number, key)", "three words a pair"

-- a row of A and a row of B, by their numbers
pub record Pair : Type 0 where
  pub a : ℕ
  pub b : ℕ

-- what is shown of them besides: only this section knows what that is
pub record Shown : Type 0 where
  pub key : ℕ

-- of rows of A and B with these items; the two have one key
unfoldable pub shows : Item → Item → Shown
shows x y = record { key = x.key }

-- one and the same
unfoldable pub same_shown : Shown → Shown → Bool
same_shown x y = eqb x.key y.key

-- a pair as it stands in an output
pub record Told : Type 0 where
  pub a : ℕ
  pub b : ℕ
  pub shown : Shown

-- what is written of a pair of rows with these items, for source A; for B with the rows in each other's place
abbrev pub tell : Source → Pair → Item → Item → Told
tell A p x y = record { a = p.a; b = p.b; shown = shows x y }
tell B p x y = record { a = p.b; b = p.a; shown = shows y x }

-- the words that n pairs take
abbrev pub pairs_need : ℕ → ℕ
pairs_need n = 3 * n

-- "Its room is its length divided by 3, rounded down"
abbrev pub room_of : ℕ → ℕ
room_of words = words / 3

-- pair number w of an output
unfoldable pub pair_at : List ℕ → ℕ → Told
pair_at o w = record { a = get_or o (3 * w) 0; b = get_or o (3 * w + 1) 0; shown = record { key = get_or o (3 * w + 2) 0 } }

-- the words of what is shown, in their order
abbrev pub shown_words : Shown → List ℕ
shown_words x = x.key ∷ []

-- and of the pair
abbrev pub pair_words : Told → List ℕ
pair_words x = x.a ∷ x.b ∷ shown_words x.shown

-- pair number w written
unfoldable pub put_pair : ℕ → Told → List ℕ → List ℕ
put_pair w x o = sets o (3 * w) (pair_words x)

-- ---- rows by themselves: "each as row number and key", "Two words a row"

-- as it stands in an output
pub record Single : Type 0 where
  pub row : ℕ
  pub key : ℕ

-- the words that n of them take
abbrev pub singles_need : ℕ → ℕ
singles_need n = 2 * n

-- "the room is the output's length over 2"
abbrev pub single_room : ℕ → ℕ
single_room words = words / 2

-- number w of an output
unfoldable pub single_at : List ℕ → ℕ → Single
single_at o w = record { row = get_or o (2 * w) 0; key = get_or o (2 * w + 1) 0 }

-- its words, in their order
abbrev pub single_words : Single → List ℕ
single_words x = x.row ∷ x.key ∷ []

-- number w written
unfoldable pub put_single : ℕ → Single → List ℕ → List ℕ
put_single w x o = sets o (2 * w) (single_words x)
