-- What the shut definitions of the layout say, word by word. For the functions of the layout alone: all others use Laws.
-- Assumes nothing.
use Rattle.std.specs.Prelude.{◌≡◌, refl, List, ℕ, ◌+◌, ◌*◌, get_or, set}
use Rattle.std.proofs.Math.Numerals.{unary_clauses}
use Rattle.std.proofs.lemmas.List.{set-get_or}
use Rattle.stamps.specs.declared.Item.{Item}
use Rattle.stamps.specs.declared.Row.{Row}
use Rattle.stamps.specs.declared.Entry.{Entry}
use Rattle.stamps.specs.Stamps.{stamp}
use Rattle.sheets.specs.Layout.{row_at, put_row, entry_at, put_entry, shows, Told, put_pair, Single, put_single}

pub row_at_is : (l : List ℕ) (r : ℕ)
    → row_at l r ≡ record { item = record { key = get_or l (3 * r) 0 }; ats = get_or l (3 * r + 1) 0; dts = get_or l (3 * r + 2) 0 }
unfolding row_at
row_at_is l r = refl

pub put_row_is : (r : ℕ) (x : Row) (l : List ℕ) → put_row r x l ≡ set (set (set l (3 * r) x.item.key) (3 * r + 1) x.ats) (3 * r + 2) x.dts
unfolding put_row
put_row_is r x l = simp unary_clauses

pub entry_at_is : (l : List ℕ) (k e : ℕ) → entry_at l k e ≡ record { last = get_or l (64 * k + 2 * e) 0; probe = get_or l (64 * k + 2 * e + 1) 0 }
unfolding entry_at
entry_at_is l k e = refl

pub put_entry_is : (k e : ℕ) (x : Entry) (l : List ℕ) → put_entry k e x l ≡ set (set l (64 * k + 2 * e) x.last) (64 * k + 2 * e + 1) x.probe
unfolding put_entry
put_entry_is k e x l = simp unary_clauses

pub put_pair_is : (w : ℕ) (x : Told) (o : List ℕ) → put_pair w x o ≡ set (set (set o (3 * w) x.a) (3 * w + 1) x.b) (3 * w + 2) x.shown.key
unfolding put_pair
put_pair_is w x o = simp unary_clauses

pub shows_is : (x y : Item) → shows x y ≡ record { key = x.key }
unfolding shows
shows_is x y = refl

pub put_single_is : (w : ℕ) (x : Single) (o : List ℕ) → put_single w x o ≡ set (set o (2 * w) x.row) (2 * w + 1) x.key
unfolding put_single
put_single_is w x o = simp unary_clauses

-- a row with its DTS set: one store
pub put_dts_is : (r t : ℕ) (l : List ℕ) → put_row r (stamp t (row_at l r)) l ≡ set l (3 * r + 2) t
put_dts_is r t l = rw (put_row_is, row_at_is) (simp set-get_or)
