-- What the layers above may know of the walks: which pairs they write, and how many.
-- By induction on the lists. Assumes nothing.
use Rattle.std.proofs.Common.{◌≡◌, refl, sym, ap, ap₂, ◌∙◌, Bool, true, false, cond, not, ◌&&◌, List, [], ◌∷◌, ◌++◌, map, ℕ, zero, suc, ◌*◌, ◌≤◌, suc-mul, le_trans, mul-le-mul_left, mul-le-mul_right, leb, eqb, length, length-append, eq-eqb, ne_eqb, arith}
use Rattle.std.proofs.Math.Bool.{and-true, and-false}
use Rattle.std.proofs.Math.Dec.{leb-zero}
use Rattle.std.proofs.Math.ListN.{length-map}
use Rattle.std.proofs.Math.Path.{fun_ext}
use Rattle.stamps.specs.declared.Item.{Item}
use Rattle.stamps.specs.declared.Row.{Row}
use Rattle.stamps.specs.Counting.{tally, span, keep}
use Rattle.stamps.proofs.CountingLaws.{length-keep, length-span, length-kept, keep-map, keep-keep, keep_append}
use Rattle.stamps.specs.Keys.{items_match, part_of}
use Rattle.stamps.proofs.KeysLaws.{match_part}
use Rattle.stamps.specs.Stamps.{in_memory}
use Rattle.sheets.specs.Layout.{pairs_need, pair_at, put_pair, singles_need, single_at, put_single, Pair}
use Rattle.sheets.proofs.LayoutLaws.{length-put_pair, pair_same, pair_other, length-put_single, single_same, single_other}
use Rattle.sheets.specs.Rows.{spooled, flushed, spooled_rows, rows_in_memory}
use Rattle.sheets.proofs.Laws.{flushed_item, flushed_memory}
use Rattle.pairs.specs.Pairs.{Table, across, down, every, position, wanted, met, arrival_pairs, wanted_pairs, pairs_from, matches, done, beside, grid, tried, is_due, due_pairs, due_from, row_a, row_b}
use Rattle.pairs.specs.declared.walks.Scope.{Scope}
use Rattle.pairs.specs.declared.walks.Scope.TheVariants.{Portion, All}
use Rattle.pairs.proofs.Handing.{Words}

-- ---- outputs

pub pair-words : Words pair_at put_pair pairs_need
pair-words = record { grows = λ m n h. omega arith; long = length-put_pair; same = pair_same; other = pair_other }

pub single-words : Words single_at put_single singles_need
single-words = record { grows = λ m n h. omega arith; long = length-put_single; same = single_same; other = single_other }

pub length-across : (i j m : ℕ) → length (across i j m) ≡ m
length-across i j m = length-map (span j m) (λ b. record { a = i; b = b }) ∙ length-span j m

pub length-down : (i n m : ℕ) → length (down i n m) ≡ n * m
length-down i zero m = omega arith
length-down i (suc n) m = rw (length-append, length-across i 0 m, length-down (suc i) n m, suc-mul) (omega arith)

-- no more pairs than rows by rows
pub wanted_few : (scope : Scope) (t : Table) → length (wanted_pairs scope t) ≤ t.a.count * t.b.count
unfolding wanted_pairs
wanted_few scope t = omega (arith, length-keep (wanted scope t) (every t), length-down 0 t.a.count t.b.count)

pub product_few : (n m : ℕ) → n ≤ 4096 → m ≤ 4096 → n * m ≤ 16777216
product_few n m h b = le_trans (mul-le-mul_left n b) (mul-le-mul_right 4096 h)

-- ---- which pairs a job writes

-- of a grid of those rows and columns that pass a test
keep-grid : (s v : ℕ → Bool) (u : Pair → Bool) (is js : List ℕ) → keep u (grid (keep s is) (keep v js)) ≡ keep (λ p. s p.a && (v p.b && u p)) (grid is js)
keep-grid s v u [] js = refl
keep-grid s v u (i ∷ is) js = go (s i) refl (keep-grid s v u is js) ∙ sym (keep_append all (beside i js) (grid is js))
  where
    at : ℕ → Pair
    at j = record { a = i; b = j }

    all : Pair → Bool
    all p = s p.a && (v p.b && u p)

    taken : s i ≡ true → keep (λ j. v j && u (at j)) js ≡ keep (λ j. all (at j)) js
    taken e = rw e

    row : s i ≡ true → keep u (beside i (keep v js)) ≡ keep all (beside i js)
    row e = keep-map at u (keep v js) ∙ ap (map at) (keep-keep (λ j. u (at j)) v js ∙ taken e) ∙ sym (keep-map at all js)

    none : s i ≡ false → (l : List ℕ) → keep all (beside i l) ≡ []
    none e [] = refl
    none e (j ∷ l) = rw e (none e l)

    go : (w : Bool) → s i ≡ w → keep u (grid (keep s is) (keep v js)) ≡ keep all (grid is js)
        → keep u (grid (cond w (i ∷ keep s is) (keep s is)) (keep v js)) ≡ keep all (beside i js) ++ keep all (grid is js)
    go true e ih = keep_append u (beside i (keep v js)) (grid (keep s is) (keep v js)) ∙ ap₂ ◌++◌ (row e) ih
    go false e ih = ih ∙ ap (λ (l : List Pair). l ++ keep all (grid is js)) (sym (none e js))

-- of a run: "each spooled row, ascending, is tried against each memory row of the other source, ascending"
pub tried_is : (q : ℕ) (t : Table) → tried t (spooled_rows t.parts q t.a.row t.a.count) (rows_in_memory t.b.row t.b.count) ≡ wanted_pairs (Portion q) t
unfolding tried is_due wanted wanted_pairs
tried_is q t = keep-grid (λ i. spooled t.parts q (t.a.row i)) (λ j. in_memory (t.b.row j)) (is_due t) (span 0 t.a.count) (span 0 t.b.count)
    ∙ ap (λ (u : Pair → Bool). keep u (every t)) (fun_ext λ p. agree (spooled t.parts q (row_a t p)) (in_memory (row_b t p)) (matches t p) (not (done t p)))
  where
    agree : (s v m d : Bool) → (s && (v && (m && d))) ≡ (s && (m && (v && d)))
    agree s true true d = refl
    agree s true false d = refl
    agree s false true d = refl
    agree s false false d = refl

-- of a drain
pub due_from_is : (k : ℕ) (t : Table) → due_from k t ≡ pairs_from All k t
unfolding due_from due_pairs is_due pairs_from wanted_pairs wanted
due_from_is k t = refl

-- ---- the counts that are answered are the lengths of the lists

pub length-arrival : (i : ℕ) (item : Item) (g : ℕ → Row) (m : ℕ) → length (arrival_pairs i item g (span 0 m)) ≡ tally (λ k. met item (g k)) m
unfolding arrival_pairs
length-arrival i item g m = ap length (keep-map at (λ p. met item (g p.b)) (span 0 m)) ∙ length-map (keep (λ j. met item (g j)) (span 0 m)) at ∙ length-kept (λ j. met item (g j)) m
  where
    at : ℕ → Pair
    at j = record { a = i; b = j }

-- from position 0 on: all
pub pairs_from_start : (scope : Scope) (t : Table) → pairs_from scope 0 t ≡ wanted_pairs scope t
unfolding pairs_from
pairs_from_start scope t = go (wanted_pairs scope t)
  where
    go : (ps : List Pair) → keep (λ p. leb 0 (position t p)) ps ≡ ps
    go [] = refl
    go (p ∷ ps) = rw (leb-zero (position t p), go ps)

-- ---- an arrival after a flush

-- after a flush of the item's own partition no row that matches is in memory; a flush of another one changes nothing for it
module _ (parts q clock : ℕ) (item : Item) (f : ℕ → Row) (i : ℕ) where
  met_flushed : met item (flushed parts q clock f i) ≡ (items_match item (f i).item && (in_memory (f i) && not (eqb (part_of parts (f i).item) q)))
  met_flushed = ap₂ (λ (x : Item) (u : Bool). items_match item x && u) (flushed_item parts q clock f i) (flushed_memory parts q clock f i)

  pub met_gone : part_of parts item ≡ q → met item (flushed parts q clock f i) ≡ false
  met_gone e = met_flushed ∙ go (items_match item (f i).item) refl
    where
      go : (u : Bool) → items_match item (f i).item ≡ u → (u && (in_memory (f i) && not (eqb (part_of parts (f i).item) q))) ≡ false
      go true m = rw (eq-eqb (part_of parts (f i).item) q (sym (match_part parts item (f i).item m) ∙ e), and-false)
      go false m = refl

  pub met-kept : (part_of parts item ≡ q → ⊥) → met item (flushed parts q clock f i) ≡ met item (f i)
  met-kept e = met_flushed ∙ go (items_match item (f i).item) refl
    where
      go : (u : Bool) → items_match item (f i).item ≡ u → (u && (in_memory (f i) && not (eqb (part_of parts (f i).item) q))) ≡ (u && in_memory (f i))
      go true m = rw (ne_eqb (part_of parts (f i).item) q (λ d. e (match_part parts item (f i).item m ∙ d)), and-true)
      go false m = refl
