-- What is written in words is read back, and the other words stay. By where each word stands; omega settles which words differ.
-- Assumes nothing.
use Rattle.std.specs.Prelude.{◌≡◌, refl, true, ◌≢◌, List, [], ◌∷◌, ℕ, zero, suc, ◌+◌, ◌*◌, ◌≤◌, ◌<◌, length, get_or, set, take, drop}
use Rattle.std.proofs.Common.{sym, ◌∙◌, add-zero, arith, add-one, length-set, drop-cons, get_or-set_same, get_or-set_other, eq-eqb}
use Rattle.std.proofs.lemmas.List.Edits.{sets}
use Rattle.std.proofs.Math.Seq.{length-sets}
use Rattle.std.proofs.lemmas.List.{set-get_or}
use Rattle.stamps.specs.declared.Row.{Row}
use Rattle.stamps.specs.declared.Entry.{Entry}
use Rattle.sheets.specs.Layout.{rows_need, row_at, row_words, put_row, list_need, entry_at, entry_words, put_entry, Shown, same_shown, Told, pairs_need, pair_at, pair_words, put_pair, Single, singles_need, single_at, single_words, put_single}

-- ---- a block of words

sets_other : (vs l : List ℕ) (i p : ℕ) → ((k : ℕ) → k < length vs → p ≢ i + k) → get_or (sets l i vs) p 0 ≡ get_or l p 0
sets_other [] l i p h = refl
sets_other (v ∷ vs) l i p h =
    sets_other vs (set l i v) (suc i) p (λ k b e. h (suc k) (omega arith) (omega arith)) ∙ get_or-set_other l i p v 0 (λ e. h 0 (omega arith) (omega arith))

sets_same : (vs l : List ℕ) (i j p : ℕ) → p ≡ i + j → j < length vs → i + length vs ≤ length l → get_or (sets l i vs) p 0 ≡ get_or vs j 0
sets_same [] l i j p e h b = absurd (omega arith)
sets_same (v ∷ vs) l i zero p e h b = sets_other vs (set l i v) (suc i) p (λ k c f. omega arith) ∙ rw (e, add-zero i) (get_or-set_same l i v 0 (omega arith))
sets_same (v ∷ vs) l i (suc j) p e h b = sets_same vs (set l i v) (suc i) j p (omega arith) (omega arith) (rw length-set (omega arith))

sets-again : (vs l : List ℕ) (i : ℕ) → ((k p : ℕ) → k < length vs → p ≡ i + k → get_or vs k 0 ≡ get_or l p 0) → sets l i vs ≡ l
sets-again [] l i h = refl
sets-again (v ∷ vs) l i h = let e : set l i v ≡ l = rw (h 0 i (omega arith) (omega arith)) (set-get_or l i 0) in
    rw e (sets-again vs l (suc i) (λ k p b g. h (suc k) p (omega arith) (omega arith)))

-- some words from one on: it, and those behind it
words_more : (l : List ℕ) (i k : ℕ) → i < length l → take (suc k) (drop i l) ≡ get_or l i 0 ∷ take k (drop (i + 1) l)
words_more l i k h = rw (drop-cons l i 0 h, add-one i)

-- ---- rows

pub length-put_row : (r : ℕ) (x : Row) (l : List ℕ) → length (put_row r x l) ≡ length l
unfolding put_row
length-put_row r x l = length-sets l (3 * r) (row_words x)

pub row_same : (l : List ℕ) (r : ℕ) (x : Row) → rows_need (suc r) ≤ length l → row_at (put_row r x l) r ≡ x
unfolding row_at put_row
row_same l r x h = λ i. record { item = record { key = word 0 (3 * r) (omega arith) (omega arith) i }; ats = word 1 (3 * r + 1) refl (omega arith) i; dts = word 2 (3 * r + 2) refl (omega arith) i }
  where
    word : (j p : ℕ) → p ≡ 3 * r + j → j < 3 → get_or (sets l (3 * r) (row_words x)) p 0 ≡ get_or (row_words x) j 0
    word j p e b = sets_same (row_words x) l (3 * r) j p e b (omega arith)

pub row_other : (l : List ℕ) (r : ℕ) (x : Row) (i : ℕ) → i ≢ r → row_at (put_row r x l) i ≡ row_at l i
unfolding row_at put_row
row_other l r x i d = λ k. record { item = record { key = word 0 (3 * i) (omega arith) (omega arith) k }; ats = word 1 (3 * i + 1) refl (omega arith) k; dts = word 2 (3 * i + 2) refl (omega arith) k }
  where
    word : (j p : ℕ) → p ≡ 3 * i + j → j < 3 → get_or (sets l (3 * r) (row_words x)) p 0 ≡ get_or l p 0
    word j p e b = sets_other (row_words x) l (3 * r) p (λ k c f. d (omega arith))

-- a word beyond a row's is as it was
pub row_beyond : (l : List ℕ) (r : ℕ) (x : Row) (p : ℕ) → rows_need (suc r) ≤ p → get_or (put_row r x l) p 0 ≡ get_or l p 0
unfolding put_row
row_beyond l r x p h = sets_other (row_words x) l (3 * r) p (λ k b e. omega arith)

-- laying what is already there changes nothing
pub row-again : (l : List ℕ) (r : ℕ) → put_row r (row_at l r) l ≡ l
unfolding put_row row_at
row-again l r = sets-again (row_words (row_at l r)) l (3 * r) word
  where
    word : (k p : ℕ) → k < 3 → p ≡ 3 * r + k → get_or (row_words (row_at l r)) k 0 ≡ get_or l p 0
    word zero p b e = let f : p ≡ 3 * r = omega arith in rw f
    word (suc zero) p b e = let f : p ≡ 3 * r + 1 = omega arith in rw f
    word (suc (suc zero)) p b e = let f : p ≡ 3 * r + 2 = omega arith in rw f
    word (suc (suc (suc k))) p b e = absurd (omega arith)

-- ---- entries

pub length-put_entry : (k e : ℕ) (x : Entry) (l : List ℕ) → length (put_entry k e x l) ≡ length l
unfolding put_entry
length-put_entry k e x l = length-sets l (64 * k + 2 * e) (entry_words x)

pub entry_same : (l : List ℕ) (k e : ℕ) (x : Entry) → list_need k (suc e) ≤ length l → entry_at (put_entry k e x l) k e ≡ x
unfolding entry_at put_entry
entry_same l k e x h = λ i. record { last = word 0 (64 * k + 2 * e) (omega arith) (omega arith) i; probe = word 1 (64 * k + 2 * e + 1) refl (omega arith) i }
  where
    word : (j p : ℕ) → p ≡ 64 * k + 2 * e + j → j < 2 → get_or (sets l (64 * k + 2 * e) (entry_words x)) p 0 ≡ get_or (entry_words x) j 0
    word j p d b = sets_same (entry_words x) l (64 * k + 2 * e) j p d b (omega arith)

-- of lists with at most 32 entries, no two have a word in common
pub entry_other : (l : List ℕ) (k e : ℕ) (x : Entry) (k' e' : ℕ) → (k' ≡ k → e' ≢ e) → e < 32 → e' < 32 → entry_at (put_entry k e x l) k' e' ≡ entry_at l k' e'
unfolding entry_at put_entry
entry_other l k e x k' e' d h b = λ i. record { last = word 0 (64 * k' + 2 * e') (omega arith) (omega arith) i; probe = word 1 (64 * k' + 2 * e' + 1) refl (omega arith) i }
  where
    apart : (j i : ℕ) → j < 2 → i < 2 → 64 * k' + 2 * e' + j ≡ 64 * k + 2 * e + i → ⊥
    apart j i c f g = let s : k' ≡ k = omega arith in d s (omega arith)

    word : (j p : ℕ) → p ≡ 64 * k' + 2 * e' + j → j < 2 → get_or (sets l (64 * k + 2 * e) (entry_words x)) p 0 ≡ get_or l p 0
    word j p g c = sets_other (entry_words x) l (64 * k + 2 * e) p (λ i f q. apart j i c f (sym g ∙ q))

-- ---- pairs

pub shown_own : (x : Shown) → same_shown x x ≡ true
unfolding same_shown
shown_own x = eq-eqb x.key x.key refl

pub length-put_pair : (w : ℕ) (x : Told) (o : List ℕ) → length (put_pair w x o) ≡ length o
unfolding put_pair
length-put_pair w x o = length-sets o (3 * w) (pair_words x)

pub pair_same : (o : List ℕ) (w : ℕ) (x : Told) → pairs_need (suc w) ≤ length o → pair_at (put_pair w x o) w ≡ x
unfolding pair_at put_pair
pair_same o w x h = λ i. record { a = word 0 (3 * w) (omega arith) (omega arith) i; b = word 1 (3 * w + 1) refl (omega arith) i; shown = record { key = word 2 (3 * w + 2) refl (omega arith) i } }
  where
    word : (j p : ℕ) → p ≡ 3 * w + j → j < 3 → get_or (sets o (3 * w) (pair_words x)) p 0 ≡ get_or (pair_words x) j 0
    word j p e b = sets_same (pair_words x) o (3 * w) j p e b (omega arith)

pub pair_other : (o : List ℕ) (w : ℕ) (x : Told) (i : ℕ) → i ≢ w → pair_at (put_pair w x o) i ≡ pair_at o i
unfolding pair_at put_pair
pair_other o w x i d = λ k. record { a = word 0 (3 * i) (omega arith) (omega arith) k; b = word 1 (3 * i + 1) refl (omega arith) k; shown = record { key = word 2 (3 * i + 2) refl (omega arith) k } }
  where
    word : (j p : ℕ) → p ≡ 3 * i + j → j < 3 → get_or (sets o (3 * w) (pair_words x)) p 0 ≡ get_or o p 0
    word j p e b = sets_other (pair_words x) o (3 * w) p (λ k c f. d (omega arith))

-- its words, as they stand there
pub pair_read : (o : List ℕ) (w : ℕ) → pairs_need (suc w) ≤ length o → take 3 (drop (3 * w) o) ≡ pair_words (pair_at o w)
unfolding pair_at
pair_read o w h = let q : 3 * w + 1 + 1 ≡ 3 * w + 2 = omega arith in
    rw (words_more o (3 * w) 2 (omega arith), words_more o (3 * w + 1) 1 (omega arith), words_more o (3 * w + 1 + 1) 0 (omega arith), q)

-- ---- rows by themselves

pub length-put_single : (w : ℕ) (x : Single) (o : List ℕ) → length (put_single w x o) ≡ length o
unfolding put_single
length-put_single w x o = length-sets o (2 * w) (single_words x)

pub single_same : (o : List ℕ) (w : ℕ) (x : Single) → singles_need (suc w) ≤ length o → single_at (put_single w x o) w ≡ x
unfolding single_at put_single
single_same o w x h = λ i. record { row = word 0 (2 * w) (omega arith) (omega arith) i; key = word 1 (2 * w + 1) refl (omega arith) i }
  where
    word : (j p : ℕ) → p ≡ 2 * w + j → j < 2 → get_or (sets o (2 * w) (single_words x)) p 0 ≡ get_or (single_words x) j 0
    word j p e b = sets_same (single_words x) o (2 * w) j p e b (omega arith)

pub single_other : (o : List ℕ) (w : ℕ) (x : Single) (i : ℕ) → i ≢ w → single_at (put_single w x o) i ≡ single_at o i
unfolding single_at put_single
single_other o w x i d = λ k. record { row = word 0 (2 * i) (omega arith) (omega arith) k; key = word 1 (2 * i + 1) refl (omega arith) k }
  where
    word : (j p : ℕ) → p ≡ 2 * i + j → j < 2 → get_or (sets o (2 * w) (single_words x)) p 0 ≡ get_or o p 0
    word j p e b = sets_other (single_words x) o (2 * w) p (λ k c f. d (omega arith))

-- its words, as they stand there
pub single-read : (o : List ℕ) (w : ℕ) → singles_need (suc w) ≤ length o → take 2 (drop (2 * w) o) ≡ single_words (single_at o w)
unfolding single_at
single-read o w h = rw (words_more o (2 * w) 1 (omega arith), words_more o (2 * w + 1) 0 (omega arith))
