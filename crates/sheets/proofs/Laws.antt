-- What the layers above may know of the sheets: what is laid is read back, and every other word stays.
-- By induction on the rows laid. Assumes nothing.
use Rattle.std.proofs.Common.{◌≡◌, refl, sym, ap, ap₂, ◌∙◌, Bool, true, false, cond, not, ◌&&◌, true≢false, List, [], ◌∷◌, ◌++◌, ℕ, zero, suc, ◌+◌, ◌*◌, ◌≤◌, ◌<◌, max, add-zero, ltb, eqb, length, get_or, length-append, lt-ltb, eqb-true, eq-eqb, ne_eqb, arith}
use Rattle.std.proofs.Math.Path.{fun_ext}
use Rattle.std.proofs.lemmas.Bool.{eqb-false}
use Rattle.stamps.specs.declared.Source.{Source}
use Rattle.stamps.specs.declared.Source.TheVariants.{A, B}
use Rattle.stamps.specs.declared.Row.{Row}
use Rattle.stamps.specs.declared.Entry.{Entry}
use Rattle.stamps.specs.Counting.{bit, tally, up_to}
use Rattle.stamps.proofs.CountingLaws.{tests, one_more, tally_le, kept_last, length-kept}
use Rattle.stamps.specs.Keys.{part_of}
use Rattle.stamps.specs.Stamps.{in_memory, stamp}
use Rattle.sheets.specs.Layout.{rows_need, row_at, put_row, list_no, list_need, entry_at, put_entry}
use Rattle.sheets.proofs.LayoutLaws.{length-put_row, row_same, row_other, row_beyond, entry_same, entry_other, row-again}
use Rattle.sheets.specs.Lists.{entries, list_of, probed_at}
use Rattle.sheets.specs.Rows.{hot, spooled, memory_rows, portion_rows, latest, flushed, leave, hot_rows}

-- ---- rows laid over a sheet

-- the first n rows of f laid over a sheet, every other word as it was
unfoldable pub lay : (ℕ → Row) → ℕ → List ℕ → List ℕ
lay f zero l = l
lay f (suc n) l = put_row n (f n) (lay f n l)

length-lay : (f : ℕ → Row) (n : ℕ) (l : List ℕ) → length (lay f n l) ≡ length l
unfolding lay
length-lay f zero l = refl
length-lay f (suc n) l = length-put_row n (f n) (lay f n l) ∙ length-lay f n l

-- a row that is not laid stays
pub row_above : (f : ℕ → Row) (n : ℕ) (l : List ℕ) (i : ℕ) → n ≤ i → row_at (lay f n l) i ≡ row_at l i
unfolding lay
row_above f zero l i h = refl
row_above f (suc n) l i h = row_other (lay f n l) n (f n) i (omega arith) ∙ row_above f n l i (omega arith)

-- and so does every word beyond
lay_beyond : (f : ℕ → Row) (n : ℕ) (l : List ℕ) (p : ℕ) → rows_need n ≤ p → get_or (lay f n l) p 0 ≡ get_or l p 0
unfolding lay
lay_beyond f zero l p h = refl
lay_beyond f (suc n) l p h = row_beyond (lay f n l) n (f n) p h ∙ lay_beyond f n l p (omega arith)

-- what is laid is read back
rows-lay : (f : ℕ → Row) (n : ℕ) (l : List ℕ) → rows_need n ≤ length l → row_at (lay f n l) ≡ up_to n f (row_at l)
unfolding lay
rows-lay f n l h = fun_ext λ i. go i n h (ltb i n) refl
  where
    go : (i n : ℕ) → rows_need n ≤ length l → (u : Bool) → ltb i n ≡ u → row_at (lay f n l) i ≡ cond u (f i) (row_at l i)
    go i n b false e = row_above f n l i (omega (arith, tests))
    go i zero b true e = absurd (omega (arith, tests))
    go i (suc n) b true e =
        one_more (λ k. row_at (lay f (suc n) l) k ≡ f k) n (λ k c. row_other (lay f n l) n (f n) k (omega arith) ∙ go k n (omega arith) true (lt-ltb k n c))
        (row_same (lay f n l) n (f n) (rw length-lay b)) i (omega (arith, tests))

-- rows that leave one after the other, and more after them
leave-append : (clock : ℕ) (is js : List ℕ) (l : List ℕ) → leave clock (is ++ js) l ≡ leave (clock + length is) js (leave clock is l)
unfolding leave
leave-append clock [] js l = rw add-zero
leave-append clock (i ∷ is) js l = let e : suc clock + length is ≡ clock + suc (length is) = omega arith in rw (leave-append (suc clock) is js (put_row i (stamp (suc clock) (row_at l i)) l), e)

-- where a portion's memory rows leave, the rows after the flush are laid over those before it
pub leave_is : (parts q clock : ℕ) (l : List ℕ) (n : ℕ) → leave clock (hot_rows parts q (row_at l) n) l ≡ lay (flushed parts q clock (row_at l)) n l
unfolding leave lay
leave_is parts q clock l zero = refl
leave_is parts q clock l (suc n) =
    ap (λ (is : List ℕ). leave clock is l) (kept_last (λ i. hot parts q (row_at l i)) n)
    ∙ leave-append clock (hot_rows parts q (row_at l) n) _ l
    ∙ rw (leave_is parts q clock l n, length-kept (λ i. hot parts q (row_at l i)) n) (go (hot parts q (row_at l n)))
  where
    before : List ℕ
    before = lay (flushed parts q clock (row_at l)) n l

    ahead : row_at before n ≡ row_at l n
    ahead = row_above (flushed parts q clock (row_at l)) n l n (omega arith)

    go : (u : Bool) → leave (clock + portion_rows parts q (row_at l) n) (cond u (n ∷ []) []) before
        ≡ put_row n (cond u (stamp (clock + (portion_rows parts q (row_at l) n + bit u)) (row_at l n)) (row_at l n)) before
    go true = let e : clock + (portion_rows parts q (row_at l) n + 1) ≡ suc (clock + portion_rows parts q (row_at l) n) = omega arith in rw (ahead, e)
    go false = rw (← ahead) (sym (row-again before n))

pub rows-leave : (parts q clock : ℕ) (l : List ℕ) (n : ℕ) → rows_need n ≤ length l
    → row_at (leave clock (hot_rows parts q (row_at l) n) l) ≡ up_to n (flushed parts q clock (row_at l)) (row_at l)
rows-leave parts q clock l n h = ap row_at (leave_is parts q clock l n) ∙ rows-lay (flushed parts q clock (row_at l)) n l h

pub leave_beyond : (parts q clock : ℕ) (l : List ℕ) (n p : ℕ) → rows_need n ≤ p → get_or (leave clock (hot_rows parts q (row_at l) n) l) p 0 ≡ get_or l p 0
leave_beyond parts q clock l n p h = ap (λ (m : List ℕ). get_or m p 0) (leave_is parts q clock l n) ∙ lay_beyond (flushed parts q clock (row_at l)) n l p h

pub length-leave : (clock : ℕ) (is l : List ℕ) → length (leave clock is l) ≡ length l
unfolding leave
length-leave clock [] l = refl
length-leave clock (i ∷ is) l = length-leave (suc clock) is _ ∙ length-put_row i _ l

-- one row written
pub rows-put : (l : List ℕ) (n : ℕ) (x : Row) → rows_need (suc n) ≤ length l → row_at (put_row n x l) ≡ (λ i. cond (eqb i n) x (row_at l i))
rows-put l n x h = fun_ext λ i. go i (eqb i n) refl
  where
    go : (i : ℕ) (u : Bool) → eqb i n ≡ u → row_at (put_row n x l) i ≡ cond u x (row_at l i)
    go i true e = rw (eqb-true i n e) (row_same l n x h)
    go i false e = row_other l n x i (eqb-false i n e)

-- ---- probe lists

pub probed_last : (clock : ℕ) (es : List Entry) (e : Entry) → probed_at clock (es ++ (e ∷ [])) ≡ eqb e.probe clock
unfolding probed_at
probed_last clock [] e = refl
probed_last clock (f ∷ []) e = refl
probed_last clock (f ∷ g ∷ es) e = probed_last clock (g ∷ es) e

pub length-entries : (probe : List ℕ) (k n : ℕ) → length (entries probe k n) ≡ n
unfolding entries
length-entries probe k zero = refl
length-entries probe k (suc n) = length-append (entries probe k n) (entry_at probe k n ∷ []) ∙ omega (arith, length-entries probe k n)

-- the list of a portion, and its length
pub list_entries : (parts : ℕ) (counts probe : List ℕ) (s : Source) (q : ℕ) → q < parts
    → list_of parts counts probe s q ≡ entries probe (list_no parts s q) (get_or counts (list_no parts s q) 0)
unfolding list_of
list_entries parts counts probe s q h = rw (lt-ltb q parts h)

pub length_list : (parts : ℕ) (counts probe : List ℕ) (s : Source) (q : ℕ) → q < parts → length (list_of parts counts probe s q) ≡ get_or counts (list_no parts s q) 0
length_list parts counts probe s q h = ap length (list_entries parts counts probe s q h) ∙ length-entries probe (list_no parts s q) (get_or counts (list_no parts s q) 0)

-- it stands among those of the probe sheet
pub list_small : (parts : ℕ) (s : Source) (q : ℕ) → q < parts → list_no parts s q < 2 * parts
list_small parts A q h = omega arith
list_small parts B q h = omega arith

-- one entry more in list k, which had n: the other lists, and the entries before it, stay
pub entries_other : (probe : List ℕ) (k n : ℕ) (x : Entry) (k' m : ℕ) → (k' ≡ k → m ≤ n) → n < 32 → m ≤ 32 → entries (put_entry k n x probe) k' m ≡ entries probe k' m
unfolding entries
entries_other probe k n x k' zero d h b = refl
entries_other probe k n x k' (suc m) d h b = ap₂ (λ (es : List Entry) (e : Entry). es ++ (e ∷ []))
    (entries_other probe k n x k' m (λ g. omega (arith, d g)) h (omega arith)) (entry_other probe k n x k' m (λ g. omega (arith, d g)) h (omega arith))

pub entries_new : (probe : List ℕ) (k n : ℕ) (x : Entry) → n < 32 → list_need k (suc n) ≤ length probe
    → entries (put_entry k n x probe) k (suc n) ≡ entries probe k n ++ (x ∷ [])
unfolding entries
entries_new probe k n x h b = ap₂ (λ (es : List Entry) (e : Entry). es ++ (e ∷ [])) (entries_other probe k n x k n (λ g. omega arith) h (omega arith)) (entry_same probe k n x b)

-- a portion has no spooled row exactly if its largest DTS is 0
pub latest_none : (parts q : ℕ) (f : ℕ → Row) (n : ℕ) → eqb (latest parts q f n) 0 ≡ eqb (tally (λ i. spooled parts q (f i)) n) 0
latest_none parts q f n = go (eqb (tally (λ i. spooled parts q (f i)) n) 0) refl
  where
    stamped : (i : ℕ) → spooled parts q (f i) ≡ true → (f i).dts ≡ 0 → ⊥
    stamped i e z = let h : spooled parts q (f i) ≡ false = rw (eq-eqb (f i).dts 0 z) in true≢false (sym e ∙ h)

    zeros : (n : ℕ) → tally (λ i. spooled parts q (f i)) n ≡ 0 → latest parts q f n ≡ 0
    zeros zero h = refl
    zeros (suc n) h = at (spooled parts q (f n)) h (zeros n)
      where
        at : (u : Bool) → tally (λ i. spooled parts q (f i)) n + bit u ≡ 0 → (tally (λ i. spooled parts q (f i)) n ≡ 0 → latest parts q f n ≡ 0)
            → max (latest parts q f n) (cond u (f n).dts 0) ≡ 0
        at true h ih = absurd (omega arith)
        at false h ih = omega (arith, ih (omega arith))

    some : (n : ℕ) → latest parts q f n ≡ 0 → tally (λ i. spooled parts q (f i)) n ≡ 0
    some zero h = refl
    some (suc n) h = at (spooled parts q (f n)) refl h (some n)
      where
        at : (u : Bool) → spooled parts q (f n) ≡ u → max (latest parts q f n) (cond u (f n).dts 0) ≡ 0 → (latest parts q f n ≡ 0 → tally (λ i. spooled parts q (f i)) n ≡ 0)
            → tally (λ i. spooled parts q (f i)) n + bit u ≡ 0
        at true e h ih = absurd (stamped n e (omega arith))
        at false e h ih = omega (arith, ih (omega arith))

    go : (u : Bool) → eqb (tally (λ i. spooled parts q (f i)) n) 0 ≡ u → eqb (latest parts q f n) 0 ≡ u
    go true e = eq-eqb _ 0 (zeros n (eqb-true _ 0 e))
    go false e = ne_eqb _ 0 (λ h. eqb-false _ 0 e (some n h))

-- ---- the rows after a flush

pub flushed_item : (parts q clock : ℕ) (f : ℕ → Row) (i : ℕ) → (flushed parts q clock f i).item ≡ (f i).item
flushed_item parts q clock f i = go (hot parts q (f i)) (clock + portion_rows parts q f (suc i))
  where
    go : (u : Bool) (t : ℕ) → (cond u (stamp t (f i)) (f i)).item ≡ (f i).item
    go true t = refl
    go false t = refl

-- a flush leaves in memory what was there and is not of the portion
pub flushed_memory : (parts q clock : ℕ) (f : ℕ → Row) (i : ℕ)
    → in_memory (flushed parts q clock f i) ≡ (in_memory (f i) && not (eqb (part_of parts (f i).item) q))
flushed_memory parts q clock f i = go (in_memory (f i)) (eqb (part_of parts (f i).item) q) refl refl
  where
    go : (u v : Bool) → in_memory (f i) ≡ u → eqb (part_of parts (f i).item) q ≡ v
        → in_memory (cond (u && v) (stamp (clock + (portion_rows parts q f i + bit (u && v))) (f i)) (f i)) ≡ (u && not v)
    go true true e g = ne_eqb (clock + (portion_rows parts q f i + 1)) 0 (omega arith)
    go true false e g = e
    go false v e g = e

-- no more memory rows than rows
pub memory_few : (f : ℕ → Row) (n r : ℕ) → r ≡ memory_rows f n → r ≤ n
memory_few f n r e = rw e (tally_le (λ i. in_memory (f i)) n)
