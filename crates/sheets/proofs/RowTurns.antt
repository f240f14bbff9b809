-- The turns of the loops over one sheet's rows: each invariant speaks of what is done so far, and each way through a turn is a lemma.
-- Assumes nothing.
use Rattle.std.proofs.Common.{subst, ◌≡◌, refl, sym, ◌∙◌, Bool, true, false, cond, List, ℕ, zero, suc, ◌+◌, ◌≤◌, ◌<◌, add-one, eqb, length, get_or, set, replicate, take, length-take-le, eqb-true, eq-eqb, ne_eqb, arith}
use Rattle.std.proofs.lemmas.Bool.{eqb-false}
use Rattle.std.proofs.lemmas.List.{get_or-take}
use Rattle.stamps.specs.declared.Row.{Row}
use Rattle.stamps.specs.Counting.{values}
use Rattle.stamps.proofs.CountingLaws.{tally_le, length-values, values-at, values_cong, set_values, length-kept}
use Rattle.stamps.specs.Keys.{part_of}
use Rattle.stamps.specs.Stamps.{in_memory, stamp}
use Rattle.sheets.specs.Layout.{row_at, put_row}
use Rattle.sheets.proofs.LayoutLaws.{row-again}
use Rattle.sheets.specs.Rows.{hot, portion_rows, flushed, Held, first_largest, largest_part, Flushes}
use Rattle.sheets.proofs.Laws.{row_above, leave_is, lay}
use Rattle.sheets.proofs.Victim.{first_within}

-- ---- a flush

-- the first i rows are passed, and done of them have left
pub record Flushing (parts q clock : ℕ) (l : List ℕ) (i done : ℕ) (l' : List ℕ) : Type 0 where
  pub few : done ≤ i
  pub counted : done ≡ portion_rows parts q (row_at l) i
  pub sheet : l' ≡ lay (flushed parts q clock (row_at l)) i l

pub flushing_first : (parts q clock : ℕ) (l : List ℕ) → Flushing parts q clock l 0 0 l
unfolding lay
flushing_first parts q clock l = record { few = omega arith; counted = refl; sheet = refl }

module _ (parts q clock : ℕ) (l : List ℕ) (i done : ℕ) (l' : List ℕ) (h : Flushing parts q clock l i done l') where
  -- a row that is still to come is as it was
  ahead : row_at l' i ≡ row_at l i
  ahead = rw h.sheet (row_above (flushed parts q clock (row_at l)) i l i (omega arith))

  pub flushing-hot : hot parts q (row_at l' i) ≡ true → Flushing parts q clock l (i + 1) (done + 1) (put_row i (stamp (clock + (done + 1)) (row_at l' i)) l')
  unfolding lay
  flushing-hot e = let g : hot parts q (row_at l i) ≡ true = rw ahead at e in
      let k : done + 1 ≡ portion_rows parts q (row_at l) (suc i) = rw g (omega (arith, h.counted)) in
      record { few = omega (arith, h.few); counted = rw (add-one i) k; sheet = rw (add-one i, ahead, k, g, ← h.sheet) }

  pub flushing_cold : hot parts q (row_at l' i) ≡ false → Flushing parts q clock l (i + 1) done l'
  unfolding lay
  flushing_cold e = let g : hot parts q (row_at l i) ≡ false = rw ahead at e in
      record { few = omega (arith, h.few); counted = rw (add-one i, g) (omega (arith, h.counted)); sheet = rw (add-one i, g, ← h.sheet, ← ahead) (sym (row-again l' i)) }

  pub flushing_end : Flushes parts q clock i l done l'
  flushing_end = record {
    count = h.counted ∙ sym (length-kept (λ k. hot parts q (row_at l k)) i);
    sheet = h.sheet ∙ sym (leave_is parts q clock l i);
    few = h.few;
  }

-- ---- the memory rows of each partition

-- the sizes of the portions, among the first i rows
abbrev pub sizes : ℕ → (ℕ → Row) → ℕ → List ℕ
sizes parts f i = values (λ q. portion_rows parts q f i) 16

pub sized_first : (parts : ℕ) (f : ℕ → Row) → replicate 16 0 ≡ sizes parts f 0
unfolding values
sized_first parts f = refl

module _ (parts : ℕ) (f : ℕ → Row) (i : ℕ) where
  pub sized_few : (q : ℕ) → q < 16 → get_or (sizes parts f i) q 0 ≤ i
  sized_few q b = rw (values-at (λ q. portion_rows parts q f i) 16 q 0 b) (tally_le (λ k. hot parts q (f k)) i)

  pub sized_none : in_memory (f i) ≡ false → sizes parts f i ≡ sizes parts f (i + 1)
  sized_none e = rw (add-one i) (values_cong (λ q. portion_rows parts q f i) (λ q. portion_rows parts q f (suc i)) 16 λ q b. rw e (omega arith))

  pub sized_one : (p : ℕ) → p < 16 → in_memory (f i) ≡ true → p ≡ part_of parts (f i).item → set (sizes parts f i) p (get_or (sizes parts f i) p 0 + 1) ≡ sizes parts f (i + 1)
  sized_one p b e d = rw (add-one i, values-at (λ q. portion_rows parts q f i) 16 p 0 b, set_values)
      (values_cong (λ q. cond (eqb q p) (portion_rows parts p f i + 1) (portion_rows parts q f i)) (λ q. portion_rows parts q f (suc i)) 16 λ q b. go q (eqb q p) refl)
    where
      go : (q : ℕ) (u : Bool) → eqb q p ≡ u → cond u (portion_rows parts p f i + 1) (portion_rows parts q f i) ≡ portion_rows parts q f (suc i)
      go q true g =
          let same : p ≡ q = sym (eqb-true q p g) in
          let P : ℕ → Type 0 = λ k. portion_rows parts p f i + 1 ≡ portion_rows parts k f (suc i) in subst P same (rw (e, ← d, eq-eqb p p refl))
      go q false g = rw (e, ← d, ne_eqb p q (λ s. eqb-false q p g (sym s))) (omega arith)

-- ---- the victim

first_cong : (f g : ℕ → ℕ) (n m : ℕ) → n ≤ m → ((q : ℕ) → q < m → f q ≡ g q) → first_largest f n ≡ first_largest g n
first_cong f g zero m b h = refl
first_cong f g (suc n) m b h =
    rw (first_cong f g n m (omega arith) h, h n (omega arith), h (first_largest g n) (first_within g n m (omega arith) (omega arith)))

-- the sizes are read off the array of `count_portions`, as many as there are partitions
pub largest_is : (parts : ℕ) (h : Held) (sizes : List ℕ) → parts ≤ 16 → sizes ≡ values h.portion 16
    → first_largest (λ q. get_or (take parts sizes) q 0) (length (take parts sizes)) ≡ largest_part parts h
unfolding largest_part
largest_is parts h sizes b e = let long : length (take parts sizes) ≡ parts = length-take-le parts sizes (rw (e, length-values) b) in
    rw long (first_cong (λ q. get_or (take parts sizes) q 0) h.portion parts parts (omega arith) λ q c. get_or-take parts sizes q 0 c ∙ rw e (values-at h.portion 16 q 0 (omega arith)))
