-- The pairs from a position on are those left from its row and column on: the rows before it fall away, and its own is cut.
-- Assumes nothing.
use Rattle.std.proofs.Common.{◌≡◌, refl, sym, ap, ap₂, ◌∙◌, Bool, List, [], ◌++◌, map, ℕ, zero, suc, ◌+◌, ◌*◌, ◌-◌, ◌/◌, ◌%◌, ◌≤◌, ◌<◌, le_trans, zero-add, add-zero, suc-mul, mul_comm, mul-le-mul_right, div-add-mod', mod-lt, pos_of_ne-zero, leb, le-leb, arith}
use Rattle.std.proofs.Math.Nat.{div-le_of_le-mul}
use Rattle.std.proofs.lemmas.Bool.{lt-leb}
use Rattle.stamps.specs.Counting.{span, keep}
use Rattle.stamps.proofs.CountingLaws.{keep_append, keep_comm, keep-map, span_all, span_skip}
use Rattle.stamps.specs.declared.Source.{Source}
use Rattle.sheets.specs.Layout.{Pair}
use Rattle.pairs.specs.Pairs.{Table, across, down, every, position, wanted, wanted_pairs, pairs_from, left_rows, left_from, Writes}
use Rattle.pairs.specs.declared.rooms.Written.{Written}
use Rattle.pairs.specs.declared.walks.Scope.{Scope}

module _ (m k : ℕ) where
  abbrev later : Pair → Bool
  later p = leb k (p.a * m + p.b)

  -- a row's pairs, by their columns
  later_across : (i j n : ℕ) → keep later (across i j n) ≡ map (λ b. record { a = i; b = b }) (keep (λ b. leb k (i * m + b)) (span j n))
  later_across i j n = keep-map (λ b. record { a = i; b = b }) later (span j n)

  all_across : (i j n : ℕ) → k ≤ i * m + j → keep later (across i j n) ≡ across i j n
  all_across i j n h = later_across i j n ∙ ap (map _) (span_all (λ b. leb k (i * m + b)) j n (λ b c. le-leb k (i * m + b) (omega arith)))

  all_down : (i n : ℕ) → k ≤ i * m → keep later (down i n m) ≡ down i n m
  all_down i zero h = refl
  all_down i (suc n) h = keep_append later (across i 0 m) (down (suc i) n m)
      ∙ ap₂ ◌++◌ (all_across i 0 m (omega arith)) (all_down (suc i) n (rw suc-mul (omega arith)))

  -- the first d columns of a row fall away
  cut_across : (i j d n : ℕ) → i * m + (j + d) ≤ k → keep later (across i j (d + n)) ≡ keep later (across i (j + d) n)
  cut_across i j d n h = later_across i j (d + n) ∙ ap (map _) (span_skip (λ b. leb k (i * m + b)) j d n (λ b c f. lt-leb k (i * m + b) (omega arith)))
      ∙ sym (later_across i (j + d) n)

  none_across : (i n : ℕ) → i * m + n ≤ k → keep later (across i 0 n) ≡ []
  none_across i n h = let e : n + 0 ≡ n = omega arith in rw e at (cut_across i 0 n 0 (omega arith))

  -- the first d rows fall away
  cut_down : (i d n : ℕ) → (i + d) * m ≤ k → keep later (down i (d + n) m) ≡ keep later (down (i + d) n m)
  cut_down i zero n h = rw (zero-add, add-zero)
  cut_down i (suc d) n h = let e : suc d + n ≡ suc (d + n) = omega arith in let f : suc i + d ≡ i + suc d = omega arith in
      rw (e, ← f) (keep_append later (across i 0 m) (down (suc i) (d + n) m)
      ∙ rw (none_across i m (omega (arith, suc-mul i m, first))) (cut_down (suc i) d n (rw f h)))
    where
      first : suc i * m ≤ k
      first = le_trans (mul-le-mul_right m (omega arith)) h

  -- what is left of n rows from row i, column j on
  pub left-later : (i j n : ℕ) → i ≤ n → j < m → k ≡ i * m + j → keep later (down 0 n m) ≡ left_rows m i j (n - i)
  left-later i j n h b e = let s : i + (n - i) ≡ n = omega arith in
      ap (λ (r : ℕ). keep later (down 0 r m)) (sym s) ∙ cut_down 0 i (n - i) (rw zero-add (omega arith)) ∙ rw zero-add (own (n - i))
    where
      row : keep later (across i 0 m) ≡ across i j (m - j)
      row = let f : j + (m - j) ≡ m = omega arith in
          ap (λ (c : ℕ). keep later (across i 0 c)) (sym f) ∙ cut_across i 0 j (m - j) (omega arith) ∙ rw zero-add (all_across i j (m - j) (omega arith))

      own : (r : ℕ) → keep later (down i r m) ≡ left_rows m i j r
      own zero = refl
      own (suc r) = keep_append later (across i 0 m) (down (suc i) r m) ∙ ap₂ ◌++◌ row (all_down (suc i) r (rw suc-mul (omega arith)))

-- from a spot, as from its position
pub left-position : (scope : Scope) (t : Table) (k : ℕ) → (t.b.count ≡ 0 → ⊥) → k ≤ t.a.count * t.b.count
    → left_from scope t (k / t.b.count) (k % t.b.count) ≡ pairs_from scope k t
unfolding pairs_from wanted_pairs
left-position scope t k z h =
    sym (keep_comm (λ p. leb k (position t p)) (wanted scope t) (every t)
    ∙ ap (keep (wanted scope t)) (left-later t.b.count k (k / t.b.count) (k % t.b.count) t.a.count
    (div-le_of_le-mul t.b.count (rw mul_comm at h)) (mod-lt k (pos_of_ne-zero z)) (sym (div-add-mod' k t.b.count))))

-- no columns, no pairs
pub none_position : (scope : Scope) (t : Table) (k : ℕ) → t.b.count ≡ 0 → pairs_from scope k t ≡ []
unfolding pairs_from wanted_pairs
none_position scope t k z = rw (z, empty 0 t.a.count)
  where
    empty : (i n : ℕ) → down i n 0 ≡ []
    empty i zero = refl
    empty i (suc n) = empty (suc i) n

pub writes_from : (s : Source) (scope : Scope) (t : Table) (k room : ℕ) (o o' : List ℕ) (r : Written) → (t.b.count ≡ 0 → ⊥) → k ≤ t.a.count * t.b.count
    → Writes s t (left_from scope t (k / t.b.count) (k % t.b.count)) k room o o' r → Writes s t (pairs_from scope k t) k room o o' r
writes_from s scope t k room o o' r z h w = rw (← left-position scope t k z h) w
