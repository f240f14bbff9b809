-- Laws of counting and choosing, and the tests as a ruleset for omega. By induction on the count or the list.
-- Assumes nothing.
use Rattle.std.specs.Prelude.{◌≡◌, ◌≢◌, refl, Bool, true, false, cond, ◌&&◌, List, [], ◌∷◌, ◌++◌, map, ℕ, zero, suc, ◌+◌, ◌*◌, ◌-◌, ◌≤◌, ◌<◌, eqb, length, get_or, set}
use Rattle.std.proofs.Common.{sym, ap, ◌∙◌, subst, le_refl, zero-add, add-zero, arith, add-one, length-append, length-set, ext_get_or, get_or-set_same, get_or-set_other, ltb-true, ltb-false, leb-true, leb-false, eqb-true}
use Rattle.std.proofs.lemmas.Bool.{and_parts, eqb-false}
use Rattle.std.proofs.Math.ListN.{get_or-append}
use Rattle.std.proofs.lemmas.List.{get_or_at}
use Rattle.stamps.specs.Counting.{bit, tally, top, values, span, all_of, keep, count}

-- ---- tests

-- a test of equality that fails, as std says it
pub eqb_ne : (i j : ℕ) → eqb i j ≡ false → i ≢ j
eqb_ne i j = eqb-false i j

-- both halves of a test that holds, as std says it
pub both : (u v : Bool) → (u && v) ≡ true → (u ≡ true) × (v ≡ true)
both u v h = and_parts u v h

-- what a test says, where `tests` of std says nothing of an equation that fails
pub ruleset tests = (ltb-true, ltb-false, leb-true, leb-false, eqb-true, eqb-false)

-- what holds below n, and at n, holds below n + 1
pub one_more : (P : ℕ → Type 0) (n : ℕ) → ((k : ℕ) → k < n → P k) → P n → (k : ℕ) → k < suc n → P k
one_more P n h last k b = go (eqb k n) refl
  where
    go : (u : Bool) → eqb k n ≡ u → P k
    go true e = subst P (sym (eqb-true k n e)) last
    go false e = h k (omega (arith, tests))

-- what a list of tests says, test by test
abbrev pub Each : List Bool → Type 0
Each [] = Unit
Each (b ∷ bs) = (b ≡ true) × Each bs

pub each : (bs : List Bool) → all_of bs ≡ true → Each bs
each [] h = tt
each (b ∷ []) h = (h, tt)
each (b ∷ c ∷ bs) h = let p = and_parts b (all_of (c ∷ bs)) h in (p.0, each (c ∷ bs) p.1)

-- five tests, joined from the left
pub all_five : (a b c d e : Bool) → all_of (a ∷ b ∷ c ∷ d ∷ e ∷ []) ≡ ((((a && b) && c) && d) && e)
all_five false b c d e = refl
all_five true false c d e = refl
all_five true true false d e = refl
all_five true true true d e = refl

-- the second test matters only where the first holds
pub and_cong : (u : Bool) {v w : Bool} → (u ≡ true → v ≡ w) → (u && v) ≡ (u && w)
and_cong true h = h refl
and_cong false h = refl

pub bit_le : (u : Bool) → bit u ≤ 1
bit_le true = omega arith
bit_le false = omega arith

-- a test counts no more than its first half
pub half_le : (u v : Bool) → bit (u && v) ≤ bit u
half_le true v = bit_le v
half_le false v = omega arith

-- ---- tally

pub tally_le : (t : ℕ → Bool) (n : ℕ) → tally t n ≤ n
tally_le t zero = omega arith
tally_le t (suc n) = omega (arith, tally_le t n, bit_le (t n))

pub tally_cong : (t u : ℕ → Bool) (n : ℕ) → ((i : ℕ) → i < n → t i ≡ u i) → tally t n ≡ tally u n
tally_cong t u zero h = refl
tally_cong t u (suc n) h = rw (h n (omega arith), tally_cong t u n (λ i k. h i (omega arith)))

pub tally_mono : (t : ℕ → Bool) (i n : ℕ) → i ≤ n → tally t i ≤ tally t n
tally_mono t i zero h = let e : i ≡ 0 = omega arith in rw e (le_refl _)
tally_mono t i (suc n) h = go (eqb i (suc n)) refl (tally_mono t i n)
  where
    go : (u : Bool) → eqb i (suc n) ≡ u → (i ≤ n → tally t i ≤ tally t n) → tally t i ≤ tally t (suc n)
    go true e ih = rw (eqb-true i (suc n) e) (le_refl _)
    go false e ih = omega (arith, ih (omega (arith, tests)))

-- ---- top

pub top_le : (f : ℕ → ℕ) (n c : ℕ) → ((i : ℕ) → i < n → f i ≤ c) → top f n ≤ c
top_le f zero c h = omega arith
top_le f (suc n) c h = omega (arith, h n (omega arith), top_le f n c (λ i k. h i (omega arith)))

pub le_top : (f : ℕ → ℕ) (n i : ℕ) → i < n → f i ≤ top f n
le_top f zero i h = absurd (omega arith)
le_top f (suc n) i h = one_more (λ k. f k ≤ top f (suc n)) n (λ k b. omega (arith, le_top f n k b)) (omega arith) i h

-- ---- values

pub length-values : {X : Type 0} (f : ℕ → X) (n : ℕ) → length (values f n) ≡ n
unfolding values
length-values f zero = refl
length-values f (suc n) = length-append (values f n) (f n ∷ []) ∙ omega (arith, length-values f n)

pub values-at : {X : Type 0} (f : ℕ → X) (n i : ℕ) (d : X) → i < n → get_or (values f n) i d ≡ f i
unfolding values
values-at f zero i d h = absurd (omega arith)
values-at f (suc n) i d h =
    one_more (λ k. get_or (values f (suc n)) k d ≡ f k) n (λ k b. get_or-append (values f n) (f n ∷ []) d k (rw length-values b) ∙ values-at f n k d b)
    (get_or_at (values f n) (f n) [] d n (length-values f n)) i h

pub values_cong : {X : Type 0} (f g : ℕ → X) (n : ℕ) → ((i : ℕ) → i < n → f i ≡ g i) → values f n ≡ values g n
unfolding values
values_cong f g zero h = refl
values_cong f g (suc n) h = rw (h n (omega arith), values_cong f g n (λ i k. h i (omega arith)))

-- one value changed
pub set_values : (f : ℕ → ℕ) (n q v : ℕ) → set (values f n) q v ≡ values (λ i. cond (eqb i q) v (f i)) n
set_values f n q v = ext_get_or 0 _ _ (length-set (values f n) q v ∙ length-values f n ∙ sym (length-values _ n)) λ i h.
    let b : i < n = rw (length-set, length-values) at h in at i b ∙ sym (values-at (λ i. cond (eqb i q) v (f i)) n i 0 b)
  where
    at : (i : ℕ) → i < n → get_or (set (values f n) q v) i 0 ≡ cond (eqb i q) v (f i)
    at i b = go (eqb i q) refl
      where
        go : (u : Bool) → eqb i q ≡ u → get_or (set (values f n) q v) i 0 ≡ cond u v (f i)
        go true e = rw (eqb-true i q e) (get_or-set_same (values f n) q v 0 (rw length-values (omega (arith, tests))))
        go false e = get_or-set_other (values f n) q i v 0 (eqb-false i q e) ∙ values-at f n i 0 b

-- ---- keep

pub keep_append : {X : Type 0} (t : X → Bool) (l m : List X) → keep t (l ++ m) ≡ keep t l ++ keep t m
keep_append t [] m = refl
keep_append t (x ∷ l) m = go (t x) (keep_append t l m)
  where
    go : (u : Bool) → keep t (l ++ m) ≡ keep t l ++ keep t m → cond u (x ∷ keep t (l ++ m)) (keep t (l ++ m)) ≡ cond u (x ∷ keep t l) (keep t l) ++ keep t m
    go true e = rw e
    go false e = e

pub keep_comm : {X : Type 0} (t u : X → Bool) (l : List X) → keep t (keep u l) ≡ keep u (keep t l)
keep_comm t u [] = refl
keep_comm t u (x ∷ l) = go (t x) (u x) refl refl (keep_comm t u l)
  where
    go : (v w : Bool) → t x ≡ v → u x ≡ w → keep t (keep u l) ≡ keep u (keep t l)
        → keep t (cond w (x ∷ keep u l) (keep u l)) ≡ keep u (cond v (x ∷ keep t l) (keep t l))
    go true true e f ih = rw (e, f, ih)
    go true false e f ih = rw f ih
    go false true e f ih = rw e ih
    go false false e f ih = ih

pub keep-keep : {X : Type 0} (t u : X → Bool) (l : List X) → keep t (keep u l) ≡ keep (λ x. u x && t x) l
keep-keep t u [] = refl
keep-keep t u (x ∷ l) = go (u x) (keep-keep t u l)
  where
    go : (v : Bool) → keep t (keep u l) ≡ keep (λ x. u x && t x) l
        → keep t (cond v (x ∷ keep u l) (keep u l)) ≡ cond (v && t x) (x ∷ keep (λ x. u x && t x) l) (keep (λ x. u x && t x) l)
    go true ih = rw ih
    go false ih = ih

pub keep-map : {X Y : Type 0} (f : X → Y) (t : Y → Bool) (l : List X) → keep t (map f l) ≡ map f (keep (λ x. t (f x)) l)
keep-map f t [] = refl
keep-map f t (x ∷ l) = go (t (f x)) (keep-map f t l)
  where
    go : (v : Bool) → keep t (map f l) ≡ map f (keep (λ x. t (f x)) l)
        → cond v (f x ∷ keep t (map f l)) (keep t (map f l)) ≡ map f (cond v (x ∷ keep (λ x. t (f x)) l) (keep (λ x. t (f x)) l))
    go true ih = rw ih
    go false ih = ih

pub length-keep : {X : Type 0} (t : X → Bool) (l : List X) → length (keep t l) ≤ length l
length-keep t [] = omega arith
length-keep t (x ∷ l) = go (t x) (length-keep t l)
  where
    go : (v : Bool) → length (keep t l) ≤ length l → length (cond v (x ∷ keep t l) (keep t l)) ≤ suc (length l)
    go true h = omega arith
    go false h = omega arith

-- ---- span

pub length-span : (i n : ℕ) → length (span i n) ≡ n
length-span i zero = refl
length-span i (suc n) = ap suc (length-span (suc i) n)

-- the last of them
span_last : (i n : ℕ) → span i (suc n) ≡ span i n ++ ((i + n) ∷ [])
span_last i zero = rw add-zero
span_last i (suc n) = let e : suc i + n ≡ i + suc n = omega arith in rw (span_last (suc i) n, e)

pub kept_last : (t : ℕ → Bool) (n : ℕ) → keep t (span 0 (suc n)) ≡ keep t (span 0 n) ++ cond (t n) (n ∷ []) []
kept_last t n = ap (keep t) (span_last 0 n ∙ ap (λ (k : ℕ). span 0 n ++ (k ∷ [])) (zero-add n)) ∙ keep_append t (span 0 n) (n ∷ [])

-- as many are kept as are counted
pub length-kept : (t : ℕ → Bool) (n : ℕ) → length (keep t (span 0 n)) ≡ tally t n
length-kept t zero = refl
length-kept t (suc n) = ap length (kept_last t n) ∙ length-append (keep t (span 0 n)) _ ∙ rw (length-kept t n) (go (t n))
  where
    go : (u : Bool) → tally t n + length (cond u (n ∷ []) []) ≡ tally t n + bit u
    go true = refl
    go false = refl

-- the numbers from i up to n: the first, and the rest; none
pub span_step : (i n : ℕ) → i < n → span i (n - i) ≡ i ∷ span (i + 1) (n - (i + 1))
span_step i n h = let e : n - i ≡ suc (n - (i + 1)) = omega arith in rw (e, add-one i)

pub span_end : (i n : ℕ) → n ≤ i → span i (n - i) ≡ []
span_end i n h = let e : n - i ≡ 0 = omega arith in rw e

-- all pass a test
pub span_all : (t : ℕ → Bool) (i n : ℕ) → ((k : ℕ) → i ≤ k → t k ≡ true) → keep t (span i n) ≡ span i n
span_all t i zero h = refl
span_all t i (suc n) h = rw (h i (omega arith), span_all t (suc i) n (λ k b. h k (omega arith)))

-- the first d do not
pub span_skip : (t : ℕ → Bool) (i d n : ℕ) → ((k : ℕ) → k < i + d → i ≤ k → t k ≡ false) → keep t (span i (d + n)) ≡ keep t (span (i + d) n)
span_skip t i zero n h = rw (zero-add, add-zero)
span_skip t i (suc d) n h = let e : suc d + n ≡ suc (d + n) = omega arith in let f : i + suc d ≡ suc i + d = omega arith in
    rw (e, h i (omega arith) (omega arith), f) (span_skip t (suc i) d n (λ k b c. h k (omega arith) (omega arith)))

-- ---- count

module _ {X : Type 0} (same : X → X → Bool) where
  pub count-append : (x : X) (l m : List X) → count same x (l ++ m) ≡ count same x l + count same x m
  count-append x [] m = omega arith
  count-append x (y ∷ l) m = omega (arith, count-append x l m)

  pub count-keep : ((x y : X) → same x y ≡ true → x ≡ y) → (t : X → Bool) (x : X) (l : List X) → count same x (keep t l) ≡ bit (t x) * count same x l
  count-keep eq t x [] = omega arith
  count-keep eq t x (y ∷ l) = go (same x y) (t y) refl refl (count-keep eq t x l)
    where
      go : (v w : Bool) → same x y ≡ v → t y ≡ w → count same x (keep t l) ≡ bit (t x) * count same x l
          → count same x (cond w (y ∷ keep t l) (keep t l)) ≡ bit (t x) * (bit v + count same x l)
      go true w e f ih = rw (ap t (eq x y e) ∙ f) (own w (rw (ap t (eq x y e) ∙ f) at ih))
        where
          own : (w : Bool) → count same x (keep t l) ≡ bit w * count same x l → count same x (cond w (y ∷ keep t l) (keep t l)) ≡ bit w * (1 + count same x l)
          own true ih = rw e (omega arith)
          own false ih = omega arith
      go false true e f ih = rw e (omega arith)
      go false false e f ih = omega arith

  -- tests that agree on what stands in a list keep the same
  pub keep_cong : ((x : X) → same x x ≡ true) → (t u : X → Bool) (l : List X) → ((x : X) → 0 < count same x l → t x ≡ u x) → keep t l ≡ keep u l
  keep_cong own t u [] h = refl
  keep_cong own t u (x ∷ l) h = rw (h x (rw (own x) (omega arith)), keep_cong own t u l (λ y b. h y (omega arith)))
