-- What the chain over a probe list finds, and its last entry.
-- Assumes nothing.
use Rattle.std.proofs.Common.{◌≡◌, refl, sym, ap, ◌∙◌, Bool, false, ◌||◌, List, ◌++◌, [], ◌∷◌, ℕ, zero, suc, ◌+◌, ◌*◌, ◌-◌, ◌≤◌, eqb, zero-add, add-zero, mul-zero, arith}
use Rattle.std.proofs.Math.Bool.{or-false}
use Rattle.std.specs.List.{list_any, range_with_len}
use Rattle.std.proofs.lemmas.List.Folds.{list_any-append}
use Rattle.stamps.specs.declared.Row.{Row}
use Rattle.stamps.specs.declared.Entry.{Entry}
use Rattle.stamps.specs.Stamps.{covers, used}
use Rattle.stamps.proofs.StampsLaws.{used_none, used_snoc}
use Rattle.sheets.specs.Layout.{entry_at}
use Rattle.sheets.specs.Lists.{entries, probed_at}
use Rattle.sheets.proofs.Laws.{probed_last}

range_last : (i n : ℕ) → range_with_len i (suc n) ≡ range_with_len i n ++ ((i + n) ∷ [])
range_last i zero = rw add-zero
range_last i (suc n) = let e : i + 1 + n ≡ i + suc n = omega arith in rw (range_last (i + 1) n, e)

range_then : (i n m : ℕ) → range_with_len i (n + m) ≡ range_with_len i n ++ range_with_len (i + n) m
range_then i zero m = rw (zero-add, add-zero)
range_then i (suc n) m = let e : i + 1 + n ≡ i + suc n = omega arith in let f : suc n + m ≡ suc (n + m) = omega arith in rw (f, range_then (i + 1) n m, e)

-- none has been asked
pub asked_none : (t : ℕ → Bool) (i : ℕ) → false ≡ list_any t (range_with_len i (i - i))
asked_none t i = let n : i - i ≡ 0 = omega arith in rw n

-- one number more is asked
pub asked_more : (t : ℕ → Bool) (i e : ℕ) (found b : Bool) → i ≤ e → found ≡ list_any t (range_with_len i (e - i)) → b ≡ t e
    → (found || b) ≡ list_any t (range_with_len i (e + 1 - i))
asked_more t i e found b l f g = let n : e + 1 - i ≡ suc (e - i) = omega arith in let last : i + (e - i) ≡ e = omega arith in
    sym (rw n (ap (list_any t) (range_last i (e - i)) ∙ list_any-append t (range_with_len i (e - i)) ((i + (e - i)) ∷ []) ∙ rw (last, or-false, ← f, ← g)))

-- then all n of them have been asked
pub asked_all : (t : ℕ → Bool) (i n e : ℕ) (found : Bool) → e ≡ i + n → found ≡ list_any t (range_with_len i (e - i)) → found ≡ list_any t (range_with_len i n)
asked_all t i n e found l f = let m : e - i ≡ n = omega (arith, l) in f ∙ ap (λ k. list_any t (range_with_len i k)) m

-- block after block is asked
pub blocks_asked : (t : ℕ → Bool) (size n : ℕ) → list_any (λ k. list_any t (range_with_len (size * k) size)) (range_with_len 0 n) ≡ list_any t (range_with_len 0 (size * n))
blocks_asked t size zero = rw mul-zero
blocks_asked t size (suc n) = let block : ℕ → Bool = λ k. list_any t (range_with_len (size * k) size) in let all : size * suc n ≡ size * n + size = omega arith in
    let front = ap (list_any block) (range_last 0 n) ∙ list_any-append block (range_with_len 0 n) ((0 + n) ∷ []) in
    let whole = ap (λ m. list_any t (range_with_len 0 m)) all ∙ ap (list_any t) (range_then 0 (size * n) size) ∙ list_any-append t (range_with_len 0 (size * n)) (range_with_len (0 + size * n) size) in
    let same : (list_any block (range_with_len 0 n) || (block (0 + n) || false)) ≡ (list_any t (range_with_len 0 (size * n)) || list_any t (range_with_len (0 + size * n) size))
    = rw (blocks_asked t size n, zero-add, zero-add, or-false) in
    front ∙ same ∙ sym whole

-- the first k have been asked, and the numbers behind them
pub first_asked : (t : ℕ → Bool) (k n : ℕ) (found : Bool) → k ≤ n → found ≡ list_any t (range_with_len 0 k)
    → (found || list_any t (range_with_len k (n - k))) ≡ list_any t (range_with_len 0 n)
first_asked t k n found l f = let e : k + (n - k) ≡ n = omega (arith, l) in
    sym (ap (λ m. list_any t (range_with_len 0 m)) (sym e) ∙ ap (list_any t) (range_then 0 k (n - k))
    ∙ list_any-append t (range_with_len 0 k) (range_with_len (0 + k) (n - k)) ∙ rw (zero-add, f))

-- the blocks are all that is asked, or there is half a block behind them
pub no_half : (t : ℕ → Bool) (k m : ℕ) (found : Bool) → m ≡ k → found ≡ list_any t (range_with_len 0 k) → found ≡ list_any t (range_with_len 0 m)
no_half t k m found e f = f ∙ ap (λ n. list_any t (range_with_len 0 n)) (sym e)

pub half_asked : (t : ℕ → Bool) (k h m : ℕ) (found : Bool) → m ≡ k + h → false ≡ list_any t (range_with_len 0 k) → found ≡ list_any t (range_with_len k h)
    → found ≡ list_any t (range_with_len 0 m)
half_asked t k h m found e f g = let n : m - k ≡ h = omega (arith, e) in
    g ∙ ap (λ j. list_any t (range_with_len k j)) (sym n) ∙ first_asked t k m false (omega (arith, e)) f

-- one entry after the other
pub used-range : (probe : List ℕ) (k n : ℕ) (x y : Row) → list_any (λ e. covers (entry_at probe k e) x y) (range_with_len 0 n) ≡ used (entries probe k n) x y
unfolding entries
used-range probe k zero x y = sym (used_none x y)
used-range probe k (suc n) x y = let test : ℕ → Bool = λ e. covers (entry_at probe k e) x y in
    ap (list_any test) (range_last 0 n) ∙ list_any-append test (range_with_len 0 n) ((0 + n) ∷ []) ∙ rw (used-range probe k n x y, used_snoc, zero-add, or-false)

-- the last of n entries
pub probed_none : (probe : List ℕ) (k n clock : ℕ) → n ≡ 0 → false ≡ probed_at clock (entries probe k n)
unfolding entries probed_at
probed_none probe k n clock e = rw e

pub probed_some : (probe : List ℕ) (k n clock : ℕ) (e : Entry) → (n ≡ 0 → ⊥) → e ≡ entry_at probe k (n - 1)
    → eqb e.probe clock ≡ probed_at clock (entries probe k n)
unfolding entries probed_at
probed_some probe k zero clock e h d = absurd (h refl)
probed_some probe k (suc n) clock e h d = let g : suc n - 1 ≡ n = omega arith in
    ap (λ (x : Entry). eqb x.probe clock) (d ∙ ap (entry_at probe k) g) ∙ sym (probed_last clock (entries probe k n) (entry_at probe k n))
