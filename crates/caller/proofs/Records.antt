-- A record that is read holds the numbers that it is read from.
use Rattle.std.proofs.Common.{◌≡◌, ℕ, ◌+◌, ◌-◌, ◌≤◌, ◌<◌, List, [], ◌∷◌, ◌++◌, drop, length, slice_index_or, slice_range, subst, arith}
use Rattle.std.proofs.lemmas.List.{drop_all, drop_more}
use Rattle.std.proofs.lemmas.List.Folds.{drop_split}

-- What is left from place i on begins with what stands there.
left : (xs : List ℕ) (i k : ℕ) → i + 1 ≡ k → i < length xs → drop i xs ≡ slice_index_or xs i 0 ∷ drop k xs
left xs i k e h = subst (λ (j : ℕ). drop i xs ≡ slice_index_or xs i 0 ∷ drop j xs) e (drop_more xs i 0 h)

-- Eight numbers, a part between, and three numbers are all of them.
pub record_whole : (xs part : List ℕ) → 11 ≤ length xs → part ≡ slice_range xs 8 (length xs - 3) →
    slice_index_or xs 0 0 ∷ slice_index_or xs 1 0 ∷ slice_index_or xs 2 0 ∷ slice_index_or xs 3 0 ∷ slice_index_or xs 4 0 ∷
    slice_index_or xs 5 0 ∷ slice_index_or xs 6 0 ∷ slice_index_or xs 7 0 ∷
    (part ++ (slice_index_or xs (length xs - 3) 0 ∷ slice_index_or xs (length xs - 2) 0 ∷ slice_index_or xs (length xs - 1) 0 ∷ [])) ≡ xs
record_whole xs part h e =
    let n : ℕ = length xs in
    let d0 : xs ≡ slice_index_or xs 0 0 ∷ drop 1 xs = left xs 0 1 (omega arith) (omega arith) in
    let d1 = left xs 1 2 (omega arith) (omega arith) in
    let d2 = left xs 2 3 (omega arith) (omega arith) in
    let d3 = left xs 3 4 (omega arith) (omega arith) in
    let d4 = left xs 4 5 (omega arith) (omega arith) in
    let d5 = left xs 5 6 (omega arith) (omega arith) in
    let d6 = left xs 6 7 (omega arith) (omega arith) in
    let d7 = left xs 7 8 (omega arith) (omega arith) in
    let split = drop_split xs 8 (n - 3) (omega arith) in
    let next = left xs (n - 3) (n - 2) (omega arith) (omega arith) in
    let lone_a = left xs (n - 2) (n - 1) (omega arith) (omega arith) in
    let lone_b = left xs (n - 1) n (omega arith) (omega arith) in
    let none = drop_all n xs (omega arith) in cc
