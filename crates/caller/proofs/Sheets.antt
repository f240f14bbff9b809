-- The sheets of a case are the numbers behind its head.
use Rattle.std.proofs.Common.{◌≡◌, ℕ, ◌+◌, List, [], ◌∷◌, ◌++◌, take, drop, length, slice_index_or, ap, ◌∙◌, append_assoc, arith}
use Rattle.std.proofs.lemmas.List.{nil_from_length, drop-drop, drop_all, drop_more, append-nil}

-- Three heads are cut off one after the other, and then four parts, with nothing behind the last.
pub cut_whole : (k m n : ℕ) (numbers after_k after_m after_n a after_a b after_b probe after_probe out rest : List ℕ) →
    after_k ≡ drop k numbers → after_m ≡ drop m after_k → after_n ≡ drop n after_m → after_n ≡ a ++ after_a →
    after_a ≡ b ++ after_b → after_b ≡ probe ++ after_probe → after_probe ≡ out ++ rest → length rest ≡ 0 →
    drop (k + m + n) numbers ≡ a ++ b ++ probe ++ out
cut_whole k m n numbers after_k after_m after_n a after_a b after_b probe after_probe out rest e f g h i j l none =
    let heads : after_n ≡ drop (k + m + n) numbers =
    g ∙ ap (drop n) (f ∙ ap (drop m) e ∙ drop-drop m k numbers) ∙ drop-drop n (k + m) numbers in
    rw (← heads, h, i, j, l, nil_from_length rest none) (simp (append_assoc, append-nil))

-- Four numbers behind two heads, one by one.
pub cut_lengths : (k m : ℕ) (numbers after_k after_m lengths : List ℕ) (a b probe out : ℕ) → after_k ≡ drop k numbers →
    after_m ≡ drop m after_k → lengths ≡ take 4 after_m → length lengths ≡ 4 → a ≡ slice_index_or lengths 0 0 →
    b ≡ slice_index_or lengths 1 0 → probe ≡ slice_index_or lengths 2 0 → out ≡ slice_index_or lengths 3 0 →
    take 4 (drop (k + m) numbers) ≡ a ∷ b ∷ probe ∷ out ∷ []
cut_lengths k m numbers after_k after_m lengths a b probe out e f g four p q r s =
    let heads : after_m ≡ drop (k + m) numbers = f ∙ ap (drop m) e ∙ drop-drop m k numbers in
    let d0 : lengths ≡ slice_index_or lengths 0 0 ∷ drop 1 lengths = drop_more lengths 0 0 (omega arith) in
    let d1 : drop 1 lengths ≡ slice_index_or lengths 1 0 ∷ drop 2 lengths = drop_more lengths 1 0 (omega arith) in
    let d2 : drop 2 lengths ≡ slice_index_or lengths 2 0 ∷ drop 3 lengths = drop_more lengths 2 0 (omega arith) in
    let d3 : drop 3 lengths ≡ slice_index_or lengths 3 0 ∷ drop 4 lengths = drop_more lengths 3 0 (omega arith) in
    let none = drop_all 4 lengths (omega arith) in cc
