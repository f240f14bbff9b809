-- A text is a word if its length and its bytes are the word's. Assumes nothing.
use Rattle.std.proofs.Common.{◌≡◌, refl, sym, ◌∙◌, ℕ, suc, ◌+◌, ◌≤◌, ◌<◌, List, [], ◌∷◌, length, drop, get_or, Bool, true, false, ◌&&◌, arith, eq-eqb, ne_eqb, ltb-true, ltb-false, eqb, ltb, drop_of_length-le}
use Rattle.std.proofs.Math.Bool.{and-false}
use Rattle.std.proofs.lemmas.List.{drop_more}
use Rattle.std.specs.Str.{bytes_eq}

-- the bytes of a text from place k on are these
abbrev pub reads : List ℕ → ℕ → List ℕ → Bool
reads l k [] = true
reads l k (x ∷ w) = eqb (get_or l k 0) x && reads l (k + 1) w

and_swap : (a b c : Bool) → (b && (a && c)) ≡ (a && (b && c))
and_swap true b c = refl
and_swap false b c = and-false b

at_place : (l : List ℕ) (k : ℕ) (w : List ℕ) → k ≤ length l → bytes_eq (drop k l) w ≡ (eqb (length l) (k + length w) && reads l k w)
at_place l k [] h = go (ltb k (length l)) refl
  where
    go : (u : Bool) → ltb k (length l) ≡ u → bytes_eq (drop k l) [] ≡ (eqb (length l) (k + 0) && true)
    go true e = let b : k < length l = ltb-true k (length l) e in rw (drop_more l k 0 b, ne_eqb (length l) (k + 0) (omega arith))
    go false e = let b : length l ≤ k = ltb-false k (length l) e in rw (drop_of_length-le l b, eq-eqb (length l) (k + 0) (omega arith))
at_place l k (x ∷ w) h = go (ltb k (length l)) refl (at_place l (k + 1) w)
  where
    go : (u : Bool) → ltb k (length l) ≡ u → (k + 1 ≤ length l → bytes_eq (drop (k + 1) l) w ≡ (eqb (length l) (k + 1 + length w) && reads l (k + 1) w))
        → bytes_eq (drop k l) (x ∷ w) ≡ (eqb (length l) (k + suc (length w)) && (eqb (get_or l k 0) x && reads l (k + 1) w))
    go true e ih = let b : k < length l = ltb-true k (length l) e in let q : k + suc (length w) ≡ k + 1 + length w = omega arith in
        rw (drop_more l k 0 b, ih (omega arith), q) (and_swap (eqb (length l) (k + 1 + length w)) (eqb (get_or l k 0) x) (reads l (k + 1) w))
    go false e ih = let b : length l ≤ k = ltb-false k (length l) e in rw (drop_of_length-le l b, ne_eqb (length l) (k + suc (length w)) (omega arith))

pub bytes_eq-reads : (l w : List ℕ) → bytes_eq l w ≡ (eqb (length l) (length w) && reads l 0 w)
bytes_eq-reads l w = let q : 0 + length w ≡ length w = omega arith in rw q at (at_place l 0 w (omega arith))

pub ruleset word_tests = (bytes_eq-reads, eq-eqb, ne_eqb)
