-- What is printed piece by piece is the whole text. Assumes nothing.
use Rattle.std.proofs.Common.{◌≡◌, refl, sym, ap, ◌∙◌, subst, ℕ, List, [], ◌∷◌, ◌++◌, append_assoc}
use Rattle.std.specs.Prelude.{Option}
use Rattle.std.specs.Io.KnownBytes.{Appends}
use Rattle.std.proofs.KnownBytes.{Appends-trans, Appends-nil}
use Rattle.text.specs.Putting.{LF, spaced, numbers_text}

pub numbers-append : (xs ys : List ℕ) → numbers_text (xs ++ ys) ≡ numbers_text xs ++ numbers_text ys
numbers-append [] ys = refl
numbers-append (x ∷ xs) ys = ap (λ (l : List ℕ). spaced x ++ l) (numbers-append xs ys) ∙ sym (append_assoc (spaced x) (numbers_text xs) (numbers_text ys))

-- some first numbers are written, the others are left
pub record Going (ns : List ℕ) (a b : Option (List ℕ)) (left : List ℕ) : Type 0 where
  pub first : List ℕ
  pub whole : first ++ left ≡ ns
  pub said : Appends a b (numbers_text first)

pub going_first : (ns : List ℕ) (a : Option (List ℕ)) → Going ns a a ns
going_first ns a = record { first = []; whole = refl; said = Appends-nil a }

pub going_piece : (ns : List ℕ) (a b c : Option (List ℕ)) (left piece rest : List ℕ) → Going ns a b left → left ≡ piece ++ rest → Appends b c (numbers_text piece) → Going ns a c rest
going_piece ns a b c left piece rest h e p = record {
  first = h.first ++ piece;
  whole = append_assoc h.first piece rest ∙ ap (λ (l : List ℕ). h.first ++ l) (sym e) ∙ h.whole;
  said = rw numbers-append (Appends-trans a b c _ _ h.said p);
}

-- a word, the numbers and LF
pub appends_line : (a b c d : Option (List ℕ)) (word text : List ℕ) → Appends a b word → Appends b c text → Appends c d LF → Appends a d ((word ++ text) ++ LF)
appends_line a b c d word text p q r = Appends-trans a c d (word ++ text) LF (Appends-trans a b c word text p q) r

-- numbers in three parts
pub appends_parts : (a b c d : Option (List ℕ)) (xs ys zs : List ℕ)
    → Appends a b (numbers_text xs) → Appends b c (numbers_text ys) → Appends c d (numbers_text zs) → Appends a d (numbers_text (xs ++ (ys ++ zs)))
appends_parts a b c d xs ys zs p q r =
    subst (λ (t : List ℕ). Appends a d t) (sym (numbers-append xs (ys ++ zs) ∙ ap (λ (t : List ℕ). numbers_text xs ++ t) (numbers-append ys zs)))
    (Appends-trans a b d _ _ p (Appends-trans b c d _ _ q r))
