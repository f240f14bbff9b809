-- The turns of the loop over a number's bytes: each is known by what is left of the field.
-- Assumes nothing.
use Rattle.std.proofs.Common.{◌≡◌, sym, ◌∙◌, true, false, List, ℕ, ◌+◌, ◌-◌, ◌*◌, ◌^◌, ◌≤◌, ◌<◌, arith, add-one, length, get_or, drop, drop_of_length-le, le-leb, Some, None}
use Rattle.std.proofs.Math.Bool.{and-false}
use Rattle.std.proofs.Math.Nat.{pow-succ', pow-le-pow_right}
use Rattle.std.proofs.lemmas.Bool.{lt-leb}
use Rattle.std.specs.Char.{is_ascii_digit}
use Rattle.std.proofs.lemmas.Bool.Decides.{nat_tests}
use Rattle.text.specs.Numbers.{digits_from, number_of}
use Rattle.std.proofs.lemmas.List.{drop_more}

-- a field of the right length is read digit by digit
pub number_is : (most : ℕ) (l : List ℕ) → 1 ≤ length l → length l ≤ most → number_of most l ≡ digits_from 0 l
unfolding number_of
number_is most l a b = rw (le-leb _ _ a, le-leb _ _ b)

pub number_short : (most : ℕ) (l : List ℕ) → length l ≡ 0 → number_of most l ≡ None
unfolding number_of
number_short most l e = rw e

pub number_long : (most : ℕ) (l : List ℕ) → most < length l → number_of most l ≡ None
unfolding number_of
number_long most l h = rw (lt-leb _ _ h, and-false)

-- i digits make a number below 10 ^ i
pub record Read (l : List ℕ) (i value : ℕ) : Type 0 where
  pub small : value < 10 ^ i
  pub rest : digits_from value (drop i l) ≡ digits_from 0 l

digit_top : (x : ℕ) → is_ascii_digit x ≡ true → x ≤ 57
digit_top x e = grind (arith, nat_tests)

module _ (l : List ℕ) (i value : ℕ) (h : Read l i value) where
  -- with at most eight digits before it, a digit more fits
  pub read-room : i ≤ 8 → value < 100000000
  read-room b = let p : 10 ^ i ≤ 10 ^ 8 = pow-le-pow_right (omega arith) b in omega (arith, h.small)

  pub read_digit : i < length l → is_ascii_digit (get_or l i 0) ≡ true → Read l (i + 1) (10 * value + (get_or l i 0 - 48))
  unfolding digits_from
  read_digit b e = record {
    small = rw (add-one i, pow-succ' 10 i) (omega (arith, h.small, digit_top (get_or l i 0) e));
    rest = sym (rw (drop_more l i 0 b, e)) ∙ h.rest;
  }

  pub read_other : i < length l → is_ascii_digit (get_or l i 0) ≡ false → digits_from 0 l ≡ None
  unfolding digits_from
  read_other b e = sym h.rest ∙ rw (drop_more l i 0 b, e)

  pub read_all : length l ≤ i → digits_from 0 l ≡ Some value
  unfolding digits_from
  read_all b = sym h.rest ∙ rw (drop_of_length-le l b)

pub ruleset number_steps = (number_is, number_short, number_long, read-room, read_digit, read_other, read_all)
