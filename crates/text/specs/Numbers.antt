-- Numbers in a line: one decimal digit or more. Leading zeros count as digits.
use Rattle.std.specs.Char.{is_ascii_digit}
use Rattle.std.specs.Prelude.{cond, ◌&&◌, List, [], ◌∷◌, ℕ, ◌+◌, ◌*◌, ◌-◌, leb, length, Option, Some, None}

-- the number that begins with n and goes on with these digits
unfoldable pub digits_from : ℕ → List ℕ → Option ℕ
digits_from n [] = Some n
digits_from n (x ∷ l) = cond (is_ascii_digit x) (digits_from (10 * n + (x - 48)) l) None

-- a field of 1 to `most` digits as a number
unfoldable pub number_of : ℕ → List ℕ → Option ℕ
number_of most l = cond (leb 1 (length l) && leb (length l) most) (digits_from 0 l) None
