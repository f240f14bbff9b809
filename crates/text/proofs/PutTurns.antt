-- Texts put one behind the other: a loop is known by the text that is left, and a number's decimals are those of std.
-- Assumes nothing.
use Rattle.std.proofs.Common.{◌≡◌, ap, rules, List, ◌∷◌, ◌++◌, ℕ, suc, ◌+◌, ◌-◌, ◌*◌, ◌^◌, ◌≤◌, ◌<◌, length, length-drop, length-take-le, take, drop, get_or, mul-le-mul_left, add-one, arith}
use Rattle.std.specs.Fmt.{decimal as std_decimal}
use Rattle.std.proofs.lemmas.Fmt.{AppendsLastDigit, decimal_from_appends, length-decimal-le}
use Rattle.std.proofs.lemmas.List.{drop_more}
use Rattle.text.specs.Putting.{digits_up, number_most, decimal, spaced, numbers_text, line_text, lines_text, row_in, rows_in}

-- ---- digits

digits_appended : AppendsLastDigit digits_up
unfolding digits_up
digits_appended = search rules

-- a number's decimals are what std writes
pub decimal_std : (n : ℕ) → n < 2 ^ 32 → decimal n ≡ std_decimal n
unfolding decimal
decimal_std n h = decimal_from_appends digits_up digits_appended number_most n (omega arith) (length-decimal-le number_most n (omega arith) (omega arith) (omega arith))

-- what is left of some numbers is the next one, behind a space, and what is left behind it
pub numbers_left : (ns : List ℕ) (i : ℕ) → i < length ns → numbers_text (drop i ns) ≡ 32 ∷ decimal (get_or ns i 0) ++ numbers_text (drop (i + 1) ns)
unfolding spaced
numbers_left ns i h = ap numbers_text (drop_more ns i 0 h)

-- ---- lines of a table

-- one of n rows, and those before it, take no more than all of them
pub row_fits : (width i n : ℕ) → i < n → width * i + width ≤ width * n
row_fits width i n h = omega (arith, mul-le-mul_left width h)

-- what is left of some rows is the next one and what is left behind it
pub rows_left : (word : List ℕ) (width : ℕ) (o : List ℕ) (i n : ℕ) → i < n
    → lines_text word (rows_in width o i (n - i)) ≡ line_text word (row_in width o i) ++ lines_text word (rows_in width o (i + 1) (n - (i + 1)))
rows_left word width o i n h = let q : n - i ≡ suc (n - (i + 1)) = omega arith in rw (q, add-one i)

-- a row, lent as a part of the table
pub row_lent : (width : ℕ) (o : List ℕ) (i : ℕ) → take (width * i + width - width * i) (drop (width * i) o) ≡ row_in width o i
row_lent width o i = let q : width * i + width - width * i ≡ width = omega arith in ap (λ (k : ℕ). take k (drop (width * i) o)) q

-- it has as many numbers as it should
pub row_long : (width : ℕ) (o : List ℕ) (i n : ℕ) → i < n → width * n ≤ length o → length (row_in width o i) ≡ width
row_long width o i n h b = let f : width * i + width ≤ width * n = row_fits width i n h in
    length-take-le width (drop (width * i) o) (rw length-drop (omega arith))
