-- The turns of the loop that gathers a line: what is left of the input is a byte and what is left behind it, or the line's end.
-- Assumes nothing.
use Rattle.std.proofs.Common.{◌≡◌, refl, ℕ, zero, suc, ◌+◌, ◌-◌, ◌≤◌, ◌<◌, List, [], ◌∷◌, ◌++◌, length, take, drop, get_or, drop_of_length-le, arith, Some, None, eq-eqb, ne_eqb}
use Rattle.std.proofs.lemmas.Grind.{common_steps}
use Rattle.text.specs.Gathering.{fitting, before_lf, behind_lf}
use Rattle.std.proofs.lemmas.List.{drop_more}

-- no bytes, however much room there is
pub none_fit : (room : ℕ) → take {A = ℕ} room [] ≡ []
none_fit room = grind (arith, common_steps)

-- the first of some bytes, where it fits, and what fits of the others then
first_fits : (room x : ℕ) (l : List ℕ) → take room (x ∷ l) ≡ take room (x ∷ []) ++ take (room - 1) l
first_fits zero x l = refl
first_fits (suc k) x l = let q : suc k - 1 ≡ k = omega arith in rw (none_fit k, q)

-- a byte that is no LF is of the line
pub fitting_byte : (room left : ℕ) (input : List ℕ) (i : ℕ) → i < length input → (get_or input i 0 ≡ 10 → ⊥) → left ≡ room - 1
    → fitting room (drop i input) ≡ take room (get_or input i 0 ∷ []) ++ fitting left (drop (i + 1) input)
unfolding before_lf
fitting_byte room left input i b n e = rw (drop_more input i 0 b, ne_eqb _ _ n, e) (first_fits _ _ _)

pub behind_byte : (input : List ℕ) (i : ℕ) → i < length input → (get_or input i 0 ≡ 10 → ⊥) → behind_lf (drop i input) ≡ behind_lf (drop (i + 1) input)
unfolding behind_lf
behind_byte input i b n = rw (drop_more input i 0 b, ne_eqb _ _ n)

-- an LF ends the line, and what stands behind it is lent
pub fitting_lf : (room : ℕ) (input : List ℕ) (i : ℕ) → i < length input → get_or input i 0 ≡ 10 → fitting room (drop i input) ≡ []
unfolding before_lf
fitting_lf room input i b e = rw (drop_more input i 0 b, eq-eqb _ _ e) (none_fit room)

pub behind_lf_lent : (input : List ℕ) (i : ℕ) → i < length input → get_or input i 0 ≡ 10
    → behind_lf (drop i input) ≡ Some (take (length input - (i + 1)) (drop (i + 1) input))
unfolding behind_lf
behind_lf_lent input i b e = let q : take (length input - (i + 1)) (drop (i + 1) input) ≡ drop (i + 1) input = grind (arith, common_steps) in rw (drop_more input i 0 b, eq-eqb _ _ e, q)

-- so does the end of the input
pub fitting_end : (room : ℕ) (input : List ℕ) (i : ℕ) → length input ≤ i → fitting room (drop i input) ≡ []
unfolding before_lf
fitting_end room input i b = rw (drop_of_length-le input b) (none_fit room)

pub behind_end : (input : List ℕ) (i : ℕ) → length input ≤ i → behind_lf (drop i input) ≡ None
unfolding behind_lf
behind_end input i b = rw (drop_of_length-le input b)

pub ruleset line_ends = (fitting_lf, behind_lf_lent, fitting_end, behind_end)
