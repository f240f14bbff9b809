-- Counting and choosing by a test, for every layer.
use Rattle.std.specs.Prelude.{Bool, true, false, cond, ◌&&◌, List, [], ◌∷◌, ◌++◌, ℕ, zero, suc, ◌+◌, max, ltb, eqb}

-- 1 for a test that holds
abbrev pub bit : Bool → ℕ
bit true = 1
bit false = 0

-- how many of the first n numbers pass a test
abbrev pub tally : (ℕ → Bool) → ℕ → ℕ
tally t zero = 0
tally t (suc n) = tally t n + bit (t n)

-- the largest value of f on the first n numbers, 0 if there are none
abbrev pub top : (ℕ → ℕ) → ℕ → ℕ
top f zero = 0
top f (suc n) = max (top f n) (f n)

-- the values of f on the first n numbers, in their order
unfoldable pub values : {X : Type 0} → (ℕ → X) → ℕ → List X
values f zero = []
values f (suc n) = values f n ++ (f n ∷ [])

-- n numbers from i on
abbrev pub span : ℕ → ℕ → List ℕ
span i zero = []
span i (suc n) = i ∷ span (suc i) n

-- every test of a list holds
abbrev pub all_of : List Bool → Bool
all_of [] = true
all_of (b ∷ []) = b
all_of (b ∷ c ∷ bs) = b && all_of (c ∷ bs)

-- those of a list that pass a test, in their order
abbrev pub keep : {X : Type 0} → (X → Bool) → List X → List X
keep t [] = []
keep t (x ∷ l) = cond (t x) (x ∷ keep t l) (keep t l)

-- how often x stands in a list, where same says which are one and the same
abbrev pub count : {X : Type 0} → (X → X → Bool) → X → List X → ℕ
count same x [] = 0
count same x (y ∷ l) = bit (same x y) + count same x l

-- those of a list that another list leaves out, by the same test
abbrev pub missing_in : {X : Type 0} → (X → X → Bool) → List X → List X → List X
missing_in same l xs = keep (λ x. eqb (count same x l) 0) xs

-- f below n, and g from n on
abbrev pub up_to : {X : Type 0} → ℕ → (ℕ → X) → (ℕ → X) → ℕ → X
up_to n f g i = cond (ltb i n) (f i) (g i)
