-- The fields of a line: "Fields are parted by commas", "blanks cut at both ends".
use Rattle.std.specs.List.{slice_split}
use Rattle.std.specs.Prelude.{Bool, cond, ◌||◌, List, [], ◌∷◌, map, ℕ, eqb, get_or}

-- "blanks are space and tab"
abbrev pub is_blank : ℕ → Bool
is_blank x = eqb x 32 || eqb x 9

-- 44 is ","
abbrev pub is_comma : ℕ → Bool
is_comma x = eqb x 44

-- a text without the blanks in front
unfoldable pub front_cut : List ℕ → List ℕ
front_cut [] = []
front_cut (x ∷ l) = cond (is_blank x) (front_cut l) (x ∷ l)

-- x before a text, but a blank with nothing behind it goes
abbrev pub kept : ℕ → List ℕ → List ℕ
kept x [] = cond (is_blank x) [] (x ∷ [])
kept x (y ∷ l) = x ∷ y ∷ l

-- a text without the blanks at its end
unfoldable pub end_cut : List ℕ → List ℕ
end_cut [] = []
end_cut (x ∷ l) = kept x (end_cut l)

-- a text without either
unfoldable pub trim : List ℕ → List ℕ
trim l = end_cut (front_cut l)

-- the texts between commas: one more than there are commas
abbrev pub split : List ℕ → List (List ℕ)
split l = slice_split is_comma l

-- the k-th text between commas, from 0; nothing where there are fewer
abbrev pub raw_at : List ℕ → ℕ → List ℕ
raw_at l k = get_or (split l) k []

-- the fields of a line
unfoldable pub fields : List ℕ → List (List ℕ)
fields l = map trim (split l)

-- field k, from 0; nothing where there are fewer
abbrev pub field_at : List ℕ → ℕ → List ℕ
field_at l k = get_or (fields l) k []
