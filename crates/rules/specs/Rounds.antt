-- A list handed out call by call, as drains hand out pairs and lone calls rows: what one call says, and what the call of a given number says.
use Rattle.std.specs.Prelude.{◌≡◌, cond, List, [], ◌∷◌, ℕ, suc, ◌+◌, ◌*◌, ◌-◌, ◌/◌, min, leb, length, take}
use Rattle.sheets.specs.Layout.{room_of, single_room}
use Rattle.rules.specs.World.{Lent, given}
use Rattle.rules.specs.declared.Call.{Call}
use Rattle.rules.specs.declared.Call.TheVariants.{Arrive, Evict, Run, Close, Drain, Lone}
use Rattle.rules.specs.declared.Answer.{Answer}

-- the room of a call in an output of so many words: three words a pair, two a row without partner
abbrev pub room_in : Call → ℕ → ℕ
room_in (Arrive s m) words = room_of words
room_in (Evict s q) words = room_of words
room_in (Run s q) words = room_of words
room_in (Close s) words = room_of words
room_in Drain words = room_of words
room_in (Lone s) words = single_room words

-- the same call again and again, each time with an output of its own
abbrev pub again : Call → List (List ℕ) → List Lent
again c [] = []
again c (o ∷ os) = given c o ∷ again c os

-- each of the outputs has room r for it
abbrev pub Rooms : Call → ℕ → List (List ℕ) → Type 0
Rooms c r [] = Unit
Rooms c r (o ∷ os) = (room_in c (length o) ≡ r) × Rooms c r os

-- with n left, a call with room r gives "exactly min(r, n) and says Done exactly when none is left"
abbrev pub saying : (ℕ → Answer) → (ℕ → Answer) → ℕ → ℕ → Answer
saying more done r n = cond (leb n r) done more (min r n)

-- what is left is l: a call with room r writes the first r of it, and says so
pub record Handed {X : Type 0} (more done : ℕ → Answer) (l : List X) (r : ℕ) (written : List X) (answer : Answer) : Type 0 where
  pub writes : written ≡ take r l
  pub says : answer ≡ saying more done r (length l)

-- n / r, rounded up
abbrev pub ceil : ℕ → ℕ → ℕ
ceil n r = (n + (r - 1)) / r

-- with n left and room r each time, what is said after k calls: "Done comes at .. number ceil(n / r), at the first if n is 0", and from then on Done 0
abbrev pub saying_at : (ℕ → Answer) → (ℕ → Answer) → ℕ → ℕ → ℕ → Answer
saying_at more done r n k = cond (leb (ceil n r) (suc k)) done more (min r (n - k * r))
