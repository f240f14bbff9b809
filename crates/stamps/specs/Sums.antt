-- The twelve small sums of document 01, as one list. That every one of them holds is `sums_hold` in proofs/SumsHold.
use Rattle.std.specs.Prelude.{Bool, not, ◌&&◌, List, [], ◌∷◌, ℕ, eqb}
use Rattle.stamps.specs.declared.Message.{Message}
use Rattle.stamps.specs.declared.Row.{Row}
use Rattle.stamps.specs.Keys.{item_of, part_of}
use Rattle.stamps.specs.Stamps.{present_at, together}

-- a row of some item, with these stamps
abbrev pub row : ℕ → ℕ → Row
row ats dts = record { item = record { key = 0 }; ats = ats; dts = dts }

-- a message of this car on this lap of this heat
abbrev pub message : ℕ → ℕ → ℕ → Message
message heat car lap = record { heat = heat; car = car; lap = lap }

-- the twelve, in document 01's order, those of keys worked with a heat
unfoldable pub sums : List Bool
sums =
    together (row 1 4) (row 2 0)
    ∷ not (together (row 1 4) (row 5 0))
    ∷ together (row 1 0) (row 2 0)
    ∷ not (together (row 1 4) (row 5 9))
    ∷ not (present_at 6 (row 7 9))
    ∷ present_at 7 (row 7 9)
    ∷ present_at 8 (row 7 9)
    ∷ not (present_at 9 (row 7 9))
    ∷ present_at 550 (row 500 600)
    ∷ not (present_at 700 (row 500 600))
    ∷ eqb (item_of (message 1 1 0)).key 1001000
    ∷ (eqb (item_of (message 9 999 999)).key 9999999 && eqb (part_of 16 (item_of (message 9 999 999))) 15)
    ∷ []
