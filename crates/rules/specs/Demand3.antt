-- Demand 3: "For any order of calls after an opening, refused ones included, on untouched sheets". Its parts are the fields of `Demand3`;
-- proofs/Demand3.antt proves `ForAnyCalls Demand3`.
use Rattle.std.specs.Prelude.{◌≡◌, true, cond, List, [], ◌∷◌, ◌++◌, map, ◌↔◌, ℕ, ◌≤◌, ◌<◌, length, get_or}
use Rattle.stamps.specs.Counting.{bit, values}
use Rattle.stamps.specs.Keys.{item_of, items_match}
use Rattle.stamps.specs.Stamps.{in_memory}
use Rattle.stamps.specs.declared.Source.{Source}
use Rattle.stamps.specs.declared.Source.TheVariants.{A, B}
use Rattle.stamps.specs.declared.Item.{Item}
use Rattle.stamps.specs.declared.Message.{Message}
use Rattle.sheets.specs.Layout.{Told, room_of, tell}
use Rattle.pairs.specs.Joins.{is_pair, times, missing}
use Rattle.pairs.specs.Pairs.{pairs_at}
use Rattle.rules.specs.Answers.{pairs_of, refused}
use Rattle.rules.specs.Calls.{After, after_call, opens}
use Rattle.rules.specs.Refusals.{both_closed}
use Rattle.rules.specs.Rounds.{again, Rooms, Handed, saying_at}
use Rattle.rules.specs.World.{World, same, count_of, rows_of, seen_from, Sheets, Lent, given, world}
use Rattle.rules.specs.declared.Call.{Call}
use Rattle.rules.specs.declared.Call.TheVariants.{Arrive, Evict, Run, Close, Drain, Lone}
use Rattle.rules.specs.declared.Why.TheVariants.{BadSheet}
use Rattle.rules.specs.declared.Answer.TheVariants.{Opened, More, Done, Refused}

-- ---- calls, one after the other

-- the pairs that a call wrote, read back from its output
abbrev pub wrote : After → List Told
wrote r = pairs_at r.out 0 (pairs_of r.answer)

-- the box at a moment, and all pairs written by then
pub record Moment : Type 0 where
  pub world : World
  pub written : List Told

-- each call is given the record and the sheets as the last one left them
abbrev pub after_calls : World → List Told → List Lent → Moment
after_calls w l [] = record { world = w; written = l }
after_calls w l (c ∷ cs) = let r = after_call w c in after_calls r.world (l ++ wrote r) cs

-- the box as the opening hands it over, with sheets of any content
abbrev pub opened : ℕ → ℕ → ℕ → Sheets → World
opened p m n x = world (opens p m n x).session x

-- what is said of a box and the calls made on it holds "for any order of calls after an opening": for P, M, N and sheets that an opening accepts
abbrev pub ForAnyCalls : (World → List Lent → Type 0) → Type 0
ForAnyCalls Says =
    (p m n : ℕ) (x : Sheets) → (opens p m n x).answer ≡ Opened → (calls : List Lent) → Says (opened p m n x) calls

-- ---- the rows that were accepted

-- the message that a call offers to a source, if it does
abbrev pub offered : Source → Call → List Message
offered s (Arrive v m) = cond (same v s) (m ∷ []) []
offered s (Evict v q) = []
offered s (Run v q) = []
offered s (Close v) = []
offered s Drain = []
offered s (Lone v) = []

-- what the calls of a list offered to it and the box did not refuse, in their order
abbrev pub accepted : Source → World → List Lent → List Message
accepted s w [] = []
accepted s w (c ∷ cs) = let r = after_call w c in cond (refused r.answer) [] (offered s c.call) ++ accepted s r.world cs

-- the rows that a sheet holds
abbrev pub items_of : World → Source → List Item
items_of w s = values (λ i. (rows_of w s i).item) (count_of w s)

-- ---- what is left

-- the pair of two rows
abbrev pub pair_of : World → ℕ → ℕ → Told
pair_of w i j = tell A (record { a = i; b = j }) (rows_of w A i).item (rows_of w B j).item

-- how often a pair is owed in the end: once if it is of accepted rows that match, shown as they are, and else never
abbrev pub owes : World → Told → ℕ
owes w x = bit (is_pair (seen_from A w) x)

-- "matching pairs unwritten", by A row, then B row
abbrev pub left : World → List Told → List Told
left w l = missing (seen_from A w) l

-- ---- the demand, at the moment after any list of calls

module _ (start : World) (calls : List Lent) where
  -- the box after these calls
  abbrev pub now : World
  now = (after_calls start [] calls).world

  -- and all that they wrote
  abbrev pub written : List Told
  written = (after_calls start [] calls).written

  pub record Demand3 : Type 0 where
    -- row i of a source is of the i-th message that was accepted from it
    pub rows : (s : Source) → items_of now s ≡ map item_of (accepted s start calls)
    -- and two rows match exactly if their messages are one: of one heat, one car and one lap
    pub laps : (i j : ℕ) (d : Message) → i < count_of now A → j < count_of now B
        → (items_match (rows_of now A i).item (rows_of now B j).item ≡ true) ↔ (get_or (accepted A start calls) i d ≡ get_or (accepted B start calls) j d)
    -- a. "no pair is ever written twice, none whose keys differ": at most once if it is a pair of accepted rows that match, shown as they are, and else never
    pub once : (x : Told) → times x written ≤ owes now x
    -- b. "two matching rows in memory together are out once the later one is accepted"
    pub prompt : (i j : ℕ) → i < count_of now A → j < count_of now B → in_memory (rows_of now A i) ≡ true → in_memory (rows_of now B j) ≡ true
        → items_match (rows_of now A i).item (rows_of now B j).item ≡ true → times (pair_of now i j) written ≡ 1
    -- c. "with both feeds closed and n matching pairs unwritten, a drain with room r ≥ 1 writes exactly min(r, n) and says Done exactly when none is left"
    pub drain : both_closed now.session ≡ true → (o : List ℕ) → 1 ≤ room_of (length o) → let r = after_call now (given Drain o) in
        Handed More Done (left now written) (room_of (length o)) (wrote r) r.answer
    -- d. "with room r each time Done comes at drain number ceil(n / r), at the first if n is 0"
    pub drains : both_closed now.session ≡ true → (r : ℕ) → 1 ≤ r → (os : List (List ℕ)) → Rooms Drain r os → (o : List ℕ) → room_of (length o) ≡ r
        → (after_call (after_calls now written (again Drain os)).world (given Drain o)).answer ≡ saying_at More Done r (length (left now written)) (length os)
    -- e. after Done, the pairs written are the matching pairs of the accepted rows, each once
    pub whole : (o : List ℕ) (n : ℕ) → (after_call now (given Drain o)).answer ≡ Done n → (x : Told) → times x (written ++ wrote (after_call now (given Drain o))) ≡ owes now x
    -- and no call is ever refused as BadSheet
    pub fits : (c : Lent) → (after_call now c).answer ≡ Refused BadSheet → ⊥
