-- Rows without partner, over any order of calls after an opening. The parts are the fields of `Lones`; proofs/Lone.antt proves
-- `ForAnyCalls Lones`.
use Rattle.std.specs.Prelude.{◌≡◌, Bool, true, false, cond, not, ◌||◌, List, [], ◌∷◌, ◌++◌, ℕ, ◌≤◌, length}
use Rattle.stamps.specs.Counting.{bit, keep}
use Rattle.stamps.specs.declared.Source.{Source}
use Rattle.stamps.specs.declared.Source.TheVariants.{A, B}
use Rattle.sheets.specs.Layout.{Single, single_room, single_at}
use Rattle.pairs.specs.Lones.{is_single, listings, unlisted}
use Rattle.pairs.specs.Rooms.{read_all}
use Rattle.rules.specs.Answers.{singles_of}
use Rattle.rules.specs.Calls.{After, after_call}
use Rattle.rules.specs.Demand3.{after_calls, now}
use Rattle.rules.specs.Refusals.{both_closed}
use Rattle.rules.specs.Rounds.{again, Rooms, Handed, saying_at}
use Rattle.rules.specs.World.{World, same, items_from, Sheets, Lent, given}
use Rattle.rules.specs.declared.Call.{Call}
use Rattle.rules.specs.declared.Call.TheVariants.{Arrive, Evict, Run, Close, Drain, Lone}
use Rattle.rules.specs.declared.Answer.{Answer}
use Rattle.rules.specs.declared.Answer.TheVariants.{MoreLone, DoneLone}

-- ---- the rows that were listed

-- a lone call for source s
abbrev pub asks : Source → Call → Bool
asks s (Arrive v m) = false
asks s (Evict v q) = false
asks s (Run v q) = false
asks s (Close v) = false
asks s Drain = false
asks s (Lone v) = same v s

-- the rows that a call wrote, read back from its output
abbrev pub named : After → List Single
named r = read_all single_at r.out 0 (singles_of r.answer)

-- the rows of s that calls listed, in their order
abbrev pub listed : Source → World → List Lent → List Single
listed s w [] = []
listed s w (c ∷ cs) = let r = after_call w c in cond (asks s c.call) (named r) [] ++ listed s r.world cs

-- ---- calls with others between them

-- what is seen of a call: its answer, its output and the sheets
pub record Heard : Type 0 where
  pub answer : Answer
  pub out : List ℕ
  pub sheets : Sheets

-- of one call
abbrev pub heard_of : After → Heard
heard_of r = record { answer = r.answer; out = r.out; sheets = r.world.sheets }

-- of those calls of a list that pass a test
abbrev pub heard : (Call → Bool) → World → List Lent → List Heard
heard u w [] = []
heard u w (c ∷ cs) = let r = after_call w c in cond (u c.call) (heard_of r ∷ []) [] ++ heard u r.world cs

-- only the calls that pass it
abbrev pub only : (Call → Bool) → List Lent → List Lent
only u = keep (λ c. u c.call)

-- every call but the lone ones
abbrev pub others : Call → Bool
others c = not (asks A c || asks B c)

-- ---- what holds at the moment after any list of calls

module _ (start : World) (calls : List Lent) where
  -- the box after these calls
  abbrev box : World
  box = now start calls

  -- the accepted rows of s without partner that have not been listed, ascending
  abbrev pub to_list : Source → List Single
  to_list s = unlisted (items_from s box) (listed s start calls)

  pub record Lones : Type 0 where
    -- "no row is listed twice": at most once if it is an accepted row without partner, with its key, and else never
    pub once : (s : Source) (x : Single) → listings x (listed s start calls) ≤ bit (is_single (items_from s box) x)
    -- "with n rows left, a call with room r at least 1 writes exactly min(r, n), Done exactly when none is left"
    pub lone : both_closed box.session ≡ true → (s : Source) (o : List ℕ) → 1 ≤ single_room (length o) → let r = after_call box (given (Lone s) o) in
        Handed MoreLone DoneLone (to_list s) (single_room (length o)) (named r) r.answer
    -- "at call number ceil(n / r)"
    pub rounds : both_closed box.session ≡ true → (s : Source) (r : ℕ) → 1 ≤ r → (os : List (List ℕ)) → Rooms (Lone s) r os → (o : List ℕ) → single_room (length o) ≡ r
        → (after_call (after_calls box [] (again (Lone s) os)).world (given (Lone s) o)).answer ≡ saying_at MoreLone DoneLone r (length (to_list s)) (length os)
    -- "after Done the rows listed are exactly those without partner"
    pub whole : (s : Source) (o : List ℕ) (n : ℕ) → (after_call box (given (Lone s) o)).answer ≡ DoneLone n
        → (x : Single) → listings x (listed s start calls ++ named (after_call box (given (Lone s) o))) ≡ bit (is_single (items_from s box) x)
    -- drains, and all other calls, give "the same answers, pairs and sheets" with and without lone calls between them
    pub others_same : (cs : List Lent) → heard others box cs ≡ heard others box (only others cs)
    -- and so do the lone calls of a source, once both are closed, whatever is asked between them
    pub lone_same : both_closed box.session ≡ true → (s : Source) (cs : List Lent) → heard (asks s) box cs ≡ heard (asks s) box (only (asks s) cs)
