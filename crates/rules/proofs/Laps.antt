-- Two rows match exactly if their messages are of one lap: every accepted message is in range, and row i is of the i-th.
-- By induction over the calls. Assumes nothing.
use Rattle.std.specs.Prelude.{Result, Ok, Err, ◌≡◌, refl, Bool, true, false, cond, List, [], ◌∷◌, ◌++◌, map, ◌↔◌, ℕ, zero, suc, ◌<◌, length, get_or}
use Rattle.std.proofs.Common.{sym, ap, ◌∙◌, arith}
use Rattle.std.proofs.Math.ListN.{length-map, get_or-map}
use Rattle.std.proofs.lemmas.Bool.{not-false}
use Rattle.stamps.proofs.CountingLaws.{Each, length-values, values-at}
use Rattle.stamps.specs.Keys.{in_range, item_of, items_match}
use Rattle.stamps.proofs.KeysLaws.{match_same}
use Rattle.stamps.specs.declared.Source.{Source}
use Rattle.stamps.specs.declared.Source.TheVariants.{A, B}
use Rattle.stamps.specs.declared.Item.{Item}
use Rattle.stamps.specs.declared.Message.{Message}
use Rattle.rules.specs.declared.Why.{Why}
use Rattle.rules.specs.Answers.{refused}
use Rattle.rules.specs.Calls.{effect, settle, after_call}
use Rattle.rules.specs.Demand3.{offered, accepted, items_of}
use Rattle.rules.specs.Refusals.{verdict, checks, own_checks}
use Rattle.rules.specs.World.{World, same, count_of, rows_of, Lent}
use Rattle.rules.specs.declared.Call.{Call}
use Rattle.rules.specs.declared.Call.TheVariants.{Arrive, Evict, Run, Close, Drain, Lone}
use Rattle.rules.proofs.Laws.{accepts}
use Rattle.rules.proofs.Settling.{verdict_first, verdict_rest}

-- ---- accepted messages are in range

-- every message of a list is in range
abbrev Ranged : List Message → Type 0
Ranged l = Each (map in_range l)

ranged-append : (l k : List Message) → Ranged l → Ranged k → Ranged (l ++ k)
ranged-append [] k h g = g
ranged-append (m ∷ l) k h g = (h.0, ranged-append l k h.1 g)

ranged-at : (l : List Message) → Ranged l → (i : ℕ) (d : Message) → i < length l → in_range (get_or l i d) ≡ true
ranged-at [] h i d b = absurd (omega arith)
ranged-at (m ∷ l) h zero d b = h.0
ranged-at (m ∷ l) h (suc i) d b = ranged-at l h.1 i d (omega arith)

module _ (s : Source) (w : World) (c : Lent) where
  offered_ranged : (k : Call) → verdict (own_checks k w c) ≡ Ok tt → Ranged (offered s k)
  unfolding own_checks
  offered_ranged (Arrive v m) h = own (same v s)
    where
      own : (u : Bool) → Ranged (cond u (m ∷ []) [])
      own true = (not-false _ (verdict_first _ _ h), tt)
      own false = tt
  offered_ranged (Evict v q) h = tt
  offered_ranged (Run v q) h = tt
  offered_ranged (Close v) h = tt
  offered_ranged Drain h = tt
  offered_ranged (Lone v) h = tt

  call_ranged : Ranged (cond (refused (after_call w c).answer) [] (offered s c.call))
  unfolding after_call
  call_ranged = go (verdict (checks w c)) refl
    where
      go : (v : Result Unit Why) → verdict (checks w c) ≡ v → Ranged (cond (refused (settle v w c.out (effect c.call w c)).answer) [] (offered s c.call))
      go (Ok tt) e = rw (accepts c.call w c) (offered_ranged c.call (verdict_rest _ _ e))
      go (Err y) e = tt

accepted-ranged : (s : Source) (w : World) (cs : List Lent) → Ranged (accepted s w cs)
accepted-ranged s w [] = tt
accepted-ranged s w (c ∷ cs) = let r = after_call w c in
    ranged-append (cond (refused r.answer) [] (offered s c.call)) (accepted s r.world cs) (call_ranged s w c) (accepted-ranged s r.world cs)

-- ---- rows and their messages

module _ (start w : World) (calls : List Lent) (rows : (s : Source) → items_of w s ≡ map item_of (accepted s start calls)) where
  sent : (s : Source) → length (accepted s start calls) ≡ count_of w s
  sent s = sym (length-map (accepted s start calls) item_of) ∙ sym (ap length (rows s)) ∙ length-values _ (count_of w s)

  item_at : (s : Source) (i : ℕ) (d : Message) → i < count_of w s → (rows_of w s i).item ≡ item_of (get_or (accepted s start calls) i d)
  item_at s i d h = sym (values-at (λ i. (rows_of w s i).item) (count_of w s) i (item_of d) h) ∙ ap (λ (l : List Item). get_or l i (item_of d)) (rows s)
      ∙ get_or-map item_of (accepted s start calls) i d

  in_range_here : (s : Source) (i : ℕ) (d : Message) → i < count_of w s → in_range (get_or (accepted s start calls) i d) ≡ true
  in_range_here s i d h = ranged-at (accepted s start calls) (accepted-ranged s start calls) i d (rw (sent s) h)

  pub of_one_lap : (i j : ℕ) (d : Message) → i < count_of w A → j < count_of w B
      → (items_match (rows_of w A i).item (rows_of w B j).item ≡ true) ↔ (get_or (accepted A start calls) i d ≡ get_or (accepted B start calls) j d)
  of_one_lap i j d h k = rw (item_at A i d h, item_at B j d k) (match_same _ _ (in_range_here A i d h) (in_range_here B j d k))
