-- The rows that the sheets hold are those of the accepted messages, in their order: an arrival adds its own at the end, and no call changes another.
-- By what each change leaves. Assumes nothing.
use Rattle.std.specs.Prelude.{Result, Ok, Err, Option, Some, None, ◌≡◌, refl, Bool, true, false, cond, List, [], ◌∷◌, ◌++◌, map, ℕ, suc, ◌≤◌, length}
use Rattle.std.proofs.Common.{sym, ap, ap₂, ◌∙◌, append-nil, append_assoc, arith, lt-ltb, eq-eqb, ne_eqb}
use Rattle.std.proofs.lemmas.List.{map-append}
use Rattle.stamps.specs.Counting.{values}
use Rattle.stamps.proofs.CountingLaws.{values_cong}
use Rattle.stamps.specs.Keys.{item_of}
use Rattle.stamps.specs.Sources.{other}
use Rattle.stamps.specs.declared.Source.{Source}
use Rattle.stamps.specs.declared.Source.TheVariants.{A, B}
use Rattle.stamps.specs.declared.Item.{Item}
use Rattle.stamps.specs.declared.Message.{Message}
use Rattle.sheets.specs.declared.rows.Victim.{Victim}
use Rattle.sheets.specs.Layout.{Told, rows_need}
use Rattle.sheets.specs.Rows.{flushed}
use Rattle.sheets.proofs.Laws.{flushed_item}
use Rattle.pairs.specs.Pairs.{Side}
use Rattle.pairs.proofs.Changes.{items, new_row, flushed_side, stored_side}
use Rattle.rules.specs.declared.Why.{Why}
use Rattle.rules.specs.Answers.{refused}
use Rattle.rules.specs.Calls.{after, arrives, joins, evicts, tries, runs, drains, lists, effect, settle, after_call}
use Rattle.rules.specs.Demand3.{after_calls, offered, accepted, items_of}
use Rattle.rules.specs.Refusals.{verdict, room_for, make_room, idle, checks, own_checks}
use Rattle.rules.specs.World.{World, same, count_of, sheet_of, side_of, flush, store, note, shut, move, pass, Lent}
use Rattle.rules.specs.declared.Call.{Call}
use Rattle.rules.specs.declared.Call.TheVariants.{Arrive, Evict, Run, Close, Drain, Lone}
use Rattle.rules.specs.declared.Answer.TheVariants.{Ran}
use Rattle.rules.proofs.Fitting.{rows_fit}
use Rattle.rules.proofs.Laws.{accepts}
use Rattle.rules.proofs.Seen.{both_sources, same_own, same_facing, flush-seen, store-seen}
use Rattle.rules.proofs.Steps.{Sits, sits-call, row-space}
use Rattle.rules.proofs.Settling.{verdict_rest}

-- the items of a side, in their order
abbrev side_items : Side → List Item
side_items d = values (items d) d.count

items-flushed : (parts q c : ℕ) (d : Side) → side_items (flushed_side parts q c d) ≡ side_items d
items-flushed parts q c d = values_cong _ (items d) d.count λ i h. ap (λ (u : Bool). (cond u (flushed parts q c d.row i) (d.row i)).item) (lt-ltb i d.count h) ∙ flushed_item parts q c d.row i

items_stored : (item : Item) (c : ℕ) (d : Side) → side_items (stored_side item c d) ≡ side_items d ++ (item ∷ [])
unfolding values
items_stored item c d = ap₂ (λ (l : List Item) (x : Item). l ++ (x ∷ [])) (values_cong _ (items d) d.count λ i h. ap (λ (u : Bool). (cond u (new_row item c) (d.row i)).item) (ne_eqb i d.count (omega arith)))
    (ap (λ (u : Bool). (cond u (new_row item c) (d.row d.count)).item) (eq-eqb d.count d.count refl))

flush-items : (s : Source) (q : ℕ) (w : World) → rows_need (count_of w s) ≤ length (sheet_of w s) → (u : Source) → items_of (flush s q w) u ≡ items_of w u
flush-items s q w h = let n = flush-seen s q w h in
    both_sources (λ u. items_of (flush s q w) u ≡ items_of w u) s (ap side_items n.own ∙ items-flushed w.session.parts q w.session.clock (side_of w s)) (ap side_items n.facing)

store-items : (s : Source) (item : Item) (w : World) → rows_need (suc (count_of w s)) ≤ length (sheet_of w s) → (u : Source) → items_of (store s item w) u ≡ items_of w u ++ cond (same s u) (item ∷ []) []
store-items s item w h = let n = store-seen s item w h in
    both_sources (λ u. items_of (store s item w) u ≡ items_of w u ++ cond (same s u) (item ∷ []) []) s
    (ap side_items n.own ∙ items_stored item w.session.clock (side_of w s) ∙ ap (λ (v : Bool). items_of w s ++ cond v (item ∷ []) []) (sym (same_own s)))
    (ap side_items n.facing ∙ sym (append-nil (items_of w (other s))) ∙ ap (λ (v : Bool). items_of w (other s) ++ cond v (item ∷ []) []) (sym (same_facing s)))

module _ (w : World) (l : List Told) (c : Lent) (g : Sits w l) (u : Source) where
  -- the items after a call that took these messages
  abbrev Adds : World → List Message → Type 0
  Adds w' new = items_of w' u ≡ items_of w u ++ map item_of new

  unchanged : (w' : World) → items_of w' u ≡ items_of w u → Adds w' []
  unchanged w' e = e ∙ sym (append-nil (items_of w u))

  room_items : (room : Option Victim) → items_of (make_room room w) u ≡ items_of w u
  room_items None = refl
  room_items (Some v) = flush-items v.source v.part w (rows_fit w g.fit v.source) u

  run_items : (s : Source) (q : ℕ) → Adds (effect (Run s q) w c).world []
  unfolding effect runs note
  run_items s q = unchanged (effect (Run s q) w c).world (go (idle w s q))
    where
      go : (v : Bool) → items_of (cond v (after (Ran 0) w c.out) (tries s q w c.out)).world u ≡ items_of w u
      go true = refl
      go false = refl

  shut_items : (s : Source) → Adds (shut s w) []
  unfolding shut
  shut_items s = unchanged (shut s w) (go s)
    where
      go : (s : Source) → items_of (shut s w) u ≡ items_of w u
      go A = both_sources (λ u. items_of (shut A w) u ≡ items_of w u) A refl refl u
      go B = both_sources (λ u. items_of (shut B w) u ≡ items_of w u) B refl refl u

  effect_items : (k : Call) → verdict (own_checks k w c) ≡ Ok tt → Adds (effect k w c).world (offered u k)
  unfolding effect arrives joins evicts drains move lists pass
  effect_items (Arrive s m) h = store-items s (item_of m) (make_room (room_for w) w) (row-space w l c g s m h) u ∙ ap₂ (λ (k j : List Item). k ++ j) (room_items (room_for w)) (own (same s u))
    where
      own : (v : Bool) → cond v (item_of m ∷ []) [] ≡ map item_of (cond v (m ∷ []) [])
      own true = refl
      own false = refl
  effect_items (Evict s q) h = unchanged (flush s q w) (flush-items s q w (rows_fit w g.fit s) u)
  effect_items (Run s q) h = run_items s q
  effect_items (Close s) h = shut_items s
  effect_items Drain h = unchanged (drains w c.out).world refl
  effect_items (Lone s) h = unchanged (lists s w c.out).world refl

  call_items : Adds (after_call w c).world (cond (refused (after_call w c).answer) [] (offered u c.call))
  unfolding after_call
  call_items = go (verdict (checks w c)) refl
    where
      go : (v : Result Unit Why) → verdict (checks w c) ≡ v → let r = settle v w c.out (effect c.call w c) in Adds r.world (cond (refused r.answer) [] (offered u c.call))
      go (Ok tt) e = effect_items c.call (verdict_rest _ _ e) ∙ ap (λ (v : Bool). items_of w u ++ map item_of (cond v [] (offered u c.call))) (sym (accepts c.call w c))
      go (Err y) e = unchanged w refl

pub calls_accept : (w : World) (l : List Told) (cs : List Lent) → Sits w l → (s : Source) → items_of (after_calls w l cs).world s ≡ items_of w s ++ map item_of (accepted s w cs)
calls_accept w l [] g s = sym (append-nil (items_of w s))
calls_accept w l (c ∷ cs) g s =
    let r = after_call w c in
    let new = cond (refused r.answer) [] (offered s c.call) in
    let rest = accepted s r.world cs in
    calls_accept r.world _ cs (sits-call w l c g) s
    ∙ ap (λ (k : List Item). k ++ map item_of rest) (call_items w l c g s)
    ∙ append_assoc (items_of w s) (map item_of new) (map item_of rest)
    ∙ ap (λ (k : List Item). items_of w s ++ k) (sym (map-append item_of new rest))
