-- Each call that is not refused keeps what holds between calls, and what it wrote is read back. By the checks that it passed.
-- The victim enters as some portion. Assumes nothing.
use Rattle.std.specs.Prelude.{Result, Ok, Err, Option, Some, None, ◌≡◌, refl, Bool, true, false, cond, ◌&&◌, List, [], ◌++◌, ℕ, suc, ◌*◌, ◌≤◌, ◌<◌, ltb, length, take}
use Rattle.std.proofs.Common.{ap, ◌∙◌, append-nil, arith, length-take, leb-false, ltb-false}
use Rattle.std.proofs.lemmas.Bool.{and_parts, not-false}
use Rattle.stamps.specs.Keys.{item_of}
use Rattle.stamps.specs.Sources.{other}
use Rattle.stamps.specs.declared.Source.{Source}
use Rattle.stamps.specs.declared.Source.TheVariants.{A, B}
use Rattle.stamps.specs.declared.Message.{Message}
use Rattle.stamps.specs.declared.Item.{Item}
use Rattle.sheets.specs.declared.rows.Victim.{Victim}
use Rattle.sheets.specs.Layout.{Told, rows_need, room_of, single_room, pairs_need, pair_at, put_pair, Pair, tell}
use Rattle.pairs.specs.Pairs.{position, tell_all, told, put_from, pairs_at}
use Rattle.pairs.proofs.Alone.{lone_parts}
use Rattle.pairs.proofs.Handing.{read_told, Parts}
use Rattle.pairs.proofs.Laws.{pair-words}
use Rattle.pairs.proofs.Rises.{drain-parts}
use Rattle.rules.specs.declared.Why.{Why}
use Rattle.rules.specs.Answers.{pairs_of}
use Rattle.rules.specs.Calls.{After, after, joins, arrives, evicts, tries, runs, owed, drains, alone, lists, effect, settle, after_call}
use Rattle.rules.specs.Demand3.{wrote}
use Rattle.rules.specs.Refusals.{verdict, try_checks, room_for, make_room, arrived, idle, ran, both_closed, portion_checks, checks, own_checks}
use Rattle.rules.specs.World.{World, count_of, sheet_of, closed_of, rows_of, seen_from, items_from, place_of, flush, shut, move, pass, Lent}
use Rattle.rules.specs.declared.Call.{Call}
use Rattle.rules.specs.declared.Call.TheVariants.{Arrive, Evict, Run, Close, Drain, Lone}
use Rattle.rules.specs.declared.Answer.TheVariants.{Ran, More, Done, MoreLone, DoneLone}
use Rattle.rules.proofs.Laws.{count_room}
use Rattle.rules.proofs.Owing.{Sound, sound-flush, sound-store, sound-note, sound-shut, sound-move, sound-pass}
use Rattle.rules.proofs.Fitting.{Fit, rows_fit, row_fits, fit-flush, fit-store, listable, fit-note, fit-shut, fit-move, fit-pass}
use Rattle.rules.proofs.Seen.{both_sources, Extent, Listable, flush-seen}
use Rattle.rules.proofs.Settling.{either, verdict_first, verdict_rest}

-- what holds between calls
pub record Sits (w : World) (l : List Told) : Type 0 where
  pub sound : Sound w l
  pub fit : Fit w

-- no drain has begun while a source is open
not-begun : (w : World) (l : List Told) → Sound w l → both_closed w.session ≡ false → w.session.next ≡ 0
not-begun w l g e = go (closed_of w A) refl (closed_of w B) refl e
  where
    go : (u : Bool) → closed_of w A ≡ u → (v : Bool) → closed_of w B ≡ v → (u && v) ≡ false → w.session.next ≡ 0
    go false h v k e = g.start A h
    go true h false k e = g.start B k
    go true h true k e = absurd (mathlib.Core.Bool.true≢false e)

pub closed_of_lem : (w : World) → both_closed w.session ≡ true → (s : Source) → closed_of w s ≡ true
closed_of_lem w h = let c = and_parts (closed_of w A) (closed_of w B) h in both_sources (λ s. closed_of w s ≡ true) A c.0 c.1

-- ---- what was written is read back

reads : (s : Source) (f f' : ℕ → Item) (ps : List Pair) (o : List ℕ) → length ps ≤ room_of (length o)
    → pairs_at (put_from 0 (tell_all s f f' ps) o) 0 (length ps) ≡ tell_all s f f' ps
reads s f f' ps o h = read_told pair_at put_pair pairs_need pair-words (λ p. tell s p (f p.a) (f' p.b)) ps o (omega arith)

-- ---- each call

sits-flush : (s : Source) (q : ℕ) (w : World) (l : List Told) → Sits w l → w.session.next ≡ 0 → Sits (flush s q w) l
sits-flush s q w l g z = record { sound = sound-flush s q w l (rows_fit w g.fit s) z g.sound; fit = fit-flush s q w g.fit z }

sits-shut : (s : Source) (w : World) (l : List Told) → Sits w l → Sits (shut s w) l
sits-shut s w l g = record { sound = sound-shut s w l g.sound; fit = fit-shut s w g.fit }

sits-pass : (s : Source) (k : ℕ) (w : World) (l : List Told) → Sits w l → k ≤ count_of w s → Sits (pass s k w) l
sits-pass s k w l g h = record { sound = sound-pass s k w l g.sound; fit = fit-pass s k w g.fit h }

module _ (w : World) (l : List Told) (c : Lent) (g : Sits w l) where
  abbrev o : List ℕ
  o = c.out

  -- what a call leaves and has written
  abbrev Goes : After → Type 0
  Goes r = Sits r.world (l ++ wrote r)

  nothing : (w' : World) → Sits w' l → Sits w' (l ++ [])
  nothing w' h = rw append-nil h

  -- some portion, or none, is flushed
  sits_room : (room : Option Victim) → w.session.next ≡ 0 → Sits (make_room room w) l × ((make_room room w).session.next ≡ 0)
  sits_room None z = (g, z)
  sits_room (Some v) z = (sits-flush v.source v.part w l g z, (flush-seen v.source v.part w (rows_fit w g.fit v.source)).same_next ∙ z)

  limit_room : (room : Option Victim) → (make_room room w).session.limit ≡ w.session.limit
  limit_room None = refl
  limit_room (Some v) = ap (λ (e : Extent). e.limit) (flush-seen v.source v.part w (rows_fit w g.fit v.source)).same_extent

  -- an arrival that is not refused
  module _ (s : Source) (m : Message) (h : verdict (own_checks (Arrive s m) w c) ≡ Ok tt) where
    not_drained : w.session.next ≡ 0
    unfolding own_checks
    not_drained = g.sound.start s (verdict_first _ _ (verdict_rest _ _ h))

    some_left : count_of (make_room (room_for w) w) s < (make_room (room_for w) w).session.limit
    unfolding own_checks
    some_left = rw (count_room (room_for w) w s, limit_room (room_for w)) (leb-false _ _ (verdict_first _ _ (verdict_rest _ _ (verdict_rest _ _ h))))

    room_left : length (arrived s (item_of m) (make_room (room_for w) w)) ≤ room_of (length o)
    unfolding own_checks
    room_left = ltb-false _ _ (verdict_first _ _ (verdict_rest _ _ (verdict_rest _ _ (verdict_rest _ _ h))))

    pub row-space : rows_need (suc (count_of (make_room (room_for w) w) s)) ≤ length (sheet_of (make_room (room_for w) w) s)
    row-space = row_fits (make_room (room_for w) w) (sits_room (room_for w) not_drained).0.fit s some_left

    sits_arrive : Goes (effect (Arrive s m) w c)
    unfolding effect arrives joins
    sits_arrive = let w' : World = make_room (room_for w) w in let r = sits_room (room_for w) not_drained in
        rw (reads s (λ i. item_of m) (λ j. (rows_of w' (other s) j).item) (arrived s (item_of m) w') o room_left)
        (record { sound = sound-store s (item_of m) w' l row-space r.1 r.0.sound; fit = fit-store s (item_of m) w' r.0.fit r.1 some_left })

  sits_evict : (s : Source) (q : ℕ) → verdict (own_checks (Evict s q) w c) ≡ Ok tt → Goes (effect (Evict s q) w c)
  unfolding own_checks effect evicts
  sits_evict s q h = nothing (flush s q w) (sits-flush s q w l g (not-begun w l g.sound (verdict_first _ _ (verdict_rest _ _ h))))

  sits_run : (s : Source) (q : ℕ) → verdict (own_checks (Run s q) w c) ≡ Ok tt → Goes (effect (Run s q) w c)
  unfolding own_checks effect runs
  sits_run s q h = go (idle w s q) h
    where
      go : (u : Bool) → verdict (portion_checks w.session q ++ cond u [] (try_checks w s q (room_of (length o)))) ≡ Ok tt
          → Goes (cond u (after (Ran 0) w o) (tries s q w o))
      go true h = nothing w g
      go false h = let h₁ = verdict_rest _ _ h in let h₂ = verdict_rest _ _ h₁ in
          let n : Listable s q w = listable s q w g.fit (leb-false _ _ (verdict_first _ _ h)) (leb-false _ _ (verdict_first _ _ h₂)) in
          let z = not-begun w l g.sound (verdict_first _ _ h₁) in
          rw (reads s (λ i. (rows_of w s i).item) (λ j. (rows_of w (other s) j).item) (ran s q w) o (ltb-false _ _ (verdict_first _ _ (verdict_rest _ _ h₂))))
          (record { sound = sound-note s q w l n z g.sound; fit = fit-note s q _ w g.fit z n })

  pub drain-wrote : wrote (drains w o) ≡ told A (seen_from A w) (take (room_of (length o)) (owed w))
  unfolding drains
  drain-wrote = let n : ℕ = length (take (room_of (length o)) (owed w)) in
      rw (either (λ x. pairs_of x ≡ n) (ltb (room_of (length o)) (length (owed w))) More Done n refl refl)
      (reads A (λ i. (rows_of w A i).item) (λ j. (rows_of w B j).item) (take (room_of (length o)) (owed w)) o (rw length-take (omega arith)))

  pub drain_next : Parts (position (seen_from A w)) w.session.next (room_of (length o)) (count_of w A * count_of w B) (drains w o).world.session.next (owed w)
  unfolding drains move
  drain_next = drain-parts (seen_from A w) w.session.next (room_of (length o)) g.fit.next

  sits_drain : verdict (own_checks Drain w c) ≡ Ok tt → Goes (effect Drain w c)
  unfolding own_checks effect drains move
  sits_drain h = rw drain-wrote (record { sound = sound-move (room_of (length o)) _ w l drain_next (closed_of_lem w (not-false _ (verdict_first _ _ h))) g.sound; fit = fit-move _ w g.fit drain_next.to })

  -- a lone call writes rows, and no pair
  lone_wrote : (s : Source) → wrote (lists s w o) ≡ []
  unfolding lists
  lone_wrote s = either (λ x. pairs_at (lists s w o).out 0 (pairs_of x) ≡ []) (ltb (single_room (length o)) (length (alone s w))) MoreLone DoneLone _ refl refl

  sits_lone : (s : Source) → Goes (lists s w o)
  unfolding lists
  sits_lone s = rw (lone_wrote s) (nothing (lists s w o).world (sits-pass s _ w l g (lone_parts (items_from s w) (place_of w s) (single_room (length o)) (g.fit.lone s)).to))

  sits_effect : (k : Call) → verdict (own_checks k w c) ≡ Ok tt → Goes (effect k w c)
  unfolding effect
  sits_effect (Arrive s m) h = sits_arrive s m h
  sits_effect (Evict s q) h = sits_evict s q h
  sits_effect (Run s q) h = sits_run s q h
  sits_effect (Close s) h = nothing (shut s w) (sits-shut s w l g)
  sits_effect Drain h = sits_drain h
  sits_effect (Lone s) h = sits_lone s

  -- refused or not
  pub sits-call : Goes (after_call w c)
  unfolding after_call
  sits-call = go (verdict (checks w c)) refl
    where
      go : (v : Result Unit Why) → verdict (checks w c) ≡ v → Goes (settle v w c.out (effect c.call w c))
      go (Ok tt) e = sits_effect c.call (verdict_rest _ _ e)
      go (Err y) e = nothing w g
