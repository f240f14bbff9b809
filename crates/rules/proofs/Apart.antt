-- Lone calls and the others do not disturb each other: neither looks at the positions of the other, and what it leaves alone stays.
-- By one law about calls that see a part of the box only. Assumes nothing.
use Rattle.std.specs.Prelude.{Result, Ok, Err, Option, Some, None, ◌≡◌, refl, Bool, true, false, cond, not, ◌||◌, List, [], ◌∷◌, ◌++◌, ℕ, ◌≤◌, length}
use Rattle.std.proofs.Common.{sym, ap, ap₂, ◌∙◌, subst, true≢false, arith}
use Rattle.std.proofs.lemmas.Bool.{false≢true}
use Rattle.stamps.specs.Keys.{item_of}
use Rattle.stamps.specs.Sources.{put, other}
use Rattle.stamps.specs.declared.Source.{Source}
use Rattle.stamps.specs.declared.Source.TheVariants.{A, B}
use Rattle.stamps.specs.declared.Item.{Item}
use Rattle.stamps.specs.declared.PerSource.{PerSource}
use Rattle.sheets.specs.declared.rows.Victim.{Victim}
use Rattle.sheets.specs.Layout.{Told, room_of}
use Rattle.rules.specs.declared.Why.{Why}
use Rattle.rules.specs.Calls.{After, after, joins, arrives, evicts, tries, runs, drains, lists, effect, settle, after_call}
use Rattle.rules.specs.Demand3.{wrote}
use Rattle.rules.specs.Lone.{asks, Heard, heard_of, heard, only, others}
use Rattle.rules.specs.Refusals.{verdict, both_closed, room_for, make_room, arrived, idle, row_checks, room_check, checks, own_checks}
use Rattle.rules.specs.World.{World, pick, same, count_of, with_lone, flush, store, note, shut, move, pass, world, with_call, Lent}
use Rattle.rules.specs.declared.Call.{Call}
use Rattle.rules.specs.declared.Call.TheVariants.{Arrive, Evict, Run, Close, Drain, Lone}
use Rattle.rules.specs.declared.Answer.TheVariants.{Ran}
use Rattle.rules.proofs.Fitting.{Fit, positioned, fit_positions, place-within, fits_hold}
use Rattle.rules.proofs.Seen.{both_sources, same_eq}
use Rattle.rules.proofs.Settling.{verdict_first, verdict_rest}
use Rattle.rules.proofs.Steps.{Sits, closed_of_lem, sits-call}

-- ---- calls that see a part of the box only

-- two calls that answer, write and leave the same, in what is seen
pub record Alike (view : World → World) (r r' : After) : Type 0 where
  pub heard : heard_of r ≡ heard_of r'
  pub seen : view r.world ≡ view r'.world

-- calls that pass a test see only the view, and the others leave it as it is: then they are heard the same without the others
module _ (u : Call → Bool) (view : World → World) (Holds : World → Type 0)
    (keeps : (w : World) (c : Lent) → Holds w → Holds (after_call w c).world)
    (sees : (w : World) (c : Lent) → u c.call ≡ true → Holds w → Alike view (after_call w c) (after_call (view w) c))
    (leaves : (w : World) (c : Lent) → u c.call ≡ false → Holds w → view (after_call w c).world ≡ view w) where
  pub heard_only : (cs : List Lent) (w w' : World) → Holds w → Holds w' → view w ≡ view w' → heard u w cs ≡ heard u w' (only u cs)
  heard_only [] w w' g g' e = refl
  heard_only (c ∷ cs) w w' g g' e = go (u c.call) refl (λ v h d. heard_only cs (after_call w c).world v (keeps w c g) h d)
    where
      r : After
      r = after_call w c

      r' : After
      r' = after_call w' c

      alike : u c.call ≡ true → Alike view r r'
      alike h = let x = sees w c h g in let y = sees w' c h g' in
          record {
            heard = x.heard ∙ ap (λ (v : World). heard_of (after_call v c)) e ∙ sym y.heard;
            seen = x.seen ∙ ap (λ (v : World). view (after_call v c).world) e ∙ sym y.seen;
          }

      go : (v : Bool) → u c.call ≡ v → ((v : World) → Holds v → view r.world ≡ view v → heard u r.world cs ≡ heard u v (only u cs))
          → cond v (heard_of r ∷ []) [] ++ heard u r.world cs ≡ heard u w' (cond v (c ∷ only u cs) (only u cs))
      go true h ih = rw h (ap₂ (λ (x : Heard) (l : List Heard). x ∷ l) (alike h).heard (ih r'.world (keeps w' c g') (alike h).seen))
      go false h ih = ih w' g' (leaves w c h g ∙ e)

-- ---- lone calls and the others

pub by_kind : (P : Lent → Type 0) → ((c : Lent) → others c.call ≡ true → P c) → ((s : Source) (c : Lent) → P (with_call (Lone s) c)) → (c : Lent) → P c
by_kind P f g c = go c.call
  where
    go : (k : Call) → P (with_call k c)
    go (Arrive s m) = f (with_call (Arrive s m) c) refl
    go (Evict s q) = f (with_call (Evict s q) c) refl
    go (Run s q) = f (with_call (Run s q) c) refl
    go (Close s) = f (with_call (Close s) c) refl
    go Drain = f (with_call Drain c) refl
    go (Lone s) = g s c

pub other_asks : (s : Source) (k : Call) → others k ≡ true → asks s k ≡ false
other_asks s k h = go s (asks A k) (asks B k) refl refl h
  where
    go : (s : Source) (u v : Bool) → asks A k ≡ u → asks B k ≡ v → not (u || v) ≡ true → asks s k ≡ false
    go A false v e f g = e
    go B u false e f g = f
    go A true v e f g = absurd (false≢true g)
    go B true true e f g = absurd (false≢true g)
    go B false true e f g = absurd (false≢true g)

-- a lone call for s is that of s
pub asks_own : (P : Lent → Type 0) (s : Source) → ((c : Lent) → P (with_call (Lone s) c)) → (c : Lent) → asks s c.call ≡ true → P c
asks_own P s x = by_kind (λ c. asks s c.call ≡ true → P c) (λ c h e. absurd (false≢true (sym (other_asks s c.call h) ∙ e)))
    (λ v c e. subst (λ (v : Source). P (with_call (Lone v) c)) (sym (same_eq v s e)) (x c))

-- ---- a box that nobody else altered passes number 1

verdict-passed : (w : World) (c : Lent) → Fit w → verdict (checks w c) ≡ verdict (own_checks c.call w c)
unfolding verdict
verdict-passed w c f = rw (fits_hold w f)

-- ---- other positions of the lone calls

abbrev pub placed : PerSource ℕ → World → World
placed p w = world (with_lone p w.session) w.sheets

module _ (p : PerSource ℕ) where
  -- in what a call leaves
  abbrev placed_after : After → After
  placed_after r = after r.answer (placed p r.world) r.out

  placed_flush : (s : Source) (q : ℕ) (w : World) → flush s q (placed p w) ≡ placed p (flush s q w)
  unfolding flush
  placed_flush s q w = refl

  placed_room : (room : Option Victim) (w : World) → make_room room (placed p w) ≡ placed p (make_room room w)
  placed_room None w = refl
  placed_room (Some v) w = placed_flush v.source v.part w

  placed_joins : (s : Source) (item : Item) (w : World) (o : List ℕ) → joins s item (placed p w) o ≡ placed_after (joins s item w o)
  unfolding joins store
  placed_joins s item w o = refl

  placed_effect : (k : Call) (w : World) (c : Lent) → others k ≡ true → effect k (placed p w) c ≡ placed_after (effect k w c)
  unfolding effect arrives room_for evicts flush runs note shut drains move
  placed_effect (Arrive s m) w c h = ap (λ (v : World). joins s (item_of m) v c.out) (placed_room (room_for w) w) ∙ placed_joins s (item_of m) (make_room (room_for w) w) c.out
  placed_effect (Evict s q) w c h = refl
  placed_effect (Run s q) w c h = go (idle w s q)
    where
      o : List ℕ
      o = c.out

      go : (u : Bool) → cond u (after (Ran 0) (placed p w) o) (tries s q (placed p w) o) ≡ placed_after (cond u (after (Ran 0) w o) (tries s q w o))
      go true = refl
      go false = refl
  placed_effect (Close s) w c h = refl
  placed_effect Drain w c h = refl
  placed_effect (Lone A) w c h = absurd (false≢true h)
  placed_effect (Lone B) w c h = absurd (false≢true h)

  -- number 1 is passed, and nothing else is tested of them
  placed_own : (k : Call) (w : World) (c : Lent) → verdict (own_checks k (placed p w) c) ≡ verdict (own_checks k w c)
  unfolding own_checks room_for
  placed_own (Arrive s m) w c = ap (λ (v : World). verdict (row_checks w.session s m ++ (room_check (room_of (length c.out)) (length (arrived s (item_of m) v)) ∷ [])))
      (placed_room (room_for w) w)
  placed_own (Evict s q) w c = refl
  placed_own (Run s q) w c = refl
  placed_own (Close s) w c = refl
  placed_own Drain w c = refl
  placed_own (Lone s) w c = refl

  placed_checks : (w : World) (c : Lent) → Fit w → Fit (placed p w) → verdict (checks (placed p w) c) ≡ verdict (checks w c)
  placed_checks w c f f' = verdict-passed (placed p w) c f' ∙ placed_own c.call w c ∙ sym (verdict-passed w c f)

  placed_call : (w : World) (c : Lent) → Fit w → Fit (placed p w) → others c.call ≡ true → after_call (placed p w) c ≡ placed_after (after_call w c)
  unfolding after_call
  placed_call w c f f' h = rw (placed_checks w c f f') (go (verdict (checks w c)))
    where
      go : (v : Result Unit Why) → settle v (placed p w) c.out (effect c.call (placed p w) c) ≡ placed_after (settle v w c.out (effect c.call w c))
      go (Ok tt) = placed_effect c.call w c h
      go (Err y) = refl

-- no other call moves them
pub own_places : (w : World) (c : Lent) → others c.call ≡ true → (after_call w c).world.session.lone ≡ w.session.lone
unfolding after_call
own_places w c h = go (verdict (checks w c))
  where
    go : (v : Result Unit Why) → (settle v w c.out (effect c.call w c)).world.session.lone ≡ w.session.lone
    go (Ok tt) = ap (λ (r : After). r.world.session.lone) (placed_effect w.session.lone c.call w c h)
    go (Err y) = refl

-- ---- the other calls, with and without lone ones

-- between calls, whatever was written by then
pub record Settled (w : World) : Type 0 where
  pub written : List Told
  pub sits : Sits w written

settled-call : (w : World) (c : Lent) → Settled w → Settled (after_call w c).world
settled-call w c g = record { written = g.written ++ wrote (after_call w c); sits = sits-call w g.written c g.sits }

-- no lone call has begun
abbrev start : PerSource ℕ
start = record { a = 0; b = 0 }

fit-start : (w : World) → Fit w → Fit (placed start w)
fit-start w f = fit_positions w.session.next start w f f.next (both_sources (λ u. pick u start.a start.b ≤ count_of w u) A (omega arith) (omega arith))

-- a lone call moves its own position, and nothing else
pub lone-leaves : (w : World) (c : Lent) (s : Source) → placed start (after_call w (with_call (Lone s) c)).world ≡ placed start w
unfolding after_call effect lists pass
lone-leaves w c s = go (verdict (checks w (with_call (Lone s) c)))
  where
    go : (v : Result Unit Why) → placed start (settle v w c.out (lists s w c.out)).world ≡ placed start w
    go (Ok tt) = refl
    go (Err y) = refl

pub others-heard : (w : World) → Settled w → (cs : List Lent) → heard others w cs ≡ heard others w (only others cs)
others-heard w g cs = heard_only others (placed start) Settled settled-call sees leaves cs w w g g refl
  where
    sees : (w : World) (c : Lent) → others c.call ≡ true → Settled w → Alike (placed start) (after_call w c) (after_call (placed start w) c)
    sees w c h g = let e = placed_call start w c g.sits.fit (fit-start w g.sits.fit) h in
        record { heard = sym (ap heard_of e); seen = sym (ap (λ (r : After). placed start r.world) e) }

    leaves : (w : World) (c : Lent) → others c.call ≡ false → Settled w → placed start (after_call w c).world ≡ placed start w
    leaves w c h g = by_kind (λ c. others c.call ≡ false → placed start (after_call w c).world ≡ placed start w) (λ c e f. absurd (true≢false (sym e ∙ f)))
        (λ s c f. lone-leaves w c s) c h

-- ---- the lone calls of a source, with and without the others

-- the drain position and that of the other source set back
abbrev pub view_of : Source → World → World
view_of s w = positioned 0 (put (other s) 0 w.session.lone) w

fit_view : (s : Source) (w : World) → Fit w → Fit (view_of s w)
fit_view s w f = fit_positions 0 (put (other s) 0 w.session.lone) w f (omega arith) (place-within (other s) 0 w f (omega arith))

-- once both are closed, nothing but a drain or a lone call does anything
module _ (w : World) (c : Lent) (h : both_closed w.session ≡ true) where
  -- a check that fails where a source is closed has not let the call through
  halted : (u : Bool) → u ≡ true → u ≡ false → (r : After) → r.world ≡ w
  halted u e f r = absurd (true≢false (sym e ∙ f))

  pub closed-leaves : (s : Source) → asks s c.call ≡ false → view_of s (after_call w c).world ≡ view_of s w
  unfolding after_call own_checks effect drains move lists pass
  closed-leaves s e = go (verdict (checks w c)) refl
    where
      acts : (k : Call) → asks s k ≡ false → verdict (own_checks k w c) ≡ Ok tt → view_of s (effect k w c).world ≡ view_of s w
      acts (Arrive v m) e g = ap (view_of s) (halted _ (closed_of_lem w h v) (verdict_first _ _ (verdict_rest _ _ g)) (effect (Arrive v m) w c))
      acts (Evict v q) e g = ap (view_of s) (halted _ h (verdict_first _ _ (verdict_rest _ _ g)) (effect (Evict v q) w c))
      acts (Run v q) e g = ap (view_of s) (halted _ h (verdict_first _ _ (verdict_rest _ _ g)) (effect (Run v q) w c))
      acts (Close v) e g = ap (view_of s) (halted _ (closed_of_lem w h v) (verdict_first _ _ g) (effect (Close v) w c))
      acts Drain e g = refl
      acts (Lone v) e g = passes v s e
        where
          passes : (v s : Source) → same v s ≡ false → view_of s (lists v w c.out).world ≡ view_of s w
          passes A A e = absurd (true≢false e)
          passes A B e = refl
          passes B A e = refl
          passes B B e = absurd (true≢false e)

      go : (v : Result Unit Why) → verdict (checks w c) ≡ v → view_of s (settle v w c.out (effect c.call w c)).world ≡ view_of s w
      go (Ok tt) g = acts c.call e (verdict_rest _ _ g)
      go (Err y) g = refl

closed_stays : (w : World) (c : Lent) → both_closed w.session ≡ true → both_closed (after_call w c).world.session ≡ true
closed_stays w c h = by_kind (λ c. both_closed (after_call w c).world.session ≡ true)
    (λ c e. ap (λ (v : World). both_closed v.session) (closed-leaves w c h A (other_asks A c.call e)) ∙ h)
    (λ s c. ap (λ (v : World). both_closed v.session) (lone-leaves w c s) ∙ h) c

-- a lone call sees the view of its source only
view_checks : (s : Source) (w : World) (c : Lent) → Fit w → verdict (checks (view_of s w) (with_call (Lone s) c)) ≡ verdict (checks w (with_call (Lone s) c))
unfolding own_checks
view_checks s w c f = rw (fits_hold w f, fits_hold (view_of s w) (fit_view s w f))

view_sees : (s : Source) (w : World) (c : Lent) → Fit w → Alike (view_of s) (after_call w (with_call (Lone s) c)) (after_call (view_of s w) (with_call (Lone s) c))
unfolding after_call effect lists pass
view_sees s w c f = rw (view_checks s w c f) (go (verdict (checks w (with_call (Lone s) c))) s)
  where
    o : List ℕ
    o = c.out

    go : (v : Result Unit Why) (s : Source) → Alike (view_of s) (settle v w c.out (lists s w o)) (settle v (view_of s w) c.out (lists s (view_of s w) o))
    go (Ok tt) A = record { heard = refl; seen = refl }
    go (Ok tt) B = record { heard = refl; seen = refl }
    go (Err y) A = record { heard = refl; seen = refl }
    go (Err y) B = record { heard = refl; seen = refl }

pub record Closed (w : World) : Type 0 where
  pub settled : Settled w
  pub closed : both_closed w.session ≡ true

pub lone-heard : (s : Source) (w : World) → Closed w → (cs : List Lent) → heard (asks s) w cs ≡ heard (asks s) w (only (asks s) cs)
lone-heard s w g cs = heard_only (asks s) (view_of s) Closed keeps sees leaves cs w w g g refl
  where
    keeps : (w : World) (c : Lent) → Closed w → Closed (after_call w c).world
    keeps w c g = record { settled = settled-call w c g.settled; closed = closed_stays w c g.closed }

    sees : (w : World) (c : Lent) → asks s c.call ≡ true → Closed w → Alike (view_of s) (after_call w c) (after_call (view_of s w) c)
    sees w c h g = asks_own (λ c. Alike (view_of s) (after_call w c) (after_call (view_of s w) c)) s (λ c. view_sees s w c g.settled.sits.fit) c h

    leaves : (w : World) (c : Lent) → asks s c.call ≡ false → Closed w → view_of s (after_call w c).world ≡ view_of s w
    leaves w c h g = closed-leaves w c g.closed s h
