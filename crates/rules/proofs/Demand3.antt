-- Demand 3 holds after an accepted opening and any list of calls: from what holds between calls, by induction over the calls.
-- Assumes nothing.
use Rattle.std.specs.Prelude.{Result, Ok, Err, ◌≡◌, refl, Bool, true, false, cond, ◌&&◌, ◌||◌, List, [], ◌∷◌, ◌++◌, map, ℕ, ◌*◌, ◌≤◌, ◌<◌, ltb, length, drop}
use Rattle.std.proofs.lemmas.Bool.{and_parts}
use Rattle.std.proofs.Common.{sym, ap, ◌∙◌, subst, arith, lt-ltb}
use Rattle.std.proofs.Math.Bool.{or-true}
use Rattle.std.proofs.Math.ListN.{length-map}
use Rattle.stamps.specs.Counting.{bit}
use Rattle.stamps.proofs.CountingLaws.{half_le}
use Rattle.stamps.specs.Keys.{item_of, items_match}
use Rattle.stamps.specs.Stamps.{in_memory}
use Rattle.stamps.proofs.StampsLaws.{done_memory}
use Rattle.stamps.specs.declared.Source.{Source}
use Rattle.stamps.specs.declared.Source.TheVariants.{A, B}
use Rattle.stamps.specs.declared.Item.{Item}
use Rattle.sheets.specs.Layout.{Told, room_of}
use Rattle.sheets.proofs.LayoutLaws.{shown_own}
use Rattle.pairs.specs.Joins.{inside, numbers, is_pair, times}
use Rattle.pairs.specs.Pairs.{position, tell_of, told, done}
use Rattle.pairs.proofs.Rises.{missing-owed, drain-parts, owed-after, position-inside}
use Rattle.rules.specs.declared.Why.{Why}
use Rattle.rules.specs.Answers.{code_of}
use Rattle.rules.specs.Calls.{After, owed, drains, effect, settle, after_call, opens}
use Rattle.rules.specs.Rounds.{Handed, saying_at}
use Rattle.rules.specs.Demand3.{wrote, opened, ForAnyCalls, accepted, items_of, pair_of, owes, left, Demand3, now, written}
use Rattle.rules.specs.Refusals.{Check, verdict, try_checks, both_closed, idle, checks, own_checks}
use Rattle.rules.specs.World.{World, count_of, rows_of, seen_from, move, Sheets, given, Lent}
use Rattle.rules.specs.declared.Call.{Call}
use Rattle.rules.specs.declared.Call.TheVariants.{Arrive, Evict, Run, Close, Drain, Lone}
use Rattle.rules.specs.declared.Why.TheVariants.{BadSheet}
use Rattle.rules.specs.declared.Answer.TheVariants.{Opened, More, Done, Refused}
use Rattle.rules.proofs.Accepted.{calls_accept}
use Rattle.rules.proofs.Fitting.{Fit, fits_hold, fit-move}
use Rattle.rules.proofs.Laps.{of_one_lap}
use Rattle.rules.proofs.Laws.{refused_by}
use Rattle.rules.proofs.Moments.{sits-opened, no_items, sits_calls}
use Rattle.rules.proofs.Rounds.{said_last, Gives, gives_first, handed, rounds, Shut, shut_good}
use Rattle.rules.proofs.Owing.{is_out}
use Rattle.rules.proofs.Settling.{settle_good}
use Rattle.rules.proofs.Steps.{Sits, drain-wrote, sits-call}

-- ---- a and b

prompt_now : (w : World) (l : List Told) → Sits w l → (i j : ℕ) → i < count_of w A → j < count_of w B → in_memory (rows_of w A i) ≡ true → in_memory (rows_of w B j) ≡ true
    → items_match (rows_of w A i).item (rows_of w B j).item ≡ true → times (pair_of w i j) l ≡ 1
prompt_now w l g i j a b h k m = g.sound.tells (pair_of w i j)
    ∙ rw (lt-ltb i (count_of w A) a, lt-ltb j (count_of w B) b, m, shown_own (pair_of w i j).shown, done_memory _ _ (rows_of w A i) (rows_of w B j) h k)

-- ---- c and d: one drain, and what it leaves to the next

module _ (w : World) (l : List Told) (g : Sits w l) where
  left_owed : left w l ≡ told A (seen_from A w) (owed w)
  left_owed = missing-owed (seen_from A w) w.session.next l g.sound.tells

  length-left : length (left w l) ≡ length (owed w)
  length-left = ap length left_owed ∙ length-map (owed w) (tell_of A (seen_from A w))

module _ (w : World) (o : List ℕ) where
  abbrev room : ℕ
  room = room_of (length o)

  drain_is : Shut w → 1 ≤ room → after_call w (given Drain o) ≡ drains w o
  unfolding effect own_checks
  drain_is g h = sym (settle_good w (given Drain o) (drains w o) (shut_good w g room h) refl)

  -- what it leaves
  owed_drained : Fit w → owed (drains w o).world ≡ drop room (owed w)
  unfolding drains move
  owed_drained f = owed-after (seen_from A w) w.session.next room _ (drain-parts (seen_from A w) w.session.next room f.next)

  drain_gives : Shut w → 1 ≤ room → Gives Drain More Done (λ w. length (owed w)) w o
  unfolding drains
  drain_gives g h = gives_first Drain More Done owed w o (drains w o) (drain_is g h) refl (owed_drained g.fit)

  shut_drained : Shut w → 1 ≤ room → Shut (after_call w (given Drain o)).world
  unfolding drains move
  shut_drained g h = subst (λ (r : After). Shut r.world) (sym (drain_is g h))
      (record { fit = fit-move _ w g.fit (drain-parts (seen_from A w) w.session.next room g.fit.next).to; closed = g.closed })

  module _ (l : List Told) (g : Sits w l) where
    drained : both_closed w.session ≡ true → 1 ≤ room → let r = after_call w (given Drain o) in Handed More Done (left w l) room (wrote r) r.answer
    drained c h = let shut : Shut w = record { fit = g.fit; closed = c } in
        handed More Done (tell_of A (seen_from A w)) (owed w) _ _ room _ (left_owed w l g) (ap wrote (drain_is shut h) ∙ drain-wrote w l (given Drain o) g) (drain_gives shut h).says

  -- the last one, after which all are written
  last_drained : (n : ℕ) → (drains w o).answer ≡ Done n → ltb room (length (owed w)) ≡ false
  unfolding drains
  last_drained = said_last More Done (λ m n h. cc) room (owed w)

  whole_drained : ltb room (length (owed w)) ≡ false → (x : Told) → bit (is_out (drains w o).world x) ≡ owes w x
  unfolding drains move
  whole_drained e x = rw e (go (is_pair (seen_from A w) x) refl)
    where
      go : (u : Bool) → is_pair (seen_from A w) x ≡ u → bit (u && (done (seen_from A w) (numbers x) || ltb (position (seen_from A w) (numbers x)) (count_of w A * count_of w B))) ≡ bit u
      go false h = refl
      go true h = rw (lt-ltb _ _ (position-inside (seen_from A w) (numbers x) (and_parts (inside (seen_from A w) (numbers x)) _ h).0), or-true)

-- ---- e: after Done, and number 1

whole_now : (w : World) (l : List Told) → Sits w l → (o : List ℕ) (n : ℕ) → (after_call w (given Drain o)).answer ≡ Done n → (x : Told) → times x (l ++ wrote (after_call w (given Drain o))) ≡ owes w x
unfolding after_call effect
whole_now w l g o n e x = (sits-call w l (given Drain o) g).sound.tells x ∙ go (verdict (checks w (given Drain o))) e
  where
    go : (v : Result Unit Why) → let r = settle v w o (drains w o) in r.answer ≡ Done n → bit (is_out r.world x) ≡ owes w x
    go (Ok tt) h = whole_drained w o (last_drained w o n h) x
    go (Err y) h = cc

-- checks that do not give number 1
abbrev Others : List Check → Type 0
Others [] = Unit
Others (c ∷ cs) = (code_of c.why ≡ 1 → ⊥) × Others cs

never : (cs : List Check) → Others cs → verdict cs ≡ Err BadSheet → ⊥
unfolding verdict
never [] h e = cc
never (c ∷ cs) h e = go c.fails (never cs h.1) e
  where
    go : (u : Bool) → (verdict cs ≡ Err BadSheet → ⊥) → cond u (Err c.why) (verdict cs) ≡ Err BadSheet → ⊥
    go true ih e = h.0 (let z : c.why ≡ BadSheet = cc in ap code_of z)
    go false ih e = ih e

never_first : (c : Check) (cs : List Check) → c.fails ≡ false → Others cs → verdict (c ∷ cs) ≡ Err BadSheet → ⊥
unfolding verdict
never_first c cs f h e = never cs h (rw f at e)

fits-now : (w : World) (l : List Told) → Sits w l → (c : Lent) → (after_call w c).answer ≡ Refused BadSheet → ⊥
unfolding own_checks
fits-now w l g c e = never_first _ _ (rw (fits_hold w g.fit)) (own c.call) (refused_by w c BadSheet e)
  where
    rest : (s : Source) (q : ℕ) (u : Bool) → Others (cond u [] (try_checks w s q (room_of (length c.out))))
    rest s q true = tt
    rest s q false = (λ h. omega arith, (λ h. omega arith, tt))

    own : (k : Call) → Others (own_checks k w c)
    own (Arrive s m) = (λ h. omega arith, (λ h. omega arith, (λ h. omega arith, (λ h. omega arith, tt))))
    own (Evict s q) = (λ h. omega arith, (λ h. omega arith, tt))
    own (Run s q) = (λ h. omega arith, (λ h. omega arith, rest s q (idle w s q)))
    own (Close s) = (λ h. omega arith, tt)
    own Drain = (λ h. omega arith, (λ h. omega arith, tt))
    own (Lone s) = (λ h. omega arith, (λ h. omega arith, tt))

-- ---- the demand

module _ (p m n : ℕ) (x : Sheets) (e : (opens p m n x).answer ≡ Opened) (calls : List Lent) where
  abbrev start : World
  start = opened p m n x

  -- the box after the calls, and what they wrote
  abbrev w : World
  w = now start calls

  abbrev l : List Told
  l = written start calls

  sits : Sits w l
  sits = sits_calls start [] calls (sits-opened p m n x e)

  rows_now : (s : Source) → items_of w s ≡ map item_of (accepted s start calls)
  rows_now s = calls_accept start [] calls (sits-opened p m n x e) s ∙ ap (λ (k : List Item). k ++ map item_of (accepted s start calls)) (no_items p m n x e s)

  holds : Demand3 start calls
  holds = record {
    rows = rows_now;
    laps = of_one_lap start w calls rows_now;
    once = λ x. rw (sits.sound.tells x) (half_le (is_pair (seen_from A w) x) _);
    prompt = prompt_now w l sits;
    drain = λ c o h. drained w o l sits c h;
    drains = λ c r h os k o f.
        rounds Drain More Done (λ w. length (owed w)) Shut drain_gives shut_drained r h o f os k w l (record { fit = sits.fit; closed = c })
        ∙ ap (λ (n : ℕ). saying_at More Done r n (length os)) (sym (length-left w l sits));
    whole = whole_now w l sits;
    fits = fits-now w l sits;
  }

pub demand_3 : ForAnyCalls Demand3
demand_3 = holds
