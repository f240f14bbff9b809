-- A list handed out call by call: what the call of a given number says, from what one call says and leaves. By induction over the calls.
-- Drains and lone calls are its two cases. Assumes nothing.
use Rattle.std.specs.Prelude.{Ok, ◌≡◌, refl, Bool, true, false, cond, List, [], ◌∷◌, ◌++◌, map, ℕ, suc, ◌+◌, ◌*◌, ◌-◌, ◌≤◌, min, ltb, leb, length, take, drop}
use Rattle.std.proofs.Common.{sym, ap, ap₂, ◌∙◌, suc-mul, one-mul, zero-mul, le_of_suc-le-suc, div-lt_iff_lt-mul, arith, length-take, length-drop, le-leb, ne_eqb}
use Rattle.std.proofs.Math.ListN.{length-map}
use Rattle.std.proofs.lemmas.Bool.{lt-leb}
use Rattle.stamps.proofs.CountingLaws.{tests}
use Rattle.sheets.specs.Layout.{Told}
use Rattle.pairs.proofs.Handing.{take-map}
use Rattle.rules.specs.Calls.{After, after_call}
use Rattle.rules.specs.Demand3.{wrote, after_calls}
use Rattle.rules.specs.Refusals.{verdict, both_closed, drain_checks, sheet_check, session_fits}
use Rattle.rules.specs.Rounds.{again, Rooms, saying, Handed, ceil, saying_at, room_in}
use Rattle.rules.specs.World.{World, given}
use Rattle.rules.specs.declared.Call.{Call}
use Rattle.rules.specs.declared.Answer.{Answer}
use Rattle.rules.proofs.Fitting.{Fit, fits_hold}

-- ---- one call

-- a box with both sources closed, that nobody else altered
pub record Shut (w : World) : Type 0 where
  pub fit : Fit w
  pub closed : both_closed w.session ≡ true

-- a drain or a lone call with some room is not refused there
pub shut_good : (w : World) → Shut w → (room : ℕ) → 1 ≤ room → verdict (sheet_check (session_fits w) ∷ drain_checks w.session room) ≡ Ok tt
unfolding verdict
shut_good w g room h = rw (fits_hold w g.fit, g.closed, ne_eqb room 0 (omega arith))

-- the answer of a call that gives the first r of a list
pub said : {X : Type 0} (more done : ℕ → Answer) (r : ℕ) (xs : List X) → cond (ltb r (length xs)) more done (length (take r xs)) ≡ saying more done r (length xs)
said more done r xs = rw (length-take r xs) (go (ltb r (length xs)) refl)
  where
    go : (u : Bool) → ltb r (length xs) ≡ u → cond u more done (min r (length xs)) ≡ saying more done r (length xs)
    go true e = rw (lt-leb (length xs) r (omega (arith, tests)))
    go false e = rw (le-leb (length xs) r (omega (arith, tests)))

-- after the last of it none is left
pub said_last : {X : Type 0} (more done : ℕ → Answer) → ((m n : ℕ) → more m ≡ done n → ⊥) → (r : ℕ) (xs : List X) (n : ℕ)
    → cond (ltb r (length xs)) more done (length (take r xs)) ≡ done n → ltb r (length xs) ≡ false
said_last more done apart r xs n = go (ltb r (length xs))
  where
    go : (u : Bool) → cond u more done (length (take r xs)) ≡ done n → u ≡ false
    go true h = absurd (apart (length (take r xs)) n h)
    go false h = refl

-- what a call says and leaves of a list
pub record Gives (c : Call) (more done : ℕ → Answer) (left : World → ℕ) (w : World) (o : List ℕ) : Type 0 where
  pub says : (after_call w (given c o)).answer ≡ saying more done (room_in c (length o)) (left w)
  pub rest : left (after_call w (given c o)).world ≡ left w - room_in c (length o)

-- x is what it does; xs is what is left, and it gives the first of it
pub gives_first : {X : Type 0} (c : Call) (more done : ℕ → Answer) (left : World → List X) (w : World) (o : List ℕ) (x : After) → after_call w (given c o) ≡ x
    → x.answer ≡ cond (ltb (room_in c (length o)) (length (left w))) more done (length (take (room_in c (length o)) (left w)))
    → left x.world ≡ drop (room_in c (length o)) (left w) → Gives c more done (λ w. length (left w)) w o
gives_first c more done left w o x e a d = record {
  says = ap (λ (r : After). r.answer) e ∙ a ∙ said more done (room_in c (length o)) (left w);
  rest = ap (λ (r : After). length (left r.world)) e ∙ ap length d ∙ length-drop (room_in c (length o)) (left w);
}

-- the same of what is told of the list
pub handed : {X Y : Type 0} (more done : ℕ → Answer) (f : X → Y) (xs : List X) (l written : List Y) (r : ℕ) (answer : Answer) → l ≡ map f xs → written ≡ map f (take r xs)
    → answer ≡ saying more done r (length xs) → Handed more done l r written answer
handed more done f xs l written r answer e h a = record {
  writes = h ∙ take-map f r xs ∙ ap (take r) (sym e);
  says = a ∙ ap (saying more done r) (sym (ap length e ∙ length-map xs f));
}

-- ---- one after the other

leb_iff : (i j m n : ℕ) → (i ≤ j → m ≤ n) → (m ≤ n → i ≤ j) → leb i j ≡ leb m n
leb_iff i j m n f g = go (leb m n) refl
  where
    go : (u : Bool) → leb m n ≡ u → leb i j ≡ u
    go true e = le-leb i j (g (omega (arith, tests)))
    go false e = below (leb i j) refl
      where
        below : (v : Bool) → leb i j ≡ v → v ≡ false
        below true h = absurd (omega (arith, tests, f (omega (arith, tests))))
        below false h = refl

ceil_le : (n r m : ℕ) → 1 ≤ r → leb n (m * r) ≡ leb (ceil n r) m
ceil_le n r m h = leb_iff n (m * r) (ceil n r) m
    (λ e. le_of_suc-le-suc ((div-lt_iff_lt-mul {k = r} {x = n + (r - 1)} {y = suc m} h).1 (omega (arith, suc-mul m r))))
    (λ e. omega (arith, suc-mul m r, (div-lt_iff_lt-mul {k = r} {x = n + (r - 1)} {y = suc m} h).0 (omega arith)))

module _ (c : Call) (more done : ℕ → Answer) (left : World → ℕ) (Holds : World → Type 0)
    (gives : (w : World) (o : List ℕ) → Holds w → 1 ≤ room_in c (length o) → Gives c more done left w o)
    (keeps : (w : World) (o : List ℕ) → Holds w → 1 ≤ room_in c (length o) → Holds (after_call w (given c o)).world) where
  -- after k calls with room r, n being left at first
  abbrev say : ℕ → ℕ → ℕ → Answer
  say r n k = cond (leb n (suc k * r)) done more (min r (n - k * r))

  say_first : (r n : ℕ) → saying more done r n ≡ say r n 0
  say_first r n = rw (one-mul r, zero-mul r) (ap (λ (m : ℕ). cond (leb n r) done more (min r m)) (omega arith))

  say_next : (r n k : ℕ) → say r (n - r) k ≡ say r n (suc k)
  say_next r n k = ap₂ (λ (u : Bool) (m : ℕ). cond u done more (min r m))
      (leb_iff (n - r) (suc k * r) n (suc (suc k) * r) (λ h. omega (arith, suc-mul (suc k) r)) (λ h. omega (arith, suc-mul (suc k) r)))
      (let e : suc k * r ≡ k * r + r = suc-mul k r in rw e (omega arith))

  says_at : (r : ℕ) → 1 ≤ r → (o : List ℕ) → room_in c (length o) ≡ r → (os : List (List ℕ)) → Rooms c r os → (w : World) (l : List Told) → Holds w
      → (after_call (after_calls w l (again c os)).world (given c o)).answer ≡ say r (left w) (length os)
  says_at r h o e [] k w l g = (gives w o g (rw e h)).says ∙ ap (λ (m : ℕ). saying more done m (left w)) e ∙ say_first r (left w)
  says_at r h o e (x ∷ os) k w l g = let b : 1 ≤ room_in c (length x) = rw k.0 h in
      says_at r h o e os k.1 (after_call w (given c x)).world (l ++ wrote (after_call w (given c x))) (keeps w x g b)
      ∙ ap (λ (m : ℕ). say r m (length os)) ((gives w x g b).rest ∙ ap (λ (m : ℕ). left w - m) k.0) ∙ say_next r (left w) (length os)

  pub rounds : (r : ℕ) → 1 ≤ r → (o : List ℕ) → room_in c (length o) ≡ r → (os : List (List ℕ)) → Rooms c r os → (w : World) (l : List Told) → Holds w
      → (after_call (after_calls w l (again c os)).world (given c o)).answer ≡ saying_at more done r (left w) (length os)
  rounds r h o e os k w l g = says_at r h o e os k w l g
      ∙ ap (λ (u : Bool). cond u done more (min r (left w - length os * r))) (ceil_le (left w) r (suc (length os)) h)
