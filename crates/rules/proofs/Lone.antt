-- Lone calls list every row without partner once, and hand them out as drains do pairs, after any list of calls that follows an
-- accepted opening: from what holds between calls, by induction over the calls. Assumes nothing.
use Rattle.std.specs.Prelude.{Result, Ok, Err, ◌≡◌, refl, Bool, true, false, cond, ◌&&◌, List, [], ◌∷◌, ◌++◌, map, ℕ, ◌+◌, ◌≤◌, ltb, eqb, length, take, drop}
use Rattle.std.proofs.Common.{sym, ap, ◌∙◌, subst, true≢false, append-nil, append_assoc, arith, length-take}
use Rattle.std.proofs.Math.Bool.{and-true, and-false, false≢true}
use Rattle.std.proofs.Math.Dec.{leb-suc-zero}
use Rattle.std.proofs.Math.ListN.{length-map}
use Rattle.std.proofs.lemmas.Bool.{not-false}
use Rattle.stamps.specs.Counting.{bit}
use Rattle.stamps.proofs.CountingLaws.{half_le, count-append}
use Rattle.stamps.specs.declared.Source.{Source}
use Rattle.stamps.specs.declared.Source.TheVariants.{A, B}
use Rattle.stamps.specs.declared.PerSource.{PerSource}
use Rattle.sheets.specs.Layout.{Single, Told, singles_need, single_room, single_at, put_single}
use Rattle.pairs.specs.Lones.{Items, is_lone, number, single, is_single, same_single, listings}
use Rattle.pairs.specs.Rooms.{onward}
use Rattle.pairs.proofs.Alone.{lone_parts, lone_tells, lones-after, unlisted-left}
use Rattle.pairs.proofs.Handing.{read_told, Parts}
use Rattle.pairs.proofs.Laws.{single-words}
use Rattle.rules.specs.declared.Why.{Why}
use Rattle.rules.specs.Answers.{singles_of}
use Rattle.rules.specs.Calls.{After, alone, lists, effect, settle, after_call, opens}
use Rattle.rules.specs.Demand3.{wrote, after_calls, opened, ForAnyCalls}
use Rattle.rules.specs.Lone.{asks, named, listed, to_list, Lones}
use Rattle.rules.specs.Refusals.{verdict, both_closed, checks, own_checks}
use Rattle.rules.specs.Rounds.{Handed, saying_at}
use Rattle.rules.specs.World.{World, pick, same, count_of, place_of, items_from, pass, Sheets, given, with_call, Lent}
use Rattle.rules.specs.declared.Call.TheVariants.{Lone}
use Rattle.rules.specs.declared.Answer.TheVariants.{Opened, MoreLone, DoneLone}
use Rattle.rules.proofs.Apart.{by_kind, other_asks, asks_own, view_of, closed-leaves, lone-leaves, own_places, others-heard, lone-heard}
use Rattle.rules.proofs.Seen.{same_own}
use Rattle.rules.proofs.Fitting.{Fit, fit-pass}
use Rattle.rules.proofs.Moments.{sits-opened, no_places, sits_calls}
use Rattle.rules.proofs.Rounds.{said_last, Gives, gives_first, handed, rounds, Shut, shut_good}
use Rattle.rules.proofs.Settling.{settle_good, either, verdict_first, verdict_rest}
use Rattle.rules.proofs.Steps.{Sits, sits-call}

-- ---- one call

module _ (s : Source) (w : World) (o : List ℕ) where
  abbrev room : ℕ
  room = single_room (length o)

  lone_is : Shut w → 1 ≤ room → after_call w (given (Lone s) o) ≡ lists s w o
  unfolding effect own_checks
  lone_is g h = sym (settle_good w (given (Lone s) o) (lists s w o) (shut_good w g room h) refl)

  -- what it wrote is read back
  lone_named : named (lists s w o) ≡ map (single (items_from s w)) (take room (alone s w))
  unfolding lists
  lone_named = let n : ℕ = length (take room (alone s w)) in
      rw (either (λ x. singles_of x ≡ n) (ltb room (length (alone s w))) MoreLone DoneLone n refl refl)
      (read_told single_at put_single singles_need single-words (single (items_from s w)) (take room (alone s w)) o (rw length-take (omega arith)))

  -- where it leaves the position
  lone_place : place_of (lists s w o).world s ≡ onward number (count_of w s) (place_of w s) room (alone s w)
  unfolding lists pass
  lone_place = go s
    where
      go : (s : Source) → place_of (lists s w o).world s ≡ onward number (count_of w s) (place_of w s) room (alone s w)
      go A = refl
      go B = refl

  lone_next : Fit w → Parts number (place_of w s) room (count_of w s) (place_of (lists s w o).world s) (alone s w)
  lone_next f = subst (λ (k : ℕ). Parts number (place_of w s) room (count_of w s) k (alone s w)) (sym lone_place) (lone_parts (items_from s w) (place_of w s) room (f.lone s))

  alone_listed : Fit w → alone s (lists s w o).world ≡ drop room (alone s w)
  unfolding lists pass
  alone_listed f = lones-after (items_from s w) (place_of w s) room (place_of (lists s w o).world s) (lone_next f)

  lone_gives : Shut w → 1 ≤ room → Gives (Lone s) MoreLone DoneLone (λ w. length (alone s w)) w o
  unfolding lists
  lone_gives g h = gives_first (Lone s) MoreLone DoneLone (alone s) w o (lists s w o) (lone_is g h) refl (alone_listed g.fit)

  shut_listed : Shut w → 1 ≤ room → Shut (after_call w (given (Lone s) o)).world
  unfolding lists pass
  shut_listed g h = subst (λ (r : After). Shut r.world) (sym (lone_is g h))
      (record { fit = fit-pass s _ w g.fit (lone_parts (items_from s w) (place_of w s) room (g.fit.lone s)).to; closed = g.closed })

-- ---- what holds between calls

-- the rows listed so far are those without partner that the position has passed; it is 0 while a source is open
record Tracks (s : Source) (w : World) (m : List Single) : Type 0 where
  start : both_closed w.session ≡ false → place_of w s ≡ 0
  tells : (x : Single) → listings x m ≡ bit (is_single (items_from s w) x && ltb x.row (place_of w s))

-- it is all said of what lone calls of the source see
to_view : (s : Source) (w : World) (m : List Single) → Tracks s w m → Tracks s (view_of s w) m
to_view A w m t = record { start = t.start; tells = t.tells }
to_view B w m t = record { start = t.start; tells = t.tells }

from_view : (s : Source) (w : World) (m : List Single) → Tracks s (view_of s w) m → Tracks s w m
from_view A w m t = record { start = t.start; tells = t.tells }
from_view B w m t = record { start = t.start; tells = t.tells }

-- nothing has been passed
none_passed : (t : Items) (x : Single) (k : ℕ) → k ≡ 0 → bit (is_single t x && ltb x.row k) ≡ 0
none_passed t x k e = rw (e, leb-suc-zero x.row, and-false (is_single t x))

module _ (s : Source) (w : World) (l : List Told) (c : Lent) (m : List Single) (g : Sits w l) (t : Tracks s w m) where
  -- a lone call while a source is open
  open_lone : both_closed w.session ≡ false → (v : Source) (c : Lent) → let r = after_call w (with_call (Lone v) c) in (r.world ≡ w) × (named r ≡ [])
  unfolding after_call own_checks effect
  open_lone h v c = go (verdict (checks w (with_call (Lone v) c))) refl
    where
      go : (y : Result Unit Why) → verdict (checks w (with_call (Lone v) c)) ≡ y → let r = settle y w c.out (effect (Lone v) w c) in (r.world ≡ w) × (named r ≡ [])
      go (Ok tt) e = absurd (false≢true (sym h ∙ not-false _ (verdict_first _ _ (verdict_rest _ _ e))))
      go (Err y) e = (refl, refl)

  open_place : both_closed w.session ≡ false → place_of (after_call w c).world s ≡ place_of w s
  open_place h = by_kind (λ c. place_of (after_call w c).world s ≡ place_of w s) (λ c e. ap (λ (p : PerSource ℕ). pick s p.a p.b) (own_places w c e))
      (λ v c. ap (λ (x : World). place_of x s) (open_lone h v c).0) c

  -- what a call has listed of the source
  abbrev named_by : Lent → List Single
  named_by c = cond (asks s c.call) (named (after_call w c)) []

  open_named : both_closed w.session ≡ false → named_by c ≡ []
  open_named h = by_kind (λ c. named_by c ≡ []) (λ c e. rw (other_asks s c.call e)) (λ v c. rw (open_lone h v c).1 (go (same v s))) c
    where
      go : (u : Bool) → cond {A = List Single} u [] [] ≡ []
      go true = refl
      go false = refl

  tracks_open : both_closed w.session ≡ false → Tracks s (after_call w c).world (m ++ named_by c)
  tracks_open h = let z = open_place h ∙ t.start h in
      record {
        start = λ e. z;
        tells = λ x. ap (λ (k : List Single). listings x (m ++ k)) (open_named h) ∙ ap (listings x) (append-nil m) ∙ t.tells x
            ∙ none_passed (items_from s w) x (place_of w s) (t.start h) ∙ sym (none_passed (items_from s (after_call w c).world) x (place_of (after_call w c).world s) z);
      }

  tracks_lone : both_closed w.session ≡ true → (c : Lent) → let r = after_call w (with_call (Lone s) c) in Tracks s r.world (m ++ named r)
  unfolding after_call effect lists pass
  tracks_lone h c = go (verdict (checks w (with_call (Lone s) c)))
    where
      o : List ℕ
      o = c.out

      told : (x : Single) → listings x (m ++ named (lists s w o)) ≡ bit (is_single (items_from s w) x && ltb x.row (place_of (lists s w o).world s))
      told x = count-append same_single x m (named (lists s w o)) ∙ ap (λ (k : List Single). listings x m + listings x k) (lone_named s w o)
          ∙ rw (t.tells x) (lone_tells (items_from s w) (place_of w s) (single_room (length o)) (place_of (lists s w o).world s) (lone_next s w o g.fit) x)

      go : (y : Result Unit Why) → let r = settle y w c.out (lists s w o) in Tracks s r.world (m ++ named r)
      go (Ok tt) = record { start = λ e. absurd (true≢false (sym h ∙ e)); tells = told }
      go (Err y) = subst (Tracks s w) (sym (append-nil m)) t

  tracks_call : Tracks s (after_call w c).world (m ++ named_by c)
  tracks_call = go (both_closed w.session) refl (asks s c.call) refl
    where
      go : (u : Bool) → both_closed w.session ≡ u → (v : Bool) → asks s c.call ≡ v → Tracks s (after_call w c).world (m ++ cond v (named (after_call w c)) [])
      go true h true e = asks_own (λ c. Tracks s (after_call w c).world (m ++ named (after_call w c))) s (tracks_lone h) c e
      go true h false e = subst (Tracks s (after_call w c).world) (sym (append-nil m))
          (from_view s _ m (subst (λ (x : World). Tracks s x m) (sym (closed-leaves w c h s e)) (to_view s w m t)))
      go false h v e = subst (λ (v : Bool). Tracks s (after_call w c).world (m ++ cond v (named (after_call w c)) [])) e (tracks_open h)

tracks_calls : (s : Source) (w : World) (l : List Told) (m : List Single) (cs : List Lent) → Sits w l → Tracks s w m → Tracks s (after_calls w l cs).world (m ++ listed s w cs)
tracks_calls s w l m [] g t = subst (Tracks s w) (sym (append-nil m)) t
tracks_calls s w l m (c ∷ cs) g t = let r = after_call w c in
    subst (Tracks s (after_calls w l (c ∷ cs)).world) (append_assoc m (cond (asks s c.call) (named r) []) (listed s r.world cs))
    (tracks_calls s r.world (l ++ wrote r) (m ++ cond (asks s c.call) (named r) []) cs (sits-call w l c g) (tracks_call s w l c m g t))

-- ---- after Done

last_listed : (s : Source) (w : World) (o : List ℕ) (n : ℕ) → (lists s w o).answer ≡ DoneLone n → ltb (single_room (length o)) (length (alone s w)) ≡ false
unfolding lists
last_listed s w o = said_last MoreLone DoneLone (λ m n h. cc) (single_room (length o)) (alone s w)

-- the position is at the end
done-place : (s : Source) (w : World) (o : List ℕ) (n : ℕ) → (after_call w (given (Lone s) o)).answer ≡ DoneLone n → place_of (after_call w (given (Lone s) o)).world s ≡ count_of w s
unfolding after_call effect
done-place s w o n = go (verdict (checks w (given (Lone s) o)))
  where
    go : (y : Result Unit Why) → let r = settle y w o (lists s w o) in r.answer ≡ DoneLone n → place_of r.world s ≡ count_of w s
    go (Ok tt) e = lone_place s w o ∙ rw (last_listed s w o n e)
    go (Err y) e = cc

-- a row without partner is one of those accepted
passed_all : (t : Items) (x : Single) → (is_single t x && ltb x.row t.rows) ≡ is_single t x
passed_all t x = go (ltb x.row t.rows)
  where
    go : (u : Bool) → ((u && (is_lone t x.row && eqb x.key (t.item x.row).key)) && u) ≡ (u && (is_lone t x.row && eqb x.key (t.item x.row).key))
    go true = and-true _
    go false = refl

-- ---- all of it

module _ (p m n : ℕ) (x : Sheets) (e : (opens p m n x).answer ≡ Opened) (calls : List Lent) where
  abbrev begun : World
  begun = opened p m n x

  abbrev w : World
  w = (after_calls begun [] calls).world

  abbrev names : Source → List Single
  names s = listed s begun calls

  sits : Sits w (after_calls begun [] calls).written
  sits = sits_calls begun [] calls (sits-opened p m n x e)

  tracks : (s : Source) → Tracks s w (names s)
  tracks s = tracks_calls s begun [] [] calls (sits-opened p m n x e)
      (record { start = λ h. no_places p m n x e s; tells = λ y. sym (none_passed (items_from s begun) y (place_of begun s) (no_places p m n x e s)) })

  left_alone : (s : Source) → to_list begun calls s ≡ map (single (items_from s w)) (alone s w)
  left_alone s = unlisted-left (items_from s w) (place_of w s) (names s) (tracks s).tells

  length-left : (s : Source) → length (to_list begun calls s) ≡ length (alone s w)
  length-left s = ap length (left_alone s) ∙ length-map (alone s w) (single (items_from s w))

  one_call : both_closed w.session ≡ true → (s : Source) (o : List ℕ) → 1 ≤ single_room (length o) → let r = after_call w (given (Lone s) o) in
      Handed MoreLone DoneLone (to_list begun calls s) (single_room (length o)) (named r) r.answer
  one_call c s o h = let g : Shut w = record { fit = sits.fit; closed = c } in
      handed MoreLone DoneLone (single (items_from s w)) (alone s w) _ _ (single_room (length o)) _ (left_alone s) (ap named (lone_is s w o g h) ∙ lone_named s w o) (lone_gives s w o g h).says

  whole_now : (s : Source) (o : List ℕ) (k : ℕ) → (after_call w (given (Lone s) o)).answer ≡ DoneLone k
      → (x : Single) → listings x (names s ++ named (after_call w (given (Lone s) o))) ≡ bit (is_single (items_from s w) x)
  whole_now s o k d x = ap (λ (u : Bool). listings x (names s ++ cond u (named (after_call w (given (Lone s) o))) [])) (sym (same_own s))
      ∙ (tracks_call s w _ (given (Lone s) o) (names s) sits (tracks s)).tells x
      ∙ ap (λ (v : World). bit (is_single (items_from s v) x && ltb x.row (place_of (after_call w (given (Lone s) o)).world s))) (lone-leaves w (given (Lone s) o) s)
      ∙ ap (λ (i : ℕ). bit (is_single (items_from s w) x && ltb x.row i)) (done-place s w o k d) ∙ ap bit (passed_all (items_from s w) x)

  holds : Lones begun calls
  holds = record {
    once = λ s x. rw ((tracks s).tells x) (half_le (is_single (items_from s w) x) _);
    lone = one_call;
    rounds = λ c s r h os k o f.
        rounds (Lone s) MoreLone DoneLone (λ w. length (alone s w)) Shut (lone_gives s) (shut_listed s) r h o f os k w [] (record { fit = sits.fit; closed = c })
        ∙ ap (λ (n : ℕ). saying_at MoreLone DoneLone r n (length os)) (sym (length-left s));
    whole = whole_now;
    others_same = others-heard w (record { written = _; sits = sits });
    lone_same = λ c s. lone-heard s w (record { settled = record { written = _; sits = sits }; closed = c });
  }

pub lones : ForAnyCalls Lones
lones = holds
