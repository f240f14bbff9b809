-- What the pieces of an arrival make of the record and the sheets.
-- Assumes nothing.
use Rattle.std.specs.Prelude.{◌≡◌, refl, Result, Ok, Err, Option, Some, None, true, cond, List, [], ◌∷◌, ℕ, ◌+◌, ◌≤◌, ◌<◌, length}
use Rattle.std.proofs.Common.{sym, ap, ◌∙◌, subst, arith, add-one, lt-ltb, le-ltb}
use Rattle.std.specs.Result.{IsErrAnd}
use Rattle.stamps.specs.Counting.{tally}
use Rattle.stamps.proofs.CountingLaws.{tally_le, tally_cong}
use Rattle.stamps.specs.Keys.{item_of}
use Rattle.stamps.specs.Sources.{other}
use Rattle.stamps.specs.declared.Source.{Source}
use Rattle.stamps.specs.declared.Source.TheVariants.{A, B}
use Rattle.stamps.specs.declared.Message.{Message}
use Rattle.stamps.specs.declared.Item.{Item}
use Rattle.stamps.specs.declared.Row.{Row}
use Rattle.sheets.specs.Layout.{rows_need, room_of, row_at, put_row}
use Rattle.sheets.specs.Rows.{flushed}
use Rattle.sheets.specs.declared.rows.Victim.{Victim}
use Rattle.pairs.specs.Pairs.{met, tell_all, put_from}
use Rattle.pairs.proofs.Laws.{length-arrival}
use Rattle.rules.specs.Calls.{After, after, joins, arrives, effect, after_call, leaves}
use Rattle.rules.specs.Refusals.{verdict, session_fits, row_checks, room_check, room_for, make_room, arrived, checks, sheet_check, Check, own_checks}
use Rattle.rules.specs.World.{World, world, pick, same, count_of, sheet_of, rows_of, closed_of, with_clock, with_feed, with_sheet, store, flush, Sheets, with_rows, no_sheets, Lent, given}
use Rattle.rules.specs.declared.Why.{Why}
use Rattle.rules.specs.declared.Why.TheVariants.{RoomShort}
use Rattle.rules.specs.declared.Call.TheVariants.{Arrive}
use Rattle.rules.specs.declared.Answer.TheVariants.{Taken, Refused}
use Rattle.rules.specs.declared.Session.{Session}
use Rattle.rules.specs.declared.Reply.{Reply}
use Rattle.rules.proofs.Laws.{count_room, length-room}
use Rattle.rules.proofs.Settling.{settle-no, settle_good, verdict_good}
use Rattle.rules.proofs.Flushing.{flush-row, flush_session, flush_facing, flush-length, leaving_few}
use Rattle.checks.specs.Passed.{Rows, admitted, settled, Space}
use Rattle.checks.proofs.Facing.{rows_few}
use Rattle.checks.proofs.Passing.{RowsOf, taken, denied, first_refused}
use Rattle.stage1.specs.Work.{rows_after}

-- ---- the count, told before the flush

-- a flush of the source itself: v is the victim as it is read of the room
pub count_same : (room : Option Victim) (s : Source) (parts : ℕ) (item : Item) (f : ℕ → Row) (n r : ℕ) (v v' : Victim) → v ≡ v' → room ≡ Some v' → same v'.source s ≡ true
    → ((clock : ℕ) → r ≡ tally (λ j. met item (flushed parts v.part clock f j)) n) → (clock : ℕ) → r ≡ tally (λ j. met item (rows_after room s parts clock f j)) n
count_same room s parts item f n r v v' e h u k clock = rw (h, u) (subst (λ (v : Victim). r ≡ tally (λ j. met item (flushed parts v.part clock f j)) n) e (k clock))

-- ---- the row stored

pub stored : (s : Source) (item : Item) (w : World) (l : List ℕ)
    → l ≡ put_row (count_of w s) (record { item = item; ats = w.session.clock + 1; dts = 0 }) (sheet_of w s)
    → world (with_feed s (record { rows = count_of w s + 1; closed = closed_of w s }) (with_clock (w.session.clock + 1) w.session)) (with_sheet s l w.sheets) ≡ store s item w
unfolding store
stored s item w l e = rw (e, add-one w.session.clock, add-one (count_of w s))

-- ---- the box once there is room

-- its rows are those that the count before the flush spoke of
rows-room : (room : Option Victim) (w : World) (s : Source) → rows_need (count_of w s) ≤ length (sheet_of w s) → (j : ℕ) → j < count_of w s
    → rows_of (make_room room w) s j ≡ rows_after room s w.session.parts w.session.clock (rows_of w s) j
rows-room None w s h j b = refl
rows-room (Some v) w s h j b = go v.source s h b
  where
    go : (u s : Source) → rows_need (count_of w s) ≤ length (sheet_of w s) → j < count_of w s
        → rows_of (flush u v.part w) s j ≡ cond (same u s) (flushed w.session.parts v.part w.session.clock (rows_of w s)) (rows_of w s) j
    go A A h b = flush-row A v.part w h j b
    go A B h b = ap (λ (l : List ℕ). row_at l j) (flush_facing A v.part w)
    go B A h b = ap (λ (l : List ℕ). row_at l j) (flush_facing B v.part w)
    go B B h b = flush-row B v.part w h j b

pub arrived-count : (s : Source) (item : Item) (room : Option Victim) (w : World) (r : ℕ) → rows_need (count_of w (other s)) ≤ length (sheet_of w (other s))
    → ((clock : ℕ) → r ≡ tally (λ j. met item (rows_after room (other s) w.session.parts clock (rows_of w (other s)) j)) (count_of w (other s)))
    → (r ≡ length (arrived s item (make_room room w))) × (r ≤ count_of w (other s))
arrived-count s item room w r h e = (
  e w.session.clock
      ∙ tally_cong _ (λ j. met item (rows_of (make_room room w) (other s) j)) (count_of w (other s)) (λ j b. ap (met item) (sym (rows-room room w (other s) h j b)))
      ∙ ap (tally (λ j. met item (rows_of (make_room room w) (other s) j))) (sym (count_room room w (other s)))
      ∙ sym (length-arrival (count_of (make_room room w) s) item (rows_of (make_room room w) (other s)) (count_of (make_room room w) (other s))),
  rw (e 0) (tally_le _ (count_of w (other s))),
)

pub pairs_counted : (s : Source) (item : Item) (w x : World) (n : ℕ) → w ≡ x → n ≡ length (arrived s item x) → n ≡ length (arrived s item w)
pairs_counted s item w x n e f = rw e f

-- making room keeps the sheets' lengths and the rows' counts, and moves the clock by at most one row each
rows_made : (room : Option Victim) (w : World) → RowsOf w → w.session.clock ≤ 16384 → RowsOf (make_room room w)
rows_made None w h k = h
rows_made (Some v) w h k = rw (flush_session v.source v.part w, flush-length v.source v.part w A, flush-length v.source v.part w B)
    (record {
      some_parts = h.some_parts;
      few_parts = h.few_parts;
      clock = omega (arith, rows_few w.session (length w.sheets.a) (length w.sheets.b) v.source h, leaving_few w v.source v.part);
      a_few = h.a_few;
      b_few = h.b_few;
      a_long = h.a_long;
      b_long = h.b_long;
    })

module _ (room : Option Victim) (t : Session) (s : Source) (a b : List ℕ) (t' : Session) (a' b' : List ℕ) (h : Space t s (length a) (length b))
    (e : (x : Sheets) → world t' (with_rows a' b' x) ≡ make_room room (world t (with_rows a b x))) where
  pub room-rows : Rows t' (length a') (length b')
  room-rows = subst RowsOf (sym (e no_sheets)) (rows_made room (world t (with_rows a b no_sheets)) h.rows h.clock)

  pub room-space : rows_need ((pick s t'.feeds.a t'.feeds.b).rows + 1) ≤ length (pick s a' b')
  room-space = subst (λ (w : World). rows_need (count_of w s + 1) ≤ length (sheet_of w s)) (sym (e no_sheets))
      (rw (count_room room (world t (with_rows a b no_sheets)) s, length-room room (world t (with_rows a b no_sheets)) s) (own s h.space))
    where
      own : (s : Source) → rows_need ((pick s t.feeds.a t.feeds.b).rows + 1) ≤ pick s (length a) (length b) → rows_need ((pick s t.feeds.a t.feeds.b).rows + 1) ≤ length (pick s a b)
      own A k = k
      own B k = k

-- what is handed back is what joining the box with room leaves: y is that box as the workers were given it
pub joined : (s : Source) (item : Item) (x y : World) (o : List ℕ) (n : ℕ) (w : World) (o' : List ℕ) → n ≡ length (arrived s item x) → y ≡ x → w ≡ store s item y
    → o' ≡ put_from 0 (tell_all s (λ i. item) (λ j. (rows_of y (other s) j).item) (arrived s item y)) o → after (Taken n) w o' ≡ joins s item x o
unfolding joins
joined s item x y o n w o' e d f g = rw (e, f, g, d)

-- ---- the three ways through an arrival

module _ (w : World) (o : List ℕ) (s : Source) (m : Message) (v : Result Item Why)
    (f : v ≡ admitted (verdict (sheet_check (session_fits w) ∷ row_checks w.session s m)) (item_of m)) where
  abbrev call : Lent
  call = given (Arrive s m) o

  abbrev first : List Check
  first = sheet_check (session_fits w) ∷ row_checks w.session s m

  -- r is what came of the call: the refusal that was found, handed on by a `?`
  pub arrive_denied : (y : Why) → v ≡ Err y → (r : Result Reply Why) → IsErrAnd r (λ z. z ≡ y) → leaves (settled w.session r) w.sheets o ≡ after_call w call
  unfolding own_checks
  arrive_denied y h = first_refused w call (row_checks w.session s m) _ refl y (denied w s m v f y h)

  module _ (item : Item) (admits : v ≡ Ok item) (room : Option Victim) (same-room : room ≡ room_for w) (n : ℕ) (count : n ≡ length (arrived s item (make_room room w))) where
    same_item : item ≡ item_of m
    same_item = (taken w s m v f item admits).1

    counted : n ≡ length (arrived s (item_of m) (make_room (room_for w) w))
    counted = rw (← same_item, ← same-room) count

    room_decides : verdict (checks w call) ≡ verdict (room_check (room_of (length o)) n ∷ [])
    unfolding own_checks
    room_decides = verdict_good first (room_check (room_of (length o)) (length (arrived s (item_of m) (make_room (room_for w) w))) ∷ []) (taken w s m v f item admits).0
        ∙ ap (λ (k : ℕ). verdict (room_check (room_of (length o)) k ∷ [])) (sym counted)

    pub arrive_short : room_of (length o) < n → after (Refused (RoomShort n)) w o ≡ after_call w call
    unfolding verdict
    arrive_short h = settle-no w call (RoomShort n) (room_decides ∙ rw (lt-ltb (room_of (length o)) n h))

    -- what is handed back, and the row sheets and the output as they are left
    module _ (r : Reply) (a b o' : List ℕ) where
      abbrev left : After
      left = leaves r (with_rows a b w.sheets) o'

      pub arrive_taken : n ≤ room_of (length o) → left ≡ joins s item (make_room room w) o → left ≡ after_call w call
      unfolding verdict effect arrives
      arrive_taken h k = settle_good w call left (room_decides ∙ rw (le-ltb (room_of (length o)) n h)) (rw (← same_item, ← same-room) k)
