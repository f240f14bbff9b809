-- What every call's promise says: it allows one result, a refusal changes nothing, and nothing runs out of its words.
-- By cases on the verdict and on the call. Assumes nothing.
use Rattle.std.specs.Prelude.{Result, Ok, Err, Option, Some, None, ◌≡◌, refl, Bool, true, false, cond, List, [], ◌∷◌, ◌++◌, ℕ, ◌+◌, ◌≤◌, ltb, leb, length}
use Rattle.std.proofs.Common.{sym, ap, ◌∙◌, arith, length-take, ltb-false}
use Rattle.std.proofs.lemmas.Bool.{false≢true}
use Rattle.stamps.specs.declared.Source.{Source}
use Rattle.stamps.specs.declared.Source.TheVariants.{A, B}
use Rattle.sheets.specs.declared.rows.Victim.{Victim}
use Rattle.sheets.specs.Layout.{room_of, single_room}
use Rattle.rules.specs.Answers.{refused, written_of}
use Rattle.rules.specs.Calls.{After, after, leaves, joins, arrives, evicts, tries, runs, owed, drains, alone, lists, effect, settle, after_call, fresh, opens}
use Rattle.rules.specs.Refusals.{Check, check, verdict, sizes_fit, room_for, make_room, idle, portion_checks, row_checks, room_check, try_checks, checks, own_checks}
use Rattle.rules.specs.World.{World, count_of, flush, store, note, shut, move, pass, side_of, Sheets, lengths, Lent, pick, sheet_of}
use Rattle.rules.specs.Rounds.{room_in}
use Rattle.rules.specs.declared.Call.{Call}
use Rattle.rules.specs.declared.Call.TheVariants.{Arrive, Evict, Run, Close, Drain, Lone}
use Rattle.rules.specs.declared.Why.{Why}
use Rattle.rules.specs.declared.Why.TheVariants.{BadSheet, ListFull}
use Rattle.rules.specs.declared.Answer.TheVariants.{Opened, Ran, More, Done, MoreLone, DoneLone, Refused}
use Rattle.rules.specs.declared.Reply.{Reply}
use Rattle.rules.specs.declared.Session.{Session}
use Rattle.rules.proofs.Settling.{either, verdict_first, verdict_last, verdict_rest}
use Rattle.rules.proofs.Flushing.{leaving_few, flush_session, flush-length}

-- ---- any two results that a promise allows for one input are equal

pub one_result : (x : After) (r r' : Reply) (l l' : Sheets) (o o' : List ℕ) → leaves r l o ≡ x → leaves r' l' o' ≡ x → (r ≡ r') × (l ≡ l') × (o ≡ o')
one_result x r r' l l' o o' e f = let g : leaves r l o ≡ leaves r' l' o' = e ∙ sym f in (
  λ i. record { answer = (g i).answer; session = (g i).world.session },
  ap (λ (y : After). y.world.sheets) g,
  ap (λ (y : After). y.out) g,
)

-- ---- a refusal hands back the same session and leaves every word

pub accepts : (k : Call) (w : World) (c : Lent) → refused (effect k w c).answer ≡ false
unfolding effect arrives joins evicts runs drains lists
accepts (Arrive s m) w c = refl
accepts (Evict s q) w c = refl
accepts (Run s q) w c = go (idle w s q)
  where
    go : (u : Bool) → refused (cond u (after (Ran 0) w c.out) (tries s q w c.out)).answer ≡ false
    go true = refl
    go false = refl
accepts (Close s) w c = refl
accepts Drain w c = either (λ x. refused x ≡ false) (ltb (room_of (length c.out)) (length (owed w))) More Done _ refl refl
accepts (Lone s) w c = either (λ x. refused x ≡ false) (ltb (single_room (length c.out)) (length (alone s w))) MoreLone DoneLone _ refl refl

-- a refused call is refused by its checks
pub refused_by : (w : World) (c : Lent) (y : Why) → (after_call w c).answer ≡ Refused y → verdict (checks w c) ≡ Err y
unfolding after_call
refused_by w c y = go (verdict (checks w c))
  where
    go : (v : Result Unit Why) → (settle v w c.out (effect c.call w c)).answer ≡ Refused y → v ≡ Err y
    go (Ok tt) e = absurd (false≢true (sym (accepts c.call w c) ∙ ap refused e))
    go (Err z) e = cc

pub refusal_leaves : (w : World) (c : Lent) (y : Why) → (after_call w c).answer ≡ Refused y → ((after_call w c).world ≡ w) × ((after_call w c).out ≡ c.out)
unfolding after_call
refusal_leaves w c y = go (verdict (checks w c))
  where
    go : (v : Result Unit Why) → let r = settle v w c.out (effect c.call w c) in r.answer ≡ Refused y → (r.world ≡ w) × (r.out ≡ c.out)
    go (Ok tt) e = absurd (false≢true (sym (accepts c.call w c) ∙ ap refused e))
    go (Err z) e = (refl, refl)

-- ---- making room changes no count and no length

pub count_room : (room : Option Victim) (w : World) (s : Source) → count_of (make_room room w) s ≡ count_of w s
count_room None w s = refl
count_room (Some v) w s = ap (λ (t : Session). (pick s t.feeds.a t.feeds.b).rows) (flush_session v.source v.part w)

pub length-room : (room : Option Victim) (w : World) (s : Source) → length (sheet_of (make_room room w) s) ≡ length (sheet_of w s)
length-room None w s = refl
length-room (Some v) w s = flush-length v.source v.part w s

-- ---- the clock goes up by at most one a row, and one more for a new one

flush_clock : (s : Source) (q : ℕ) (w : World) → count_of w s ≤ 4096 → (flush s q w).session.clock ≤ w.session.clock + 4096
flush_clock s q w h = rw (flush_session s q w) (omega (arith, leaving_few w s q))

room_clock : (room : Option Victim) (w : World) → ((s : Source) → count_of w s ≤ 4096) → (make_room room w).session.clock ≤ w.session.clock + 4096
room_clock None w h = omega arith
room_clock (Some v) w h = flush_clock v.source v.part w (h v.source)

effect_clock : (k : Call) (w : World) (c : Lent) → ((s : Source) → count_of w s ≤ 4096) → (effect k w c).world.session.clock ≤ w.session.clock + 4097
unfolding effect arrives joins store evicts runs drains lists note shut move pass
effect_clock (Arrive s m) w c h = omega (arith, room_clock (room_for w) w h)
effect_clock (Evict s q) w c h = omega (arith, flush_clock s q w (h s))
effect_clock (Run s q) w c h = go (idle w s q)
  where
    go : (u : Bool) → (cond u (after (Ran 0) w c.out) (tries s q w c.out)).world.session.clock ≤ w.session.clock + 4097
    go true = omega arith
    go false = omega arith
effect_clock (Close A) w c h = omega arith
effect_clock (Close B) w c h = omega arith
effect_clock Drain w c h = omega arith
effect_clock (Lone s) w c h = omega arith

pub clock_bound : (w : World) (c : Lent) → ((s : Source) → count_of w s ≤ 4096) → (after_call w c).world.session.clock ≤ w.session.clock + 4097
unfolding after_call
clock_bound w c h = go (verdict (checks w c))
  where
    go : (v : Result Unit Why) → (settle v w c.out (effect c.call w c)).world.session.clock ≤ w.session.clock + 4097
    go (Ok tt) = effect_clock c.call w c h
    go (Err y) = omega arith

-- ---- a call lists no more than its output has room for, be it pairs or rows without partner

-- a check of the room that let the call through, after others
room_suffices : (cs : List Check) (room n : ℕ) → verdict (cs ++ (room_check room n ∷ [])) ≡ Ok tt → n ≤ room
room_suffices cs room n h = ltb-false room n (verdict_first _ [] (verdict_last cs _ h))

effect-fits : (k : Call) (w : World) (c : Lent) → verdict (own_checks k w c) ≡ Ok tt → written_of (effect k w c).answer ≤ room_in k (length c.out)
unfolding effect arrives joins evicts runs drains lists own_checks
effect-fits (Arrive s m) w c h = omega (arith, room_suffices (row_checks w.session s m) (room_of (length c.out)) _ h)
effect-fits (Evict s q) w c h = omega arith
effect-fits (Run s q) w c h = go (idle w s q) (verdict_last (portion_checks w.session q) _ h)
  where
    room : ℕ
    room = room_of (length c.out)

    crowded : List Check
    crowded = check (leb 32 (length ((side_of w s).list q))) ListFull ∷ []

    go : (u : Bool) → verdict (cond u [] (try_checks w s q room)) ≡ Ok tt → written_of (cond u (after (Ran 0) w c.out) (tries s q w c.out)).answer ≤ room
    go true e = omega arith
    go false e = omega (arith, room_suffices crowded room _ e)
effect-fits (Close s) w c h = omega arith
effect-fits Drain w c h = let room = room_of (length c.out) in let b = length-take room (owed w) in
    either (λ x. written_of x ≤ room) (ltb room (length (owed w))) More Done _ (omega (arith, b)) (omega (arith, b))
effect-fits (Lone s) w c h = let room = single_room (length c.out) in let b = length-take room (alone s w) in
    either (λ x. written_of x ≤ room) (ltb room (length (alone s w))) MoreLone DoneLone _ (omega (arith, b)) (omega (arith, b))

pub written-fits : (w : World) (c : Lent) → written_of (after_call w c).answer ≤ room_in c.call (length c.out)
unfolding after_call
written-fits w c = go (verdict (checks w c)) refl
  where
    go : (v : Result Unit Why) → verdict (checks w c) ≡ v → written_of (settle v w c.out (effect c.call w c)).answer ≤ room_in c.call (length c.out)
    go (Ok tt) e = effect-fits c.call w c (verdict_rest _ _ e)
    go (Err y) e = omega arith

pub opens_none : (p m n : ℕ) (x : Sheets) → written_of (opens p m n x).answer ≡ 0
unfolding opens
opens_none p m n x = go (sizes_fit p m n (lengths x))
  where
    go : (u : Bool) → written_of (cond {A = Reply} u (record { answer = Opened; session = fresh p m n }) (record { answer = Refused BadSheet; session = fresh 0 0 0 })).answer ≡ 0
    go true = refl
    go false = refl
