-- What each call answers and leaves: the record, every word of the sheets and of the output.
use Rattle.std.specs.Prelude.{Result, Ok, Err, false, cond, List, map, ℕ, ◌*◌, ltb, length, take, replicate}
use Rattle.stamps.specs.Keys.{item_of}
use Rattle.stamps.specs.Sources.{other}
use Rattle.stamps.specs.declared.Source.{Source}
use Rattle.stamps.specs.declared.Source.TheVariants.{A}
use Rattle.stamps.specs.declared.Item.{Item}
use Rattle.sheets.specs.Layout.{room_of, single_room, put_single, Pair}
use Rattle.sheets.specs.Rows.{latest}
use Rattle.pairs.specs.Lones.{lones_from, number, single}
use Rattle.pairs.specs.Pairs.{position, due_from, tell_all, told, put_from}
use Rattle.pairs.specs.Rooms.{onward, put_all}
use Rattle.rules.specs.declared.Why.{Why}
use Rattle.rules.specs.World.{World, world, count_of, rows_of, seen_from, place_of, items_from, leaving, flush, store, note, shut, move, pass, Sheets, Lent, lengths}
use Rattle.rules.specs.Refusals.{verdict, sizes_fit, room_for, make_room, arrived, idle, ran, checks}
use Rattle.rules.specs.declared.Session.{Session}
use Rattle.rules.specs.declared.Call.{Call}
use Rattle.rules.specs.declared.Call.TheVariants.{Arrive, Evict, Run, Close, Drain, Lone}
use Rattle.rules.specs.declared.Why.TheVariants.{BadSheet}
use Rattle.rules.specs.declared.Answer.{Answer}
use Rattle.rules.specs.declared.Answer.TheVariants.{Opened, Taken, Flushed, Ran, Shut, More, Done, MoreLone, DoneLone, Refused}
use Rattle.rules.specs.declared.Reply.{Reply}

-- an answer, the record and the sheets, and the output
pub record After : Type 0 where
  pub answer : Answer
  pub world : World
  pub out : List ℕ

-- the three together
abbrev pub after : Answer → World → List ℕ → After
after n w o = record { answer = n; world = w; out = o }

-- what a call hands back, with the sheets and the output as it leaves them
abbrev pub leaves : Reply → Sheets → List ℕ → After
leaves r x o = after r.answer (world r.session x) o

-- ---- what a call that is not refused does

-- in a box that has room: the row is stored, and its pairs are written
unfoldable pub joins : Source → Item → World → List ℕ → After
joins s item w o =
    after (Taken (length (arrived s item w))) (store s item w)
    (put_from 0 (tell_all s (λ i. item) (λ j. (rows_of w (other s) j).item) (arrived s item w)) o)

-- "flush one portion first .. Only then does the clock go up by one and the row is stored"
unfoldable pub arrives : Source → Item → World → List ℕ → After
arrives s item w o = joins s item (make_room (room_for w) w) o

-- "Evict flushes one named portion and answers the rows flushed"
unfoldable pub evicts : Source → ℕ → World → List ℕ → After
evicts s q w o = after (Flushed (length (leaving w s q))) (flush s q w) o

-- "each spooled row .. is tried against each memory row of the other source .. Then one entry is added, even when no pair was written"
abbrev pub tries : Source → ℕ → World → List ℕ → After
tries s q w o =
    after (Ran (length (ran s q w))) (note s q (latest w.session.parts q (rows_of w s) (count_of w s)) w) (put_from 0 (told s (seen_from s w) (ran s q w)) o)

-- "If the portion has no spooled row, or its list's last entry has ProbeTS equal to the clock: nothing is written, no entry"
unfoldable pub runs : Source → ℕ → World → List ℕ → After
runs s q w o = cond (idle w s q) (after (Ran 0) w o) (tries s q w o)

-- the pairs that drains have still to write
abbrev pub owed : World → List Pair
owed w = due_from w.session.next (seen_from A w)

-- "If any remain, the position becomes one past the last pair written and the answer is More; if none remains, it becomes (A rows) x (B rows) and the answer is Done"
unfoldable pub drains : World → List ℕ → After
drains w o = let t = seen_from A w in let room = room_of (length o) in let ps = take room (owed w) in
    after (cond (ltb room (length (owed w))) More Done (length ps))
    (move (onward (position t) (t.a.count * t.b.count) w.session.next room (owed w)) w)
    (put_from 0 (told A t ps) o)

-- the rows without partner that lone calls have still to list
abbrev pub alone : Source → World → List ℕ
alone s w = lones_from (place_of w s) (items_from s w)

-- "its rows that match no row of the other source, ascending, .. as many as the room holds; More and Done as in a drain"
unfoldable pub lists : Source → World → List ℕ → After
lists s w o = let t = items_from s w in let room = single_room (length o) in let rows = take room (alone s w) in
    after (cond (ltb room (length (alone s w))) MoreLone DoneLone (length rows))
    (pass s (onward number t.rows (place_of w s) room (alone s w)) w)
    (put_all put_single 0 (map (single t) rows) o)

-- each call that is not refused
unfoldable pub effect : Call → World → Lent → After
effect (Arrive s m) w c = arrives s (item_of m) w c.out
effect (Evict s q) w c = evicts s q w c.out
effect (Run s q) w c = runs s q w c.out
effect (Close s) w c = after Shut (shut s w) c.out
effect Drain w c = drains w c.out
effect (Lone s) w c = lists s w c.out

-- ---- every call

-- "A refusal hands the session record back equal and writes no word anywhere"
abbrev pub settle : Result Unit Why → World → List ℕ → After → After
settle (Ok u) w o t = t
settle (Err y) w o t = after (Refused y) w o

-- the first check that fails refuses the call; else it does what its rule says
unfoldable pub after_call : World → Lent → After
after_call w c = settle (verdict (checks w c)) w c.out (effect c.call w c)

-- ---- the opening

-- "Opening gives clock 0, no rows, nothing closed, empty lists, position 0, and writes in no sheet"; the lone calls' positions are 0 too
abbrev pub fresh : ℕ → ℕ → ℕ → Session
fresh p m n = record {
  parts = p;
  slots = m;
  limit = n;
  clock = 0;
  feeds = record { a = record { rows = 0; closed = false }; b = record { rows = 0; closed = false } };
  counts = replicate 32 0;
  next = 0;
  lone = record { a = 0; b = 0 };
}

-- "a refused opening, which was given none, hands back one of zeros with nothing closed"
unfoldable pub opens : ℕ → ℕ → ℕ → Sheets → Reply
opens p m n x =
    cond (sizes_fit p m n (lengths x)) (record { answer = Opened; session = fresh p m n }) (record { answer = Refused BadSheet; session = fresh 0 0 0 })
