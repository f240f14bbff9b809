-- When the box says no: the checks of each call, in the order of document 01's table.
use Rattle.std.specs.Prelude.{Result, Ok, Err, Option, Some, None, Bool, true, cond, not, ◌&&◌, ◌||◌, List, [], ◌∷◌, ◌++◌, ℕ, zero, suc, ◌+◌, ◌*◌, ltb, leb, eqb, length, get_or}
use Rattle.stamps.specs.Counting.{tally, span, all_of}
use Rattle.stamps.specs.Keys.{in_range, item_of}
use Rattle.stamps.specs.Sources.{other}
use Rattle.stamps.specs.declared.Source.{Source}
use Rattle.stamps.specs.declared.Source.TheVariants.{A, B}
use Rattle.stamps.specs.declared.Message.{Message}
use Rattle.stamps.specs.declared.Item.{Item}
use Rattle.sheets.specs.Layout.{rows_need, probe_need, room_of, single_room, Pair}
use Rattle.sheets.specs.Lists.{probed_at}
use Rattle.sheets.specs.Rows.{spooled, spooled_rows, rows_in_memory, Held, held_in, victim}
use Rattle.sheets.specs.declared.rows.Victim.{Victim}
use Rattle.pairs.specs.Pairs.{arrival_pairs, tried}
use Rattle.rules.specs.World.{World, Lent, Lengths, pick, count_of, rows_of, side_of, seen_from, flush, lengths}
use Rattle.rules.specs.declared.Session.{Session}
use Rattle.rules.specs.declared.Call.{Call}
use Rattle.rules.specs.declared.Call.TheVariants.{Arrive, Evict, Run, Close, Drain, Lone}
use Rattle.rules.specs.declared.Why.{Why}
use Rattle.rules.specs.declared.Why.TheVariants.{BadSheet, BadKey, BadPart, Closed, SheetFull, ListFull, StillOpen, RoomShort}

-- ---- checks in order

-- a test, and why the call is refused where it holds
pub record Check : Type 0 where
  pub fails : Bool
  pub why : Why

-- such a check
abbrev pub check : Bool → Why → Check
check u y = record { fails = u; why = y }

-- the first that fails
unfoldable pub verdict : List Check → Result Unit Why
verdict [] = Ok tt
verdict (c ∷ cs) = cond c.fails (Err c.why) (verdict cs)

-- ---- number 1, BadSheet

-- low to high, both included
abbrev pub between : ℕ → ℕ → ℕ → Bool
between low high n = leb low n && leb n high

-- "P, M or N out of range; a sheet too short"
abbrev pub size_tests : ℕ → ℕ → ℕ → Lengths → List Bool
size_tests p m n k =
    between 1 16 p ∷ between 1 1024 m ∷ between 1 4096 n ∷ leb (rows_need n) k.a ∷ leb (rows_need n) k.b ∷ leb (probe_need p) k.probe ∷ []

-- all of these
abbrev pub sizes_fit : ℕ → ℕ → ℕ → Lengths → Bool
sizes_fit p m n k = all_of (size_tests p m n k)

-- "a row count above N; clock above 16384; .. position above A rows x B rows", a position of the lone calls "above its row count"
abbrev pub number_tests : Session → List Bool
number_tests t =
    leb t.feeds.a.rows t.limit
    ∷ leb t.feeds.b.rows t.limit
    ∷ leb t.clock 16384
    ∷ leb t.next (t.feeds.a.rows * t.feeds.b.rows)
    ∷ leb t.lone.a t.feeds.a.rows
    ∷ leb t.lone.b t.feeds.b.rows
    ∷ []

-- all of these
abbrev pub numbers_fit : Session → Bool
numbers_fit t = all_of (number_tests t)

-- "an entry count above 32", of the first n lists
abbrev pub counts_fit : List ℕ → ℕ → Bool
counts_fit counts zero = true
counts_fit counts (suc n) = counts_fit counts n && leb (get_or counts n 0) 32

-- number 1 of every call but the opening
unfoldable pub session_fits : World → Bool
session_fits w = let t = w.session in
    sizes_fit t.parts t.slots t.limit (lengths w.sheets)
    && (numbers_fit t && counts_fit t.counts (2 * t.parts))

-- ---- an arrival

-- what a source has in memory
abbrev pub held_of : World → Source → Held
held_of w s = held_in w.session.parts (rows_of w s) (count_of w s)

-- "If M or more rows are in memory"
abbrev pub full : World → Bool
full w = leb w.session.slots ((held_of w A).rows + (held_of w B).rows)

-- the portion to flush
abbrev pub victim_of : World → Victim
victim_of w = victim w.session.parts (held_of w A) (held_of w B)

-- what has to be flushed for one more row
unfoldable pub room_for : World → Option Victim
room_for w = cond (full w) (Some (victim_of w)) None

-- "flush one portion first", where that is needed
abbrev pub make_room : Option Victim → World → World
make_room None w = w
make_room (Some v) w = flush v.source v.part w

-- the pairs of an arrival in a box that has room
abbrev pub arrived : Source → Item → World → List Pair
arrived s item w = arrival_pairs (count_of w s) item (rows_of w (other s)) (span 0 (count_of w (other s)))

-- ---- a run

-- "If the portion has no spooled row, or its list's last entry has ProbeTS equal to the clock"
abbrev pub idle : World → Source → ℕ → Bool
idle w s q = eqb (tally (λ i. spooled w.session.parts q (rows_of w s i)) (count_of w s)) 0 || probed_at w.session.clock ((side_of w s).list q)

-- the pairs of a run: "each spooled row, ascending, is tried against each memory row of the other source, ascending"
abbrev pub ran : Source → ℕ → World → List Pair
ran s q w = tried (seen_from s w) (spooled_rows w.session.parts q (rows_of w s) (count_of w s)) (rows_in_memory (rows_of w (other s)) (count_of w (other s)))

-- ---- the table, read from the top: number 1, and then what each call has of it

-- number 1, by what its test found
abbrev pub sheet_check : Bool → Check
sheet_check fits = check (not fits) BadSheet

-- both sources are closed
abbrev pub both_closed : Session → Bool
both_closed t = t.feeds.a.closed && t.feeds.b.closed

-- a named portion: numbers 3 and 4
abbrev pub portion_checks : Session → ℕ → List Check
portion_checks t q = check (leb t.parts q) BadPart ∷ check (both_closed t) Closed ∷ []

-- a new row, but for its pairs: numbers 2, 4 and 5
abbrev pub row_checks : Session → Source → Message → List Check
row_checks t s m =
    check (not (in_range m)) BadKey
    ∷ check (pick s t.feeds.a t.feeds.b).closed Closed
    ∷ check (leb t.limit (pick s t.feeds.a t.feeds.b).rows) SheetFull
    ∷ []

-- a close: number 4
abbrev pub close_checks : Session → Source → List Check
close_checks t s = check (pick s t.feeds.a t.feeds.b).closed Closed ∷ []

-- a drain or a lone call: numbers 7 and 8
abbrev pub drain_checks : Session → ℕ → List Check
drain_checks t room = check (not (both_closed t)) StillOpen ∷ check (eqb room 0) (RoomShort 1) ∷ []

-- the pairs have to fit the room
abbrev pub room_check : ℕ → ℕ → Check
room_check room n = check (ltb room n) (RoomShort n)

-- a run that has something to do: numbers 6 and 8
abbrev pub try_checks : World → Source → ℕ → ℕ → List Check
try_checks w s q room = check (leb 32 (length ((side_of w s).list q))) ListFull ∷ room_check room (length (ran s q w)) ∷ []

-- any run; where nothing is to be done, none of them
abbrev pub run_checks : World → Source → ℕ → ℕ → List Check
run_checks w s q room = cond (idle w s q) [] (try_checks w s q room)

-- what each call has of the table after number 1
unfoldable pub own_checks : Call → World → Lent → List Check
own_checks (Arrive s m) w c =
    row_checks w.session s m ++ (room_check (room_of (length c.out)) (length (arrived s (item_of m) (make_room (room_for w) w))) ∷ [])
own_checks (Evict s q) w c = portion_checks w.session q
own_checks (Run s q) w c = portion_checks w.session q ++ run_checks w s q (room_of (length c.out))
own_checks (Close s) w c = close_checks w.session s
own_checks Drain w c = drain_checks w.session (room_of (length c.out))
own_checks (Lone s) w c = drain_checks w.session (single_room (length c.out))

-- every call
abbrev pub checks : World → Lent → List Check
checks w c = sheet_check (session_fits w) ∷ own_checks c.call w c
