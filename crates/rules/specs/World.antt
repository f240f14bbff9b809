-- The box in words: a session record and the sheets that calls are lent, what a call is given, and what may change.
use Rattle.std.specs.Prelude.{Bool, true, List, [], ℕ, suc, ◌+◌, length, get_or, set}
use Rattle.stamps.specs.Sources.{other, put}
pub use Rattle.stamps.specs.Sources.{pick, same}
use Rattle.stamps.specs.declared.Source.{Source}
use Rattle.stamps.specs.declared.Source.TheVariants.{A, B}
use Rattle.stamps.specs.declared.Item.{Item}
use Rattle.stamps.specs.declared.Row.{Row}
use Rattle.stamps.specs.declared.PerSource.{PerSource}
use Rattle.sheets.specs.Layout.{row_at, put_row, list_no, put_entry}
use Rattle.sheets.specs.Lists.{list_of}
use Rattle.sheets.specs.Rows.{hot_rows, leave}
use Rattle.pairs.specs.Lones.{Items, items_in}
use Rattle.pairs.specs.Pairs.{Side, Table}
use Rattle.rules.specs.declared.Call.{Call}
use Rattle.rules.specs.declared.Feed.{Feed}
use Rattle.rules.specs.declared.Session.{Session}

-- all sheets that a call is lent: the rows of each source, and the probe lists
pub record Sheets : Type 0 where
  pub a : List ℕ
  pub b : List ℕ
  pub probe : List ℕ

-- these sheets, as one value
abbrev pub bundle : List ℕ → List ℕ → List ℕ → Sheets
bundle a b probe = record { a = a; b = b; probe = probe }

-- how long each of them is
pub record Lengths : Type 0 where
  pub a : ℕ
  pub b : ℕ
  pub probe : ℕ

-- of these sheets
abbrev pub lengths : Sheets → Lengths
lengths x = record { a = length x.a; b = length x.b; probe = length x.probe }

-- all that stays from call to call
pub record World : Type 0 where
  pub session : Session
  pub sheets : Sheets

-- a record and sheets
abbrev pub world : Session → Sheets → World
world t x = record { session = t; sheets = x }

-- all that a call is given besides: which call it is, with its arguments, and its output
pub record Lent : Type 0 where
  pub call : Call
  pub out : List ℕ

-- a call and its output
abbrev pub given : Call → List ℕ → Lent
given c o = record { call = c; out = o }

-- ---- one source of the two

-- its part of the record
abbrev pub feed_of : World → Source → Feed
feed_of w s = pick s w.session.feeds.a w.session.feeds.b

-- its row sheet
abbrev pub sheet_of : World → Source → List ℕ
sheet_of w s = pick s w.sheets.a w.sheets.b

-- its rows accepted
abbrev pub count_of : World → Source → ℕ
count_of w s = (feed_of w s).rows

-- whether it is closed
abbrev pub closed_of : World → Source → Bool
closed_of w s = (feed_of w s).closed

-- the position of its lone calls
abbrev pub place_of : World → Source → ℕ
place_of w s = pick s w.session.lone.a w.session.lone.b

-- the rows of a source by number
abbrev pub rows_of : World → Source → ℕ → Row
rows_of w s = row_at (sheet_of w s)

-- all that the sheets hold of it
abbrev pub side_of : World → Source → Side
side_of w s = record { count = count_of w s; row = rows_of w s; list = list_of w.session.parts w.session.counts w.sheets.probe s }

-- the rows and lists, with source s in the first place
abbrev pub seen_from : Source → World → Table
seen_from s w = record { parts = w.session.parts; a = side_of w s; b = side_of w (other s) }

-- the items of all rows, source s first
abbrev pub items_from : Source → World → Items
items_from s w = items_in (count_of w s) (count_of w (other s)) (sheet_of w s) (sheet_of w (other s))

-- ---- a field of the record changed

-- the clock
abbrev pub with_clock : ℕ → Session → Session
with_clock c t = record t { clock = c }

-- the part of one source
abbrev pub with_feed : Source → Feed → Session → Session
with_feed s f t = record t { feeds = put s f t.feeds }

-- the entry counts
abbrev pub with_counts : List ℕ → Session → Session
with_counts l t = record t { counts = l }

-- the drain position
abbrev pub with_next : ℕ → Session → Session
with_next k t = record t { next = k }

-- the positions of the lone calls
abbrev pub with_lone : PerSource ℕ → Session → Session
with_lone p t = record t { lone = p }

-- ---- one of the sheets changed

-- that of one source
abbrev pub with_sheet : Source → List ℕ → Sheets → Sheets
with_sheet A l x = record { a = l; b = x.b; probe = x.probe }
with_sheet B l x = record { a = x.a; b = l; probe = x.probe }

-- those of both
abbrev pub with_rows : List ℕ → List ℕ → Sheets → Sheets
with_rows a b x = with_sheet A a (with_sheet B b x)

-- the probe sheet
abbrev pub with_probe : List ℕ → Sheets → Sheets
with_probe l x = record { a = x.a; b = x.b; probe = l }

-- ---- what the calls are made of: each says which fields and which words it changes

-- the rows that a flush of a portion moves
abbrev pub leaving : World → Source → ℕ → List ℕ
leaving w s q = hot_rows w.session.parts q (rows_of w s) (count_of w s)

-- flush of a portion: one clock tick a row
unfoldable pub flush : Source → ℕ → World → World
flush s q w = let t = w.session in
    world (with_clock (t.clock + length (leaving w s q)) t) (with_sheet s (leave t.clock (leaving w s q) (sheet_of w s)) w.sheets)

-- "the clock goes up by one and the row is stored with ATS = clock, DTS 0"
unfoldable pub store : Source → Item → World → World
store s item w = let t = w.session in
    world (with_feed s (record { rows = suc (count_of w s); closed = closed_of w s }) (with_clock (suc t.clock) t))
    (with_sheet s (put_row (count_of w s) (record { item = item; ats = suc t.clock; dts = 0 }) (sheet_of w s)) w.sheets)

-- "one entry is added .. (largest DTS .., clock)"
unfoldable pub note : Source → ℕ → ℕ → World → World
note s q last w = let t = w.session in let k = list_no t.parts s q in let n = get_or t.counts k 0 in
    world (with_counts (set t.counts k (suc n)) t) (with_probe (put_entry k n (record { last = last; probe = t.clock }) w.sheets.probe) w.sheets)

-- a source marked as closed
unfoldable pub shut : Source → World → World
shut s w = world (with_feed s (record { rows = count_of w s; closed = true }) w.session) w.sheets

-- the drain position moved
unfoldable pub move : ℕ → World → World
move k w = world (with_next k w.session) w.sheets

-- the position of a source's lone calls moved
unfoldable pub pass : Source → ℕ → World → World
pass s k w = world (with_lone (put s k w.session.lone) w.session) w.sheets

-- ---- for the proofs alone

-- sheets of no words, where any will do
abbrev pub no_sheets : Sheets
no_sheets = bundle [] [] []

-- another call, lent the same
abbrev pub with_call : Call → Lent → Lent
with_call k c = record { call = k; out = c.out }

-- another length of one source's sheet
abbrev pub with_length : Source → ℕ → Lengths → Lengths
with_length A n k = record { a = n; b = k.b; probe = k.probe }
with_length B n k = record { a = k.a; b = n; probe = k.probe }

-- and of the probe sheet
abbrev pub with_probe_length : ℕ → Lengths → Lengths
with_probe_length n k = record { a = k.a; b = k.b; probe = n }
