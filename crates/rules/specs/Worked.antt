-- Document 01's worked session in heat 1: its calls, and the answers, pairs, stamps and the one entry on the way. That the definitions give
-- them is computed in proofs/Worked.
use Rattle.std.specs.Prelude.{false, List, [], ◌∷◌, ◌++◌, ℕ, ◌+◌, replicate}
use Rattle.stamps.specs.declared.Source.TheVariants.{A, B}
use Rattle.stamps.specs.declared.Message.{Message}
use Rattle.sheets.specs.Layout.{Told, pairs_need, rows_need, probe_need}
use Rattle.pairs.specs.Pairs.{pairs_at}
use Rattle.rules.specs.Answers.{pairs_of}
use Rattle.rules.specs.World.{World, given, bundle, world, with_clock, with_feed, with_counts, Sheets, with_rows, with_probe}
use Rattle.rules.specs.Calls.{After, fresh, after_call}
use Rattle.rules.specs.declared.Call.{Call}
use Rattle.rules.specs.declared.Call.TheVariants.{Arrive, Evict, Run, Close, Drain}
use Rattle.rules.specs.declared.Answer.{Answer}
use Rattle.rules.specs.declared.Answer.TheVariants.{Taken, Flushed, Ran}
use Rattle.rules.specs.declared.Feed.{Feed}

-- the box, what it answered, and what it wrote
pub record Played : Type 0 where
  pub world : World
  pub answers : List Answer
  pub pairs : List Told

-- one answer more
unfoldable pub play : After → Played → Played
play r p = record { world = r.world; answers = p.answers ++ (r.answer ∷ []); pairs = p.pairs ++ pairs_at r.out 0 (pairs_of r.answer) }

-- a call with room for n pairs
unfoldable pub ask : ℕ → Call → Played → Played
ask n c p = play (after_call p.world (given c (replicate (pairs_need n) 0))) p

-- car 7 on a lap of heat 1
abbrev pub passing : ℕ → Message
passing lap = record { heat = 1; car = 7; lap = lap }

-- its key
abbrev pub key : ℕ → ℕ
key lap = 1007000 + lap

-- sheets of zeros for P = 2 and N = 8
abbrev pub blank : Sheets
blank = bundle (replicate (rows_need 8) 0) (replicate (rows_need 8) 0) (replicate (probe_need 2) 0)

-- START,2,3,8 on them
unfoldable pub started : Played
started = record { world = world (fresh 2 3 8) blank; answers = []; pairs = [] }

-- a source with so many rows, still open
abbrev pub fed_by : ℕ → Feed
fed_by n = record { rows = n; closed = false }

-- a pair of these rows
abbrev pub told : ℕ → ℕ → ℕ → Told
told a b lap = record { a = a; b = b; shown = record { key = key lap } }

-- the words of a row with these stamps
abbrev pub row : ℕ → ℕ → ℕ → List ℕ
row lap ats dts = key lap ∷ ats ∷ dts ∷ []

-- A,1,7,12 / B,1,7,12 / A,1,7,13 / B,1,7,13 / B,1,7,12: the first call stands innermost
unfoldable pub fed : Played
fed =
    ask 4 (Arrive B (passing 12))
    (ask 4 (Arrive B (passing 13)) (ask 4 (Arrive A (passing 13)) (ask 4 (Arrive B (passing 12)) (ask 4 (Arrive A (passing 12)) started))))

-- RUN,A,0 / RUN,A,0 / EVICT,B,0 / A,1,7,12
unfoldable pub run : Played → Played
run p = ask 4 (Arrive A (passing 12)) (ask 4 (Evict B 0) (ask 4 (Run A 0) (ask 4 (Run A 0) p)))

-- CLOSE,A / CLOSE,B / DRAIN,1 / DRAIN,1
unfoldable pub drained : Played → Played
drained p = ask 1 Drain (ask 1 Drain (ask 4 (Close B) (ask 4 (Close A) p)))

-- a session on the way, with the stamps of its rows
abbrev pub stage : ℕ → List ℕ → List ℕ → List ℕ → List ℕ → ℕ → List Answer → List Told → Played
stage clock a b counts entry rowsA answers pairs = record {
  world = world (with_clock clock (with_feed A (fed_by rowsA) (with_feed B (fed_by 3) (with_counts counts (fresh 2 3 8)))))
      (with_rows (a ++ replicate (rows_need 5) 0) (b ++ replicate (rows_need 5) 0) (with_probe (entry ++ replicate 254 0) blank));
  answers = answers;
  pairs = pairs;
}

-- after the five rows
abbrev pub fed_stage : Played
fed_stage =
    stage 7 (row 12 1 4 ++ row 13 3 0 ++ replicate (rows_need 1) 0) (row 12 2 6 ++ row 13 5 0 ++ row 12 7 0) (replicate 32 0) (0 ∷ 0 ∷ []) 2
    (Taken 0 ∷ Taken 1 ∷ Taken 0 ∷ Taken 1 ∷ Taken 0 ∷ []) (told 0 0 12 ∷ told 1 1 13 ∷ [])

-- after the run, the flush and the sixth row
abbrev pub run_stage : Played
run_stage =
    stage 9 (row 12 1 4 ++ row 13 3 0 ++ row 12 9 0) (row 12 2 6 ++ row 13 5 0 ++ row 12 7 8) (1 ∷ replicate 31 0) (4 ∷ 7 ∷ []) 3
    (Taken 0 ∷ Taken 1 ∷ Taken 0 ∷ Taken 1 ∷ Taken 0 ∷ Ran 1 ∷ Ran 0 ∷ Flushed 1 ∷ Taken 0 ∷ []) (told 0 0 12 ∷ told 1 1 13 ∷ told 0 2 12 ∷ [])
