-- What a line asks for: "The first field is one of the words", "Anything else is BadLine".
use Rattle.std.specs.Prelude.{cond, List, [], ℕ, leb, eqb, length, get_or, Option, Some, None}
use Rattle.std.specs.Bool.{then_some}
use Rattle.std.specs.Option.{option_map, option_and_then, option_zip}
use Rattle.stamps.specs.declared.Source.{Source}
use Rattle.text.specs.Fields.{fields, field_at}
use Rattle.text.specs.Numbers.{number_of}
use Rattle.rules.specs.declared.Call.TheVariants as call
use Rattle.reading.specs.Words.{source_of, word_of}
use Rattle.reading.specs.declared.words.Word.{Word}
use Rattle.reading.specs.declared.words.Word.TheVariants as word
use Rattle.reading.specs.declared.Line.{Line}
use Rattle.reading.specs.declared.Line.TheVariants as line

-- ---- the kinds of fields

-- "Numbers are 1 to 4 decimal digits"
abbrev pub digits_most : ℕ
digits_most = 4

-- field k as a number
abbrev pub number_at : List (List ℕ) → ℕ → Option ℕ
number_at fs k = number_of digits_most (get_or fs k [])

-- field k as a source
abbrev pub source_at : List (List ℕ) → ℕ → Option Source
source_at fs k = source_of (get_or fs k [])

-- "Output room is 512 pairs"
abbrev pub room_most : ℕ
room_most = 512

-- "with more than 512" is BadLine
abbrev pub roomed : ℕ → Option ℕ
roomed room = then_some (leb room room_most) room

-- field k as a room
abbrev pub room_at : List (List ℕ) → ℕ → Option ℕ
room_at fs k = option_and_then roomed (number_at fs k)

-- what n fields say; any other count of them says nothing
abbrev pub of_count : {X : Type 0} → ℕ → List (List ℕ) → Option X → Option X
of_count n fs says = cond (eqb (length fs) n) says None

-- ---- the lines, one for each word

-- three fields, where all are numbers
abbrev pub triple : Option ℕ → Option ℕ → Option ℕ → Option (ℕ × ℕ × ℕ)
triple (Some x) (Some y) (Some z) = Some (x, y, z)
triple (Some x) (Some y) None = None
triple (Some x) None z = None
triple None y z = None

-- "P,M,N" or "heat,car,lap" after a word
unfoldable pub three_of : List (List ℕ) → Option (ℕ × ℕ × ℕ)
three_of fs = of_count 4 fs (triple (number_at fs 1) (number_at fs 2) (number_at fs 3))

-- an opening
abbrev pub start : ℕ × ℕ × ℕ → Line
start n = line.Start n.0 n.1 n.2

-- "START,P,M,N"
abbrev pub start_line : List (List ℕ) → Option Line
start_line fs = option_map start (three_of fs)

-- a message of source s
abbrev pub arrive : Source → ℕ × ℕ × ℕ → Line
arrive s n = line.Ask (call.Arrive s (record { heat = n.0; car = n.1; lap = n.2 }))

-- "A,heat,car,lap", and so for B
abbrev pub arrive_line : Source → List (List ℕ) → Option Line
arrive_line s fs = option_map (arrive s) (three_of fs)

-- "source,partition" after a word
unfoldable pub sourced_of : List (List ℕ) → Option (Source × ℕ)
sourced_of fs = of_count 3 fs (option_zip (source_at fs 1) (number_at fs 2))

-- a portion to evict
abbrev pub evict : Source × ℕ → Line
evict p = line.Ask (call.Evict p.0 p.1)

-- "EVICT,source,partition"
abbrev pub evict_line : List (List ℕ) → Option Line
evict_line fs = option_map evict (sourced_of fs)

-- a portion to run
abbrev pub run : Source × ℕ → Line
run p = line.Ask (call.Run p.0 p.1)

-- "RUN,source,partition"
abbrev pub run_line : List (List ℕ) → Option Line
run_line fs = option_map run (sourced_of fs)

-- a source to close
abbrev pub close : Source → Line
close s = line.Ask (call.Close s)

-- "CLOSE,source"
unfoldable pub close_line : List (List ℕ) → Option Line
close_line fs = of_count 2 fs (option_map close (source_at fs 1))

-- "DRAIN,room"
unfoldable pub drain_line : List (List ℕ) → Option Line
drain_line fs = of_count 2 fs (option_map line.Drain (room_at fs 1))

-- a source whose rows without partner are listed, with the room for them
abbrev pub lone : Source × ℕ → Line
lone p = line.Lone p.0 p.1

-- "LONE,source,room"
unfoldable pub lone_line : List (List ℕ) → Option Line
lone_line fs = of_count 3 fs (option_map lone (option_zip (source_at fs 1) (room_at fs 2)))

-- ---- a line

-- the word picks the line
abbrev pub line_of : List (List ℕ) → Word → Option Line
line_of fs word.Start = start_line fs
line_of fs (word.Arrive s) = arrive_line s fs
line_of fs word.Evict = evict_line fs
line_of fs word.Run = run_line fs
line_of fs word.Close = close_line fs
line_of fs word.Drain = drain_line fs
line_of fs word.Lone = lone_line fs

-- "At most 80 bytes before the LF"; the first field is the word
unfoldable pub read_line : List ℕ → Option Line
read_line l = cond (leb (length l) 80) (option_and_then (line_of (fields l)) (word_of (field_at l 0))) None

-- the bytes of a line that are kept: one more than a good line has
abbrev pub line_most : ℕ
line_most = 81
