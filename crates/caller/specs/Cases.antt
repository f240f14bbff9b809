-- What a case asks for, and what is printed of what it leaves.
use Rattle.std.specs.Prelude.{◌≡◌, List, [], ◌∷◌, ℕ, ◌++◌, length, take, codes}
use Rattle.stamps.specs.declared.Source.{Source}
use Rattle.stamps.specs.declared.Source.TheVariants.{A, B}
use Rattle.rules.specs.declared.Call.{Call}
use Rattle.rules.specs.declared.Call.TheVariants.{Arrive, Evict, Run, Close, Drain, Lone}
use Rattle.text.specs.Putting.{line_text}
use Rattle.rules.specs.World.{Sheets, world, given}
use Rattle.rules.specs.Calls.{After, leaves, opens, after_call}
use Rattle.printout.specs.Printed.{session_numbers, reply_lines}
use Rattle.caller.specs.declared.cases.Request.{Request}
use Rattle.caller.specs.declared.cases.Request.TheVariants.{Open, Perform}

-- the most words of a sheet of rows
abbrev pub sheet_most : ℕ
sheet_most = 12288

-- of the probe lists
abbrev pub probe_most : ℕ
probe_most = 2048

-- of an output
abbrev pub output_most : ℕ
output_most = 1536

-- the number of a source in a case
abbrev pub number_of : Source → ℕ
number_of A = 0
number_of B = 1

-- the numbers of a call in a case: its kind, and its arguments
abbrev pub call_numbers : Call → List ℕ
call_numbers (Arrive source message) = 1 ∷ number_of source ∷ message.heat ∷ message.car ∷ message.lap ∷ []
call_numbers (Evict source part) = 2 ∷ number_of source ∷ part ∷ []
call_numbers (Run source part) = 3 ∷ number_of source ∷ part ∷ []
call_numbers (Close source) = 4 ∷ number_of source ∷ []
call_numbers Drain = 5 ∷ []
call_numbers (Lone source) = 6 ∷ number_of source ∷ []

-- these numbers begin with those of a call
abbrev pub AsksFor : List ℕ → Call → Type 0
AsksFor ns call = take (length (call_numbers call)) ns ≡ call_numbers call

-- these numbers, and those of a record, ask for a request
abbrev pub Asks : List ℕ → List ℕ → Request → Type 0
Asks ns record_ns (Open parts slots limit) = take 4 ns ≡ 0 ∷ parts ∷ slots ∷ limit ∷ []
Asks ns record_ns (Perform session call) = AsksFor ns call × (session_numbers session ≡ record_ns)

-- what a request leaves, performed on these sheets and this output
abbrev pub left_by : Request → Sheets → List ℕ → After
left_by (Open parts slots limit) x o = leaves (opens parts slots limit x) x o
left_by (Perform session call) x o = after_call (world session x) (given call o)

-- the text of what is left: the reply, and every word of every sheet
abbrev pub text_of : After → List ℕ
text_of x =
    reply_lines (record { answer = x.answer; session = x.world.session }) ++ line_text (codes "A") x.world.sheets.a ++
    line_text (codes "B") x.world.sheets.b ++ line_text (codes "PROBE") x.world.sheets.probe ++ line_text (codes "OUT") x.out
