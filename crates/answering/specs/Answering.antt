-- What a line is answered and what it leaves: the state, every word of the sheets and the output, the bytes of the reply.
use Rattle.std.specs.Prelude.{cond, List, [], ◌++◌, ℕ, take, drop, Option, Some, None}
use Rattle.sheets.specs.Layout.{pairs_need, singles_need}
use Rattle.rules.specs.Answers.{refused}
use Rattle.rules.specs.Calls.{After, opens, after_call}
use Rattle.rules.specs.World.{world, Sheets, given}
use Rattle.rules.specs.declared.Answer.{Answer}
use Rattle.rules.specs.declared.Answer.TheVariants as answer
use Rattle.rules.specs.declared.Call.{Call}
use Rattle.rules.specs.declared.Call.TheVariants as call
use Rattle.rules.specs.declared.Reply.{Reply}
use Rattle.rules.specs.declared.Session.{Session}
use Rattle.rules.specs.declared.Why.TheVariants.{BadLine, NoStart}
use Rattle.reading.specs.Reading.{read_line}
use Rattle.reading.specs.declared.Line.{Line}
use Rattle.reading.specs.declared.Line.TheVariants as line
use Rattle.replies.specs.Printing.{reply_text}

-- ---- the session, where there is one

-- before any accepted START
abbrev pub unstarted : Option Session
unstarted = None

-- "An accepted START begins afresh; a refused one keeps the old session"
abbrev pub began : Option Session → Reply → Option Session
began t r = cond (refused r.answer) t (Some r.session)

-- ---- an answer, and all that it leaves

-- what is told, the session, the sheets and the output
pub record Turn : Type 0 where
  pub told : Answer
  pub state : Option Session
  pub sheets : Sheets
  pub out : List ℕ

-- such a turn
abbrev pub turned : Answer → Option Session → Sheets → List ℕ → Turn
turned a t z o = record { told = a; state = t; sheets = z; out = o }

-- what a call leaves: the session that it hands back goes on
abbrev pub went : After → Turn
went x = turned x.answer (Some x.world.session) x.world.sheets x.out

-- a call in a session; "NoStart: .. a good line other than START before any accepted START"
unfoldable pub asks : Call → Option Session → Sheets → List ℕ → Turn
asks c (Some s) z o = went (after_call (world s z) (given c o))
asks c None z o = turned (answer.Refused NoStart) None z o

-- "DRAIN uses the room it names", and so does LONE: the call is lent the first words of the output, and those behind them stay
unfoldable pub asks_in : ℕ → Call → Option Session → Sheets → List ℕ → Turn
asks_in words c t z o = let x = asks c t z (take words o) in turned x.told x.state x.sheets (x.out ++ drop words o)

-- "BadLine is tested before NoStart"
abbrev pub turn_of : Option Line → Option Session → Sheets → List ℕ → Turn
turn_of (Some (line.Start p m n)) t z o = let r = opens p m n z in turned r.answer (began t r) z o
turn_of (Some (line.Ask c)) t z o = asks c t z o
turn_of (Some (line.Drain room)) t z o = asks_in (pairs_need room) call.Drain t z o
turn_of (Some (line.Lone s room)) t z o = asks_in (singles_need room) (call.Lone s) t z o
turn_of None t z o = turned (answer.Refused BadLine) t z o

-- ---- the reply

-- the session, the sheets, the output and the text of the reply
pub record Left : Type 0 where
  pub state : Option Session
  pub sheets : Sheets
  pub out : List ℕ
  pub text : List ℕ

-- all of these
abbrev pub left : Option Session → Sheets → List ℕ → List ℕ → Left
left t z o text = record { state = t; sheets = z; out = o; text = text }

-- a turn, and its reply
abbrev pub replied : Turn → Left
replied x = left x.state x.sheets x.out (reply_text x.out x.told)

-- a line answered
unfoldable pub answered : List ℕ → Option Session → Sheets → List ℕ → Left
answered l t z o = replied (turn_of (read_line l) t z o)

-- no line, no answer
abbrev pub silent : Option Session → Sheets → List ℕ → Left
silent t z o = left t z o []
