-- What the workers of a run promise each other.
use Rattle.std.specs.Prelude.{Result, Ok, Err, Option, Some, None, cond, ◌||◌, List, ℕ, ◌≤◌, ◌<◌, ltb, leb, eqb, length, get_or}
use Rattle.stamps.specs.declared.Source.{Source}
use Rattle.stamps.specs.Counting.{tally}
use Rattle.sheets.specs.Layout.{probe_need, room_of, list_no}
use Rattle.sheets.specs.Lists.{probed_at}
use Rattle.sheets.specs.Rows.{spooled, latest}
use Rattle.pairs.specs.Pairs.{Table, told, put_from}
use Rattle.rules.specs.Calls.{After, after, runs, settle}
use Rattle.rules.specs.Refusals.{verdict, ran, run_checks}
use Rattle.rules.specs.World.{World, seen_from, note}
use Rattle.rules.specs.declared.Session.{Session}
use Rattle.rules.specs.declared.Why.{Why}
use Rattle.rules.specs.declared.Why.TheVariants.{ListFull, RoomShort}
use Rattle.rules.specs.declared.Answer.TheVariants.{Ran, Refused}

-- what a run has to do at a clock: nothing, too much for its list, or the rows up to a DTS
abbrev pub task_of : Table → ℕ → ℕ → Result (Option ℕ) Why
task_of t clock q =
    cond (eqb (tally (λ i. spooled t.parts q (t.a.row i)) t.a.count) 0 || probed_at clock (t.a.list q)) (Ok None)
    (cond (leb 32 (length (t.a.list q))) (Err ListFull) (Ok (Some (latest t.parts q t.a.row t.a.count))))

-- a run that has something to do: refused for want of room, or done
abbrev pub ran_upto : Source → ℕ → ℕ → World → List ℕ → After
ran_upto s q last w o = let n = length (ran s q w) in
    cond (ltb (room_of (length o)) n) (after (Refused (RoomShort n)) w o)
    (after (Ran n) (note s q last w) (put_from 0 (told s (seen_from s w) (ran s q w)) o))

-- a list that has a place for one more entry
pub record Listed (t : Session) (s : Source) (q probe : ℕ) : Type 0 where
  pub some_parts : 0 < t.parts
  pub in_parts : q < t.parts
  pub few_parts : t.parts ≤ 16
  pub size : get_or t.counts (list_no t.parts s q) 0 < 32
  pub probe_long : probe_need t.parts ≤ probe

-- a run whose portion's numbers are good, settled by the checks that are left
abbrev pub run_settled : Source → ℕ → World → List ℕ → After
run_settled s q w o = settle (verdict (run_checks w s q (room_of (length o)))) w o (runs s q w o)
