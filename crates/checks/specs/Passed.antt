-- What a call that passed its checks may rely on: a record that passed number 1, and sheets that are long enough for it.
use Rattle.std.specs.Prelude.{Result, Ok, Err, ℕ, ◌+◌, ◌*◌, ◌≤◌, ◌<◌, get_or}
use Rattle.stamps.specs.declared.Source.{Source}
use Rattle.stamps.specs.declared.Item.{Item}
use Rattle.sheets.specs.Layout.{rows_need, probe_need}
use Rattle.rules.specs.World.{pick}
use Rattle.rules.specs.declared.Session.{Session}
use Rattle.rules.specs.declared.Why.{Why}
use Rattle.rules.specs.declared.Reply.{Reply}
use Rattle.rules.specs.declared.Answer.TheVariants.{Refused}

-- of the rows: their counts, and row sheets of these lengths
pub record Rows (t : Session) (a b : ℕ) : Type 0 where
  pub some_parts : 0 < t.parts
  pub few_parts : t.parts ≤ 16
  pub clock : t.clock ≤ 65536
  pub a_few : t.feeds.a.rows ≤ 4096
  pub b_few : t.feeds.b.rows ≤ 4096
  pub a_long : rows_need t.feeds.a.rows ≤ a
  pub b_long : rows_need t.feeds.b.rows ≤ b

-- of the lists: their counts, and a probe sheet of this length
pub record Probes (t : Session) (probe : ℕ) : Type 0 where
  pub probe_long : probe_need t.parts ≤ probe
  pub short : (k : ℕ) → k < 2 * t.parts → get_or t.counts k 0 ≤ 32

-- the item of a message that passed the checks before the pairs, or the refusal
abbrev pub admitted : Result Unit Why → Item → Result Item Why
admitted (Ok u) item = Ok item
admitted (Err y) item = Err y

-- what a call hands back, for what came of it: "A refusal hands the session record back equal"
abbrev pub settled : Session → Result Reply Why → Reply
settled t (Ok r) = r
settled t (Err y) = record { answer = Refused y; session = t }

-- a row that was admitted: there is space for it in its sheet
pub record Space (t : Session) (s : Source) (a b : ℕ) : Type 0 where
  pub rows : Rows t a b
  pub clock : t.clock ≤ 16384
  pub space : rows_need ((pick s t.feeds.a t.feeds.b).rows + 1) ≤ pick s a b
