-- How far a session has come.
use Rattle.std.specs.Prelude.{◌≡◌, List, ℕ, Option}
use Rattle.std.specs.Io.KnownBytes.{Appends}
use Rattle.text.specs.Gathering.{cut, Holds}
use Rattle.rules.specs.World.{Sheets, bundle}
use Rattle.reading.specs.Reading.{line_most}
use Rattle.answering.specs.Answering.{Left, left}
use Rattle.lines.specs.Serving.{talk}
use Rattle.pitbox.specs.declared.Going.{Going}
use Rattle.pitbox.specs.declared.Storage.{Storage}

-- the sheets that are lent
abbrev pub sheets_of : Storage → Sheets
sheets_of s = bundle s.a s.b s.probe

-- on the way: what was said is written behind the bytes k, and the line that is begun is held; the answers to the other bytes
-- make all of it, and they leave the line `begun`
pub record Underway (all : Left) (begun : List ℕ) (k : Option (List ℕ)) (bytes : List ℕ) (g : Going) (s : Storage) (k' : Option (List ℕ)) : Type 0 where
  pub said : List ℕ
  pub line : List ℕ
  pub written : Appends k k' said
  pub holds : Holds line_most g.line.items line
  pub lines : all ≡ talk (left g.state (sheets_of s) s.out said) (cut line bytes).ended
  pub rest : begun ≡ (cut line bytes).begun
