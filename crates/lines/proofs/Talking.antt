-- What the program prints for a whole input is what its lines are answered one after the other, however it is cut into pieces.
-- By what a look at the input finds, and by `read_held`. Assumes nothing.
use Rattle.std.proofs.Common.{◌≡◌, refl, ℕ, List, [], ◌∷◌, ◌++◌, take, append-nil}
use Rattle.std.specs.Prelude.{Option, Some, None}
use Rattle.text.specs.Gathering.{Held, Holds, cut, lines_from, gather}
use Rattle.text.proofs.Laws.{holds_first, cut_at, Found, gather_finds}
use Rattle.rules.specs.World.{Sheets}
use Rattle.rules.specs.declared.Session.{Session}
use Rattle.reading.specs.Reading.{line_most}
use Rattle.reading.proofs.Laws.{read_held}
use Rattle.answering.specs.Answering.{Left, left, answered, silent}
use Rattle.lines.specs.Serving.{served, begun_after, finished, and_then, talk}

-- ---- one line

-- a line in its buffer is answered as the whole line
answered-held : (l line : List ℕ) (t : Option Session) (z : Sheets) (o : List ℕ) → Holds line_most l line → answered l t z o ≡ answered line t z o
unfolding answered
answered-held l line t z o h = rw (read_held l line h)

-- silence changes nothing
then_silent : (x : Left) → and_then x (silent x.state x.sheets x.out) ≡ x
then_silent x = λ i. left x.state x.sheets x.out (append-nil x.text i)

-- lines answered in two parts
pub talk-append : (x : Left) (ls ms : List (List ℕ)) → talk x (ls ++ ms) ≡ talk (talk x ls) ms
unfolding talk
talk-append x [] ms = refl
talk-append x (l ∷ ls) ms = talk-append (and_then x (answered l x.state x.sheets x.out)) ls ms

-- ---- one look at the input

-- the bytes behind the LF, or none
abbrev pub behind : Held → List ℕ
behind h = elim h.rest [ Some rest ↦ rest | None ↦ [] ]

-- what is left to answer: the line that is begun, held in the buffer, and the bytes that follow; and the line that these leave
pub record Looked (whole : Left) (left : List ℕ) (x : Left) (l bytes : List ℕ) : Type 0 where
  pub begun : List ℕ
  pub holds : Holds line_most l begun
  pub lines : whole ≡ talk x (cut begun bytes).ended
  pub rest : left ≡ (cut begun bytes).begun

-- a look at the input answers its next line
pub looks : (begun bytes : List ℕ) (x : Left) (h : Held) → Found line_most begun bytes h
    → Looked (talk x (cut begun bytes).ended) (cut begun bytes).begun (and_then x (served h x.state x.sheets x.out)) (begun_after h) (behind h)
unfolding talk cut
looks begun bytes x h f = go h.rest f.cuts
  where
    go : (r : Option (List ℕ)) → cut begun bytes ≡ cut_at f.line r
        → Looked (talk x (cut begun bytes).ended) (cut begun bytes).begun (and_then x (elim r [ Some rest ↦ answered h.line x.state x.sheets x.out | None ↦ silent x.state x.sheets x.out ]))
        (elim r [ Some rest ↦ [] | None ↦ h.line ]) (elim r [ Some rest ↦ rest | None ↦ [] ])
    go (Some rest) q = record { begun = []; holds = holds_first line_most; lines = rw (q, answered-held h.line f.line x.state x.sheets x.out f.holds); rest = rw q }
    go None q = record { begun = f.line; holds = f.holds; lines = rw (q, then_silent x); rest = rw q }

-- what is left to answer, up to the end of the input
pub record Onward (whole x : Left) (l bytes : List ℕ) : Type 0 where
  pub begun : List ℕ
  pub holds : Holds line_most l begun
  pub same : whole ≡ talk x (lines_from begun bytes)

-- what `serve` leaves, and the lines of the bytes behind it, make the whole
pub serve_talks : (l bytes begun : List ℕ) (x : Left) → Holds line_most l begun → let h = gather line_most l bytes in
    Onward (talk x (lines_from begun bytes)) (and_then x (served h x.state x.sheets x.out)) (begun_after h) (behind h)
unfolding lines_from
serve_talks l bytes begun x h =
    let w = looks begun bytes x (gather line_most l bytes) (gather_finds line_most l begun bytes h) in
    record { begun = w.begun; holds = w.holds; same = simp (talk-append, w.lines, w.rest) }

-- the end of the input answers the rest: what `finish` leaves is the whole
pub finish_talks : (l begun : List ℕ) (x : Left) → Holds line_most l begun → talk x (lines_from begun []) ≡ and_then x (finished l x.state x.sheets x.out)
unfolding lines_from talk cut
finish_talks l [] x h = rw (h, then_silent x)
finish_talks l (y ∷ ys) x h = rw (h, answered-held (take line_most (y ∷ ys)) (y ∷ ys) x.state x.sheets x.out refl)
