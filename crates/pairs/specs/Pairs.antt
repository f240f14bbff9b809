-- Pairs of rows: which are written by an arrival, a run and a drain, and in what order.
-- All is said for source A with B across from it. For B it is the same with the two in each other's place.
use Rattle.std.specs.Prelude.{◌≡◌, Bool, true, false, not, ◌&&◌, List, [], ◌∷◌, ◌++◌, map, ℕ, zero, suc, ◌+◌, ◌*◌, ◌-◌, ◌≤◌, ◌<◌, Option, MatchOption}
use Rattle.stamps.specs.declared.Source.{Source}
use Rattle.stamps.specs.declared.Item.{Item}
use Rattle.stamps.specs.declared.Row.{Row}
use Rattle.stamps.specs.declared.Entry.{Entry}
use Rattle.stamps.specs.Counting.{span, keep}
use Rattle.stamps.specs.Keys.{items_match, part_of}
use Rattle.stamps.specs.Sources.{other}
use Rattle.stamps.specs.Stamps.{in_memory, done_before}
use Rattle.sheets.specs.Layout.{row_at, Pair, Told, tell, pair_at, put_pair}
use Rattle.sheets.specs.Lists.{list_of}
use Rattle.sheets.specs.Rows.{spooled}
use Rattle.pairs.specs.Rooms.{on_from, put_all, read_all, HandsOut}
use Rattle.pairs.specs.declared.due.Due.{Due}
use Rattle.pairs.specs.declared.walks.Job.{Job}
use Rattle.pairs.specs.declared.walks.Spot.{Spot}
use Rattle.pairs.specs.declared.rooms.Written.{Written}
use Rattle.pairs.specs.declared.walks.Scope.{Scope}
use Rattle.pairs.specs.declared.walks.Scope.TheVariants.{All, Portion}

-- ---- what the sheets hold

-- of one source: how many rows, the rows by number, the probe lists by partition
pub record Side : Type 0 where
  pub count : ℕ
  pub row : ℕ → Row
  pub list : ℕ → List Entry

-- of both, and P
pub record Table : Type 0 where
  pub parts : ℕ
  pub a : Side
  pub b : Side

-- ---- pairs, in document 01's order

-- row i of A with each of these rows of B
abbrev pub beside : ℕ → List ℕ → List Pair
beside i js = map (λ j. record { a = i; b = j }) js

-- each of these rows of A with each of these rows of B: "by A row, then B row"
abbrev pub grid : List ℕ → List ℕ → List Pair
grid [] js = []
grid (i ∷ is) js = beside i js ++ grid is js

-- all pairs, in that order
abbrev pub every : Table → List Pair
every t = grid (span 0 t.a.count) (span 0 t.b.count)

-- "pair (a, b) has position a x (B rows) + b"
abbrev pub position : Table → Pair → ℕ
position t p = p.a * t.b.count + p.b

-- ---- what is said of a pair

-- its row of A
abbrev pub row_a : Table → Pair → Row
row_a t p = t.a.row p.a

-- its row of B
abbrev pub row_b : Table → Pair → Row
row_b t p = t.b.row p.b

-- "Two rows of different sources match when their keys are equal"
abbrev pub matches : Table → Pair → Bool
matches t p = items_match (row_a t p).item (row_b t p).item

-- done before, by the lists of the rows' portions
abbrev pub done : Table → Pair → Bool
done t p = done_before (t.a.list (part_of t.parts (row_a t p).item)) (t.b.list (part_of t.parts (row_b t p).item)) (row_a t p) (row_b t p)

-- ---- an arrival at A: "the new row with each memory row of the other source that matches, ascending"

-- a row that is in memory and matches
abbrev pub met : Item → Row → Bool
met item r = items_match item r.item && in_memory r

-- i is the new row's number; g gives the rows of the other source, and js are their numbers
unfoldable pub arrival_pairs : ℕ → Item → (ℕ → Row) → List ℕ → List Pair
arrival_pairs i item g js = keep (λ p. met item (g p.b)) (beside i js)

-- ---- runs and drains

-- "A matching pair is written unless it was done before"
unfoldable pub is_due : Table → Pair → Bool
is_due t p = matches t p && not (done t p)

-- of a run: each row of is "is tried against each" row of js
unfoldable pub tried : Table → List ℕ → List ℕ → List Pair
tried t is js = keep (is_due t) (grid is js)

-- of a drain: all rows against all
unfoldable pub due_pairs : Table → List Pair
due_pairs t = keep (is_due t) (every t)

-- "from the drain position on"
unfoldable pub due_from : ℕ → Table → List Pair
due_from k t = on_from (position t) k (due_pairs t)

-- ---- pairs in an output

-- what is written of a list of pairs
abbrev pub tell_all : Source → (ℕ → Item) → (ℕ → Item) → List Pair → List Told
tell_all s x y = map (λ p. tell s p (x p.a) (y p.b))

-- of a pair of a table's rows, seen from source s
abbrev pub tell_of : Source → Table → Pair → Told
tell_of s t p = tell s p (t.a.row p.a).item (t.b.row p.b).item

-- of a list of these
abbrev pub told : Source → Table → List Pair → List Told
told s t = map (tell_of s t)

-- written one after the other from pair number w on, every other word as it was
abbrev pub put_from : ℕ → List Told → List ℕ → List ℕ
put_from = put_all put_pair

-- n pairs read back, from pair number w on
abbrev pub pairs_at : List ℕ → ℕ → ℕ → List Told
pairs_at = read_all pair_at

-- ---- what the functions promise: a job is what a run or a drain works on

-- the rows of A that are looked at: all, or the spooled rows of a portion
abbrev pub takes : Scope → ℕ → Row → Bool
takes All parts r = true
takes (Portion q) parts r = spooled parts q r

-- the rows of B across from them: all, or those in memory
abbrev pub meets : Scope → Row → Bool
meets All r = true
meets (Portion q) r = in_memory r

-- two rows that match and were not done before, with the lists of their portions
abbrev pub due : Scope → List Entry → List Entry → Row → Row → Bool
due scope ex ey x y = items_match x.item y.item && (meets scope y && not (done_before ex ey x y))

-- a pair that the job writes
unfoldable pub wanted : Scope → Table → Pair → Bool
wanted scope t p =
    takes scope t.parts (row_a t p)
    && due scope (t.a.list (part_of t.parts (row_a t p).item)) (t.b.list (part_of t.parts (row_b t p).item)) (row_a t p) (row_b t p)

-- all of these
unfoldable pub wanted_pairs : Scope → Table → List Pair
wanted_pairs scope t = keep (wanted scope t) (every t)

-- from a position on
unfoldable pub pairs_from : Scope → ℕ → Table → List Pair
pairs_from scope k t = on_from (position t) k (wanted_pairs scope t)

-- the source of the job stands for A
abbrev pub table_of : Job → Table
table_of j = record {
  parts = j.lists.parts.count;
  a = record { count = j.own.rows; row = row_at j.own.words.now; list = list_of j.lists.parts.count j.lists.counts.now j.lists.probe.now j.source };
  b = record { count = j.facing.rows; row = row_at j.facing.words.now; list = list_of j.lists.parts.count j.lists.counts.now j.lists.probe.now (other j.source) };
}

-- the first number from `from` on and below n that passes a test, if there is one
abbrev pub NextIs : (ℕ → Bool) → ℕ → ℕ → Option ℕ → Type 0
NextIs t n from r = MatchOption r ((k : ℕ) → from ≤ k → k < n → t k ≡ false) (λ i. (from ≤ i) × (i < n) × (t i ≡ true) × ((k : ℕ) → from ≤ k → k < i → t k ≡ false))

-- row i of A with m rows of B from row j on
abbrev pub across : ℕ → ℕ → ℕ → List Pair
across i j m = beside i (span j m)

-- n rows of A from row i on, each with the first m rows of B
abbrev pub down : ℕ → ℕ → ℕ → List Pair
down i n m = grid (span i n) (span 0 m)

-- what is left from row i of A and row j of B on, by rows
abbrev pub left_rows : ℕ → ℕ → ℕ → ℕ → List Pair
left_rows m i j zero = []
left_rows m i j (suc k) = across i j (m - j) ++ down (suc i) k m

-- of those, the wanted ones
abbrev pub left_from : Scope → Table → ℕ → ℕ → List Pair
left_from scope t i j = keep (wanted scope t) (left_rows t.b.count i j (t.a.count - i))

-- the pair at a spot
abbrev pub pair_of : Spot → Pair
pair_of s = record { a = s.row; b = s.facing }

-- the wanted pairs that a walk has not come to
abbrev pub due_left : Due → List Pair
due_left d = left_from d.job.scope (table_of d.job) d.from.row d.from.facing

-- a walk's next step: to the first of these
abbrev pub DueStep : Due → Option Spot → Due → Type 0
DueStep s r t = (t.job ≡ s.job)
    × MatchOption r ((due_left s ≡ []) × (due_left t ≡ [])) (λ x. (due_left s ≡ pair_of x ∷ due_left t) × (x.row < s.job.own.rows) × (x.facing < s.job.facing.rows))

-- as many of the pairs as there is room for are written; "if none remains, [the position] becomes (A rows) x (B rows)"
abbrev pub Writes : Source → Table → List Pair → ℕ → ℕ → List ℕ → List ℕ → Written → Type 0
Writes s t = HandsOut (position t) (t.a.count * t.b.count) (tell_of s t) put_pair
