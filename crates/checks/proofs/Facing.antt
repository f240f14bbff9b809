-- What a job was made of: the box, seen from a source; and what a record that passed number 1 gives to the walks over its rows.
-- Assumes nothing.
use Rattle.std.proofs.Common.{◌≡◌, List, ℕ, ◌*◌, ◌≤◌, ◌<◌, length, get_or}
use Rattle.stamps.specs.Sources.{other, pick}
use Rattle.stamps.specs.declared.Source.{Source}
use Rattle.stamps.specs.declared.Source.TheVariants.{A, B}
use Rattle.sheets.specs.Layout.{rows_need, probe_need}
use Rattle.pairs.specs.Pairs.{Table, table_of}
use Rattle.pairs.specs.declared.walks.Job.{Job}
use Rattle.pairs.specs.declared.walks.Scope.{Scope}
use Rattle.rules.specs.World.{World, sheet_of, count_of, seen_from}
use Rattle.rules.specs.declared.Session.{Session}
use Rattle.checks.specs.Facing.{JobFrom}
use Rattle.checks.specs.Passed.{Rows, Probes}

-- no source has more rows than a sheet may
pub rows_few : (t : Session) (a b : ℕ) (s : Source) → Rows t a b → (pick s t.feeds.a t.feeds.b).rows ≤ 4096
rows_few t a b A h = h.a_few
rows_few t a b B h = h.b_few

-- what two sheets hold, the source's own first
pub record Held (s : Source) (t : Session) (own facing : ℕ) : Type 0 where
  pub own_long : rows_need (pick s t.feeds.a t.feeds.b).rows ≤ own
  pub facing_long : rows_need (pick (other s) t.feeds.a t.feeds.b).rows ≤ facing
  pub few : (pick s t.feeds.a t.feeds.b).rows ≤ 4096

pub rows-held : (s : Source) (t : Session) (own facing : List ℕ) → Rows t (length (pick s own facing)) (length (pick s facing own)) → Held s t (length own) (length facing)
rows-held A t own facing h = record { own_long = h.a_long; facing_long = h.b_long; few = h.a_few }
rows-held B t own facing h = record { own_long = h.b_long; facing_long = h.a_long; few = h.b_few }

-- all that the types of a job's parts ask
pub record Ready (s : Source) (t : Session) (own facing probe : List ℕ) : Type 0 where
  pub own_few : (pick s t.feeds.a t.feeds.b).rows ≤ 4096
  pub facing_few : (pick (other s) t.feeds.a t.feeds.b).rows ≤ 4096
  pub own_long : rows_need (pick s t.feeds.a t.feeds.b).rows ≤ length own
  pub facing_long : rows_need (pick (other s) t.feeds.a t.feeds.b).rows ≤ length facing
  pub some_parts : 0 < t.parts
  pub few_parts : t.parts ≤ 16
  pub probe_long : probe_need t.parts ≤ length probe
  pub short : (k : ℕ) → k < 2 * t.parts → get_or t.counts k 0 ≤ 32

pub fits-ready : (s : Source) (t : Session) (own facing probe : List ℕ) → Rows t (length (pick s own facing)) (length (pick s facing own)) → Probes t (length probe)
    → Ready s t own facing probe
fits-ready s t own facing probe f g = let h = rows-held s t own facing f in record {
  own_few = h.few;
  facing_few = rows_few t (length (pick s own facing)) (length (pick s facing own)) (other s) f;
  own_long = h.own_long;
  facing_long = h.facing_long;
  some_parts = f.some_parts;
  few_parts = f.few_parts;
  probe_long = g.probe_long;
  short = g.short;
}

-- the table that a job works on is the box, seen from the job's source: its own sheet and the one across from it are the source's and the other's, and its lists are the box's
pub seen_is : (w : World) (j : Job) → j.own.rows ≡ count_of w j.source → j.own.words.now ≡ sheet_of w j.source
    → j.facing.rows ≡ count_of w (other j.source) → j.facing.words.now ≡ sheet_of w (other j.source)
    → j.lists.parts.count ≡ w.session.parts → j.lists.counts.now ≡ w.session.counts → j.lists.probe.now ≡ w.sheets.probe → table_of j ≡ seen_from j.source w
seen_is w j rows words others facing parts counts probe = rw (rows, words, others, facing, parts, counts, probe)

-- a job that was made so, for a source
pub job_made : {s : Source} {p : Scope} {w : World} {j : Job} → j.source ≡ s → j.scope ≡ p → j.own.rows ≡ count_of w s → j.own.words.now ≡ sheet_of w s
    → j.facing.rows ≡ count_of w (other s) → j.facing.words.now ≡ sheet_of w (other s)
    → j.lists.parts.count ≡ w.session.parts → j.lists.counts.now ≡ w.session.counts → j.lists.probe.now ≡ w.sheets.probe → JobFrom s p w j
job_made {w = w} {j = j} source scope rows words others facing parts counts probe = record {
  source = source;
  scope = scope;
  table = rw (← source) (seen_is w j (rw source rows) (rw source words) (rw source others) (rw source facing) parts counts probe);
}

-- what is said of a job's rows and lists is said of the box
pub seen_by : (s : Source) (p : Scope) (w : World) (j : Job) → JobFrom s p w j → (P : Source → Scope → Table → Type 0) → P j.source j.scope (table_of j) → P s p (seen_from s w)
seen_by s p w j k P = go j.source j.scope (table_of j) k.source k.scope k.table
  where
    go : (s' : Source) (p' : Scope) (t : Table) → s' ≡ s → p' ≡ p → t ≡ seen_from s w → P s' p' t → P s p (seen_from s w)
    go s' p' t e f g h = rw (e, f, g) at h
