-- What a flush, an arrival and a run's entry do to the rows and lists that the sheets hold: one source changes, the other stays.
-- Each is read back by the laws of the sheets. Assumes nothing.
use Rattle.std.specs.Prelude.{◌≡◌, refl, true, false, List, ℕ, suc, ◌+◌, ◌*◌, ◌≤◌, ◌<◌, length, get_or}
use Rattle.std.proofs.Common.{ap, length-set}
use Rattle.std.proofs.Math.Path.{fun_ext}
use Rattle.std.proofs.lemmas.Bool.{false≢true}
use Rattle.stamps.specs.Counting.{up_to}
use Rattle.stamps.specs.Sources.{other}
use Rattle.stamps.specs.declared.Source.{Source}
use Rattle.stamps.specs.declared.Source.TheVariants.{A, B}
use Rattle.stamps.specs.declared.Item.{Item}
use Rattle.stamps.specs.declared.Row.{Row}
use Rattle.stamps.specs.declared.Entry.{Entry}
use Rattle.sheets.specs.Layout.{rows_need, row_at, put_row, probe_need, list_no}
use Rattle.sheets.proofs.LayoutLaws.{length-put_row, length-put_entry}
use Rattle.sheets.specs.Rows.{portion_rows, flushed}
use Rattle.sheets.proofs.Laws.{rows-put}
use Rattle.sheets.proofs.Noted.{list_own, list_facing}
use Rattle.pairs.specs.Pairs.{Side}
use Rattle.pairs.proofs.Changes.{flushed_side, stored_side, new_row, noted_side, with_a}
use Rattle.rules.specs.World.{World, same, count_of, sheet_of, closed_of, rows_of, side_of, seen_from, leaving, flush, store, note, lengths, with_length, with_probe_length, Lengths}
use Rattle.rules.specs.declared.Session.{Session}
use Rattle.rules.proofs.Flushing.{leaving-count, flush_long, flush-rows}

-- what holds of a source and of the other one holds of both
pub both_sources : (P : Source → Type 0) (s : Source) → P s → P (other s) → (u : Source) → P u
both_sources P A x y A = x
both_sources P A x y B = y
both_sources P B x y A = y
both_sources P B x y B = x

pub same_own : (s : Source) → same s s ≡ true
same_own A = refl
same_own B = refl

pub same_facing : (s : Source) → same s (other s) ≡ false
same_facing A = refl
same_facing B = refl

pub same_eq : (v s : Source) → same v s ≡ true → v ≡ s
same_eq A A h = refl
same_eq A B h = absurd (false≢true h)
same_eq B A h = absurd (false≢true h)
same_eq B B h = refl

-- the numbers that no call changes
pub record Extent : Type 0 where
  pub parts : ℕ
  pub slots : ℕ
  pub limit : ℕ
  pub long : Lengths

-- of a record and sheets of these lengths
abbrev sized : Session → Lengths → Extent
sized t k = record { parts = t.parts; slots = t.slots; limit = t.limit; long = k }

-- of a box
abbrev pub extent : World → Extent
extent w = sized w.session (lengths w.sheets)

-- w' is w but for the clock and what the sheets hold of source s
pub record Seen (s : Source) (w w' : World) (clock : ℕ) (d : Side) : Type 0 where
  pub own : side_of w' s ≡ d
  pub facing : side_of w' (other s) ≡ side_of w (other s)
  pub same_extent : extent w' ≡ extent w
  pub new_clock : w'.session.clock ≡ clock
  pub same_next : w'.session.next ≡ w.session.next
  pub same_lone : w'.session.lone ≡ w.session.lone
  pub same_closed : (u : Source) → closed_of w' u ≡ closed_of w u
  pub same_counted : length w'.session.counts ≡ length w.session.counts

-- from its source
pub seen_from_lem : (s : Source) (w w' : World) (clock : ℕ) (d : Side) → Seen s w w' clock d → seen_from s w' ≡ with_a (seen_from s w) d
seen_from_lem s w w' clock d h = λ i. record { parts = (h.same_extent i).parts; a = h.own i; b = h.facing i }

-- the extent with another length of one row sheet
abbrev resized : Source → World → ℕ → Extent
resized s w n = sized w.session (with_length s n (lengths w.sheets))

-- a side with other rows
abbrev rowed : ℕ → Side → (ℕ → Row) → Side
rowed n d f = record { count = n; row = f; list = d.list }

pub flush-seen : (s : Source) (q : ℕ) (w : World) → rows_need (count_of w s) ≤ length (sheet_of w s)
    → Seen s w (flush s q w) (w.session.clock + portion_rows w.session.parts q (rows_of w s) (count_of w s)) (flushed_side w.session.parts q w.session.clock (side_of w s))
unfolding flush
flush-seen s q w h = go s (flush-rows s q w h) (flush_long s q w) (ap (λ (n : ℕ). w.session.clock + n) (leaving-count w s q))
  where
    go : (s : Source) → rows_of (flush s q w) s ≡ up_to (count_of w s) (flushed w.session.parts q w.session.clock (rows_of w s)) (rows_of w s)
        → length (sheet_of (flush s q w) s) ≡ length (sheet_of w s)
        → w.session.clock + length (leaving w s q) ≡ w.session.clock + portion_rows w.session.parts q (rows_of w s) (count_of w s)
        → Seen s w (flush s q w) (w.session.clock + portion_rows w.session.parts q (rows_of w s) (count_of w s)) (flushed_side w.session.parts q w.session.clock (side_of w s))
    go A e n c = record {
      own = ap (rowed (count_of w A) (side_of w A)) e;
      facing = refl;
      same_extent = ap (resized A w) n;
      new_clock = c;
      same_next = refl;
      same_lone = refl;
      same_closed = λ u. refl;
      same_counted = refl;
    }
    go B e n c = record {
      own = ap (rowed (count_of w B) (side_of w B)) e;
      facing = refl;
      same_extent = ap (resized B w) n;
      new_clock = c;
      same_next = refl;
      same_lone = refl;
      same_closed = λ u. refl;
      same_counted = refl;
    }

pub store-seen : (s : Source) (item : Item) (w : World) → rows_need (suc (count_of w s)) ≤ length (sheet_of w s)
    → Seen s w (store s item w) (suc w.session.clock) (stored_side item w.session.clock (side_of w s))
unfolding store
store-seen s item w h = go s (rows-put (sheet_of w s) (count_of w s) new h) (length-put_row (count_of w s) new (sheet_of w s))
  where
    new : Row
    new = new_row item w.session.clock

    go : (s : Source) → row_at (put_row (count_of w s) new (sheet_of w s)) ≡ (stored_side item w.session.clock (side_of w s)).row → length (put_row (count_of w s) new (sheet_of w s)) ≡ length (sheet_of w s)
        → Seen s w (store s item w) (suc w.session.clock) (stored_side item w.session.clock (side_of w s))
    go A e n = record {
      own = ap (rowed (suc (count_of w A)) (side_of w A)) e;
      facing = refl;
      same_extent = ap (resized A w) n;
      new_clock = refl;
      same_next = refl;
      same_lone = refl;
      same_closed = both_sources _ A refl refl;
      same_counted = refl;
    }
    go B e n = record {
      own = ap (rowed (suc (count_of w B)) (side_of w B)) e;
      facing = refl;
      same_extent = ap (resized B w) n;
      new_clock = refl;
      same_next = refl;
      same_lone = refl;
      same_closed = both_sources _ B refl refl;
      same_counted = refl;
    }

-- what the entry needs: a list of the record that is not full, and a place for it in the probe sheet
pub record Listable (s : Source) (q : ℕ) (w : World) : Type 0 where
  pub part : q < w.session.parts
  pub counted : 2 * w.session.parts ≤ length w.session.counts
  pub long : probe_need w.session.parts ≤ length w.sheets.probe
  pub short : (k : ℕ) → k < 2 * w.session.parts → get_or w.session.counts k 0 ≤ 32
  pub free : get_or w.session.counts (list_no w.session.parts s q) 0 < 32

pub note-seen : (s : Source) (q last : ℕ) (w : World) → Listable s q w
    → Seen s w (note s q last w) w.session.clock (noted_side q (record { last = last; probe = w.session.clock }) (side_of w s))
unfolding note
note-seen s q last w h = let e : Entry = record { last = last; probe = w.session.clock } in
    record {
      own = ap (λ (f : ℕ → List Entry). record { count = count_of w s; row = rows_of w s; list = f })
          (fun_ext (list_own w.session.parts w.session.counts w.sheets.probe s q e h.part h.counted h.long h.short h.free));
      facing = ap (λ (f : ℕ → List Entry). record { count = count_of w (other s); row = rows_of w (other s); list = f })
          (fun_ext (list_facing w.session.parts w.session.counts w.sheets.probe s q e h.part h.counted h.long h.short h.free));
      same_extent = ap (λ (n : ℕ). sized w.session (with_probe_length n (lengths w.sheets))) (length-put_entry (list_no w.session.parts s q) _ e w.sheets.probe);
      new_clock = refl;
      same_next = refl;
      same_lone = refl;
      same_closed = λ u. refl;
      same_counted = length-set w.session.counts _ _;
    }
