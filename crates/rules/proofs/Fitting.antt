-- A session that nobody else altered passes number 1 at every call: its clock is at most its accepted rows and those that left memory.
-- By what each change leaves. Assumes nothing.
use Rattle.std.specs.Prelude.{◌≡◌, refl, Bool, true, false, List, ℕ, zero, suc, ◌+◌, ◌*◌, ◌≤◌, ◌<◌, eqb, length, get_or, set}
use Rattle.std.proofs.lemmas.Bool.{eqb-false}
use Rattle.std.proofs.Common.{sym, ap, ◌∙◌, subst, le_refl, arith, get_or-set_same, get_or-set_other, le-leb, eqb-true}
use Rattle.stamps.proofs.CountingLaws.{tests}
use Rattle.stamps.specs.Sources.{put, other}
use Rattle.stamps.specs.declared.Source.{Source}
use Rattle.stamps.specs.declared.Source.TheVariants.{A, B}
use Rattle.stamps.specs.declared.Item.{Item}
use Rattle.stamps.specs.declared.PerSource.{PerSource}
use Rattle.sheets.specs.Layout.{rows_need, probe_need, list_no}
use Rattle.sheets.proofs.Laws.{length_list}
use Rattle.pairs.specs.Pairs.{Side}
use Rattle.pairs.proofs.Changes.{memory_of, flush_memory, store_memory}
use Rattle.rules.specs.Refusals.{counts_fit, session_fits}
use Rattle.rules.specs.World.{World, pick, count_of, sheet_of, place_of, side_of, with_next, with_lone, flush, store, note, shut, move, pass, world}
use Rattle.rules.proofs.Seen.{both_sources, Extent, extent, Seen, flush-seen, store-seen, Listable, note-seen}
use Rattle.rules.proofs.Checks.{Sizes}

-- the sizes of a box are in range, and its sheets are long enough
abbrev SizesIn : Extent → Type 0
SizesIn e = Sizes e.parts e.slots e.limit e.long

-- of both sources together
abbrev sum : (Source → ℕ) → ℕ
sum f = f A + f B

sum_from : (s : Source) (f : Source → ℕ) → sum f ≡ f s + f (other s)
sum_from A f = refl
sum_from B f = omega arith

-- every row has moved the clock when it came, and those that left memory once more
pub record Fit (w : World) : Type 0 where
  pub sizes : SizesIn (extent w)
  pub few : (s : Source) → count_of w s ≤ w.session.limit
  pub clock : w.session.clock + sum (λ s. memory_of (side_of w s)) ≤ 2 * sum (count_of w)
  pub next : w.session.next ≤ count_of w A * count_of w B
  pub lone : (s : Source) → place_of w s ≤ count_of w s
  pub counted : length w.session.counts ≡ 32
  pub short : (k : ℕ) → k < 2 * w.session.parts → get_or w.session.counts k 0 ≤ 32

few_rows : (w : World) → Fit w → (s : Source) → rows_need w.session.limit ≤ length (sheet_of w s)
few_rows w f A = f.sizes.a_long
few_rows w f B = f.sizes.b_long

-- there is space for a source's rows, and for one more up to N
pub rows_fit : (w : World) → Fit w → (s : Source) → rows_need (count_of w s) ≤ length (sheet_of w s)
rows_fit w f s = omega (arith, f.few s, few_rows w f s)

pub row_fits : (w : World) → Fit w → (s : Source) → count_of w s < w.session.limit → rows_need (suc (count_of w s)) ≤ length (sheet_of w s)
row_fits w f s h = omega (arith, few_rows w f s)

-- a change of one source before the first drain
fit_change : (s : Source) (w w' : World) (c : ℕ) (d : Side) → Seen s w w' c d → Fit w → w.session.next ≡ 0 → count_of w s ≤ d.count → d.count ≤ w.session.limit
    → c + memory_of d + 2 * count_of w s ≤ w.session.clock + memory_of (side_of w s) + 2 * d.count
    → ((k : ℕ) → k < 2 * w.session.parts → get_or w'.session.counts k 0 ≤ 32) → Fit w'
fit_change s w w' c d n f z grows few clock short = let e = n.same_extent in let own = n.own in let facing = n.facing in
    record {
      sizes = subst SizesIn (sym e) f.sizes;
      few = both_sources (λ u. count_of w' u ≤ w'.session.limit) s (omega (arith, few, ap (λ (x : Side). x.count) own, ap (λ (x : Extent). x.limit) e))
          (omega (arith, f.few (other s), ap (λ (x : Side). x.count) facing, ap (λ (x : Extent). x.limit) e));
      clock = omega (
        arith,
        clock,
        f.clock,
        n.new_clock,
        ap memory_of own,
        ap memory_of facing,
        ap (λ (x : Side). x.count) own,
        ap (λ (x : Side). x.count) facing,
        sum_from s (λ u. memory_of (side_of w u)),
        sum_from s (count_of w),
        sum_from s (λ u. memory_of (side_of w' u)),
        sum_from s (count_of w'),
      );
      next = omega (arith, n.same_next);
      lone = both_sources (λ u. place_of w' u ≤ count_of w' u) s (omega (arith, f.lone s, grows, place s, ap (λ (x : Side). x.count) own))
          (omega (arith, f.lone (other s), place (other s), ap (λ (x : Side). x.count) facing));
      counted = n.same_counted ∙ f.counted;
      short = λ k h. short k (omega (arith, ap (λ (x : Extent). x.parts) e));
    }
  where
    place : (u : Source) → place_of w' u ≡ place_of w u
    place u = ap (λ (p : PerSource ℕ). pick u p.a p.b) n.same_lone

pub fit-flush : (s : Source) (q : ℕ) (w : World) → Fit w → w.session.next ≡ 0 → Fit (flush s q w)
unfolding flush
fit-flush s q w f z = fit_change s w (flush s q w) _ _ (flush-seen s q w (rows_fit w f s)) f z (le_refl (count_of w s)) (f.few s)
    (omega (arith, flush_memory w.session.parts q w.session.clock (side_of w s))) f.short

pub fit-store : (s : Source) (item : Item) (w : World) → Fit w → w.session.next ≡ 0 → count_of w s < w.session.limit → Fit (store s item w)
unfolding store
fit-store s item w f z h = fit_change s w (store s item w) _ _ (store-seen s item w (row_fits w f s h)) f z (omega arith) h
    (omega (arith, store_memory item w.session.clock (side_of w s))) f.short

-- the portion's list is not full
pub listable : (s : Source) (q : ℕ) (w : World) → Fit w → q < w.session.parts → length ((side_of w s).list q) < 32 → Listable s q w
listable s q w f part some = record {
  part = part;
  counted = omega (arith, f.counted, f.sizes.parts);
  long = f.sizes.probe_long;
  short = f.short;
  free = omega (arith, some, length_list w.session.parts w.session.counts w.sheets.probe s q part);
}

pub fit-note : (s : Source) (q last : ℕ) (w : World) → Fit w → w.session.next ≡ 0 → Listable s q w → Fit (note s q last w)
unfolding note
fit-note s q last w f z n = fit_change s w (note s q last w) _ _ (note-seen s q last w n) f z (le_refl (count_of w s)) (f.few s) (omega arith) λ k h. go k h (eqb k no) refl
  where
    no : ℕ
    no = list_no w.session.parts s q

    go : (k : ℕ) → k < 2 * w.session.parts → (u : Bool) → eqb k no ≡ u → get_or (set w.session.counts no (suc (get_or w.session.counts no 0))) k 0 ≤ 32
    go k h true e = rw (eqb-true k no e, get_or-set_same w.session.counts no (suc (get_or w.session.counts no 0)) 0 (omega (arith, tests, n.counted))) n.free
    go k h false e = rw (get_or-set_other w.session.counts no k (suc (get_or w.session.counts no 0)) 0 (eqb-false k no e)) (f.short k h)

pub fit-shut : (s : Source) (w : World) → Fit w → Fit (shut s w)
unfolding shut
fit-shut A w f = record {
  sizes = f.sizes;
  few = both_sources (λ u. count_of (shut A w) u ≤ w.session.limit) A (f.few A) (f.few B);
  clock = f.clock;
  next = f.next;
  lone = both_sources (λ u. place_of w u ≤ count_of (shut A w) u) A (f.lone A) (f.lone B);
  counted = f.counted;
  short = f.short;
}
fit-shut B w f = record {
  sizes = f.sizes;
  few = both_sources (λ u. count_of (shut B w) u ≤ w.session.limit) B (f.few B) (f.few A);
  clock = f.clock;
  next = f.next;
  lone = both_sources (λ u. place_of w u ≤ count_of (shut B w) u) B (f.lone B) (f.lone A);
  counted = f.counted;
  short = f.short;
}

-- other positions
abbrev pub positioned : ℕ → PerSource ℕ → World → World
positioned k p w = world (with_next k (with_lone p w.session)) w.sheets

pub fit_positions : (k : ℕ) (p : PerSource ℕ) (w : World) → Fit w → k ≤ count_of w A * count_of w B → ((s : Source) → pick s p.a p.b ≤ count_of w s) → Fit (positioned k p w)
fit_positions k p w f h b = record { sizes = f.sizes; few = f.few; clock = f.clock; next = h; lone = b; counted = f.counted; short = f.short }

pub fit-move : (k : ℕ) (w : World) → Fit w → k ≤ count_of w A * count_of w B → Fit (move k w)
unfolding move
fit-move k w f h = fit_positions k w.session.lone w f h f.lone

-- one of the lone positions moved within its rows
pub place-within : (s : Source) (k : ℕ) (w : World) → Fit w → k ≤ count_of w s → (u : Source) → let p = put s k w.session.lone in pick u p.a p.b ≤ count_of w u
place-within A k w f h A = h
place-within A k w f h B = f.lone B
place-within B k w f h A = f.lone A
place-within B k w f h B = h

pub fit-pass : (s : Source) (k : ℕ) (w : World) → Fit w → k ≤ count_of w s → Fit (pass s k w)
unfolding pass
fit-pass s k w f h = fit_positions w.session.next (put s k w.session.lone) w f f.next (place-within s k w f h)

-- ---- number 1

counts_hold : (counts : List ℕ) (n : ℕ) → ((k : ℕ) → k < n → get_or counts k 0 ≤ 32) → counts_fit counts n ≡ true
counts_hold counts zero h = refl
counts_hold counts (suc n) h = rw (counts_hold counts n (λ k b. h k (omega arith)), le-leb (get_or counts n 0) 32 (h n (omega arith)))

pub fits_hold : (w : World) → Fit w → session_fits w ≡ true
unfolding session_fits
fits_hold w f = let t = w.session in let z = f.sizes in
    rw (
      le-leb 1 t.parts z.parts.0,
      le-leb t.parts 16 z.parts.1,
      le-leb 1 t.slots z.slots.0,
      le-leb t.slots 1024 z.slots.1,
      le-leb 1 t.limit z.limit.0,
      le-leb t.limit 4096 z.limit.1,
      le-leb (rows_need t.limit) (length w.sheets.a) z.a_long,
      le-leb (rows_need t.limit) (length w.sheets.b) z.b_long,
      le-leb (probe_need t.parts) (length w.sheets.probe) z.probe_long,
      le-leb t.feeds.a.rows t.limit (f.few A),
      le-leb t.feeds.b.rows t.limit (f.few B),
      le-leb t.clock 16384 (omega (arith, f.clock, f.few A, f.few B, z.limit)),
      le-leb t.next (t.feeds.a.rows * t.feeds.b.rows) f.next,
      le-leb t.lone.a t.feeds.a.rows (f.lone A),
      le-leb t.lone.b t.feeds.b.rows (f.lone B),
    )
    (counts_hold t.counts (2 * t.parts) f.short)
