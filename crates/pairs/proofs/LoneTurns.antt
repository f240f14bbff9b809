-- The turns of the loops that look for rows without partner and write them.
-- Assumes nothing.
use Rattle.std.proofs.Common.{◌≡◌, refl, sym, ap, ◌∙◌, Bool, true, false, not, true≢false, List, [], ℕ, zero, suc, ◌+◌, ◌-◌, ◌≤◌, ◌<◌, zero-add, add-one, leb, length, le-leb, eq-eqb, ne_eqb, Option, None, Some, is_some, arith}
use Rattle.std.proofs.lemmas.Bool.{lt-leb}
use Rattle.stamps.specs.Counting.{tally, span, keep}
use Rattle.stamps.proofs.CountingLaws.{keep_comm, tally_mono, length-keep, length-span, span_all, span_skip}
use Rattle.stamps.specs.Keys.{items_match}
use Rattle.sheets.specs.Layout.{put_single}
use Rattle.sheets.proofs.LayoutLaws.{length-put_single}
use Rattle.pairs.specs.Lones.{Items, is_lone, lones, number, lones_from, single, walked, lones_left, LoneStep}
use Rattle.pairs.specs.declared.lone_rows.LoneRows.{LoneRows}
use Rattle.pairs.specs.Pairs.{NextIs}
use Rattle.pairs.specs.Rooms.{on_from}
use Rattle.pairs.proofs.PairTurns.{kept_none, kept_next}
use Rattle.pairs.proofs.RoomTurns.{Giving, giving_first, giving_next}

module _ (t : Items) where
  -- the rows without partner from row i on
  abbrev pub ahead : ℕ → List ℕ
  ahead i = keep (is_lone t) (span i (t.rows - i))

  pub from_ahead : (k : ℕ) → k ≤ t.rows → lones_from k t ≡ ahead k
  unfolding lones_from lones
  from_ahead k h = let e : k + (t.rows - k) ≡ t.rows = omega arith in
      keep_comm (λ i. leb k i) (is_lone t) (span 0 t.rows)
      ∙ ap (keep (is_lone t)) (ap (λ (n : ℕ). on_from number k (span 0 n)) (sym e) ∙ span_skip (λ i. leb k i) 0 k (t.rows - k) (λ i b c. lt-leb k i (omega arith))
      ∙ ap (λ (i : ℕ). on_from number k (span i (t.rows - k))) (zero-add k) ∙ span_all (λ i. leb k i) k (t.rows - k) (λ i b. le-leb k i b))

  -- ---- has it a partner?

  pub lone_is : (i : ℕ) (r : Option ℕ) (b : Bool) → is_some r ≡ not b → NextIs (λ j. items_match (t.item i) (t.facing j)) t.others 0 r → b ≡ is_lone t i
  lone_is i None true e h = sym (eq-eqb _ 0 (none t.others (λ j b. h j (omega arith) b)))
    where
      none : (m : ℕ) → ((j : ℕ) → j < m → items_match (t.item i) (t.facing j) ≡ false) → tally (λ j. items_match (t.item i) (t.facing j)) m ≡ 0
      none zero h = refl
      none (suc m) h = rw (none m (λ j b. h j (omega arith)), h m (omega arith))
  lone_is i None false e h = absurd (true≢false (sym e))
  lone_is i (Some r) true e h = absurd (true≢false e)
  lone_is i (Some r) false e h =
      sym (ne_eqb (tally (λ j. items_match (t.item i) (t.facing j)) t.others) 0 (λ z. omega (arith, z, rw h.2 at (tally_mono (λ j. items_match (t.item i) (t.facing j)) (suc r) t.others h.1))))

-- ---- from row to row

pub lone_none : (l : LoneRows) → NextIs (is_lone (walked l)) l.own.rows l.from None → LoneStep l None l
lone_none l h = let none : lones_left l ≡ [] = kept_none (is_lone (walked l)) l.own.rows l.from h in (refl, (none, none))

pub lone_some : (l : LoneRows) (i : ℕ) → NextIs (is_lone (walked l)) l.own.rows l.from (Some i) → LoneStep l (Some i) (record { own = l.own; facing = l.facing; from = i + 1; few = l.few })
lone_some l i h = (refl, (kept_next (is_lone (walked l)) l.own.rows l.from i h.0 h.1 h.2 h.3, h.1))

-- ---- writing

-- from row to row within the room
pub record Listing (t : Items) (all : List ℕ) (from room : ℕ) (o out : List ℕ) (n next : ℕ) (l : LoneRows) : Type 0 where
  pub same : walked l ≡ t
  pub gives : Giving number t.rows (single t) put_single all (lones_left l) from room o out n next

ahead_few : (t : Items) (i : ℕ) → i ≤ t.rows → length (ahead t i) ≤ t.rows
ahead_few t i h = omega (arith, length-keep (is_lone t) (span i (t.rows - i)), length-span i (t.rows - i))

pub listing_first : (l : LoneRows) (room : ℕ) (o : List ℕ) → l.from ≤ l.own.rows → Listing (walked l) (lones_from l.from (walked l)) l.from room o o 0 l.from l
listing_first l room o h = record { same = refl; gives = rw (from_ahead (walked l) l.from h) (giving_first number l.own.rows (single (walked l)) put_single _ l.from room o h (ahead_few (walked l) l.from h)) }

module _ (t : Items) (all : List ℕ) (from room : ℕ) (o out : List ℕ) (n next : ℕ) (l : LoneRows) (h : Listing t all from room o out n next l) where
  module _ (l' : LoneRows) (i : ℕ) (step : LoneStep l (Some i) l') where
    pub listing-row : i < t.rows
    listing-row = rw (← h.same) step.1.1

    pub listing_next : (out' : List ℕ) → n < room → out' ≡ put_single n (single t i) out → Listing t all from room o out' (n + 1) (i + 1) l'
    listing_next out' b e = record {
      same = step.0 ∙ h.same;
      gives = rw (add-one i) (giving_next number t.rows (single t) put_single all from room o out n next i _ (rw step.1.0 at h.gives) length-put_single out' b listing-row e);
    }
