-- The turns of the walks that look for pairs: what is left from the next one on.
-- Assumes nothing.
use Rattle.std.proofs.Common.{◌≡◌, refl, sym, ap, ◌∙◌, Bool, true, false, List, [], ◌∷◌, ℕ, zero, suc, ◌+◌, ◌-◌, ◌≤◌, ◌<◌, Option, None, Some, MatchOption, add-zero, arith}
use Rattle.std.proofs.Math.Nat.{sub-zero}
use Rattle.std.specs.Bool.{⊤}
use Rattle.std.specs.Fn.{CalledAt}
use Rattle.std.specs.Iterator.{YieldsThen}
use Rattle.std.specs.List.{FoldsTo}
use Rattle.std.specs.Range.{range_steps}
use Rattle.std.proofs.lemmas.Iterator.{first_from_Range}
use Rattle.stamps.specs.declared.Source.{Source}
use Rattle.stamps.specs.declared.Item.{Item}
use Rattle.stamps.specs.declared.Row.{Row}
use Rattle.stamps.specs.Counting.{tally, span, keep}
use Rattle.stamps.proofs.CountingLaws.{and_cong, tally_cong, span_step, span_skip}
use Rattle.stamps.specs.Keys.{items_match, part_of}
use Rattle.stamps.proofs.KeysLaws.{match_part}
use Rattle.sheets.specs.Layout.{row_at, put_pair, Pair, Told, tell}
use Rattle.sheets.proofs.LayoutLaws.{length-put_pair}
use Rattle.sheets.specs.Rows.{flushed}
use Rattle.pairs.specs.Pairs.{across, met, arrival_pairs, tell_all, takes, due, wanted, table_of, NextIs}
use Rattle.pairs.specs.declared.walks.Job.{Job}
use Rattle.pairs.proofs.Laws.{met_gone, met-kept}
use Rattle.pairs.proofs.RoomTurns.{Handing, handing_first, handing_next}

-- ---- an arrival

module _ (s : Source) (new : ℕ) (item : Item) (g : ℕ → Row) (m : ℕ) where
  abbrev told_all : List Pair → List Told
  told_all = tell_all s (λ i. item) (λ k. (g k).item)

  abbrev all : List Told
  all = told_all (arrival_pairs new item g (span 0 m))

  -- the pairs of the new row with the rows from j on
  abbrev ahead : ℕ → List Pair
  ahead j = keep (λ p. met item (g p.b)) (across new j (m - j))

  -- w are written, those of the rows up to j, and the others are to come
  pub record Arriving (o out : List ℕ) (j w : ℕ) : Type 0 where
    pub hands : Handing put_pair all (told_all (ahead j)) o out w

  pub arriving_first : (o : List ℕ) → Arriving o o 0 0
  unfolding arrival_pairs
  arriving_first o = record { hands = rw sub-zero (handing_first put_pair _ o) }

  module _ (o out : List ℕ) (j w : ℕ) (h : Arriving o out j w) where
    pub arriving_one : (out' : List ℕ) → j < m → met item (g j) ≡ true → out' ≡ put_pair w (tell s (record { a = new; b = j }) item (g j).item) out → Arriving o out' (j + 1) (w + 1)
    arriving_one out' b t k = record { hands = handing_next put_pair _ o out w length-put_pair _ _ out' (rw (span_step j m b, t) at h.hands) k }

    pub arriving_none : j < m → met item (g j) ≡ false → Arriving o out (j + 1) w
    arriving_none b t = record { hands = rw (span_step j m b, t) at h.hands }

-- the count, told before the flush
pub gone_none : (parts q : ℕ) (item : Item) (f : ℕ → Row) (n : ℕ) → part_of parts item ≡ q → (clock : ℕ) → 0 ≡ tally (λ j. met item (flushed parts q clock f j)) n
gone_none parts q item f zero e clock = refl
gone_none parts q item f (suc n) e clock = rw (← gone_none parts q item f n e clock, met_gone parts q clock item f n e)

pub kept-count : (parts q : ℕ) (item : Item) (f : ℕ → Row) (n r : ℕ) → (part_of parts item ≡ q → ⊥) → r ≡ tally (λ j. met item (f j)) n
    → (clock : ℕ) → r ≡ tally (λ j. met item (flushed parts q clock f j)) n
kept-count parts q item f n r e h clock = h ∙ sym (tally_cong (λ j. met item (flushed parts q clock f j)) (λ j. met item (f j)) n λ j b. met-kept parts q clock item f j e)

-- ---- looking for the next number that passes a test

module _ (t : ℕ → Bool) (n from : ℕ) where
  pub kept_none : ((k : ℕ) → from ≤ k → k < n → t k ≡ false) → keep t (span from (n - from)) ≡ []
  kept_none h = rw add-zero at (span_skip t from (n - from) 0 (λ k b c. h k c (omega arith)))

  pub kept_next : (i : ℕ) → from ≤ i → i < n → t i ≡ true → ((k : ℕ) → from ≤ k → k < i → t k ≡ false) → keep t (span from (n - from)) ≡ i ∷ keep t (span (i + 1) (n - (i + 1)))
  kept_next i a b e h = let d : n - from ≡ i - from + (n - i) = omega arith in let f : from + (i - from) ≡ i = omega arith in
      ap (λ (m : ℕ). keep t (span from m)) d ∙ span_skip t from (i - from) (n - i) (λ k b c. h k c (omega arith))
      ∙ ap (λ (j : ℕ). keep t (span j (n - i))) f ∙ rw (span_step i n b, e)

pub next_cong : (t u : ℕ → Bool) (n from : ℕ) (r : Option ℕ) → ((k : ℕ) → t k ≡ u k) → NextIs u n from r → NextIs t n from r
next_cong t u n from None e h = λ k a b. e k ∙ h k a b
next_cong t u n from (Some i) e h = (h.0, h.1, e i ∙ h.2, λ k a b. e k ∙ h.3 k a b)

-- the chain that looks for it, where its closure decides the test
pub next-chain : {F : Type 0} {g : _} (f : F) (u : _) (t : ℕ → Bool) (n from : ℕ) (r : Option ℕ)
    → (xs : List ℕ) × (j : F) × YieldsThen (range_steps (λ a b. b - a) (λ a b. b ≡ a + 1)) (record { start = from; end = n }) xs r u
    × FoldsTo (λ p x q. CalledAt g p x false q) f xs j × MatchOption r ⊤ (λ x. (h : F) × CalledAt g j x true h)
    → ((x : ℕ) (b : Bool) (q : F) → CalledAt g f x b q → (q ≡ f) × (b ≡ t x)) → NextIs t n from r
next-chain f u t n from r ran call = first_from_Range _ u f r (λ i. t i ≡ true) (λ i. t i ≡ false) ran
    (λ x q k. sym (call x true q k).1) (λ x q k. ((call x false q k).0, sym (call x false q k).1))

-- ---- one row of a job

module _ (job : Job) (i : ℕ) where
  abbrev own_row : Row
  own_row = row_at job.own.words.now i

  abbrev row_wanted : ℕ → Bool
  row_wanted k = wanted job.scope (table_of job) (record { a = i; b = k })

  -- a row that is not looked at
  pub next_left_out : (from : ℕ) → takes job.scope job.lists.parts.count own_row ≡ false → NextIs row_wanted job.facing.rows from None
  unfolding wanted
  next_left_out from e = λ k a b. rw e

  -- rows that match are of one partition, so their lists are those of the row's own
  pub next_taken : (q from : ℕ) (r : Option ℕ) → takes job.scope job.lists.parts.count own_row ≡ true → q ≡ part_of job.lists.parts.count own_row.item
      → NextIs (λ k. due job.scope ((table_of job).a.list q) ((table_of job).b.list q) own_row (row_at job.facing.words.now k)) job.facing.rows from r → NextIs row_wanted job.facing.rows from r
  unfolding wanted
  next_taken q from r e d h = next_cong row_wanted _ job.facing.rows from r (λ k. rw (e, d) (and_cong (items_match own_row.item (row_at job.facing.words.now k).item) (λ m. rw (← match_part job.lists.parts.count own_row.item (row_at job.facing.words.now k).item m)))) h
