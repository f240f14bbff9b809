-- What holds between calls: a pair is written exactly if its rows were accepted, they match, and they were done before or a drain has passed them.
-- Each change keeps it, the same for A and for B. Assumes nothing.
use Rattle.std.specs.Prelude.{◌≡◌, refl, Bool, true, false, ◌&&◌, ◌||◌, List, [], ◌++◌, ℕ, suc, ◌+◌, ◌*◌, ◌≤◌, ltb, length, take}
use Rattle.std.proofs.Common.{sym, ap, ◌∙◌, true≢false, le_refl, arith}
use Rattle.std.proofs.Math.Bool.{or-false}
use Rattle.std.proofs.Math.Dec.{leb-suc-zero}
use Rattle.stamps.specs.Counting.{bit}
use Rattle.stamps.proofs.CountingLaws.{count-append}
use Rattle.stamps.specs.Sources.{other}
use Rattle.stamps.specs.declared.Source.{Source}
use Rattle.stamps.specs.declared.Source.TheVariants.{A, B}
use Rattle.stamps.specs.declared.Item.{Item}
use Rattle.sheets.specs.Layout.{Told, rows_need}
use Rattle.sheets.specs.Rows.{latest}
use Rattle.pairs.specs.Joins.{numbers, is_pair, same, times}
use Rattle.pairs.specs.Pairs.{Side, Table, position, tell_all, told, done}
use Rattle.pairs.proofs.Handing.{Parts}
use Rattle.pairs.proofs.Rises.{drain_tells}
use Rattle.pairs.proofs.Changes.{out, out-swap, Under, under_more, with_a, flush-under, flush-out, store-under, store_out, latest-under, note-under, note-out}
use Rattle.pairs.proofs.Laws.{tried_is}
use Rattle.rules.specs.Calls.{owed}
use Rattle.rules.specs.Refusals.{arrived, ran}
use Rattle.rules.specs.World.{World, count_of, sheet_of, closed_of, rows_of, side_of, seen_from, flush, store, note, shut, move, pass}
use Rattle.rules.proofs.Seen.{both_sources, Seen, seen_from_lem, flush-seen, store-seen, Listable, note-seen}

-- written by now
abbrev pub is_out : World → Told → Bool
is_out w x = let t = seen_from A w in is_pair t x && (done t (numbers x) || ltb (position t (numbers x)) w.session.next)

pub record Sound (w : World) (l : List Told) : Type 0 where
  pub under : (s : Source) → Under w.session.clock (side_of w s)
  pub start : (s : Source) → closed_of w s ≡ false → w.session.next ≡ 0
  pub tells : (x : Told) → times x l ≡ bit (is_out w x)

-- before the first drain, from either source
out_open : (w : World) → w.session.next ≡ 0 → (s : Source) (x : Told) → is_out w x ≡ out s (seen_from s w) x
out_open w z s x = ap (λ (k : ℕ). is_pair (seen_from A w) x && (done (seen_from A w) (numbers x) || ltb (position (seen_from A w) (numbers x)) k)) z
    ∙ rw (leb-suc-zero (position (seen_from A w) (numbers x)), or-false) (go s)
  where
    go : (s : Source) → out A (seen_from A w) x ≡ out s (seen_from s w) x
    go A = refl
    go B = sym (out-swap (seen_from A w) x)

-- a change of one source that writes ps
sound_change : (s : Source) (w w' : World) (c : ℕ) (d : Side) (l ps : List Told) → Seen s w w' c d → Sound w l → w.session.next ≡ 0 → w.session.clock ≤ c → Under c d
    → ((x : Told) → bit (out s (with_a (seen_from s w) d) x) ≡ bit (out s (seen_from s w) x) + times x ps) → Sound w' (l ++ ps)
sound_change s w w' c d l ps n g z h u e = record {
  under = both_sources (λ v. Under w'.session.clock (side_of w' v)) s (rw (n.new_clock, n.own) u)
      (rw (n.new_clock, n.facing) (under_more w.session.clock c (side_of w (other s)) h (g.under (other s))));
  start = λ v k. n.same_next ∙ z;
  tells = λ x. count-append same x l ps ∙ ap (λ (k : ℕ). k + times x ps) (g.tells x ∙ ap bit (out_open w z s x))
      ∙ sym (e x) ∙ ap (λ (t : Table). bit (out s t x)) (sym (seen_from_lem s w w' c d n)) ∙ ap bit (sym (out_open w' (n.same_next ∙ z) s x));
}

none : (w : World) (l : List Told) → Sound w (l ++ []) → Sound w l
none w l g = rw mathlib.Core.List.append-nil at g

pub sound-flush : (s : Source) (q : ℕ) (w : World) (l : List Told) → rows_need (count_of w s) ≤ length (sheet_of w s) → w.session.next ≡ 0 → Sound w l → Sound (flush s q w) l
sound-flush s q w l h z g = none (flush s q w) l (sound_change s w (flush s q w) _ _ l [] (flush-seen s q w h) g z (omega arith)
    (flush-under w.session.parts q w.session.clock (side_of w s) (g.under s))
    λ x. rw (flush-out s (seen_from s w) q w.session.clock x (g.under s) (g.under (other s))) (omega arith))

pub sound-store : (s : Source) (item : Item) (w : World) (l : List Told) → rows_need (suc (count_of w s)) ≤ length (sheet_of w s) → w.session.next ≡ 0 → Sound w l
    → Sound (store s item w) (l ++ tell_all s (λ i. item) (λ j. (rows_of w (other s) j).item) (arrived s item w))
sound-store s item w l h z g = sound_change s w (store s item w) _ _ l _ (store-seen s item w h) g z (omega arith)
    (store-under item w.session.clock (side_of w s) (g.under s))
    λ x. store_out s (seen_from s w) item w.session.clock x (g.under (other s))

pub sound-note : (s : Source) (q : ℕ) (w : World) (l : List Told) → Listable s q w → w.session.next ≡ 0 → Sound w l
    → Sound (note s q (latest w.session.parts q (rows_of w s) (count_of w s)) w) (l ++ told s (seen_from s w) (ran s q w))
sound-note s q w l h z g = sound_change s w (note s q _ w) _ _ l _ (note-seen s q _ w h) g z (le_refl _)
    (note-under q w.session.clock _ (side_of w s) (latest-under w.session.parts q w.session.clock (side_of w s) (g.under s)) (g.under s))
    λ x. rw (tried_is q (seen_from s w)) (note-out s (seen_from s w) q w.session.clock x (g.under (other s)))

pub sound-shut : (s : Source) (w : World) (l : List Told) → Sound w l → Sound (shut s w) l
unfolding shut
sound-shut A w l g = record {
  under = both_sources (λ v. Under w.session.clock (side_of (shut A w) v)) A (g.under A) (g.under B);
  start = both_sources (λ v. closed_of (shut A w) v ≡ false → w.session.next ≡ 0) A (λ e. absurd (true≢false e)) (g.start B);
  tells = g.tells;
}
sound-shut B w l g = record {
  under = both_sources (λ v. Under w.session.clock (side_of (shut B w) v)) B (g.under B) (g.under A);
  start = both_sources (λ v. closed_of (shut B w) v ≡ false → w.session.next ≡ 0) B (λ e. absurd (true≢false e)) (g.start A);
  tells = g.tells;
}

pub sound-move : (r next : ℕ) (w : World) (l : List Told) → Parts (position (seen_from A w)) w.session.next r (count_of w A * count_of w B) next (owed w)
    → ((s : Source) → closed_of w s ≡ true) → Sound w l → Sound (move next w) (l ++ told A (seen_from A w) (take r (owed w)))
unfolding move
sound-move r next w l p c g = record {
  under = g.under;
  start = λ s e. absurd (true≢false (sym (c s) ∙ e));
  tells = λ x. count-append same x l _ ∙ rw (g.tells x) (drain_tells (seen_from A w) w.session.next r next p x);
}

pub sound-pass : (s : Source) (k : ℕ) (w : World) (l : List Told) → Sound w l → Sound (pass s k w) l
unfolding pass
sound-pass s k w l g = record { under = g.under; start = g.start; tells = g.tells }
