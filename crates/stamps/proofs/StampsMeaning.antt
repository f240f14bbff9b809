-- What the shut definitions of stamps say, and that figure 5 and rule 1 say the same. For this crate alone: the layers above use Laws.
-- Assumes nothing.
use Rattle.std.specs.Prelude.{◌≡◌, refl, Bool, true, false, not, ◌&&◌, ◌||◌, ℕ, ltb, leb, eqb}
use Rattle.std.proofs.Common.{sym, ltb-true, ltb-false, le-leb}
use Rattle.std.proofs.Math.Bool.{and-false}
use Rattle.std.proofs.lemmas.Bool.{lt-leb}
use Rattle.stamps.specs.declared.Row.{Row}
use Rattle.stamps.specs.declared.Entry.{Entry}
use Rattle.stamps.specs.Stamps.{in_memory, alive, present_at, had_left_when, together, covers}

pub alive_is : (t : ℕ) (r : Row) → alive t r ≡ (eqb r.dts 0 || ltb t r.dts)
unfolding alive
alive_is t r = refl

pub present_at_is : (t : ℕ) (r : Row) → present_at t r ≡ (leb r.ats t && alive t r)
unfolding present_at
present_at_is t r = refl

pub together_is : (a b : Row) → together a b ≡ not (had_left_when a b || had_left_when b a)
unfolding together
together_is a b = refl

pub covers_is : (e : Entry) (x y : Row) → covers e x y ≡ (not (alive e.last x) && present_at e.probe y)
unfolding covers
covers_is e x y = refl

-- ---- figure 5 of the report and rule 1 of document 01

-- at most is not above
not_above : (m n : ℕ) → leb m n ≡ not (ltb n m)
not_above m n = go (ltb n m) refl
  where
    go : (u : Bool) → ltb n m ≡ u → leb m n ≡ not u
    go true e = lt-leb m n (ltb-true n m e)
    go false e = le-leb m n (ltb-false n m e)

-- not one of the two failed: both hold
neither : (u v : Bool) → not (not u || not v) ≡ (v && u)
neither true true = refl
neither true false = refl
neither false v = sym (and-false v)

-- a row had left when another came exactly if it was no longer alive at that stamp
pub left_is : (a b : Row) → had_left_when a b ≡ not (alive b.ats a)
unfolding alive
left_is a b = go (in_memory a)
  where
    go : (u : Bool) → (not u && leb a.dts b.ats) ≡ not (u || ltb b.ats a.dts)
    go true = refl
    go false = not_above a.dts b.ats

-- the figure's reading is the rule's, for all stamps: "(DTS of b is 0, or ATS of a < DTS of b) and (DTS of a is 0, or ATS of b < DTS of a)"
pub figure_is_rule : (a b : Row) → together a b ≡ (alive a.ats b && alive b.ats a)
figure_is_rule a b = rw (together_is, left_is a b, left_is b a) (neither (alive b.ats a) (alive a.ats b))
