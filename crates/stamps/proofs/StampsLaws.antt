-- What the layers above may know of stamps: what a flush, an arrival and a run's entry do to 'done before'.
-- That ATS is at least 1, ATS < DTS, and DTS-last <= ProbeTS is needed nowhere. Assumes nothing.
use Rattle.std.specs.Prelude.{◌≡◌, refl, Bool, true, false, not, ◌&&◌, ◌||◌, List, [], ◌∷◌, ◌++◌, ℕ, ◌≤◌, ◌<◌}
use Rattle.std.proofs.Common.{sym, ap, ap₂, ◌∙◌, arith, lt-ltb, le-ltb, le-leb}
use Rattle.std.proofs.Math.Bool.{and-true, and-false, or_comm, or_assoc, or-true, or-false}
use Rattle.std.proofs.lemmas.Bool.{lt-leb}
use Rattle.stamps.specs.declared.Row.{Row}
use Rattle.stamps.specs.declared.Entry.{Entry}
use Rattle.stamps.specs.Stamps.{in_memory, stamp, alive, present_at, had_left_when, together, covers, used, done_before}
use Rattle.stamps.proofs.StampsMeaning.{figure_is_rule}

-- every stamp of a list is at most c
abbrev pub Below : ℕ → List Entry → Type 0
Below c [] = Unit
Below c (e ∷ es) = (e.last ≤ c) × (e.probe ≤ c) × Below c es

-- ---- still in memory

-- at or after its stamps a row is still in memory exactly when its DTS is 0
pub alive-now : (c : ℕ) (r : Row) → r.dts ≤ c → alive c r ≡ in_memory r
unfolding alive
alive-now c r h = rw (le-ltb c r.dts h, or-false)

-- ---- the lists

-- an entry covers by two tests, one of each row
pub covers_both : (e : Entry) (x y : Row) → covers e x y ≡ (not (alive e.last x) && present_at e.probe y)
unfolding covers
covers_both e x y = refl

pub used_none : (x y : Row) → used [] x y ≡ false
unfolding used
used_none x y = refl

pub used_snoc : (es : List Entry) (e : Entry) (x y : Row) → used (es ++ (e ∷ [])) x y ≡ (used es x y || covers e x y)
unfolding used
used_snoc [] e x y = or-false (covers e x y)
used_snoc (f ∷ es) e x y = rw (used_snoc es e x y) (sym (or_assoc (covers f x y) (used es x y) (covers e x y)))

pub done_is : (ex ey : List Entry) (x y : Row) → done_before ex ey x y ≡ (together x y || (used ex x y || used ey y x))
unfolding done_before
done_is ex ey x y = refl

-- two rows in memory are done before
pub done_memory : (ex ey : List Entry) (x y : Row) → in_memory x ≡ true → in_memory y ≡ true → done_before ex ey x y ≡ true
unfolding done_before together
done_memory ex ey x y h k = rw (h, k)

-- when the sources swap
pub done-swap : (ex ey : List Entry) (x y : Row) → done_before ex ey x y ≡ done_before ey ex y x
unfolding done_before together
done-swap ex ey x y = ap₂ ◌||◌ (ap not (or_comm (had_left_when x y) (had_left_when y x))) (or_comm (used ex x y) (used ey y x))

-- ---- a flush

-- r' is r as far as the time up to c can tell
pub record Kept (c : ℕ) (r r' : Row) : Type 0 where
  pub same_item : r'.item ≡ r.item
  pub same_ats : r'.ats ≡ r.ats
  pub same_alive : (t : ℕ) → t ≤ c → alive t r' ≡ alive t r

pub kept_refl : (c : ℕ) (r : Row) → Kept c r r
kept_refl c r = record { same_item = refl; same_ats = refl; same_alive = λ t h. refl }

pub kept-stamp : (c t : ℕ) (r : Row) → in_memory r ≡ true → c < t → Kept c r (stamp t r)
unfolding alive
kept-stamp c t r m h = record { same_item = refl; same_ats = refl; same_alive = λ u k. rw (m, lt-ltb u t (omega arith), or-true) }

used-kept : (c : ℕ) (es : List Entry) {x x' y y' : Row} → Below c es → Kept c x x' → Kept c y y' → used es x' y' ≡ used es x y
unfolding used covers present_at
used-kept c [] h kx ky = refl
used-kept c (e ∷ es) h kx ky =
    rw (used-kept c es h.2 kx ky, kx.same_alive e.last h.0, ky.same_alive e.probe h.1, ky.same_ats)

alive-kept : (c : ℕ) {x x' y y' : Row} → x.ats ≤ c → Kept c x x' → Kept c y y' → alive x'.ats y' ≡ alive x.ats y
alive-kept c {x} {x'} {y} {y'} h kx ky = ap (λ (t : ℕ). alive t y') kx.same_ats ∙ ky.same_alive x.ats h

-- a row flushed later than every stamp in sight changes 'done before' of no pair
pub done-kept : (c : ℕ) (ex ey : List Entry) {x x' y y' : Row} → Below c ex → Below c ey → x.ats ≤ c → y.ats ≤ c
    → Kept c x x' → Kept c y y' → done_before ex ey x' y' ≡ done_before ex ey x y
unfolding done_before
done-kept c ex ey {x} {x'} {y} {y'} bx by ax ay kx ky =
    rw (figure_is_rule x y, figure_is_rule x' y', used-kept c ex bx kx ky, used-kept c ey by ky kx, alive-kept c ax kx ky, alive-kept c ay ky kx)

-- ---- an arrival

-- no run has used a row that is in memory
pub used_by_memory : (es : List Entry) (x y : Row) → in_memory x ≡ true → used es x y ≡ false
unfolding used covers alive
used_by_memory [] x y h = refl
used_by_memory (e ∷ es) x y h = rw (h, used_by_memory es x y h)

used-before : (c : ℕ) (es : List Entry) (x y : Row) → Below c es → c < x.ats → used es y x ≡ false
unfolding used covers present_at
used-before c [] x y b h = refl
used-before c (e ∷ es) x y b h = rw (lt-leb x.ats e.probe (omega arith), and-false, used-before c es x y b.2 h)

-- a new row is done before exactly with the rows in memory
pub done_new : (c : ℕ) (ex ey : List Entry) (x y : Row) → Below c ey → in_memory x ≡ true → c < x.ats → y.dts ≤ c
    → done_before ex ey x y ≡ in_memory y
unfolding done_before alive
done_new c ex ey x y b m h k =
    rw (used_by_memory ex x y m, used-before c ey x y b h, figure_is_rule, m, le-ltb x.ats y.dts (omega arith), or-false (in_memory y), and-true, or-false)

-- ---- a run's entry

or_last : (t u v w : Bool) → (t || ((u || w) || v)) ≡ ((t || (u || v)) || w)
or_last true u v w = refl
or_last false true v w = refl
or_last false false v w = or_comm w v

-- one more entry at the current clock makes done exactly the spooled rows it covers with the rows in memory
pub done_entry : (c d : ℕ) (ex ey : List Entry) (x y : Row) → y.ats ≤ c → y.dts ≤ c
    → done_before (ex ++ (record { last = d; probe = c } ∷ [])) ey x y ≡ (done_before ex ey x y || (not (alive d x) && in_memory y))
unfolding done_before covers present_at
done_entry c d ex ey x y h k =
    rw (used_snoc, le-leb y.ats c h, alive-now c y k) (or_last (together x y) (used ex x y) (used ey y x) (not (alive d x) && in_memory y))
