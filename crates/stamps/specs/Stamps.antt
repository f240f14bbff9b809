-- Stamps: when a row was in memory, and which pairs were done before. Rules 2 and 3 ask a DTS whether its row was still in memory (`alive`),
-- rule 1 whether it had left (`had_left_when`), as the figure does: one is the other's opposite (`left_is` in proofs/StampsMeaning).
use Rattle.std.specs.Prelude.{Bool, false, not, ◌&&◌, ◌||◌, List, [], ◌∷◌, ℕ, ltb, leb, eqb}
use Rattle.stamps.specs.declared.Row.{Row}
use Rattle.stamps.specs.declared.Entry.{Entry}

-- "DTS 0 means still in memory"
abbrev pub in_memory : Row → Bool
in_memory r = eqb r.dts 0

-- the row with its DTS set
abbrev pub stamp : ℕ → Row → Row
stamp t r = record { item = r.item; ats = r.ats; dts = t }

-- not yet flushed when the clock stood at t: leaving at the very stamp t counts as having left
unfoldable pub alive : ℕ → Row → Bool
alive t r = in_memory r || ltb t r.dts

-- in memory at a probe: "ATS of b <= ProbeTS and (DTS of b is 0 or ProbeTS < DTS of b)"
unfoldable pub present_at : ℕ → Row → Bool
present_at t r = leb r.ats t && alive t r

-- "a had left when b came": in figure 5 of the XJoin report, the range of a, ATS to DTS, ends before that of b begins, or where it begins.
-- DTS 0 is not having left
abbrev pub had_left_when : Row → Row → Bool
had_left_when a b = not (in_memory a) && leb a.dts b.ats

-- rule 1, in memory together: "a had left when b came, or b had left when a came", as in figure 5(b), "otherwise together", as in 5(a).
-- Document 01 has other words for the same (`figure_is_rule` in proofs/StampsMeaning)
unfoldable pub together : Row → Row → Bool
together a b = not (had_left_when a b || had_left_when b a)

-- rule 2 for one entry: "DTS of a is not 0 .. DTS of a <= DTS-last while b was in memory at ProbeTS". Rule 3 is this with a and b in each other's place
unfoldable pub covers : Entry → Row → Row → Bool
covers e x y = not (alive e.last x) && present_at e.probe y

-- used by a run: an entry of x's list covers x and y
unfoldable pub used : List Entry → Row → Row → Bool
used [] x y = false
used (e ∷ es) x y = covers e x y || used es x y

-- done before: rule 1, 2 or 3, for two rows and the lists of their portions
unfoldable pub done_before : List Entry → List Entry → Row → Row → Bool
done_before ex ey x y = together x y || (used ex x y || used ey y x)
