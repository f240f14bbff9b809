-- What a flush, an arrival and a run's entry do to the pairs that are done before: a flush changes none of them, and the other two
-- make done exactly the pairs that they write. Said for the first source of a table; the sources swap by one law. Assumes nothing.
use Rattle.std.proofs.Common.{◌≡◌, refl, ap, ap₂, ◌∙◌, Bool, true, false, cond, not, ◌&&◌, ◌||◌, List, [], ◌∷◌, ◌++◌, ℕ, zero, suc, ◌+◌, ◌*◌, ◌≤◌, ◌<◌, le_refl, ltb, eqb, ltb-true, lt-ltb, le-ltb, eq-eqb, ne_eqb, arith}
use Rattle.std.proofs.Math.Bool.{and_comm, and-false}
use Rattle.std.proofs.Math.Path.{fun_ext}
use Rattle.std.proofs.lemmas.Bool.{and_parts}
use Rattle.stamps.specs.declared.Source.{Source}
use Rattle.stamps.specs.declared.Source.TheVariants.{A, B}
use Rattle.stamps.specs.declared.Item.{Item}
use Rattle.stamps.specs.declared.Row.{Row}
use Rattle.stamps.specs.declared.Entry.{Entry}
use Rattle.stamps.specs.Counting.{bit, tally, up_to, span}
use Rattle.stamps.proofs.CountingLaws.{tests, and_cong, tally_cong, tally_mono, le_top, top_le}
use Rattle.stamps.specs.Keys.{items_match, part_of}
use Rattle.stamps.proofs.KeysLaws.{match_comm}
use Rattle.stamps.specs.Stamps.{in_memory, stamp, done_before}
use Rattle.stamps.proofs.StampsLaws.{Below, alive-now, Kept, kept_refl, kept-stamp, done-kept, done-swap, done_new, done_entry}
use Rattle.sheets.specs.Layout.{Told, Pair}
use Rattle.sheets.specs.Rows.{hot, spooled, memory_rows, portion_rows, latest, flushed}
use Rattle.sheets.proofs.Laws.{flushed_memory}
use Rattle.pairs.specs.Joins.{inside, times}
use Rattle.pairs.specs.Pairs.{Side, Table, row_a, row_b, met, arrival_pairs, wanted, wanted_pairs, tell_all, told, matches, done}
use Rattle.pairs.specs.declared.walks.Scope.TheVariants.{Portion}
use Rattle.pairs.proofs.Counts.{place, shown_by, times-arrival, times-wanted}

-- ---- the pairs that are out while no drain has begun, seen from a source

-- the items of a source by number
abbrev pub items : Side → ℕ → Item
items d i = (d.row i).item

-- a pair of accepted rows that match, shown as they are
abbrev pub pair_from : Source → Table → Told → Bool
pair_from s t x = inside t (place s x) && (matches t (place s x) && shown_by s (items t.a) (items t.b) x)

-- and done before
abbrev pub out : Source → Table → Told → Bool
out s t x = pair_from s t x && done t (place s x)

-- the sources in each other's place
abbrev pub swap : Table → Table
swap t = record { parts = t.parts; a = t.b; b = t.a }

pub out-swap : (t : Table) (x : Told) → out B (swap t) x ≡ out A t x
out-swap t x = ap₂ ◌&&◌
    (ap₂ ◌&&◌ (and_comm (ltb x.b t.b.count) (ltb x.a t.a.count))
    (ap (λ (u : Bool). u && shown_by A (items t.a) (items t.b) x) (match_comm (t.b.row x.b).item (t.a.row x.a).item)))
    (done-swap (t.b.list (part_of t.parts (t.b.row x.b).item)) (t.a.list (part_of t.parts (t.a.row x.a).item)) (t.b.row x.b) (t.a.row x.a))

-- ---- the stamps in sight

-- every stamp of a source's rows and entries is at most c
pub record Under (c : ℕ) (d : Side) : Type 0 where
  pub rows : (i : ℕ) → i < d.count → ((d.row i).ats ≤ c) × ((d.row i).dts ≤ c)
  pub lists : (q : ℕ) → Below c (d.list q)

below_more : (c e : ℕ) (es : List Entry) → c ≤ e → Below c es → Below e es
below_more c e [] h b = tt
below_more c e (x ∷ es) h b = (omega arith, omega arith, below_more c e es h b.2)

pub under_more : (c e : ℕ) (d : Side) → c ≤ e → Under c d → Under e d
under_more c e d h u = record { rows = λ i b. omega (arith, u.rows i b); lists = λ q. below_more c e (d.list q) h (u.lists q) }

-- the first source changed
abbrev pub with_a : Table → Side → Table
with_a t d = record { parts = t.parts; a = d; b = t.b }

-- ---- a flush

-- the source with a portion flushed at clock c
abbrev pub flushed_side : ℕ → ℕ → ℕ → Side → Side
flushed_side parts q c d = record { count = d.count; row = up_to d.count (flushed parts q c d.row) d.row; list = d.list }

module _ (parts q c : ℕ) (d : Side) where
  flush_kept : (i : ℕ) → Kept c (d.row i) ((flushed_side parts q c d).row i)
  flush_kept i = go (ltb i d.count) (hot parts q (d.row i)) refl
    where
      go : (u v : Bool) → hot parts q (d.row i) ≡ v → Kept c (d.row i) (cond u (cond v (stamp (c + (portion_rows parts q d.row i + bit v)) (d.row i)) (d.row i)) (d.row i))
      go true true e = kept-stamp c _ (d.row i) (and_parts (in_memory (d.row i)) (eqb (part_of parts (d.row i).item) q) e).0 (omega arith)
      go true false e = kept_refl c (d.row i)
      go false v e = kept_refl c (d.row i)

  pub flush-under : Under c d → Under (c + portion_rows parts q d.row d.count) (flushed_side parts q c d)
  flush-under u = record {
    rows = λ i h. (omega (arith, (flush_kept i).same_ats, (u.rows i h).0), rw (lt-ltb i d.count h) (stamped i h (hot parts q (d.row i)) refl));
    lists = λ k. below_more c _ (d.list k) (omega arith) (u.lists k);
  }
    where
      stamped : (i : ℕ) → i < d.count → (v : Bool) → hot parts q (d.row i) ≡ v
          → (cond v (stamp (c + (portion_rows parts q d.row i + bit v)) (d.row i)) (d.row i)).dts ≤ c + portion_rows parts q d.row d.count
      stamped i h true e = omega (arith, rw e at (tally_mono (λ k. hot parts q (d.row k)) (suc i) d.count h))
      stamped i h false e = omega (arith, (u.rows i h).1)

pub flush-out : (s : Source) (t : Table) (q c : ℕ) (x : Told) → Under c t.a → Under c t.b → out s (with_a t (flushed_side t.parts q c t.a)) x ≡ out s t x
flush-out s t q c x ua ub =
    ap (λ (f : ℕ → Item). (inside t (place s x) && (items_match (f (place s x).a) (row_b t (place s x)).item && shown_by s f (items t.b) x)) && done t' (place s x)) same_items
    ∙ and_cong (pair_from s t x) same_done
  where
    t' : Table
    t' = with_a t (flushed_side t.parts q c t.a)

    kept : (i : ℕ) → Kept c (t.a.row i) (t'.a.row i)
    kept = flush_kept t.parts q c t.a

    same_items : items t'.a ≡ items t.a
    same_items = fun_ext λ i. (kept i).same_item

    same_done : pair_from s t x ≡ true → done t' (place s x) ≡ done t (place s x)
    same_done h = let k = and_parts (ltb (place s x).a t.a.count) (ltb (place s x).b t.b.count) (and_parts (inside t (place s x)) (matches t (place s x) && shown_by s (items t.a) (items t.b) x) h).0 in
        ap (λ (m : Item). done_before (t.a.list (part_of t.parts m)) (t.b.list (part_of t.parts (row_b t (place s x)).item)) (t'.a.row (place s x).a) (row_b t (place s x))) (kept (place s x).a).same_item
        ∙ done-kept c _ _ (ua.lists _) (ub.lists _) (ua.rows (place s x).a (ltb-true _ _ k.0)).0 (ub.rows (place s x).b (ltb-true _ _ k.1)).0 (kept (place s x).a) (kept_refl c (row_b t (place s x)))

-- ---- an arrival

-- a row that has just come
abbrev pub new_row : Item → ℕ → Row
new_row item c = record { item = item; ats = suc c; dts = 0 }

-- the source with it
abbrev pub stored_side : Item → ℕ → Side → Side
stored_side item c d = record { count = suc d.count; row = λ i. cond (eqb i d.count) (new_row item c) (d.row i); list = d.list }

pub store-under : (item : Item) (c : ℕ) (d : Side) → Under c d → Under (suc c) (stored_side item c d)
store-under item c d u = record { rows = λ i h. go i h (eqb i d.count) refl; lists = λ q. below_more c (suc c) (d.list q) (omega arith) (u.lists q) }
  where
    go : (i : ℕ) → i < suc d.count → (v : Bool) → eqb i d.count ≡ v → let r : Row = cond v (new_row item c) (d.row i) in (r.ats ≤ suc c) × (r.dts ≤ suc c)
    go i h true e = omega arith
    go i h false e = omega (arith, u.rows i (omega (arith, tests)))

module _ (item : Item) (c : ℕ) (f : ℕ → Row) (g : ℕ → Item) (n : ℕ) (x : Told) where
  shown_new : (s : Source) → eqb (place s x).a n ≡ true → shown_by s (λ i. (cond (eqb i n) (new_row item c) (f i)).item) g x ≡ shown_by s (λ i. item) g x
  shown_new A e = rw e
  shown_new B e = rw e

  shown_old : (s : Source) → eqb (place s x).a n ≡ false → shown_by s (λ i. (cond (eqb i n) (new_row item c) (f i)).item) g x ≡ shown_by s (λ i. (f i).item) g x
  shown_old A e = rw e
  shown_old B e = rw e

pub store_out : (s : Source) (t : Table) (item : Item) (c : ℕ) (x : Told) → Under c t.b
    → bit (out s (with_a t (stored_side item c t.a)) x) ≡ bit (out s t x) + times x (tell_all s (λ i. item) (items t.b) (arrival_pairs t.a.count item t.b.row (span 0 t.b.count)))
store_out s t item c x u = rw (times-arrival s x t.a.count item t.b.row t.b.count) (go (eqb i n) refl)
  where
    i : ℕ
    i = (place s x).a

    n : ℕ
    n = t.a.count

    y : Row
    y = row_b t (place s x)

    done_with : Row → Bool
    done_with r = done_before (t.a.list (part_of t.parts r.item)) (t.b.list (part_of t.parts y.item)) r y

    -- with a new row
    new : (v m k : Bool) → ltb (place s x).b t.b.count ≡ v → bit ((v && (m && k)) && done_with (new_row item c)) ≡ bit k * (bit (m && in_memory y) * bit v)
    new false m k e = omega arith
    new true m k e = rw (done_new c _ _ (new_row item c) y (u.lists _) refl (le_refl _) (u.rows (place s x).b (ltb-true _ _ e)).1) (cases m k (in_memory y))
      where
        cases : (m k z : Bool) → bit ((m && k) && z) ≡ bit k * (bit (m && z) * 1)
        cases true true z = omega arith
        cases true false z = omega arith
        cases false k z = omega arith

    go : (v : Bool) → eqb i n ≡ v → let r : Row = cond v (new_row item c) (t.a.row i) in
        bit (((ltb i (suc n) && ltb (place s x).b t.b.count) && (items_match r.item y.item && shown_by s (items (stored_side item c t.a)) (items t.b) x)) && done_with r)
        ≡ bit (out s t x) + bit (shown_by s (λ i. item) (items t.b) x) * (bit (met item y) * bit (v && ltb (place s x).b t.b.count))
    go true e = rw (lt-ltb i (suc n) (omega (arith, tests)), le-ltb i n (omega (arith, tests)), shown_new item c t.a.row (items t.b) n x s e)
        (omega (arith, new (ltb (place s x).b t.b.count) (items_match item y.item) (shown_by s (λ i. item) (items t.b) x) refl))
    go false e = rw (shown_old item c t.a.row (items t.b) n x s e, old (ltb i n) refl) (omega arith)
      where
        old : (v : Bool) → ltb i n ≡ v → ltb i (suc n) ≡ v
        old true h = lt-ltb i (suc n) (omega (arith, tests))
        old false h = le-ltb i (suc n) (omega (arith, tests))

-- ---- a run's entry

-- the source with one more entry in a list
abbrev pub noted_side : ℕ → Entry → Side → Side
noted_side q e d = record { count = d.count; row = d.row; list = λ k. cond (eqb k q) (d.list k ++ (e ∷ [])) (d.list k) }

below_last : (c : ℕ) (es : List Entry) (e : Entry) → Below c es → e.last ≤ c → e.probe ≤ c → Below c (es ++ (e ∷ []))
below_last c [] e b h k = (h, k, tt)
below_last c (x ∷ es) e b h k = (b.0, b.1, below_last c es e b.2 h k)

-- no spooled row of a portion has a DTS above the largest
dts_latest : (parts q : ℕ) (d : Side) (i : ℕ) → i < d.count → eqb (part_of parts (d.row i).item) q ≡ true → (d.row i).dts ≤ latest parts q d.row d.count
dts_latest parts q d i h e = go (in_memory (d.row i)) refl (rw e at (le_top (λ k. cond (spooled parts q (d.row k)) (d.row k).dts 0) d.count i h))
  where
    go : (u : Bool) → in_memory (d.row i) ≡ u → cond (not u && true) (d.row i).dts 0 ≤ latest parts q d.row d.count → (d.row i).dts ≤ latest parts q d.row d.count
    go true z b = omega (arith, tests)
    go false z b = b

pub latest-under : (parts q c : ℕ) (d : Side) → Under c d → latest parts q d.row d.count ≤ c
latest-under parts q c d u = top_le _ d.count c λ i h. go i h (spooled parts q (d.row i))
  where
    go : (i : ℕ) → i < d.count → (v : Bool) → cond v (d.row i).dts 0 ≤ c
    go i h true = (u.rows i h).1
    go i h false = omega arith

pub note-under : (q c last : ℕ) (d : Side) → last ≤ c → Under c d → Under c (noted_side q (record { last = last; probe = c }) d)
note-under q c last d h u = record { rows = u.rows; lists = λ k. go k (eqb k q) }
  where
    go : (k : ℕ) (v : Bool) → Below c (cond v (d.list k ++ (record { last = last; probe = c } ∷ [])) (d.list k))
    go k true = below_last c (d.list k) (record { last = last; probe = c }) (u.lists k) h (le_refl c)
    go k false = u.lists k

pub note-out : (s : Source) (t : Table) (q c : ℕ) (x : Told) → Under c t.b
    → bit (out s (with_a t (noted_side q (record { last = latest t.parts q t.a.row t.a.count; probe = c }) t.a)) x)
    ≡ bit (out s t x) + times x (told s t (wanted_pairs (Portion q) t))
unfolding wanted
note-out s t q c x u = rw (times-wanted s (Portion q) t x) (go (inside t p) refl (eqb k q) refl)
  where
    p : Pair
    p = place s x

    k : ℕ
    k = part_of t.parts (row_a t p).item

    e : Entry
    e = record { last = latest t.parts q t.a.row t.a.count; probe = c }

    ey : List Entry
    ey = t.b.list (part_of t.parts (row_b t p).item)

    cases : (m c d z y : Bool) → bit ((m && c) && (d || (not z && y))) ≡ bit ((m && c) && d) + bit c * (bit ((not z && true) && (m && (y && not d))) * 1)
    cases false c d z y = rw (and-false (not z && true)) (omega arith)
    cases true false d z y = omega arith
    cases true true true z y = rw (and-false y, and-false (not z && true)) (omega arith)
    cases true true false true y = omega arith
    cases true true false false true = omega arith
    cases true true false false false = omega arith

    go : (i : Bool) → inside t p ≡ i → (v : Bool) → eqb k q ≡ v
        → bit ((i && (matches t p && shown_by s (items t.a) (items t.b) x)) && done_before (cond v (t.a.list k ++ (e ∷ [])) (t.a.list k)) ey (row_a t p) (row_b t p))
        ≡ bit ((i && (matches t p && shown_by s (items t.a) (items t.b) x)) && done t p)
        + bit (shown_by s (items t.a) (items t.b) x) * (bit ((not (in_memory (row_a t p)) && v) && (matches t p && (in_memory (row_b t p) && not (done t p)))) * bit i)
    go false h v f = omega arith
    go true h true f = let b = and_parts (ltb p.a t.a.count) (ltb p.b t.b.count) h in let r = u.rows p.b (ltb-true _ _ b.1) in
        rw (done_entry c e.last (t.a.list k) ey (row_a t p) (row_b t p) r.0 r.1, alive-now e.last (row_a t p) (dts_latest t.parts q t.a p.a (ltb-true _ _ b.0) f))
        (cases (matches t p) (shown_by s (items t.a) (items t.b) x) (done t p) (in_memory (row_a t p)) (in_memory (row_b t p)))
    go true h false f = rw (and-false (not (in_memory (row_a t p)))) (omega arith)

-- ---- the rows in memory

-- how many there are
abbrev pub memory_of : Side → ℕ
memory_of d = memory_rows d.row d.count

tally_part : (u v : ℕ → Bool) (n : ℕ) → tally (λ i. u i && not (v i)) n + tally (λ i. u i && v i) n ≡ tally u n
tally_part u v zero = refl
tally_part u v (suc n) = omega (arith, tally_part u v n, go (u n) (v n))
  where
    go : (x y : Bool) → bit (x && not y) + bit (x && y) ≡ bit x
    go true true = refl
    go true false = refl
    go false y = refl

-- as many rows leave it as the clock goes up
pub flush_memory : (parts q c : ℕ) (d : Side) → memory_of (flushed_side parts q c d) + portion_rows parts q d.row d.count ≡ memory_of d
flush_memory parts q c d =
    ap (λ (k : ℕ). k + portion_rows parts q d.row d.count) (tally_cong _ _ d.count λ i h. rw (lt-ltb i d.count h) (flushed_memory parts q c d.row i))
    ∙ tally_part (λ i. in_memory (d.row i)) (λ i. eqb (part_of parts (d.row i).item) q) d.count

pub store_memory : (item : Item) (c : ℕ) (d : Side) → memory_of (stored_side item c d) ≡ memory_of d + 1
store_memory item c d = rw (eq-eqb d.count d.count refl)
    (ap (λ (k : ℕ). k + 1) (tally_cong _ _ d.count λ i h. rw (ne_eqb i d.count (omega arith))))
