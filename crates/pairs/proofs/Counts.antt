-- How often a pair stands among those that an arrival, a run or a drain writes. By one law for the line and one for the grid.
-- Assumes nothing.
use Rattle.std.proofs.Common.{◌≡◌, refl, sym, ap, ◌∙◌, Bool, true, false, ◌&&◌, List, [], ◌∷◌, map, ℕ, zero, suc, ◌+◌, ◌*◌, zero-add, ltb, leb, eqb, lt-ltb, le-ltb, le-leb, eqb-true, eq-eqb, arith}
use Rattle.std.proofs.Math.Bool.{and-true, and-false, false≢true}
use Rattle.std.proofs.Math.Dec.{leb-zero}
use Rattle.std.proofs.lemmas.Bool.{lt-leb}
use Rattle.stamps.specs.declared.Source.{Source}
use Rattle.stamps.specs.declared.Source.TheVariants.{A, B}
use Rattle.stamps.specs.declared.Item.{Item}
use Rattle.stamps.specs.declared.Row.{Row}
use Rattle.stamps.specs.Counting.{bit, span, keep, count}
use Rattle.stamps.proofs.CountingLaws.{tests, count-append, count-keep}
use Rattle.sheets.specs.Layout.{Pair, Told, shows, same_shown, tell}
use Rattle.pairs.specs.Joins.{inside, same, times}
use Rattle.pairs.specs.Pairs.{Table, across, down, every, met, arrival_pairs, wanted, wanted_pairs, tell_all, told}
use Rattle.pairs.specs.declared.walks.Scope.{Scope}

-- ---- seen from a source

-- where a pair stands
abbrev pub place : Source → Told → Pair
place A x = record { a = x.a; b = x.b }
place B x = record { a = x.b; b = x.a }

-- what is shown of it is what its rows' items say
abbrev pub shown_by : Source → (ℕ → Item) → (ℕ → Item) → Told → Bool
shown_by A f g x = same_shown x.shown (shows (f x.a) (g x.b))
shown_by B f g x = same_shown x.shown (shows (g x.a) (f x.b))

-- ---- counting

-- two pairs of row numbers are one
abbrev pub at : Pair → Pair → Bool
at p q = eqb p.a q.a && eqb p.b q.b

pub at-eq : (p q : Pair) → at p q ≡ true → p ≡ q
at-eq p q h = go (eqb p.a q.a) (eqb p.b q.b) refl refl h
  where
    go : (u v : Bool) → eqb p.a q.a ≡ u → eqb p.b q.b ≡ v → (u && v) ≡ true → p ≡ q
    go true true e f g = λ i. record { a = eqb-true p.a q.a e i; b = eqb-true p.b q.b f i }
    go true false e f g = absurd (false≢true g)
    go false v e f g = absurd (false≢true g)

pub at_refl : (p : Pair) → at p p ≡ true
at_refl p = rw (eq-eqb p.a p.a refl, eq-eqb p.b p.b refl)

-- what is told of a pair
same_tell : (s : Source) (f g : ℕ → Item) (x : Told) (p : Pair) → same x (tell s p (f p.a) (g p.b)) ≡ (shown_by s f g x && at (place s x) p)
same_tell A f g x p = go (eqb x.a p.a) (eqb x.b p.b) refl refl
  where
    go : (u v : Bool) → eqb x.a p.a ≡ u → eqb x.b p.b ≡ v → (u && (v && same_shown x.shown (shows (f p.a) (g p.b)))) ≡ (shown_by A f g x && (u && v))
    go true true d e = rw (← eqb-true x.a p.a d, ← eqb-true x.b p.b e, and-true (shown_by A f g x))
    go true false d e = sym (and-false (shown_by A f g x))
    go false v d e = sym (and-false (shown_by A f g x))
same_tell B f g x p = go (eqb x.a p.b) (eqb x.b p.a) refl refl
  where
    go : (u v : Bool) → eqb x.a p.b ≡ u → eqb x.b p.a ≡ v → (u && (v && same_shown x.shown (shows (g p.b) (f p.a)))) ≡ (shown_by B f g x && (v && u))
    go true true d e = rw (← eqb-true x.a p.b d, ← eqb-true x.b p.a e, and-true (shown_by B f g x))
    go true false d e = sym (and-false (shown_by B f g x))
    go false v d e = rw (and-false v, and-false (shown_by B f g x))

pub times-tell : (s : Source) (f g : ℕ → Item) (x : Told) (ps : List Pair) → times x (tell_all s f g ps) ≡ bit (shown_by s f g x) * count at (place s x) ps
times-tell s f g x [] = omega arith
times-tell s f g x (p ∷ ps) = rw (same_tell s f g x p, times-tell s f g x ps) (go (shown_by s f g x))
  where
    go : (u : Bool) → bit (u && at (place s x) p) + bit u * count at (place s x) ps ≡ bit u * (bit (at (place s x) p) + count at (place s x) ps)
    go true = omega arith
    go false = omega arith

-- from j on, n numbers
abbrev within : ℕ → ℕ → ℕ → Bool
within j n b = leb j b && ltb b (j + n)

within_none : (j b : ℕ) → within j 0 b ≡ false
within_none j b = go (leb j b) refl
  where
    go : (u : Bool) → leb j b ≡ u → (u && ltb b (j + 0)) ≡ false
    go true e = le-ltb b (j + 0) (omega (arith, tests))
    go false e = refl

within_suc : (j n b : ℕ) → bit (eqb b j) + bit (within (suc j) n b) ≡ bit (within j (suc n) b)
within_suc j n b = let f : suc j + n ≡ j + suc n = omega arith in rw f (go (eqb b j) refl)
  where
    go : (u : Bool) → eqb b j ≡ u → bit u + bit (leb (suc j) b && ltb b (j + suc n)) ≡ bit (within j (suc n) b)
    go true e = let g : b ≡ j = eqb-true b j e in
        rw (lt-leb (suc j) b (omega arith), le-leb j b (omega arith), lt-ltb b (j + suc n) (omega arith))
    go false e = zero-add _ ∙ ap (λ (v : Bool). bit (v && ltb b (j + suc n))) (next (leb j b) refl)
      where
        next : (v : Bool) → leb j b ≡ v → leb (suc j) b ≡ v
        next true h = le-leb (suc j) b (omega (arith, tests))
        next false h = lt-leb (suc j) b (omega (arith, tests))

count-span : (b j m : ℕ) → count eqb b (span j m) ≡ bit (within j m b)
count-span b j zero = rw (within_none j b)
count-span b j (suc m) = rw (count-span b (suc j) m) (within_suc j m b)

count-across : (p : Pair) (i j m : ℕ) → count at p (across i j m) ≡ bit (eqb p.a i && within j m p.b)
count-across p i j m = row (span j m) ∙ rw (count-span p.b j m) (go (eqb p.a i))
  where
    row : (l : List ℕ) → count at p (map (λ b. record { a = i; b = b }) l) ≡ bit (eqb p.a i) * count eqb p.b l
    row [] = omega arith
    row (b ∷ l) = rw (row l) (one (eqb p.a i))
      where
        one : (u : Bool) → bit (u && eqb p.b b) + bit u * count eqb p.b l ≡ bit u * (bit (eqb p.b b) + count eqb p.b l)
        one true = omega arith
        one false = omega arith

    go : (u : Bool) → bit u * bit (within j m p.b) ≡ bit (u && within j m p.b)
    go true = omega arith
    go false = omega arith

within_all : (m b : ℕ) → within 0 m b ≡ ltb b m
within_all m b = rw (leb-zero b, zero-add m)

pub count-rows : (i n : ℕ) → count eqb i (span 0 n) ≡ bit (ltb i n)
count-rows i n = rw (count-span i 0 n, within_all n i)

count_down : (p : Pair) (i n m : ℕ) → count at p (down i n m) ≡ bit (within i n p.a && ltb p.b m)
count_down p i zero m = rw (within_none i p.a)
count_down p i (suc n) m =
    count-append at p (across i 0 m) (down (suc i) n m) ∙ rw (count-across p i 0 m, count_down p (suc i) n m, within_all m p.b) (go (ltb p.b m))
  where
    go : (u : Bool) → bit (eqb p.a i && u) + bit (within (suc i) n p.a && u) ≡ bit (within i (suc n) p.a && u)
    go true = rw (and-true (eqb p.a i), and-true (within (suc i) n p.a), and-true (within i (suc n) p.a)) (within_suc i n p.a)
    go false = rw (and-false (eqb p.a i), and-false (within (suc i) n p.a), and-false (within i (suc n) p.a))

pub count-every : (t : Table) (p : Pair) → count at p (every t) ≡ bit (inside t p)
count-every t p = count_down p 0 t.a.count t.b.count ∙ rw (within_all t.a.count p.a)

-- ---- what is handed out of a list, told as it is shown: i is inside, m is wanted, c is shown so, u and v say what was passed before and after

pub told-passed : (i m c u v : Bool) (n : ℕ) → bit u * (bit m * bit i) + n ≡ bit v * (bit m * bit i) → bit ((i && (m && c)) && u) + bit c * n ≡ bit ((i && (m && c)) && v)
told-passed true true true u v n e = omega arith
told-passed true true false u v n e = omega arith
told-passed true false true u v n e = omega arith
told-passed true false false u v n e = omega arith
told-passed false true true u v n e = omega arith
told-passed false true false u v n e = omega arith
told-passed false false true u v n e = omega arith
told-passed false false false u v n e = omega arith

-- ---- what an arrival, a run and a drain write, counted

pub times-arrival : (s : Source) (x : Told) (n : ℕ) (item : Item) (g : ℕ → Row) (m : ℕ)
    → times x (tell_all s (λ i. item) (λ j. (g j).item) (arrival_pairs n item g (span 0 m)))
    ≡ bit (shown_by s (λ i. item) (λ j. (g j).item) x) * (bit (met item (g (place s x).b)) * bit (eqb (place s x).a n && ltb (place s x).b m))
unfolding arrival_pairs
times-arrival s x n item g m = rw (times-tell, count-keep at at-eq (λ p. met item (g p.b)) (place s x) (across n 0 m), count-across (place s x) n 0 m, within_all m (place s x).b)

pub times-wanted : (s : Source) (scope : Scope) (t : Table) (x : Told)
    → times x (told s t (wanted_pairs scope t)) ≡ bit (shown_by s (λ i. (t.a.row i).item) (λ j. (t.b.row j).item) x) * (bit (wanted scope t (place s x)) * bit (inside t (place s x)))
unfolding wanted_pairs
times-wanted s scope t x = rw (times-tell s (λ i. (t.a.row i).item) (λ j. (t.b.row j).item) x (keep (wanted scope t) (every t)), count-keep at at-eq (wanted scope t) (place s x) (every t), count-every t (place s x))
