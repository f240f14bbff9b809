-- A list handed out in rooms: its places rise, so the position after a room parts what was handed out by then from what is left.
-- By induction on the list. Assumes nothing.
use Rattle.std.proofs.Common.{◌≡◌, refl, sym, ap, ap₂, ◌∙◌, Bool, true, false, cond, not, ◌≢◌, List, [], ◌∷◌, ◌++◌, map, ℕ, zero, suc, ◌+◌, ◌*◌, ◌≤◌, ◌<◌, le_refl, zero-add, one-mul, ltb, leb, eqb, length, take, drop, lt-ltb, le-ltb, le-leb, arith}
use Rattle.std.proofs.Math.ListN.{length-map}
use Rattle.std.proofs.Math.Seq.{take-nil, drop-nil}
use Rattle.std.proofs.lemmas.Bool.{lt-leb}
use Rattle.stamps.specs.Counting.{bit, keep, count, missing_in}
use Rattle.stamps.proofs.CountingLaws.{tests, keep-map, count-keep, keep_cong}
use Rattle.pairs.specs.Rooms.{on_from, past, onward, put_all, read_all}

-- ---- in an output

-- what the words of one are to the others: n of them need so many words
pub record Words {Y : Type 0} (at : List ℕ → ℕ → Y) (put : ℕ → Y → List ℕ → List ℕ) (need : ℕ → ℕ) : Type 0 where
  pub grows : (m n : ℕ) → m ≤ n → need m ≤ need n
  pub long : (w : ℕ) (y : Y) (o : List ℕ) → length (put w y o) ≡ length o
  pub same : (o : List ℕ) (w : ℕ) (y : Y) → need (suc w) ≤ length o → at (put w y o) w ≡ y
  pub other : (o : List ℕ) (w : ℕ) (y : Y) (i : ℕ) → i ≢ w → at (put w y o) i ≡ at o i

module _ {Y : Type 0} (at : List ℕ → ℕ → Y) (put : ℕ → Y → List ℕ → List ℕ) (need : ℕ → ℕ) (h : Words at put need) where
  put_below : (w : ℕ) (ys : List Y) (o : List ℕ) (i : ℕ) → i < w → at (put_all put w ys o) i ≡ at o i
  put_below w [] o i b = refl
  put_below w (y ∷ ys) o i b = put_below (suc w) ys (put w y o) i (omega arith) ∙ h.other o w y i (omega arith)

  -- what is put is read back
  read_put : (w : ℕ) (ys : List Y) (o : List ℕ) → need (w + length ys) ≤ length o → read_all at (put_all put w ys o) w (length ys) ≡ ys
  read_put w [] o b = refl
  read_put w (y ∷ ys) o b = let e : suc w + length ys ≡ w + suc (length ys) = omega arith in ap₂ (λ (z : Y) (zs : List Y). z ∷ zs)
      (put_below (suc w) ys (put w y o) w (omega arith) ∙ h.same o w y (omega (arith, h.grows (suc w) (w + suc (length ys)) (omega arith))))
      (read_put (suc w) ys (put w y o) (rw (h.long w y o, e) b))

  pub read_told : {X : Type 0} (f : X → Y) (xs : List X) (o : List ℕ) → need (length xs) ≤ length o → read_all at (put_all put 0 (map f xs) o) 0 (length xs) ≡ map f xs
  read_told f xs o b = let e : length (map f xs) ≡ length xs = length-map xs f in
      ap (read_all at (put_all put 0 (map f xs) o) 0) (sym e) ∙ read_put 0 (map f xs) o (rw (zero-add, e) b)

-- ---- places that rise

module _ {X : Type 0} (place : X → ℕ) where
  -- from lo on and below hi
  abbrev pub Rises : ℕ → List X → ℕ → Type 0
  Rises lo [] hi = lo ≤ hi
  Rises lo (x ∷ xs) hi = (lo ≤ place x) × Rises (suc (place x)) xs hi

  pub rises_append : (lo mid hi : ℕ) (xs ys : List X) → Rises lo xs mid → Rises mid ys hi → Rises lo (xs ++ ys) hi
  rises_append lo mid hi [] [] r s = omega arith
  rises_append lo mid hi [] (y ∷ ys) r s = (omega arith, s.1)
  rises_append lo mid hi (x ∷ xs) ys r s = (r.0, rises_append (suc (place x)) mid hi xs ys r.1 s)

  rises_low : (k lo hi : ℕ) (xs : List X) → k ≤ lo → Rises lo xs hi → Rises k xs hi
  rises_low k lo hi [] h r = omega arith
  rises_low k lo hi (x ∷ xs) h r = (omega arith, r.1)

  rises_end : (lo hi : ℕ) (xs : List X) → Rises lo xs hi → lo ≤ hi
  rises_end lo hi [] r = r
  rises_end lo hi (x ∷ xs) r = omega (arith, rises_end (suc (place x)) hi xs r.1)

  pub rises_keep : (u : X → Bool) (lo hi : ℕ) (xs : List X) → Rises lo xs hi → Rises lo (keep u xs) hi
  rises_keep u lo hi [] r = r
  rises_keep u lo hi (x ∷ xs) r = go (u x) (rises_keep u (suc (place x)) hi xs r.1)
    where
      go : (v : Bool) → Rises (suc (place x)) (keep u xs) hi → Rises lo (cond v (x ∷ keep u xs) (keep u xs)) hi
      go true ih = (r.0, ih)
      go false ih = rises_low lo (suc (place x)) hi (keep u xs) (omega arith) ih

  pub rises_from : (k lo hi : ℕ) (xs : List X) → k ≤ hi → Rises lo xs hi → Rises k (on_from place k xs) hi
  rises_from k lo hi [] h r = h
  rises_from k lo hi (x ∷ xs) h r = go (leb k (place x)) refl (rises_from k (suc (place x)) hi xs h r.1)
    where
      go : (u : Bool) → leb k (place x) ≡ u → Rises k (on_from place k xs) hi → Rises k (cond u (x ∷ on_from place k xs) (on_from place k xs)) hi
      go true e ih = (omega (arith, tests), rises_keep (λ y. leb k (place y)) (suc (place x)) hi xs r.1)
      go false e ih = ih

  -- ---- a position that parts the first r from the others

  pub record Parts (k r hi next : ℕ) (xs : List X) : Type 0 where
    pub before : keep (λ x. ltb (place x) next) xs ≡ take r xs
    pub rest : on_from place next xs ≡ drop r xs
    pub from : k ≤ next
    pub to : next ≤ hi

  -- none lies before the first
  none_before : (k hi : ℕ) (xs : List X) → Rises k xs hi → keep (λ x. ltb (place x) k) xs ≡ []
  none_before k hi [] r = refl
  none_before k hi (x ∷ xs) r = rw (le-ltb (place x) k r.0, none_before k hi xs (rises_low k (suc (place x)) hi xs (omega arith) r.1))

  all_after : (k hi : ℕ) (xs : List X) → Rises k xs hi → on_from place k xs ≡ xs
  all_after k hi [] r = refl
  all_after k hi (x ∷ xs) r = rw (le-leb k (place x) r.0, all_after k hi xs (rises_low k (suc (place x)) hi xs (omega arith) r.1))

  -- one past the last that is written
  parts_past : (k r hi : ℕ) (xs : List X) → Rises k xs hi → Parts k r hi (past place k (take r xs)) xs
  parts_past k zero hi xs h = record { before = none_before k hi xs h; rest = all_after k hi xs h; from = le_refl k; to = rises_end k hi xs h }
  parts_past k (suc r) hi [] h = record { before = refl; rest = refl; from = le_refl k; to = h }
  parts_past k (suc r) hi (x ∷ xs) h = let n : ℕ = past place (suc (place x)) (take r xs) in let ih : Parts (suc (place x)) r hi n xs = parts_past (suc (place x)) r hi xs h.1 in
      record {
        before = rw (lt-ltb (place x) n ih.from, ih.before);
        rest = rw (lt-leb n (place x) ih.from, ih.rest);
        from = omega (arith, h.0, ih.from);
        to = ih.to;
      }

  -- the end, where all are written
  parts_end : (k r hi : ℕ) (xs : List X) → Rises k xs hi → length xs ≤ r → Parts k r hi hi xs
  parts_end k r hi [] h b = record { before = rw take-nil; rest = rw drop-nil; from = h; to = le_refl hi }
  parts_end k zero hi (x ∷ xs) h b = absurd (omega arith)
  parts_end k (suc r) hi (x ∷ xs) h b = let ih : Parts (suc (place x)) r hi hi xs = parts_end (suc (place x)) r hi xs h.1 (omega arith) in
      record {
        before = rw (lt-ltb (place x) hi ih.from, ih.before);
        rest = rw (lt-leb hi (place x) ih.from, ih.rest);
        from = omega (arith, h.0, ih.from);
        to = le_refl hi;
      }

  -- the position after a room
  pub onward-parts : (k r hi : ℕ) (xs : List X) → Rises k xs hi → Parts k r hi (onward place hi k r xs) xs
  onward-parts k r hi xs h = go (ltb r (length xs)) refl
    where
      go : (u : Bool) → ltb r (length xs) ≡ u → Parts k r hi (cond u (past place k (take r xs)) hi) xs
      go true e = parts_past k r hi xs h
      go false e = parts_end k r hi xs h (omega (arith, tests))

  -- what is left from there on
  pub left_after : (k r hi next : ℕ) (all : List X) → Parts k r hi next (on_from place k all) → on_from place next all ≡ drop r (on_from place k all)
  left_after k r hi next all h = sym (absorb all) ∙ h.rest
    where
      absorb : (xs : List X) → on_from place next (on_from place k xs) ≡ on_from place next xs
      absorb [] = refl
      absorb (x ∷ xs) = go (leb k (place x)) refl (absorb xs)
        where
          go : (u : Bool) → leb k (place x) ≡ u → on_from place next (on_from place k xs) ≡ on_from place next xs
              → on_from place next (cond u (x ∷ on_from place k xs) (on_from place k xs)) ≡ on_from place next (x ∷ xs)
          go true e ih = ap (λ (l : List X). cond (leb next (place x)) (x ∷ l) l) ih
          go false e ih = rw (lt-leb next (place x) (omega (arith, tests, h.from))) ih

  -- ---- what a room hands out, added to what was passed, is what is passed then

  pub handed-count : (one : X → X → Bool) → ((x y : X) → one x y ≡ true → x ≡ y) → (k r hi next : ℕ) (all : List X) → Parts k r hi next (on_from place k all) → (x : X)
      → bit (ltb (place x) k) * count one x all + count one x (take r (on_from place k all)) ≡ bit (ltb (place x) next) * count one x all
  handed-count one eq k r hi next all h x =
      rw (← h.before, count-keep one eq (λ y. ltb (place y) next) x (on_from place k all), count-keep one eq (λ y. leb k (place y)) x all) (go (ltb (place x) k) refl)
    where
      go : (u : Bool) → ltb (place x) k ≡ u → bit u * count one x all + bit (ltb (place x) next) * (bit (leb k (place x)) * count one x all) ≡ bit (ltb (place x) next) * count one x all
      go true e = rw (lt-ltb (place x) next (omega (arith, tests, h.from)), lt-leb k (place x) (omega (arith, tests))) (omega arith)
      go false e = rw (le-leb k (place x) (omega (arith, tests)), one-mul (count one x all)) (omega arith)

-- ---- what is missing is what is left

-- std's law, turned round
pub take-map : {X Y : Type 0} (f : X → Y) (r : ℕ) (xs : List X) → map f (take r xs) ≡ take r (map f xs)
take-map f r xs = sym (Rattle.std.proofs.lemmas.List.take-map f r xs)

-- of what is told of a list, another one leaves out what it has not
pub missing-left : {X Y : Type 0} (one : X → X → Bool) (same : Y → Y → Bool) (f : X → Y) → ((x : X) → one x x ≡ true) → (l : List Y) (out : X → Bool) (xs : List X)
    → ((x : X) → 0 < count one x xs → count same (f x) l ≡ bit (out x)) → missing_in same l (map f xs) ≡ map f (keep (λ x. not (out x)) xs)
missing-left one same f own l out xs h = keep-map f (λ y. eqb (count same y l) 0) xs
    ∙ ap (map f) (keep_cong one own (λ x. eqb (count same (f x) l) 0) (λ x. not (out x)) xs (λ x b. rw (h x b) (go (out x))))
  where
    go : (u : Bool) → eqb (bit u) 0 ≡ not u
    go true = refl
    go false = refl
