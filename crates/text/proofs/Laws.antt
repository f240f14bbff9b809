-- What the layers above may know of bytes: where an input is cut into pieces does not matter, what a look at it finds, how a loop
-- gathers, a printed number reads back, and each promise allows one result. By induction on the bytes. Assumes nothing.
use Rattle.std.proofs.Common.{◌≡◌, refl, sym, ap, subst, ◌∙◌, Bool, true, false, cond, List, [], ◌∷◌, ◌++◌, append_assoc, ℕ, zero, suc, ◌+◌, ◌-◌, ◌*◌, ◌/◌, ◌%◌, ◌^◌, ◌≤◌, ◌<◌, ◌↔◌, arith, ltb, length, length-append, length-take, append-nil, take, take_all, drop, get_or, ne_eqb, lt-ltb, le-ltb, ltb-true, ltb-false, le-leb, Bor, option_map, min, Option, Some, None, Result, Ok, Err, IsOk, OnOk, OnErr}
use Rattle.std.proofs.Math.Nat.{pow-succ'}
use Rattle.std.proofs.lemmas.List.{take-append-le, drop_more}
use Rattle.std.specs.Char.{is_ascii_digit}
use Rattle.arrayvec.specs.ArrayVec.{ArrayVec, array_vec_len}
use Rattle.text.specs.Gathering.{is_lf, Cut, only, before, cut, lines_from, kept, Held, held, gather, Took, Holds, before_lf, behind_lf, fitting}
use Rattle.text.specs.Numbers.{digits_from}
use Rattle.text.proofs.GatherTurns.{none_fit, fitting_lf, behind_lf_lent, fitting_end, behind_end}
use Rattle.text.specs.Putting.{digits_up, number_most, decimal}
use Rattle.text.specs.TextLaws.{put_held, held_room}
use Rattle.text.specs.Texts.{Put}

-- ---- pieces of an input

-- the lines of one piece, and then those of the next
abbrev pub joined : Cut → List ℕ → Cut
joined c ys = record { ended = c.ended ++ (cut c.begun ys).ended; begun = (cut c.begun ys).begun }

pub cut_pieces : (l xs ys : List ℕ) → cut l (xs ++ ys) ≡ joined (cut l xs) ys
unfolding cut
cut_pieces l [] ys = refl
cut_pieces l (x ∷ xs) ys = go (is_lf x) (cut_pieces [] xs ys) (cut_pieces (l ++ (x ∷ [])) xs ys)
  where
    go : (u : Bool) → cut [] (xs ++ ys) ≡ joined (cut [] xs) ys → cut (l ++ (x ∷ [])) (xs ++ ys) ≡ joined (cut (l ++ (x ∷ [])) xs) ys
        → cond u (before l (cut [] (xs ++ ys))) (cut (l ++ (x ∷ [])) (xs ++ ys)) ≡ joined (cond u (before l (cut [] xs)) (cut (l ++ (x ∷ [])) xs)) ys
    go true a b = ap (before l) a
    go false a b = b

-- feeding xs ++ ys is feeding xs and then ys
pub lines_pieces : (l xs ys : List ℕ) → lines_from l (xs ++ ys) ≡ (cut l xs).ended ++ lines_from (cut l xs).begun ys
unfolding lines_from
lines_pieces l xs ys = rw (cut_pieces, append_assoc)

-- ---- a line in its buffer

pub holds_first : (most : ℕ) → Holds most [] []
holds_first most = sym (take_all most [] (omega arith))

holds_byte : (most : ℕ) (l line : List ℕ) (x : ℕ) → Holds most l line → Holds most (kept most l x) (line ++ (x ∷ []))
holds_byte most l line x h = go (ltb (length l) most) refl
  where
    size : length l ≡ min most (length line)
    size = ap length h ∙ length-take most line

    go : (u : Bool) → ltb (length l) most ≡ u → Holds most (cond u (l ++ (x ∷ [])) l) (line ++ (x ∷ []))
    go true e = let b : length l < most = ltb-true (length l) most e in let n : length line ≤ most = omega (arith, size) in
        rw (h, take_all most line n, take_all most (line ++ (x ∷ [])) (rw length-append (omega (arith, size))))
    go false e = let b : most ≤ length l = ltb-false (length l) most e in
        h ∙ sym (take-append-le most line (x ∷ []) (omega (arith, size)))

-- the line that ended, and the lines of what is behind its LF; or the line that is begun
abbrev pub cut_at : List ℕ → Option (List ℕ) → Cut
cut_at line (Some rest) = before line (cut [] rest)
cut_at line None = only line

-- what a look at the input found: the whole line as far as it goes, held in the buffer, and what is left of the input where it ended
pub record Found (most : ℕ) (begun bytes : List ℕ) (h : Held) : Type 0 where
  pub line : List ℕ
  pub holds : Holds most h.line line
  pub cuts : cut begun bytes ≡ cut_at line h.rest

pub gather_finds : (most : ℕ) (l begun bytes : List ℕ) → Holds most l begun → Found most begun bytes (gather most l bytes)
unfolding gather cut
gather_finds most l begun [] h = record { line = begun; holds = h; cuts = refl }
gather_finds most l begun (x ∷ bytes) h = go (is_lf x) refl (gather_finds most (kept most l x) (begun ++ (x ∷ [])) bytes (holds_byte most l begun x h))
  where
    go : (u : Bool) → is_lf x ≡ u → Found most (begun ++ (x ∷ [])) bytes (gather most (kept most l x) bytes)
        → Found most begun (x ∷ bytes) (cond u (held l (Some bytes)) (gather most (kept most l x) bytes))
    go true e f = record { line = begun; holds = h; cuts = rw e }
    go false e f = record { line = f.line; holds = f.holds; cuts = rw e f.cuts }

-- so `take_line` cuts its input as the definition says
pub took_finds : (most : ℕ) (l begun input e : List ℕ) (r : Option (Bor (List ℕ))) → e ≡ (gather most l input).line → Took (gather most l input) r → Holds most l begun
    → Found most begun input (held e (option_map (λ rest. rest.now) r))
took_finds most l begun input e None p t h = subst (λ (y : Held). Found most begun input y) (λ i. held (sym p i) (t i)) (gather_finds most l begun input h)
took_finds most l begun input e (Some rest) p t h = subst (λ (y : Held). Found most begun input y) (λ i. held (sym p i) (t i)) (gather_finds most l begun input h)

-- behind what a text holds, what `take_line` puts and hands back is what the definition says
pub gather_fits : (most : ℕ) (l input : List ℕ) → gather most l input ≡ held (l ++ fitting (most - length l) input) (behind_lf input)
unfolding gather before_lf behind_lf
gather_fits most l [] = rw (none_fit (most - length l), append-nil)
gather_fits most l (x ∷ bytes) = go (is_lf x) (ltb (length l) most) refl (gather_fits most (kept most l x) bytes)
  where
    go : (u v : Bool) → ltb (length l) most ≡ v
        → gather most (cond v (l ++ (x ∷ [])) l) bytes ≡ held (cond v (l ++ (x ∷ [])) l ++ fitting (most - length (cond v (l ++ (x ∷ [])) l)) bytes) (behind_lf bytes)
        → cond u (held l (Some bytes)) (gather most (cond v (l ++ (x ∷ [])) l) bytes)
        ≡ held (l ++ take (most - length l) (cond u [] (x ∷ before_lf bytes))) (cond u (Some bytes) (behind_lf bytes))
    go true v e ih = rw (none_fit (most - length l), append-nil)
    go false true e ih = let b : length l < most = ltb-true (length l) most e in
        let q : most - length l ≡ suc (most - length (l ++ (x ∷ []))) = rw length-append (omega arith) in ih ∙ rw (q, append_assoc)
    go false false e ih = let b : most ≤ length l = ltb-false (length l) most e in let q : most - length l ≡ 0 = omega arith in ih ∙ rw q

-- so it is in any text, by what it says of the bytes that it holds
pub text_fits : (most at : ℕ) (l input : List ℕ) {e : List ℕ} → most - length l ≡ most - at
    → (length (fitting (most - at) input) ≤ most - at → e ≡ l ++ fitting (most - at) input) → e ≡ l ++ fitting (most - length l) input
text_fits most at l input room puts = rw room (puts (omega (arith, length-take (most - at) (before_lf input))))

-- and at a place in a buffer, where the bytes in front of it are the line that is begun: all of the buffer, past its end
pub placed_fits : (d input : List ℕ) {e : List ℕ} {at r : ℕ} → Put d at (fitting (length d - at) input) r e → take r e ≡ (gather (length d) (take at d) input).line
placed_fits d input {e} {at} p = rw gather_fits (text_fits (length d) at (take at d) input (held_room d at) (λ b. put_held b p))

-- a look that met no LF took all: every byte is of the line that is begun
pub gather_all : (most : ℕ) (l bytes : List ℕ) → (gather most l bytes).rest ≡ None → (begun : List ℕ) → cut begun bytes ≡ only (begun ++ bytes)
unfolding gather cut
gather_all most l [] e begun = rw append-nil
gather_all most l (x ∷ bytes) e begun = go (is_lf x) e (λ f. gather_all most (kept most l x) bytes f (begun ++ (x ∷ [])))
  where
    go : (u : Bool) → (cond u (held l (Some bytes)) (gather most (kept most l x) bytes)).rest ≡ None
        → ((gather most (kept most l x) bytes).rest ≡ None → cut (begun ++ (x ∷ [])) bytes ≡ only ((begun ++ (x ∷ [])) ++ bytes))
        → cond u (before begun (cut [] bytes)) (cut (begun ++ (x ∷ [])) bytes) ≡ only (begun ++ (x ∷ bytes))
    go true f ih = cc
    go false f ih = rw append_assoc at (ih f)

-- a look that met an LF got on
pub gather_less : (most : ℕ) (l bytes : List ℕ) {rest : List ℕ} → (gather most l bytes).rest ≡ Some rest → length rest < length bytes
unfolding gather
gather_less most l [] e = cc
gather_less most l (x ∷ bytes) {rest} e = go (is_lf x) e (gather_less most (kept most l x) bytes)
  where
    go : (u : Bool) → (cond u (held l (Some bytes)) (gather most (kept most l x) bytes)).rest ≡ Some rest → ((gather most (kept most l x) bytes).rest ≡ Some rest → length rest < length bytes)
        → length rest < length (x ∷ bytes)
    go true e ih = let q : bytes ≡ rest = cc in omega (arith, ap length q)
    go false e ih = omega (arith, ih e)

-- ---- a line gathered by a loop of a caller's own, in an `ArrayVec`: what is left of the input makes of the buffer what all of it does

-- a byte that is no LF is kept
pub gather_byte : (most : ℕ) (l input : List ℕ) (i : ℕ) → i < length input → (get_or input i 0 ≡ 10 → ⊥)
    → gather most l (drop i input) ≡ gather most (kept most l (get_or input i 0)) (drop (i + 1) input)
unfolding gather
gather_byte most l input i b n = rw (drop_more input i 0 b, ne_eqb _ _ n)

-- an LF ends the line, and what stands behind it is lent
pub gather_lf : (most : ℕ) (l input : List ℕ) (i : ℕ) → i < length input → get_or input i 0 ≡ 10
    → gather most l (drop i input) ≡ held l (Some (take (length input - (i + 1)) (drop (i + 1) input)))
gather_lf most l input i b e = rw (gather_fits, fitting_lf (most - length l) input i b e, behind_lf_lent input i b e, append-nil)

-- so does the end of the input
pub gather_end : (most : ℕ) (l input : List ℕ) (i : ℕ) → length input ≤ i → gather most l (drop i input) ≡ held l None
gather_end most l input i b = rw (gather_fits, fitting_end (most - length l) input i b, behind_end input i b, append-nil)

-- a byte that is pushed where it fits
pub kept_by : {E : Type 0} (r : Result (Unit {0}) E) (most : ℕ) (v w : ArrayVec ℕ) (x : ℕ) → (IsOk r ↔ (array_vec_len v < most)) → OnErr r (array_vec_len v ≡ most)
    → OnOk r (w.items ≡ v.items ++ (x ∷ [])) → OnErr r (w ≡ v) → w.items ≡ kept most v.items x
kept_by (Ok t) most v w x fits full put same = rw (lt-ltb _ _ (fits.0 refl)) put
kept_by (Err y) most v w x fits full put same = rw (le-ltb (array_vec_len v) most (omega arith)) (ap (λ (u : ArrayVec ℕ). u.items) same)

pub ruleset gather_steps = (gather_byte, gather_lf, gather_end, kept_by)

-- ---- a printed number reads back

digits_snoc : (m : ℕ) (l : List ℕ) (v d : ℕ) → d < 10 → digits_from m l ≡ Some v → digits_from m (l ++ ((48 + d) ∷ [])) ≡ Some (10 * v + d)
unfolding digits_from
digits_snoc m [] v d h e = let w : m ≡ v = cc in let q : 48 + d - 48 ≡ d = omega arith in
    rw (le-leb 48 (48 + d) (omega arith), le-leb (48 + d) 57 (omega arith), q, w)
digits_snoc m (x ∷ l) v d h e = go (is_ascii_digit x) e (digits_snoc (10 * m + (x - 48)) l v d h)
  where
    go : (u : Bool) → cond u (digits_from (10 * m + (x - 48)) l) None ≡ Some v → (digits_from (10 * m + (x - 48)) l ≡ Some v → digits_from (10 * m + (x - 48)) (l ++ ((48 + d) ∷ [])) ≡ Some (10 * v + d))
        → cond u (digits_from (10 * m + (x - 48)) (l ++ ((48 + d) ∷ []))) None ≡ Some (10 * v + d)
    go true f ih = ih f
    go false f ih = cc

digits_none : (m : ℕ) → digits_from m [] ≡ Some m
unfolding digits_from
digits_none m = refl

-- a number that needs a second digit has room for it
more_room : {n : ℕ} (k : ℕ) → n < 10 * 10 ^ k → 10 ≤ n → 0 < k
more_room zero b g = absurd (omega arith)
more_room (suc k) b g = omega arith

digits_read : (k n : ℕ) → n < 10 ^ k → 0 < k → digits_from 0 (digits_up k n) ≡ Some n
unfolding digits_up
digits_read zero n h p = absurd (omega arith)
digits_read (suc k) n h p = go (ltb n 10) refl (digits_read k (n / 10))
  where
    go : (u : Bool) → ltb n 10 ≡ u → (n / 10 < 10 ^ k → 0 < k → digits_from 0 (digits_up k (n / 10)) ≡ Some (n / 10))
        → digits_from 0 (cond u ((48 + n) ∷ []) (digits_up k (n / 10) ++ ((48 + n % 10) ∷ []))) ≡ Some n
    go true e ih = let q : 10 * 0 + n ≡ n = omega arith in rw q at (digits_snoc 0 [] 0 n (ltb-true n 10 e) (digits_none 0))
    go false e ih = let g : 10 ≤ n = ltb-false n 10 e in let b : n < 10 * 10 ^ k = rw (pow-succ' 10 k) at h in
        let q : 10 * (n / 10) + n % 10 ≡ n = omega arith in
        rw q at (digits_snoc 0 (digits_up k (n / 10)) (n / 10) (n % 10) (omega arith) (ih (omega arith) (more_room k b g)))

pub decimal-read : (n : ℕ) → n < 2 ^ 32 → digits_from 0 (decimal n) ≡ Some n
unfolding decimal
decimal-read n h = digits_read number_most n (omega arith) (omega arith)

-- ---- a promise allows one result

pub put_one_result : (d w : List ℕ) {e f : List ℕ} → e ≡ d ++ w → f ≡ d ++ w → e ≡ f
put_one_result d w a b = a ∙ sym b

pub placed_one_result : {d e f : List ℕ} {at r q : ℕ} {w : List ℕ} → Put d at w r e → Put d at w q f → (r ≡ q) × (e ≡ f)
placed_one_result a b = (a.next ∙ sym b.next, a.bytes ∙ sym b.bytes)

-- two answers of one look hand back the same bytes
pub rest_one_result : (h : Held) (r q : Option (Bor (List ℕ))) → Took h r → Took h q → option_map (λ rest. rest.now) r ≡ option_map (λ rest. rest.now) q
rest_one_result h None None t s = refl
rest_one_result h None (Some q) t s = cc
rest_one_result h (Some r) None t s = cc
rest_one_result h (Some r) (Some q) t s = sym t ∙ s

-- and leave the same line in the buffer
pub took_one_result : (most : ℕ) (l input : List ℕ) {e f : List ℕ} (r q : Option (Bor (List ℕ))) → e ≡ (gather most l input).line → Took (gather most l input) r
    → f ≡ (gather most l input).line → Took (gather most l input) q → (e ≡ f) × (option_map (λ rest. rest.now) r ≡ option_map (λ rest. rest.now) q)
took_one_result most l input r q a t b s = (a ∙ sym b, rest_one_result (gather most l input) r q t s)
