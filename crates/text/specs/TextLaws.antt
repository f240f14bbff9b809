-- The laws of what texts are put into: no bytes are no change, texts put one after the other make the whole, and what is put
-- stands behind the bytes in front of its place. Assumes nothing.
use Rattle.std.proofs.Common.{◌≡◌, refl, sym, ap, ◌∙◌, arith, Bool, true, false, leb, leb-true, leb-false, ℕ, suc, ◌+◌, ◌-◌, ◌≤◌, ◌<◌, List, [], ◌∷◌, ◌++◌, append_assoc, append-nil, length, length-append, length-take, take, drop, set, length-set, drop-drop}
use Rattle.std.proofs.Math.Seq.{take-append_seam}
use Rattle.std.proofs.lemmas.List.{length-take-le}
use native.Mathlib.Nat.{add-zero}
use borrow.Rule.Slice.PartMut.{put_mid}
use Rattle.std.proofs.lemmas.List.Edits.{sets, sets-eq}
use Rattle.text.specs.Texts.{Put}

-- ---- behind what a text holds

pub behind_none : (d : List ℕ) → d ≡ d ++ []
behind_none d = sym (append-nil d)

pub behind_both : (d : List ℕ) {e f : List ℕ} (w v : List ℕ) → e ≡ d ++ w → f ≡ e ++ v → f ≡ d ++ (w ++ v)
behind_both d w v a b = b ∙ ap (λ l. l ++ v) a ∙ append_assoc d w v

pub behind_long : (d : List ℕ) {e : List ℕ} (w : List ℕ) → e ≡ d ++ w → length e ≡ length d + length w
behind_long d w a = ap length a ∙ length-append d w

-- ---- at a place in a buffer

sets-append : (d : List ℕ) (at : ℕ) (w v : List ℕ) → sets (sets d at w) (at + length w) v ≡ sets d at (w ++ v)
sets-append d at [] v = ap (λ (k : ℕ). sets d k v) (add-zero at)
sets-append d at (x ∷ w) v = let q : at + length (x ∷ w) ≡ suc at + length w = omega arith in
    ap (λ (k : ℕ). sets (sets (set d at x) (suc at) w) k v) q ∙ sets-append (set d at x) (suc at) w v

length-sets : (d : List ℕ) (at : ℕ) (w : List ℕ) → length (sets d at w) ≡ length d
length-sets d at [] = refl
length-sets d at (x ∷ w) = length-sets (set d at x) (suc at) w ∙ length-set d at x

-- no bytes
pub put_none : (d : List ℕ) (at : ℕ) → Put d at [] at d
put_none d at = record { next = sym (add-zero at); bytes = refl; long = refl }

-- one byte
pub put_one : (d : List ℕ) (at x : ℕ) → Put d at (x ∷ []) (at + 1) (set d at x)
put_one d at x = record { next = refl; bytes = refl; long = length-set d at x }

-- a part of the buffer that is written as a whole
pub put_part : (d : List ℕ) (at : ℕ) (w y : List ℕ) → at + length w ≤ length d → y ≡ w → Put d at w (at + length w) (put_mid at (at + length w - at) d y)
put_part d at w y h e = let k : at + length w - at ≡ length w = omega arith in
    let b : put_mid at (at + length w - at) d y ≡ sets d at w = rw (e, k, sets-eq w d at h, drop-drop, append_assoc) in
    record { next = refl; bytes = b; long = ap length b ∙ length-sets d at w }

-- bytes, and others at the place behind them
pub put_then : {d e f : List ℕ} {at r q : ℕ} {w v : List ℕ} → Put d at w r e → Put e r v q f → Put d at (w ++ v) q f
put_then {d} {e} {f} {at} {r} {q} {w} {v} a b = record {
  next = rw length-append (omega (arith, a.next, b.next));
  bytes = b.bytes ∙ ap (λ (l : List ℕ). sets l r v) a.bytes ∙ ap (λ (k : ℕ). sets (sets d at w) k v) a.next ∙ sets-append d at w v;
  long = b.long ∙ a.long;
}

-- there is as much room behind the bytes in front of a place as from the place on
pub held_room : (d : List ℕ) (at : ℕ) → length d - length (take at d) ≡ length d - at
held_room d at = omega (arith, length-take at d)

-- past the buffer's end there is room for none
none_fits : {d e : List ℕ} {at r : ℕ} (w : List ℕ) → length d < at → length w ≤ length d - at → Put d at w r e → take r e ≡ take at d ++ w
none_fits {d} {e} {at} {r} [] h b p = let q : r ≡ at = omega (arith, p.next) in rw (p.bytes, q, append-nil)
none_fits (x ∷ w) h b p = absurd (omega arith)

-- bytes that have room stand behind those in front of their place
pub put_held : {d e : List ℕ} {at r : ℕ} {w : List ℕ} → length w ≤ length d - at → Put d at w r e → take r e ≡ take at d ++ w
put_held {d} {e} {at} {r} {w} b p = go (leb at (length d)) refl
  where
    go : (u : Bool) → leb at (length d) ≡ u → take r e ≡ take at d ++ w
    go true q = let h : at ≤ length d = leb-true at (length d) q in
        let long : length (take at d) ≡ at = length-take-le at d h in
        let whole : e ≡ take at d ++ w ++ drop (at + length w) d = p.bytes ∙ sets-eq w d at (omega arith) in
        let all : r ≡ length (take at d ++ w) = rw (length-append, long) p.next in
        rw (whole, all) (take-append_seam (take at d ++ w) _)
    go false q = none_fits w (leb-false at (length d) q) b p
