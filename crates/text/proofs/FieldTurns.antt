-- What a turn of the loops over a text's blanks does, and what a field is of the texts between commas.
-- Assumes nothing.
use Rattle.std.proofs.Common.{◌≡◌, refl, ap, sym, ◌∙◌, Bool, true, false, cond, List, [], ◌∷◌, ◌++◌, ℕ, suc, ◌-◌, ◌≤◌, ◌<◌, arith, length, get_or, take, drop, length-drop, Bor, unwrap_or, option_map, Option, Some, None, take-suc, take_all}
use Rattle.std.proofs.Math.ListN.{get_or-map}
use Rattle.std.proofs.lemmas.Option.{unwrap_or-slice_get}
use Rattle.std.proofs.lemmas.Iterator.{YieldsList}
use Rattle.std.proofs.lemmas.Iterator.Splits.{YieldsList-from_slice_split}
use Rattle.std.specs.Fn.{CalledAt}
use Rattle.std.specs.Slice.Iter.{split_steps, split_rest, split_done, split_callee}
use Rattle.std.specs.List.{slice_get}
use Rattle.text.specs.Fields.{is_blank, is_comma, front_cut, kept, end_cut, trim, split, raw_at, fields, field_at}

-- ---- blanks in front

pub front_blank : (l : List ℕ) → 1 ≤ length l → is_blank (get_or l 0 0) ≡ true → front_cut (take (length l - 1) (drop 1 l)) ≡ front_cut l
unfolding front_cut
front_blank [] h e = absurd (omega arith)
front_blank (x ∷ l) h e = rw (take_all (length (x ∷ l) - 1) (drop 1 (x ∷ l)) (rw length-drop (omega arith)), e)

pub front_other : (l : List ℕ) → 1 ≤ length l → is_blank (get_or l 0 0) ≡ false → front_cut l ≡ l
unfolding front_cut
front_other [] h e = refl
front_other (x ∷ l) h e = rw e

pub front_none : (l : List ℕ) → length l < 1 → front_cut l ≡ l
unfolding front_cut
front_none [] h = refl
front_none (x ∷ l) h = absurd (omega arith)

pub ruleset front_steps = (front_blank, front_other, front_none)

-- ---- blanks at the end

kept_more : (b : Bool) (y x : ℕ) (l : List ℕ) → kept y (cond b (end_cut l) (l ++ (x ∷ []))) ≡ cond b (kept y (end_cut l)) (y ∷ (l ++ (x ∷ [])))
kept_more true y x l = refl
kept_more false y x [] = refl
kept_more false y x (z ∷ l) = refl

end_snoc : (l : List ℕ) (x : ℕ) → end_cut (l ++ (x ∷ [])) ≡ cond (is_blank x) (end_cut l) (l ++ (x ∷ []))
unfolding end_cut
end_snoc [] x = refl
end_snoc (y ∷ l) x = ap (kept y) (end_snoc l x) ∙ kept_more (is_blank x) y x l

-- a text is what stands before its last byte, and that byte
last_at : (l : List ℕ) → 1 ≤ length l → take (length l - 1) l ++ (get_or l (length l - 1) 0 ∷ []) ≡ l
last_at l h = let q : suc (length l - 1) ≡ length l = omega arith in
    sym (rw q at (take-suc l (length l - 1) 0 (omega arith))) ∙ take_all (length l) l (omega arith)

pub end_blank : (l : List ℕ) → 1 ≤ length l → is_blank (get_or l (length l - 1) 0) ≡ true → end_cut (take (length l - 1) l) ≡ end_cut l
end_blank l h b = sym (rw (end_snoc, b) at (sym (ap end_cut (last_at l h))))

pub end_other : (l : List ℕ) → 1 ≤ length l → is_blank (get_or l (length l - 1) 0) ≡ false → end_cut l ≡ l
end_other l h b = (rw (end_snoc, b) at (sym (ap end_cut (last_at l h)))) ∙ last_at l h

pub end_none : (l : List ℕ) → length l < 1 → end_cut l ≡ l
unfolding end_cut
end_none [] h = refl
end_none (x ∷ l) h = absurd (omega arith)

pub ruleset end_steps = (end_blank, end_other, end_none)

-- ---- fields

-- a line's `split` at its commas yields the texts between them
pub split_yields : {F : Type 0} {s : _} {g : _} {f : F} {l : List ℕ} → split_rest s ≡ l → split_done s ≡ false → split_callee s ≡ f
    → ((x : ℕ) (b : Bool) (q : F) → CalledAt g f x b q → (q ≡ f) × (b ≡ is_comma x)) → YieldsList (split_steps g) (λ x. x.now) s (split l)
split_yields = YieldsList-from_slice_split _ is_comma _

field_is : (l : List ℕ) (k : ℕ) → field_at l k ≡ trim (raw_at l k)
unfolding fields trim front_cut end_cut
field_is l k = get_or-map trim (split l) k []

now_or : (part : Option (Bor (List ℕ))) (none : Bor (List ℕ)) → (unwrap_or part none).now ≡ unwrap_or (option_map (λ x. x.now) part) none.now
now_or None none = refl
now_or (Some x) none = refl

-- the text that was found, or nothing, without its blanks
pub field_found : (l : List ℕ) (k : ℕ) (part : Option (Bor (List ℕ))) (none : Bor (List ℕ)) → option_map (λ x. x.now) part ≡ slice_get (split l) k → none.now ≡ []
    → trim (unwrap_or part none).now ≡ field_at l k
field_found l k part none e n = rw (now_or part none, e, n, unwrap_or-slice_get (split l) k [], field_is)
