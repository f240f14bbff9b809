-- What one more entry does to the lists: its own list has it last, and the others are as they were.
-- Assumes nothing.
use Rattle.std.proofs.Common.{◌≡◌, refl, ap, ◌∙◌, Bool, true, false, cond, ◌&&◌, List, [], ◌∷◌, ◌++◌, ℕ, suc, ◌+◌, ◌*◌, ◌≤◌, ◌<◌, ltb, eqb, length, get_or, set, get_or-set_same, get_or-set_other, lt-ltb, eqb-true, eq-eqb, ne_eqb, arith}
use Rattle.std.proofs.Math.Bool.{and-false}
use Rattle.std.proofs.lemmas.Bool.{eqb-false}
use Rattle.stamps.specs.declared.Source.{Source}
use Rattle.stamps.specs.declared.Source.TheVariants.{A, B}
use Rattle.stamps.specs.declared.Entry.{Entry}
use Rattle.stamps.specs.Sources.{other}
use Rattle.stamps.proofs.CountingLaws.{tests}
use Rattle.sheets.specs.Layout.{probe_need, list_no, put_entry}
use Rattle.sheets.specs.Lists.{entries, list_of}
use Rattle.sheets.proofs.Laws.{list_small, entries_other, entries_new}

module _ (parts : ℕ) (counts probe : List ℕ) (s : Source) (q : ℕ) (e : Entry) (h : q < parts) (long : 2 * parts ≤ length counts) (room : probe_need parts ≤ length probe)
    (short : (k : ℕ) → k < 2 * parts → get_or counts k 0 ≤ 32) (free : get_or counts (list_no parts s q) 0 < 32) where
  -- the number of the list, and how many entries it had
  abbrev no : ℕ
  no = list_no parts s q

  abbrev had : ℕ
  had = get_or counts no 0

  -- the lists after it
  abbrev noted : Source → ℕ → List Entry
  noted = list_of parts (set counts no (suc had)) (put_entry no had e probe)

  list_noted : (u : Source) (k : ℕ) → noted u k ≡ cond (ltb k parts && eqb (list_no parts u k) no) (list_of parts counts probe u k ++ (e ∷ [])) (list_of parts counts probe u k)
  unfolding list_of
  list_noted u k = go (ltb k parts) refl
    where
      small : no < 2 * parts
      small = list_small parts s q h

      at : k < parts → (v : Bool) → eqb (list_no parts u k) no ≡ v
          → entries (put_entry no had e probe) (list_no parts u k) (get_or (set counts no (suc had)) (list_no parts u k) 0)
          ≡ cond v (entries probe (list_no parts u k) (get_or counts (list_no parts u k) 0) ++ (e ∷ [])) (entries probe (list_no parts u k) (get_or counts (list_no parts u k) 0))
      at b true f = rw (eqb-true (list_no parts u k) no f, get_or-set_same counts no (suc had) 0 (omega (arith, small))) (entries_new probe no had e free (omega (arith, small)))
      at b false f = let d : list_no parts u k ≡ no → ⊥ = eqb-false (list_no parts u k) no f in
          rw (get_or-set_other counts no (list_no parts u k) (suc had) 0 d)
          (entries_other probe no had e (list_no parts u k) (get_or counts (list_no parts u k) 0) (λ g. absurd (d g)) free (short (list_no parts u k) (list_small parts u k b)))

      go : (v : Bool) → ltb k parts ≡ v
          → cond v (entries (put_entry no had e probe) (list_no parts u k) (get_or (set counts no (suc had)) (list_no parts u k) 0)) []
          ≡ cond (v && eqb (list_no parts u k) no) (cond v (entries probe (list_no parts u k) (get_or counts (list_no parts u k) 0)) [] ++ (e ∷ [])) (cond v (entries probe (list_no parts u k) (get_or counts (list_no parts u k) 0)) [])
      go true f = at (omega (arith, tests)) (eqb (list_no parts u k) no) refl
      go false f = refl

  -- its own source
  pub list_own : (k : ℕ) → noted s k ≡ cond (eqb k q) (list_of parts counts probe s k ++ (e ∷ [])) (list_of parts counts probe s k)
  list_own k = list_noted s k ∙ ap (λ (v : Bool). cond v (list_of parts counts probe s k ++ (e ∷ [])) (list_of parts counts probe s k)) (go s (eqb k q) refl)
    where
      go : (s : Source) (v : Bool) → eqb k q ≡ v → (ltb k parts && eqb (list_no parts s k) (list_no parts s q)) ≡ v
      go s true f = rw (eqb-true k q f, lt-ltb q parts h) (eq-eqb (list_no parts s q) (list_no parts s q) refl)
      go A false f = rw f (and-false (ltb k parts))
      go B false f = rw (ne_eqb (parts + k) (parts + q) (λ g. eqb-false k q f (omega arith))) (and-false (ltb k parts))

  -- the other one
  pub list_facing : (k : ℕ) → noted (other s) k ≡ list_of parts counts probe (other s) k
  list_facing k = list_noted (other s) k ∙ ap (λ (v : Bool). cond v (list_of parts counts probe (other s) k ++ (e ∷ [])) (list_of parts counts probe (other s) k)) (go s (ltb k parts) refl)
    where
      go : (s : Source) (v : Bool) → ltb k parts ≡ v → (v && eqb (list_no parts (other s) k) (list_no parts s q)) ≡ false
      go s false f = refl
      go A true f = ne_eqb (parts + k) q (omega (arith, h))
      go B true f = ne_eqb k (parts + q) (omega (arith, tests))

-- a list of which nothing is counted
pub list_none : (parts : ℕ) (counts probe : List ℕ) (s : Source) (q : ℕ) → get_or counts (list_no parts s q) 0 ≡ 0 → list_of parts counts probe s q ≡ []
unfolding list_of entries
list_none parts counts probe s q e = rw e (go (ltb q parts))
  where
    go : (u : Bool) → ◌≡◌ {A = List Entry} (cond u [] []) []
    go true = refl
    go false = refl
