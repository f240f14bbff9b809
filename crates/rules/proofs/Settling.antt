-- A call settled: by the first check that fails, or by what it does. One law for all calls.
-- Assumes nothing.
use Rattle.std.specs.Prelude.{Ok, Err, ◌≡◌, refl, Bool, true, false, cond, List, [], ◌∷◌, ◌++◌, ℕ}
use Rattle.std.proofs.lemmas.Bool.{not-false}
use Rattle.rules.specs.Calls.{After, after, effect, after_call}
use Rattle.rules.specs.Refusals.{Check, verdict, session_fits, checks, sheet_check}
use Rattle.rules.specs.World.{World, Lent}
use Rattle.rules.specs.declared.Why.{Why}
use Rattle.rules.specs.declared.Answer.{Answer}
use Rattle.rules.specs.declared.Answer.TheVariants.{Refused}
use Rattle.rules.proofs.Checks.{fits_are, Fits}

pub settle-no : (w : World) (c : Lent) (y : Why) → verdict (checks w c) ≡ Err y → after (Refused y) w c.out ≡ after_call w c
unfolding after_call
settle-no w c y e = rw e

pub settle_good : (w : World) (c : Lent) (x : After) → verdict (checks w c) ≡ Ok tt → x ≡ effect c.call w c → x ≡ after_call w c
unfolding after_call
settle_good w c x e h = rw e h

-- what holds of both answers holds of the one that is given
pub either : (P : Answer → Type 0) (u : Bool) (more done : ℕ → Answer) (n : ℕ) → P (more n) → P (done n) → P (cond u more done n)
either P true more done n x y = x
either P false more done n x y = y

-- ---- checks one after the other

-- the first check let the call through
pub verdict_first : (c : Check) (cs : List Check) → verdict (c ∷ cs) ≡ Ok tt → c.fails ≡ false
unfolding verdict
verdict_first c cs h = go c.fails h
  where
    go : (u : Bool) → cond u (Err c.why) (verdict cs) ≡ Ok tt → u ≡ false
    go true e = cc
    go false e = refl

pub verdict_rest : (c : Check) (cs : List Check) → verdict (c ∷ cs) ≡ Ok tt → verdict cs ≡ Ok tt
unfolding verdict
verdict_rest c cs h = go c.fails h
  where
    go : (u : Bool) → cond u (Err c.why) (verdict cs) ≡ Ok tt → verdict cs ≡ Ok tt
    go true e = cc
    go false e = e

-- of checks that let the call through, so do the last ones
pub verdict_last : (cs ds : List Check) → verdict (cs ++ ds) ≡ Ok tt → verdict ds ≡ Ok tt
verdict_last [] ds h = h
verdict_last (c ∷ cs) ds h = verdict_last cs ds (verdict_rest c (cs ++ ds) h)

-- the later checks matter where the first ones find nothing
pub verdict_good : (cs ds : List Check) → verdict cs ≡ Ok tt → verdict (cs ++ ds) ≡ verdict ds
unfolding verdict
verdict_good [] ds h = refl
verdict_good (c ∷ cs) ds h = go c.fails h (verdict_good cs ds)
  where
    go : (u : Bool) → cond u (Err c.why) (verdict cs) ≡ Ok tt → (verdict cs ≡ Ok tt → verdict (cs ++ ds) ≡ verdict ds) → cond u (Err c.why) (verdict (cs ++ ds)) ≡ verdict ds
    go true e ih = cc
    go false e ih = ih e

pub verdict-no : (cs ds : List Check) (y : Why) → verdict cs ≡ Err y → verdict (cs ++ ds) ≡ Err y
unfolding verdict
verdict-no [] ds y h = cc
verdict-no (c ∷ cs) ds y h = go c.fails h (verdict-no cs ds y)
  where
    go : (u : Bool) → cond u (Err c.why) (verdict cs) ≡ Err y → (verdict cs ≡ Err y → verdict (cs ++ ds) ≡ Err y) → cond u (Err c.why) (verdict (cs ++ ds)) ≡ Err y
    go true e ih = e
    go false e ih = ih e

-- a call that is not refused passed number 1
pub passed-fits : (w : World) (cs : List Check) → verdict (sheet_check (session_fits w) ∷ cs) ≡ Ok tt → Fits w
passed-fits w cs h = fits_are w (not-false _ (verdict_first _ cs h))
