-- What holds between calls holds after an accepted opening, and after every call. By induction over the calls.
-- Assumes nothing.
use Rattle.std.specs.Prelude.{◌≡◌, refl, Bool, true, false, cond, List, [], ◌∷◌, ℕ, zero, suc, ◌≤◌, ◌<◌, get_or, replicate}
use Rattle.std.proofs.Common.{sym, ap, ◌∙◌, subst, arith}
use Rattle.std.proofs.Math.Dec.{leb-suc-zero}
use Rattle.std.proofs.Math.ListN.{length-replicate}
use Rattle.stamps.specs.Counting.{values}
use Rattle.stamps.proofs.StampsLaws.{Below}
use Rattle.stamps.specs.declared.Source.{Source}
use Rattle.stamps.specs.declared.Source.TheVariants.{A, B}
use Rattle.stamps.specs.declared.Entry.{Entry}
use Rattle.sheets.specs.Layout.{Told, list_no}
use Rattle.sheets.proofs.Noted.{list_none}
use Rattle.rules.specs.Calls.{opens, fresh, after_call}
use Rattle.rules.specs.Demand3.{after_calls, opened, items_of}
use Rattle.rules.specs.Refusals.{sizes_fit}
use Rattle.rules.specs.World.{World, world, count_of, place_of, rows_of, Sheets, lengths, Lent}
use Rattle.rules.specs.declared.Why.TheVariants.{BadSheet}
use Rattle.rules.specs.declared.Answer.TheVariants.{Opened, Refused}
use Rattle.rules.specs.declared.Reply.{Reply}
use Rattle.rules.proofs.Checks.{sizes_are}
use Rattle.rules.proofs.Steps.{Sits, sits-call}

no_counts : (n k : ℕ) → ◌≡◌ {A = ℕ} (get_or (replicate n 0) k 0) 0
no_counts zero k = refl
no_counts (suc n) zero = refl
no_counts (suc n) (suc k) = no_counts n k

sits-fresh : (p m n : ℕ) (x : Sheets) → sizes_fit p m n (lengths x) ≡ true → Sits (world (fresh p m n) x) []
sits-fresh p m n x e = record {
  sound = record {
    under = λ s. record { rows = none s; lists = λ q. empty (list_none p (replicate 32 0) x.probe s q (no_counts 32 (list_no p s q))) };
    start = λ s k. refl;
    tells = λ y. rw (leb-suc-zero y.a);
  };
  fit = record {
    sizes = sizes_are p m n (lengths x) e;
    few = few;
    clock = omega arith;
    next = omega arith;
    lone = passed;
    counted = length-replicate {A = ℕ} 32 0;
    short = λ k b. rw (no_counts 32 k) (omega arith);
  };
}
  where
    w : World
    w = world (fresh p m n) x

    none : (s : Source) (i : ℕ) → i < count_of w s → ((rows_of w s i).ats ≤ 0) × ((rows_of w s i).dts ≤ 0)
    none A i h = absurd (omega arith)
    none B i h = absurd (omega arith)

    few : (s : Source) → count_of w s ≤ n
    few A = omega arith
    few B = omega arith

    passed : (s : Source) → place_of w s ≤ count_of w s
    passed A = omega arith
    passed B = omega arith

    empty : {es : List Entry} → es ≡ [] → Below 0 es
    empty h = rw h tt

-- an opening that was accepted handed over a fresh record
opened-fresh : (p m n : ℕ) (x : Sheets) → (opens p m n x).answer ≡ Opened
    → (sizes_fit p m n (lengths x) ≡ true) × (opened p m n x ≡ world (fresh p m n) x)
unfolding opens
opened-fresh p m n x = go (sizes_fit p m n (lengths x))
  where
    said : Bool → Reply
    said u = cond u (record { answer = Opened; session = fresh p m n }) (record { answer = Refused BadSheet; session = fresh 0 0 0 })

    go : (u : Bool) → (said u).answer ≡ Opened → (u ≡ true) × (world (said u).session x ≡ world (fresh p m n) x)
    go true h = (refl, refl)
    go false h = cc

pub sits-opened : (p m n : ℕ) (x : Sheets) → (opens p m n x).answer ≡ Opened → Sits (opened p m n x) []
sits-opened p m n x h = let f = opened-fresh p m n x h in subst (λ (w : World). Sits w []) (sym f.1) (sits-fresh p m n x f.0)

pub no_items : (p m n : ℕ) (x : Sheets) → (opens p m n x).answer ≡ Opened → (s : Source) → items_of (opened p m n x) s ≡ []
unfolding values
no_items p m n x h s = ap (λ (w : World). items_of w s) (opened-fresh p m n x h).1 ∙ go s
  where
    go : (s : Source) → items_of (world (fresh p m n) x) s ≡ []
    go A = refl
    go B = refl

pub no_places : (p m n : ℕ) (x : Sheets) → (opens p m n x).answer ≡ Opened → (s : Source) → place_of (opened p m n x) s ≡ 0
no_places p m n x h s = ap (λ (w : World). place_of w s) (opened-fresh p m n x h).1 ∙ go s
  where
    go : (s : Source) → place_of (world (fresh p m n) x) s ≡ 0
    go A = refl
    go B = refl

pub sits_calls : (w : World) (l : List Told) (cs : List Lent) → Sits w l → Sits (after_calls w l cs).world (after_calls w l cs).written
sits_calls w l [] g = g
sits_calls w l (c ∷ cs) g = sits_calls (after_call w c).world _ cs (sits-call w l c g)
