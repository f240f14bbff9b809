-- What a call that passed its checks may rely on, and how a call is settled by what they were found to be.
-- Assumes nothing.
use Rattle.std.specs.Prelude.{◌≡◌, refl, Result, Ok, Err, List, ◌∷◌, ◌++◌, ℕ, zero, suc, ◌+◌, ◌≤◌, ◌<◌, leb, length, take}
use Rattle.std.proofs.Common.{sym, ◌∙◌, arith, add-one, leb-false}
use Rattle.std.specs.List.{list_all}
use Rattle.std.specs.Result.{IsErrAnd}
use Rattle.std.proofs.lemmas.Result.{err_from_is_err_and}
use Rattle.std.proofs.lemmas.List.Folds.{list_all_more}
use Rattle.stamps.specs.Keys.{item_of}
use Rattle.stamps.specs.Sources.{pick}
use Rattle.stamps.specs.declared.Source.{Source}
use Rattle.stamps.specs.declared.Source.TheVariants.{A, B}
use Rattle.stamps.specs.declared.Item.{Item}
use Rattle.stamps.specs.declared.Message.{Message}
use Rattle.sheets.specs.Layout.{rows_need}
use Rattle.rules.specs.Refusals.{Check, verdict, counts_fit, session_fits, portion_checks, sheet_check, row_checks, own_checks, checks}
use Rattle.rules.specs.World.{World, Lent, Sheets}
use Rattle.rules.specs.Calls.{effect, after_call, leaves}
use Rattle.rules.specs.declared.Why.{Why}
use Rattle.rules.specs.declared.Reply.{Reply}
use Rattle.rules.proofs.Settling.{settle-no, settle_good, verdict_first, verdict_rest, verdict-no, passed-fits}
use Rattle.rules.proofs.Checks.{Fits}
use Rattle.checks.specs.Passed.{Rows, Probes, Space, admitted, settled}

-- ---- what the workers ask

-- of a box, by the lengths of its sheets
abbrev pub RowsOf : World → Type 0
RowsOf w = Rows w.session (length w.sheets.a) (length w.sheets.b)

abbrev pub ProbesOf : World → Type 0
ProbesOf w = Probes w.session (length w.sheets.probe)

fits-rows : (w : World) → Fits w → RowsOf w
fits-rows w f = record {
  some_parts = omega (arith, f.sizes.parts);
  few_parts = f.sizes.parts.1;
  clock = omega (arith, f.clock);
  a_few = omega (arith, f.a_few, f.sizes.limit);
  b_few = omega (arith, f.b_few, f.sizes.limit);
  a_long = omega (arith, f.a_few, f.sizes.a_long);
  b_long = omega (arith, f.b_few, f.sizes.b_long);
}

fits-probes : (w : World) → Fits w → ProbesOf w
fits-probes w f = record { probe_long = f.sizes.probe_long; short = f.short }

-- v is what number 1 and the other checks were found to be
module _ (w : World) (cs : List Check) (v : Result Unit Why) (f : v ≡ verdict (sheet_check (session_fits w) ∷ cs)) where
  pub good_fits : v ≡ Ok tt → Fits w
  good_fits h = passed-fits w cs (sym f ∙ h)

  pub good_rows : v ≡ Ok tt → RowsOf w
  good_rows h = fits-rows w (good_fits h)

  pub good_probes : v ≡ Ok tt → ProbesOf w
  good_probes h = fits-probes w (good_fits h)

-- what the worker of a run asks
pub portion_fits : (w : World) (q : ℕ) (v : Result Unit Why) → v ≡ verdict (sheet_check (session_fits w) ∷ portion_checks w.session q) → v ≡ Ok tt
    → RowsOf w × ProbesOf w × (q < w.session.parts)
portion_fits w q v f h =
    (good_rows w _ v f h, good_probes w _ v f h, leb-false w.session.parts q (verdict_first _ _ (verdict_rest _ _ (sym f ∙ h))))

-- and that of an arrival: v is what was made of the message
module _ (w : World) (s : Source) (m : Message) (v : Result Item Why) (f : v ≡ admitted (verdict (sheet_check (session_fits w) ∷ row_checks w.session s m)) (item_of m)) where
  abbrev row_verdict : Result Unit Why
  row_verdict = verdict (sheet_check (session_fits w) ∷ row_checks w.session s m)

  pub denied : (y : Why) → v ≡ Err y → row_verdict ≡ Err y
  denied y h = go row_verdict (sym f ∙ h)
    where
      go : (x : Result Unit Why) → admitted x (item_of m) ≡ Err y → x ≡ Err y
      go (Ok tt) k = cc
      go (Err z) k = cc

  pub taken : (item : Item) → v ≡ Ok item → (row_verdict ≡ Ok tt) × (item ≡ item_of m)
  taken item h = go row_verdict (sym f ∙ h)
    where
      go : (x : Result Unit Why) → admitted x (item_of m) ≡ Ok item → (x ≡ Ok tt) × (item ≡ item_of m)
      go (Ok tt) k = (refl, (cc))
      go (Err z) k = ((cc), (cc))

  pub row_space : (item : Item) → v ≡ Ok item → Space w.session s (length w.sheets.a) (length w.sheets.b)
  row_space item h = let k = (taken item h).0 in let g : Fits w = passed-fits w _ k in
      record { rows = fits-rows w g; clock = g.clock; space = own s (leb-false _ _ (verdict_first _ _ (verdict_rest _ _ (verdict_rest _ _ (verdict_rest _ _ k))))) g }
    where
      own : (s : Source) → (pick s w.session.feeds.a w.session.feeds.b).rows < w.session.limit → Fits w
          → rows_need ((pick s w.session.feeds.a w.session.feeds.b).rows + 1) ≤ pick s (length w.sheets.a) (length w.sheets.b)
      own A j g = omega (arith, g.sizes.a_long)
      own B j g = omega (arith, g.sizes.b_long)

-- ---- a call settled by what its checks were found to be

-- a refusal that a `?` hands on, as r, is what the call answers
pub refusal_settled : (w : World) (c : Lent) (y : Why) → verdict (checks w c) ≡ Err y → (r : Result Reply Why) → IsErrAnd r (λ z. z ≡ y)
    → leaves (settled w.session r) w.sheets c.out ≡ after_call w c
refusal_settled w c y h r e = let p = err_from_is_err_and r e in rw (p.1, p.2) (settle-no w c y h)

-- where number 1 and the first of a call's own checks refuse it, whatever the rest
pub first_refused : (w : World) (c : Lent) (cs ds : List Check) → own_checks c.call w c ≡ cs ++ ds → (y : Why) → verdict (sheet_check (session_fits w) ∷ cs) ≡ Err y
    → (r : Result Reply Why) → IsErrAnd r (λ z. z ≡ y) → leaves (settled w.session r) w.sheets c.out ≡ after_call w c
first_refused w c cs ds own y h = refusal_settled w c y (rw own (verdict-no (sheet_check (session_fits w) ∷ cs) ds y h))

module _ (w : World) (c : Lent) (v : Result Unit Why) (f : v ≡ verdict (checks w c)) where
  pub call_refused : (y : Why) → v ≡ Err y → (r : Result Reply Why) → IsErrAnd r (λ z. z ≡ y) → leaves (settled w.session r) w.sheets c.out ≡ after_call w c
  call_refused y h = refusal_settled w c y (sym f ∙ h)

  -- what is handed back, and the sheets and the output as they are left
  pub call_done : v ≡ Ok tt → (r : Reply) (y : Sheets) (o : List ℕ) → leaves r y o ≡ effect c.call w c → leaves r y o ≡ after_call w c
  call_done h r y o k = settle_good w c (leaves r y o) (sym f ∙ h) k

-- ---- the counts in number 1

-- that each of the first counts passes is what `counts_fit` says of them
pub counts_pass : (counts : List ℕ) (n : ℕ) → n ≤ length counts → list_all (λ x. leb x 32) (take n counts) ≡ counts_fit counts n
counts_pass counts zero h = refl
counts_pass counts (suc n) h = rw (← add-one n, list_all_more (λ x. leb x 32) counts n 0 (omega arith), counts_pass counts n (omega arith))
