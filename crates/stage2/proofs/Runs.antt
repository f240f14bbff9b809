-- What a run makes of the answers of the walks and the lists. A and B are one argument: a source and the other.
-- Assumes nothing.
use Rattle.std.specs.Prelude.{◌≡◌, refl, Result, Ok, Err, Option, Some, None, Bool, true, false, cond, ◌||◌, List, [], ◌∷◌, ℕ, ◌+◌, ◌≤◌, ◌<◌, ltb, leb, eqb, length, get_or, set}
use Rattle.std.proofs.Common.{sym, ap, ◌∙◌, arith, add-one, lt-ltb, le-ltb, leb-false}
use Rattle.std.specs.Result.{IsErrAnd}
use Rattle.std.proofs.lemmas.Result.{err_from_is_err_and}
use Rattle.std.proofs.lemmas.List.{take_all}
use Rattle.stamps.specs.declared.Source.{Source}
use Rattle.sheets.specs.Layout.{room_of, list_no, put_entry}
use Rattle.sheets.specs.Lists.{probed_at}
use Rattle.sheets.specs.Rows.{latest}
use Rattle.sheets.proofs.Laws.{latest_none, length_list}
use Rattle.pairs.specs.Pairs.{Table, table_of, Writes, wanted_pairs, pairs_from}
use Rattle.pairs.specs.declared.walks.Job.{Job}
use Rattle.pairs.specs.declared.walks.Scope.TheVariants.{Portion}
use Rattle.pairs.specs.declared.rooms.Written.{Written}
use Rattle.pairs.proofs.Laws.{tried_is, wanted_few, product_few, pairs_from_start}
use Rattle.rules.specs.Calls.{leaves, After, after, tries, runs, effect, settle, after_call}
use Rattle.rules.specs.Refusals.{check, room_check, verdict, idle, ran, portion_checks, run_checks, session_fits, sheet_check, own_checks}
use Rattle.rules.specs.World.{World, world, count_of, rows_of, side_of, seen_from, with_counts, note, Sheets, with_probe, given}
use Rattle.rules.specs.declared.Session.{Session}
use Rattle.rules.specs.declared.Reply.{Reply}
use Rattle.rules.specs.declared.Answer.TheVariants.{Ran, Refused}
use Rattle.rules.specs.declared.Why.{Why}
use Rattle.rules.specs.declared.Why.TheVariants.{ListFull, RoomShort}
use Rattle.rules.specs.declared.Call.TheVariants.{Run}
use Rattle.rules.proofs.Settling.{verdict_good}
use Rattle.checks.specs.Passed.{settled}
use Rattle.checks.specs.Facing.{JobFrom}
use Rattle.checks.proofs.Facing.{seen_by}
use Rattle.checks.proofs.Passing.{portion_fits}
use Rattle.stage2.specs.Work.{Listed, task_of, ran_upto, run_settled}

-- ---- what a run has to do, by the largest DTS that was found

pub task_is : (t : Table) (clock q last : ℕ) → last ≡ latest t.parts q t.a.row t.a.count
    → task_of t clock q ≡ cond (eqb last 0 || probed_at clock (t.a.list q)) (Ok None) (cond (leb 32 (length (t.a.list q))) (Err ListFull) (Ok (Some last)))
task_is t clock q last e = rw (e, ← latest_none t.parts q t.a.row t.a.count)

-- ---- an entry added

pub noted : (s : Source) (q last : ℕ) (t : Session) (x : Sheets) (probe probe' : List ℕ) (k n : ℕ) → k ≡ list_no t.parts s q → n ≡ get_or t.counts (list_no t.parts s q) 0
    → probe' ≡ put_entry k n (record { last = last; probe = t.clock }) probe
    → world (with_counts (set t.counts k (get_or t.counts k 0 + 1)) t) (with_probe probe' x) ≡ note s q last (world t (with_probe probe x))
unfolding note
noted s q last t x probe probe' k n e h f = rw (f, e, h, add-one)

-- ---- a run that has something to do

-- n pairs were counted
pub run_few : (j : Job) (n : ℕ) → n ≡ length (wanted_pairs j.scope (table_of j)) → n ≤ 16777216
run_few j n e = omega (arith, e, wanted_few j.scope (table_of j), product_few j.own.rows j.facing.rows j.own_few j.facing_few)

module _ (w : World) (s : Source) (q : ℕ) (o : List ℕ) where
  -- n pairs were counted in the box, seen from the source
  module _ {n : ℕ} (count : n ≡ length (wanted_pairs (Portion q) (seen_from s w))) where
    ran_count : n ≡ length (ran s q w)
    ran_count = rw (tried_is q (seen_from s w)) count

    pub run_short : (last : ℕ) → room_of (length o) < n → after (Refused (RoomShort n)) w o ≡ ran_upto s q last w o
    run_short last r = rw (← ran_count, lt-ltb (room_of (length o)) n r)

    pub run-done : (last : ℕ) (o' : List ℕ) (u : World) (r : Written) → n ≤ room_of (length o)
        → Writes s (seen_from s w) (pairs_from (Portion q) 0 (seen_from s w)) 0 n o o' r → u ≡ note s q last w → after (Ran n) u o' ≡ ran_upto s q last w o
    run-done last o' u r b a z = rw (a.out, z, pairs_from_start, ← tried_is q (seen_from s w), take_all n (ran s q w) (omega (arith, ran_count)), ← ran_count, le-ltb (room_of (length o)) n b)

  -- ---- the ways through a run: the task is what was found

  module _ {task : Result (Option ℕ) Why} (found : task ≡ task_of (seen_from s w) w.session.clock q) where
    did : Result (Option ℕ) Why → After
    did (Ok None) = after (Ran 0) w o
    did (Ok (Some last)) = ran_upto s q last w o
    did (Err y) = after (Refused y) w o

    did_is : did (task_of (seen_from s w) w.session.clock q) ≡ run_settled s q w o
    unfolding verdict runs did
    did_is = go (idle w s q) (leb 32 (length ((side_of w s).list q)))
      where
        room : (u : Bool) → cond u (after (Refused (RoomShort (length (ran s q w)))) w o) (tries s q w o) ≡ settle (cond u (Err (RoomShort (length (ran s q w)))) (Ok tt)) w o (tries s q w o)
        room true = refl
        room false = refl

        go : (u c : Bool) → did (cond u (Ok None) (cond c (Err ListFull) (Ok (Some (latest w.session.parts q (rows_of w s) (count_of w s))))))
            ≡ settle (verdict (cond u [] (check c ListFull ∷ room_check (room_of (length o)) (length (ran s q w)) ∷ []))) w o (cond u (after (Ran 0) w o) (tries s q w o))
        go true c = refl
        go false true = refl
        go false false = room (ltb (room_of (length o)) (length (ran s q w)))

    did_by : (x : Result (Option ℕ) Why) → task ≡ x → did x ≡ run_settled s q w o
    did_by x e = rw (sym e ∙ found, did_is)

    pub run-idle : task ≡ Ok None → after (Ran 0) w o ≡ run_settled s q w o
    unfolding did
    run-idle = did_by (Ok None)

    pub run_crowded : (y : Why) → task ≡ Err y → after (Refused y) w o ≡ run_settled s q w o
    unfolding did
    run_crowded y = did_by (Err y)

    pub run_upto : (last : ℕ) → task ≡ Ok (Some last) → ran_upto s q last w o ≡ run_settled s q w o
    unfolding did
    run_upto last = did_by (Ok (Some last))

    pub upto_room : (last : ℕ) → task ≡ Ok (Some last) → leb 32 (length ((side_of w s).list q)) ≡ false
    upto_room last e = go (idle w s q) (leb 32 (length ((side_of w s).list q))) (sym e ∙ found)
      where
        go : (u c : Bool) → Ok (Some last) ≡ cond u (Ok None) (cond c (Err ListFull) (Ok (Some (latest w.session.parts q (rows_of w s) (count_of w s))))) → c ≡ false
        go true c k = cc
        go false true k = cc
        go false false k = refl

-- ---- a run, settled: number 1 and the portion's checks, v, let it through

pub run_settled_lem : (w : World) (s : Source) (q : ℕ) (v : Result Unit Why) → v ≡ verdict (sheet_check (session_fits w) ∷ portion_checks w.session q) → v ≡ Ok tt → (o : List ℕ)
    → run_settled s q w o ≡ after_call w (given (Run s q) o)
unfolding own_checks after_call effect
run_settled_lem w s q v f h o = ap (λ (x : Result Unit Why). settle x w o (runs s q w o)) (sym (verdict_good (sheet_check (session_fits w) ∷ portion_checks w.session q) (run_checks w s q (room_of (length o))) (sym f ∙ h)))

-- ---- and the job was found to ask for the task

module _ {w : World} {s : Source} {q : ℕ} {v : Result Unit Why} {j : Job} {task : Result (Option ℕ) Why} (f : v ≡ verdict (sheet_check (session_fits w) ∷ portion_checks w.session q)) (h : v ≡ Ok tt)
    (k : JobFrom s (Portion q) w j) (e : task ≡ task_of (table_of j) w.session.clock q) (o : List ℕ) where
  found : task ≡ task_of (seen_from s w) w.session.clock q
  found = e ∙ ap (λ (t : Table). task_of t w.session.clock q) k.table

  passed : run_settled s q w o ≡ after_call w (given (Run s q) o)
  passed = run_settled_lem w s q v f h o

  pub job-idle : task ≡ Ok None → after (Ran 0) w o ≡ after_call w (given (Run s q) o)
  job-idle x = run-idle w s q o found x ∙ passed

  pub job_crowded : (y : Why) → task ≡ Err y → (r : Result Reply Why) → IsErrAnd r (λ z. z ≡ y) → leaves (settled w.session r) w.sheets o ≡ after_call w (given (Run s q) o)
  job_crowded y x r i = let p = err_from_is_err_and r i in rw (p.1, p.2) (run_crowded w s q o found y x ∙ passed)

  module _ (last : ℕ) (x : task ≡ Ok (Some last)) where
    -- the list has a place for one more entry
    pub upto_listed : Listed w.session s q (length w.sheets.probe)
    upto_listed = let p = portion_fits w q v f h in record {
      some_parts = p.0.some_parts;
      in_parts = p.2;
      few_parts = p.0.few_parts;
      size = rw (length_list w.session.parts w.session.counts w.sheets.probe s q p.2) at (leb-false 32 (length ((side_of w s).list q)) (upto_room w s q o found last x));
      probe_long = p.1.probe_long;
    }

    -- n pairs were counted
    module _ {n : ℕ} (count : n ≡ length (wanted_pairs j.scope (table_of j))) where
      counted : n ≡ length (wanted_pairs (Portion q) (seen_from s w))
      counted = seen_by s (Portion q) w j k (λ _ p t. n ≡ length (wanted_pairs p t)) count

      pub job_short : room_of (length o) < n → after (Refused (RoomShort n)) w o ≡ after_call w (given (Run s q) o)
      job_short r = run_short w s q o counted last r ∙ run_upto w s q o found last x ∙ passed

      pub job-done : (o' : List ℕ) (u : World) (r : Written) → n ≤ room_of (length o)
          → Writes j.source (table_of j) (pairs_from j.scope 0 (table_of j)) 0 n o o' r → u ≡ note s q last w → after (Ran n) u o' ≡ after_call w (given (Run s q) o)
      job-done o' u r b y z = let a = seen_by s (Portion q) w j k (λ s' p t. Writes s' t (pairs_from p 0 t) 0 n o o' r) y in
          run-done w s q o counted last o' u r b a z ∙ run_upto w s q o found last x ∙ passed
