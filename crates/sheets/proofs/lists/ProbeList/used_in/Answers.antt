-- The entries of the block so far have been asked.
use Rattle.std.proofs.Common.{arith}
use Rattle.stamps.specs.Stamps.{covers}
use Rattle.stamps.proofs.StampsLaws.{covers_both}
use Rattle.sheets.specs.Layout.{entry_at}
use Rattle.sheets.proofs.ListTurns.{asked_none, asked_more, asked_all}
use Rattle.sheets.proofs.lists.ProbeList.used_in.Goals as goal

pub loop-e-init : goal.loop-e-init
loop-e-init g c = let list = c.args.self.now in
    asked_none (λ e. covers (entry_at list.probe.now list.number e) c.args.x c.args.y) _

pub loop-e-preserved : goal.loop-e-preserved
loop-e-preserved g c = let list = c.args.self.now in
    asked_more (λ e. covers (entry_at list.probe.now list.number e) c.args.x c.args.y) _ _ _ _ (omega arith) c.loop-e.invariant (rw (c.run_took.ensures, c.run_met.ensures, covers_both, c.entry-entry.ensures))

pub returns : goal.returns
returns g c = let list = c.args.self.now in
    asked_all (λ e. covers (entry_at list.probe.now list.number e) c.args.x c.args.y) c.args.first _ c.loop-e.e _ (omega arith) c.loop-e.invariant
