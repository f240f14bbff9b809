-- As `first` says: the rows up to it have partners.
use Rattle.std.proofs.Common.{arith}
use Rattle.pairs.specs.Lones.{lones_left}
use Rattle.pairs.proofs.LoneTurns.{lone_none, lone_some}
use Rattle.pairs.proofs.RoomTurns.{goes_on}
use Rattle.pairs.proofs.lone_rows.LoneRowsIterator.next.Goals as goal

pub returns-in_err-row-clause-steps : goal.returns-in_err-row-clause-steps
returns-in_err-row-clause-steps c = rw c.from_residual.ensures (lone_none c.args.self.now c.in_err-row.ensures)

pub overflow_add-self : goal.overflow_add-self
overflow_add-self c = omega (arith, (lone_some c.args.self.now c.in_ok-row.row c.in_ok-row.ensures).1.1, c.args.self.now.few)

pub returns-clause-steps : goal.returns-clause-steps
returns-clause-steps c = lone_some c.args.self.now c.in_ok-row.row c.in_ok-row.ensures

pub returns-clause-goes : goal.returns-clause-goes
returns-clause-goes c = goes_on lones_left _ _ _ c.in_ok-row.row (lone_some c.args.self.now c.in_ok-row.row c.in_ok-row.ensures).1.0
