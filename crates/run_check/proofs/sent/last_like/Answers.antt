use Rattle.std.proofs.Common.{arith, ◌-◌, length}
use Rattle.run_check.specs.Checks.{IsAt}
use Rattle.run_check.proofs.Finders.{last_more, not_where}
use Rattle.run_check.proofs.sent.last_like.Goals as goal

pub loop-i-preserved : goal.loop-i-preserved
loop-i-preserved c = last_more (IsAt c.args.flights.now c.args.from c.args.to c.args.bytes.now) (length c.args.flights.now) c.loop-i.i (length c.args.flights.now - 1 - c.loop-i.i) (omega arith) c.loop-i.invariant (not_where c.is_at.result c.if-is_at.false c.is_at.ensures)

pub returns-clause-none : goal.returns-clause-none
returns-clause-none c = λ _ there. c.loop-i.invariant there.0 (omega arith) (there.1, there.2)
