use Rattle.std.proofs.Common.{arith, ◌+◌, ◌≤◌}
use Rattle.packetless_machine.proofs.Counts.{one_more}
use Rattle.packetless_machine.proofs.end.End.expire.Goals as goal

pub overflow_add-self : goal.overflow_add-self
overflow_add-self c =
    let more : c.self.inside.spent + 1 ≤ c.self.inside.retry = one_more _ _ c.self.invariant.expiries (rw (← c.self.view_is) at c.requires) in
    omega (arith, more)

pub invariant_of-self : goal.invariant_of-self
invariant_of-self c = record {
  expiries = one_more _ _ c.self.invariant.expiries (rw (← c.self.view_is) at c.requires);
  receives = c.self.invariant.receives;
  mark = c.self.invariant.mark;
  passed = c.self.invariant.passed;
}
