use Rattle.std.proofs.Common.{arith, ◌+◌, ◌≤◌}
use Rattle.packetless_machine.proofs.Counts.{one_more}
use Rattle.packetless_machine.proofs.end.End.wait.Goals as goal

pub overflow_add-self : goal.overflow_add-self
overflow_add-self c =
    let more : c.self.inside.waits + 1 ≤ c.self.inside.rnr = one_more _ _ c.self.invariant.receives (rw (← c.self.view_is) at c.requires) in
    omega (arith, more)

pub invariant_of-self : goal.invariant_of-self
invariant_of-self c = record {
  expiries = c.self.invariant.expiries;
  receives = one_more _ _ c.self.invariant.receives (rw (← c.self.view_is) at c.requires);
  mark = c.self.invariant.mark;
  passed = c.self.invariant.passed;
}
