use Rattle.packetless_machine.proofs.Passing.{passed_kept}
use Rattle.packetless_machine.proofs.end.End.offer.Goals as goal

pub invariant_of-self-2 : goal.invariant_of-self-2
invariant_of-self-2 c = record {
  expiries = c.self.invariant.expiries;
  receives = c.self.invariant.receives;
  mark = c.self.invariant.mark;
  passed = rw c.in_ok-push.ensures.items (passed_kept _ _ _ _ c.self.invariant.passed);
}
