use Rattle.packetless_machine.proofs.Marks.{mark_kept}
use Rattle.packetless_machine.proofs.end.End.post.Goals as goal

pub invariant_of-self-2 : goal.invariant_of-self-2
invariant_of-self-2 c = record {
  expiries = c.self.invariant.expiries;
  receives = c.self.invariant.receives;
  mark = rw c.in_ok-push.ensures.items (mark_kept _ _ _ _ _ c.self.invariant.mark);
  passed = c.self.invariant.passed;
}
