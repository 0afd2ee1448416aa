use Rattle.packetless_machine.proofs.Passing.{behind_passed}
use Rattle.packetless_machine.proofs.end.End.offer_place.Goals as goal

pub returns : goal.returns
returns c =
    rw (← c.self.view_is, c.offer_in-2.ensures, c.deref-2.ensures.value) (behind_passed _ _ _ c.args.i c.args.offset c.args.bytes.now c.self.invariant.passed c.if-i-below.false)
