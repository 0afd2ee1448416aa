use Rattle.std.proofs.Common.{arith}
use Rattle.packetless_machine.proofs.Passing.{passed_one}
use Rattle.packetless_machine.proofs.passed.passed_on.Goals as goal

pub loop-i-preserved : goal.loop-i-preserved
loop-i-preserved c =
    passed_one c.args.offers.now c.loop-i.i c.args.below c.index-offers-i.result (omega arith) c.index-offers-i.is (rw (← c.offer.view_is) c.if-offer-below.false) c.loop-i.invariant
