use Rattle.std.proofs.Common.{arith, rules}
use Rattle.packetless_machine.specs.Reading.{is_offer_of}
use Rattle.packetless_machine.proofs.Places.{found_here, not_here, nowhere}
use Rattle.packetless_machine.proofs.reading.offer_in.Goals as goal

pub loop-i-preserved : goal.loop-i-preserved
loop-i-preserved c =
    not_here (is_offer_of c.args.request c.args.offset c.args.bytes.now) c.args.offers.now c.loop-i.i c.index-offers-i.result (omega arith) c.index-offers-i.is (search rules) c.loop-i.invariant

pub returns : goal.returns
returns c = nowhere (is_offer_of c.args.request c.args.offset c.args.bytes.now) c.args.offers.now c.loop-i.i (omega arith) (omega arith) c.loop-i.invariant

pub returns-then-is_offer_of : goal.returns-then-is_offer_of
returns-then-is_offer_of c =
    found_here (is_offer_of c.args.request c.args.offset c.args.bytes.now) c.args.offers.now c.loop-i.i c.index-offers-i.result (omega arith) c.index-offers-i.is (search rules) c.loop-i.invariant
