use Rattle.std.proofs.Common.{rules}
use Rattle.packetless_machine.specs.Steps.{may_land_offer}
use Rattle.packetless_machine.proofs.end.End.may_land.Goals as goal

pub returns-then-offer-self-clause-next : goal.returns-then-offer-self-clause-next
unfolding may_land_offer
returns-then-offer-self-clause-next c = search rules

pub returns-else-offer-self-clause-next : goal.returns-else-offer-self-clause-next
unfolding may_land_offer
returns-else-offer-self-clause-next c = search rules
