use Rattle.endpoint_core.proofs.Reserved.{reserved-is}
use Rattle.endpoint_core.proofs.laws.reservations_are_the_protocols.Goals as goal

pub returns : goal.returns
returns c = reserved-is
