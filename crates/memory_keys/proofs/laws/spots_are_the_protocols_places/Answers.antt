use Rattle.memory_keys.proofs.Protocol.{place-refused, place-region, place-offset}
use Rattle.memory_keys.proofs.laws.spots_are_the_protocols_places.Goals as goal

pub returns-clause-refused : goal.returns-clause-refused
returns-clause-refused c = place-refused

pub returns-clause-region : goal.returns-clause-region
returns-clause-region c = place-region

pub returns-clause-offset : goal.returns-clause-offset
returns-clause-offset c = place-offset
