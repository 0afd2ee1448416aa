use Rattle.protocol.proofs.NearNumbers.{found, known, unique}
use Rattle.protocol.proofs.laws.a_wire_number_means_one_number.Goals as goal

pub returns-clause-found : goal.returns-clause-found
returns-clause-found c = found

pub returns-clause-known : goal.returns-clause-known
returns-clause-known c = known

pub returns-clause-unique : goal.returns-clause-unique
returns-clause-unique c = unique
