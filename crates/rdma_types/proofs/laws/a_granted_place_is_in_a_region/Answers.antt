use Rattle.rdma_types.proofs.Grants.{granting, passing, found, empty, there}
use Rattle.rdma_types.proofs.laws.a_granted_place_is_in_a_region.Goals as goal

pub returns-clause-granting : goal.returns-clause-granting
returns-clause-granting c = granting

pub returns-clause-granted : goal.returns-clause-granted
returns-clause-granted c = passing

pub returns-clause-found : goal.returns-clause-found
returns-clause-found c = found

pub returns-clause-empty : goal.returns-clause-empty
returns-clause-empty c = empty

pub returns-clause-there : goal.returns-clause-there
returns-clause-there c = there
