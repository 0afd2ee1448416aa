use Rattle.std.specs.Prelude.{refl}
use Rattle.rdma_types.specs.Causes.{first_cause}
use Rattle.rdma_types.specs.Lists.{has_name, named, without, first_that, some}
use Rattle.test_devices.proofs.memory.examples.a_dropped_region_is_gone.Goals as goal

pub returns-clause-first : goal.returns-clause-first
unfolding first_cause has_name named without first_that some
returns-clause-first c = refl

pub returns-clause-gone : goal.returns-clause-gone
unfolding first_cause has_name named without first_that some
returns-clause-gone c = refl

pub returns-clause-second : goal.returns-clause-second
unfolding first_cause has_name named without first_that some
returns-clause-second c = refl
