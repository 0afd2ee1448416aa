use Rattle.std.specs.Prelude.{refl}
use Rattle.rdma_types.specs.Causes.{first_cause}
use Rattle.rdma_types.specs.Lists.{has_name, named, without, first_that, some}
use Rattle.test_devices.proofs.memory.examples.a_name_is_taken_once.Goals as goal

pub returns : goal.returns
unfolding first_cause has_name named without first_that some
returns c = refl
