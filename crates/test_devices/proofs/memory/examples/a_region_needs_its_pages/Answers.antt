use Rattle.std.specs.Prelude.{refl}
use Rattle.rdma_types.specs.Causes.{first_cause}
use Rattle.rdma_types.specs.Lists.{has_name, named, without, first_that, some}
use Rattle.page_pool.specs.Pool.{pages_for}
use Rattle.test_devices.proofs.memory.examples.a_region_needs_its_pages.Goals as goal

pub returns-clause-large : goal.returns-clause-large
unfolding first_cause has_name named without first_that some pages_for
returns-clause-large c = refl

pub returns-clause-small : goal.returns-clause-small
unfolding first_cause has_name named without first_that some pages_for
returns-clause-small c = refl
