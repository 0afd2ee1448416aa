use Rattle.std.proofs.Common.{ap}
use Rattle.rdma_types.specs.Lists.{first_that}
use Rattle.memory_keys.specs.Regions.{held_at}
use Rattle.test_devices.proofs.endpoints.replies.memory.Goals as goal

pub register-requires-clause-held : goal.register-requires-clause-held
register-requires-clause-held c = c.make-regions.ensures.held c.in_ok-pool.pool

pub register-requires-clause-new : goal.register-requires-clause-new
unfolding first_that
register-requires-clause-new c = ap (held_at 16777218) c.make-regions.ensures.empty
