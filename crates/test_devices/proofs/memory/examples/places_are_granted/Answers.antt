use Rattle.std.specs.Prelude.{refl}
use Rattle.rdma_types.specs.Memory.{allows, granted, grants, holds}
use Rattle.rdma_types.specs.Lists.{first_that}
use Rattle.test_devices.proofs.memory.examples.places_are_granted.Goals as goal

pub returns-clause-whole : goal.returns-clause-whole
unfolding allows granted grants holds first_that
returns-clause-whole c = refl

pub returns-clause-last : goal.returns-clause-last
unfolding allows granted grants holds first_that
returns-clause-last c = refl

pub returns-clause-past : goal.returns-clause-past
unfolding allows granted grants holds first_that
returns-clause-past c = refl

pub returns-clause-other : goal.returns-clause-other
unfolding allows granted grants holds first_that
returns-clause-other c = refl
