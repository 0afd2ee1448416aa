use Rattle.std.proofs.Common.{arith}
use Rattle.rdma_types.specs.Spelled.{front_len}
use Rattle.rdma_types.proofs.Held.{zero_held}
use Rattle.rdma_types.proofs.names.Name.len.Goals as goal

pub returns-in-Some : goal.returns-in-Some
returns-in-Some c = grind (arith, c.in-Some.is, c.first_zero.ensures, c.self.view_is, zero_held c.self.inside.bytes (front_len c.self.inside.bytes) c.self.invariant.0)

pub returns-in-None : goal.returns-in-None
returns-in-None c = grind (arith, c.in-None.is, c.first_zero.ensures, c.self.view_is, c.self.invariant.0.front, zero_held c.self.inside.bytes (front_len c.self.inside.bytes) c.self.invariant.0)
