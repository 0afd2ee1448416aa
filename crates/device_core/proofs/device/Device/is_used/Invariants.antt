use Rattle.std.proofs.Common.{◌≡◌, take, false}
use Rattle.rdma_types.specs.Lists.{some}
use Rattle.context_core.specs.Context.{meets}
use Rattle.device_core.proofs.device.Device.is_used.Given as goal

abbrev pub invariant-loop-place : goal.invariant-loop-place
invariant-loop-place l = some (λ c. some (meets l.keys) c.regions) (take l.place l.self.contexts) ≡ false
