use Rattle.std.proofs.Common.{◌≡◌, take}
use Rattle.std.specs.Prelude.{map}
use Rattle.rdma_types.specs.declared.names.Name.{Name}
use Rattle.protocol.specs.Images.{end_image}
use Rattle.context_core.specs.Context.{context_in, end_of}
use Rattle.context_core.proofs.state.ContextState.end_images.Given as goal

abbrev pub invariant-loop-place : goal.invariant-loop-place
invariant-loop-place l = (n : Name) → l.images.items ≡ map (end_image (context_in l.pool n l.self)) (map (end_of l.pool l.self.queues) (take l.place l.self.ends))
