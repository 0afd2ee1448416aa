use Rattle.std.proofs.Common.{◌≡◌, false, take, List}
use Rattle.std.specs.Prelude.{map}
use Rattle.rdma_types.specs.declared.names.Name.{Name}
use Rattle.rdma_types.specs.Lists.{some}
use Rattle.page_pool.specs.Pool.{Pool}
use Rattle.end_queues.specs.Completions.{Queue}
use Rattle.protocol.specs.Refusals.{names_key}
use Rattle.context_core.specs.Context.{end_of}
use Rattle.context_core.proofs.naming.is_named.Given as goal

abbrev pub invariant-loop-place : goal.invariant-loop-place
invariant-loop-place l = (pool : Pool) (queues : List (Name × Queue)) → some (names_key l.key) (take l.place (map (end_of pool queues) l.ends.entries)) ≡ false
