-- Payloads of posted requests that lie in a pool.
use Rattle.std.specs.Prelude.{All}
use Rattle.rdma_types.specs.declared.names.Name.{Name}
use Rattle.page_pool.specs.Pool.{Pool}
use Rattle.page_pool.specs.Held.{HoldsPayload}
use Rattle.context_core.specs.declared.state.EndSlot.{EndSlot}
use Rattle.context_core.specs.Context.{untold_at}

-- the payloads of a queue pair's untold requests lie in the pool
abbrev pub HasPayloads : Pool → Name × EndSlot → Type 0
HasPayloads pool e = All (λ p. HoldsPayload pool p.payload) (untold_at e)
