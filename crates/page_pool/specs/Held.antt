-- What a payload stands for.
use Rattle.std.specs.Prelude.{ℕ, ◌+◌, ◌≤◌, List, length}
use Rattle.rdma_types.specs.Memory.{cut}
use Rattle.page_pool.specs.Pool.{Pool, IsIn, bytes_in}
use Rattle.page_pool.specs.declared.Payload.{Payload}

-- the list of a payload lives, and its bytes are inside it
pub record HoldsPayload (pool : Pool) (payload : Payload) : Type 0 where
  pub lives : IsIn pool payload.list
  pub inside : payload.first + payload.length ≤ length (bytes_in pool payload.list)

-- the bytes of a payload
unfoldable pub payload_bytes : Pool → Payload → List ℕ
payload_bytes pool payload = cut payload.first payload.length (bytes_in pool payload.list)
