-- What the counts of an end keep.
use Rattle.std.specs.Prelude.{ℕ, ◌≤◌, ◌≡◌, ◌<◌, List, length, take}
use Rattle.std.specs.List.{All}
use Rattle.rdma_types.specs.Objects.{Posted}
use Rattle.rdma_types.specs.Spans.{first_number}
use Rattle.packetless_machine.specs.Machine.{Offered}

-- a place among the requests, and the first packet number of the request there
pub record IsMark (posted : List Posted) (mtu place number : ℕ) : Type 0 where
  pub within : place ≤ length posted
  pub first : number ≡ first_number posted mtu place

-- so many offers are passed: they are of requests before number `below`
pub record IsPassed (offers : List Offered) (count below : ℕ) : Type 0 where
  pub within : count ≤ length offers
  pub earlier : All (λ o. o.request < below) (take count offers)

-- no more is counted than the terms allow, packet numbers are counted up to a mark, and offers are passed
pub record IsCounted (retry rnr spent waits : ℕ) (posted : List Posted) (mtu place number : ℕ) (offers : List Offered) (count below : ℕ) : Type 0 where
  pub expiries : spent ≤ retry
  pub receives : waits ≤ rnr
  pub mark : IsMark posted mtu place number
  pub passed : IsPassed offers count below
