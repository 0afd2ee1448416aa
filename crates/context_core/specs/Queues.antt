-- The room of completion queues.
use Rattle.std.specs.Prelude.{ℕ, ◌+◌, ◌<◌, ◌≡◌, Bool, List, Some, IfSome, bytes_eq, length, nat_le, position, slice_get, take}
use Rattle.std.specs.List.{IsDistinct}
use Rattle.std.specs.Map.{keys_of, values_of}
use Rattle.indexmap.specs.IndexMap.{set_value_at}
use Rattle.rdma_types.specs.declared.names.Name.{Name}
use Rattle.rdma_types.specs.declared.requests.Receive.{Receive}
use Rattle.rdma_types.specs.declared.requests.Completion.{Completion}
use Rattle.memory_keys.specs.declared.RegisteredRegion.{RegisteredRegion}
use Rattle.responder.specs.Sound.{IsPlace}
use Rattle.context_core.specs.declared.state.EndSlot.{EndSlot}
use Rattle.end_queues.specs.Completions.{Queue, polled, used_places}

-- entries and reserved places reach the capacity
abbrev pub is_full_at : Queue → Bool
is_full_at q = nat_le q.capacity (length q.entries + q.reserved)

-- the queue at a place has room for one more
abbrev pub HasRoom : List (Name × Queue) → ℕ → Type 0
HasRoom queues place = IfSome (slice_get (values_of queues) place) (λ q. used_places q < q.capacity)

-- a queue pair takes a receive: its place is granted, and the receive queue and its completion queue have room
pub record TakesReceive (regions : List RegisteredRegion) (queues : List (Name × Queue)) (e : EndSlot) (r : Receive) : Type 0 where
  pub place : IsPlace regions e.endpoint.domain r
  pub depth : length e.endpoint.recvs.items < e.endpoint.recv_depth
  pub room : HasRoom queues e.recv

-- the oldest entries of the queue with a name were handed out
pub record IsPolled (old new : List (Name × Queue)) (name : Name) (most : ℕ) (entries : List Completion) : Type 0 where
  pub place : ℕ
  pub queue : Queue
  pub found : position (bytes_eq name) (keys_of old) ≡ Some place
  pub there : slice_get (values_of old) place ≡ Some queue
  pub distinct : IsDistinct bytes_eq (keys_of old)
  pub handed : entries ≡ take most queue.entries
  pub rest : new ≡ set_value_at old place (polled queue most)
