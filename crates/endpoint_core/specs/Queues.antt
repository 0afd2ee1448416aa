-- The completion queues that an end is lent, and the places of them that are promised to its work.
use Rattle.std.specs.Prelude.{ℕ, zero, suc, ◌≡◌, ◌+◌, ◌≤◌, ◌<◌, ◌==◌, List, [], ◌∷◌, length, map, position, Some, bytes_eq, slice_get, if◌then◌else◌}
use Rattle.std.specs.Option.{option_map_or}
use Rattle.std.specs.Map.{keys_of}
use Rattle.rdma_types.specs.declared.names.Name.{Name}
use Rattle.rdma_types.specs.Objects.{CompletionQueue}
use Rattle.rdma_types.specs.declared.requests.Completion.{Completion}
use Rattle.end_queues.specs.Completions.{Queue}
use Rattle.end_completions.specs.Completing.{settled}
use Rattle.endpoint_core.specs.declared.end.Endpoint.{Endpoint}
use Rattle.endpoint_core.specs.Ends.{untold_by, used_by}

-- the queues of a context, each under its name
abbrev pub queues_of : List (Name × Queue) → List CompletionQueue
queues_of queues = map (λ q. record { name = q.0; capacity = q.1.capacity; entries = q.1.entries }) queues

-- the first queue of that name stands at that place
abbrev pub StandsAt : List (Name × Queue) → Name → ℕ → Type 0
StandsAt queues name place = position (bytes_eq name) (keys_of queues) ≡ Some place

-- the queue at a place with these completions, where the work that took so many reserved places is done
abbrev pub settle_at : List (Name × Queue) → ℕ → ℕ → List Completion → List (Name × Queue)
settle_at [] place n more = []
settle_at (q ∷ qs) zero n more = (q.0, settled n more q.1) ∷ qs
settle_at (q ∷ qs) (suc place) n more = q ∷ settle_at qs place n more

-- how many places of a queue are reserved, and 0 where there is no queue
abbrev pub reserved_in : List (Name × Queue) → ℕ → ℕ
reserved_in queues place = option_map_or (λ q. q.1.reserved) (slice_get queues place) 0

-- a number at one place, and 0 at the others
abbrev pub count_at : ℕ → ℕ → ℕ → ℕ
count_at here n place = if here == place then n else 0

-- how many receives an end has, unused or in use
abbrev pub receives_of : Endpoint → ℕ
receives_of e = length e.recvs.items + length (used_by e.link)

-- the entries that the work of an end will take of the queue at a place, where its two queues have those places
abbrev pub promised : ℕ → ℕ → Endpoint → ℕ → ℕ
promised send recv e place = count_at send (length (untold_by e.link)) place + count_at recv (receives_of e) place

-- both queues are there, and each place has as many reserved as the work takes, and so many more
pub record AreReserved (queues : List (Name × Queue)) (send recv : ℕ) (e : Endpoint) (more : ℕ → ℕ) : Type 0 where
  pub send_there : send < length queues
  pub recv_there : recv < length queues
  pub enough : (place : ℕ) → promised send recv e place + more place ≤ reserved_in queues place

-- nothing more
abbrev pub nothing : ℕ → ℕ
nothing place = 0

-- the queues are as many under the same names with the same room, and what is reserved changes by what the work takes;
-- so many more of its places were reserved before
pub record KeepsReserved (old new : List (Name × Queue)) (send recv : ℕ) (before after : Endpoint) (more : ℕ → ℕ) : Type 0 where
  pub names : keys_of new ≡ keys_of old
  pub capacities : map (λ q. q.1.capacity) new ≡ map (λ q. q.1.capacity) old
  pub balance : (place : ℕ) → reserved_in new place + (promised send recv before place + more place) ≡ reserved_in old place + promised send recv after place
