-- What a context holds, and the protocol's context that it is.
use Rattle.std.specs.Prelude.{ℕ, ◌≡◌, ◌+◌, ◌<◌, ◌≤◌, ◌⊎◌, ◌==◌, ◌||◌, Bool, List, [], ◌++◌, length, map, sum_by, get_or, All, Contains, None, nat_eq, bytes_eq}
use Rattle.std.specs.List.{IsDistinct, flat_map}
use Rattle.std.specs.Map.{keys_of}
use Rattle.rdma_types.specs.declared.names.Name.{Name}
use Rattle.rdma_types.specs.declared.requests.Keys.{Keys}
use Rattle.rdma_types.specs.Limits.{most_queues}
use Rattle.rdma_types.specs.Objects.{Region}
use Rattle.page_pool.specs.Pool.{Pool, IsIn, bytes_of, pages_of, free_pages}
use Rattle.end_queues.specs.Completions.{Queue}
use Rattle.memory_keys.specs.declared.RegisteredRegion.{RegisteredRegion}
use Rattle.memory_keys.specs.Regions.{AreHeld, AreKeyed, regions_of}
use Rattle.end_queues.specs.declared.work_queues.posted.QueuedRequest.{QueuedRequest}
use Rattle.protocol.specs.State.{Context, End, no_context}
use Rattle.protocol.specs.Memory.{pages_of_context, pages_of_request}
use Rattle.endpoint_core.specs.Ends.{Names, end_in, untold_by}
use Rattle.endpoint_core.specs.Queues.{nothing, promised, queues_of, reserved_in}
use Rattle.endpoint_core.specs.Sites.{EndWithMemory}
use Rattle.endpoint_core.specs.Sound.{IsEnd, payload_lists}
use Rattle.context_core.specs.declared.state.EndSlot.{EndSlot}

-- domains, regions, completion queues and queue pairs, in order of making
pub record Holding : Type 0 where
  pub domains : List Name
  pub regions : List RegisteredRegion
  pub queues : List (Name × Queue)
  pub ends : List (Name × EndSlot)

-- nothing
abbrev pub no_holding : Holding
no_holding = record { domains = []; regions = []; queues = []; ends = [] }

-- ---- in the protocol's words

-- the name of the completion queue at a place
abbrev pub queue_name : List (Name × Queue) → ℕ → Name
queue_name queues place = get_or (keys_of queues) place []

-- a queue pair's name and those of its completion queues
abbrev pub names_in : List (Name × Queue) → Name × EndSlot → Names
names_in queues e = record { name = e.0; send_cq = queue_name queues e.1.send; recv_cq = queue_name queues e.1.recv }

-- a queue pair
abbrev pub end_of : Pool → List (Name × Queue) → Name × EndSlot → End
end_of pool queues e = end_in pool (names_in queues e) e.1.endpoint

-- the context of the protocol, with the bytes that lie in a pool
unfoldable pub context_in : Pool → Name → Holding → Context
context_in pool n h = record {
  name = n;
  domains = h.domains;
  regions = regions_of pool h.regions;
  queues = queues_of h.queues;
  ends = map (end_of pool h.queues) h.ends;
}

-- a queue pair with what it is lent
abbrev pub site_in : Pool → Holding → Name × EndSlot → EndWithMemory
site_in pool h e = record { pool = pool; held = h.regions; queues = h.queues; send = e.1.send; recv = e.1.recv; end = e.1.endpoint }

-- a region has one of these keys
abbrev pub meets : Keys → Region → Bool
meets keys x = (x.keys.local == keys.local || x.keys.remote == keys.local) || (x.keys.local == keys.remote || x.keys.remote == keys.remote)

-- ---- page lists

-- the untold requests of a queue pair
abbrev pub untold_at : Name × EndSlot → List QueuedRequest
untold_at e = untold_by e.1.endpoint.link

-- .. of some queue pairs
abbrev pub posted_of : List (Name × EndSlot) → List QueuedRequest
posted_of ends = flat_map untold_at ends

-- the page lists of the payloads of queue pairs
abbrev pub payloads_of : List (Name × EndSlot) → List ℕ
payloads_of ends = flat_map (λ e. payload_lists (untold_at e)) ends

-- the page lists of its regions and of the payloads of its requests
unfoldable pub lists_of : Holding → List ℕ
lists_of h = map (λ r. r.list) h.regions ++ payloads_of h.ends

-- ---- what a context keeps between its events

-- both completion queues of a queue pair are there
abbrev pub HasQueues : List (Name × Queue) → Name × EndSlot → Type 0
HasQueues queues e = (e.1.send < length queues) × (e.1.recv < length queues)

-- a payload has the pages that its request takes, counted from its region's base
abbrev pub IsPaged : Pool → List RegisteredRegion → QueuedRequest → Type 0
IsPaged pool held p = pages_of (bytes_of pool p.payload.list) ≡ pages_of_request (record no_context { regions = regions_of pool held }) p.request

-- each queue pair is sound, no two have a payload's list, and each completion queue has as many places reserved as their
-- work takes, and so many more
pub record IsHolding (pool : Pool) (h : Holding) (more : ℕ → ℕ) : Type 0 where
  pub held : AreHeld pool h.regions
  pub keyed : AreKeyed h.regions
  pub ends : All (λ e. IsEnd pool h.regions e.1.endpoint) h.ends
  pub placed : All (HasQueues h.queues) h.ends
  pub apart : IsDistinct nat_eq (payloads_of h.ends)
  pub paged : All (λ e. All (IsPaged pool h.regions) (untold_at e)) h.ends
  pub reserved : (place : ℕ) → reserved_in h.queues place ≡ sum_by (λ e. promised e.1.send e.1.recv e.1.endpoint place) h.ends + more place
  pub queue_names : IsDistinct bytes_eq (keys_of h.queues)
  pub end_names : IsDistinct bytes_eq (keys_of h.ends)
  pub few_queues : length h.queues ≤ most_queues

-- .. and none more
pub record IsContext (pool : Pool) (h : Holding) : Type 0 where
  pub is : IsHolding pool h nothing

-- a step of a context: other lists are as they were, new lists are of numbers that no list had, and what it takes or gives
-- back is counted
pub record Moves (old new : Pool) (before after : Holding) : Type 0 where
  pub pages : new.pages ≡ old.pages
  pub others : (list : ℕ) → IsIn old list → (Contains (lists_of before) list → ⊥) → bytes_of new list ≡ bytes_of old list
  pub fresh : (list : ℕ) → Contains (lists_of after) list → Contains (lists_of before) list ⊎ (bytes_of old list ≡ None)
  pub free : (n : Name) → free_pages new + pages_of_context (context_in new n after) ≡ free_pages old + pages_of_context (context_in old n before)
