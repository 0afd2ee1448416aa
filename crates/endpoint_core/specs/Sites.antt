-- An end with the memory that it is lent, and the contexts of the protocol in which it stands.
use Rattle.std.specs.Prelude.{ℕ, ◌≡◌, ◌+◌, All, List, ◌++◌, drop}
use Rattle.std.specs.Borrow.{MutBor}
use Rattle.indexmap.specs.IndexMap.{IndexMap}
use Rattle.rdma_types.specs.declared.names.Name.{Name}
use Rattle.page_pool.specs.Pool.{Pool, bytes_of, free_pages}
use Rattle.end_queues.specs.Completions.{Queue}
use Rattle.memory_keys.specs.declared.RegisteredRegion.{RegisteredRegion}
use Rattle.memory_keys.specs.Regions.{AreHeld, regions_of}
use Rattle.end_queues.specs.declared.work_queues.posted.QueuedRequest.{QueuedRequest}
use Rattle.protocol.specs.State.{Context, End}
use Rattle.protocol.specs.EndWords.{with_end}
use Rattle.endpoint_core.specs.declared.memory.EndMemory.{EndMemory}
use Rattle.endpoint_core.specs.declared.end.Endpoint.{Endpoint}
use Rattle.endpoint_core.specs.Ends.{Names, end_in, untold_by}
use Rattle.endpoint_core.specs.Queues.{queues_of, StandsAt, AreReserved, KeepsReserved}
use Rattle.endpoint_core.specs.Sound.{IsEnd, KeepsLists, payload_lists, payload_pages}

-- an end, and the memory that it is lent: the pool, the regions, the queues, and the places of its two queues
pub record EndWithMemory : Type 0 where
  pub pool : Pool
  pub held : List RegisteredRegion
  pub queues : List (Name × Queue)
  pub send : ℕ
  pub recv : ℕ
  pub end : Endpoint

-- an end with what it is lent
abbrev pub site_of : EndMemory → Endpoint → EndWithMemory
site_of m e = record { pool = m.pool.now; held = m.regions.now; queues = m.queues.now.entries; send = m.send; recv = m.recv; end = e }

-- the memory that an end was lent, as it is after the call: a clause sees it as `memory.exit`, its fields in nested pairs
abbrev pub LeftMemory : Type 0 → Type 0
LeftMemory Hasher = MutBor Pool × (MutBor (List RegisteredRegion) × (MutBor (IndexMap Name Queue Hasher) × (ℕ × (ℕ × Unit {0}))))

module _ {Hasher : Type 0} where
  abbrev pub pool_left : LeftMemory Hasher → Pool
  pool_left (pool, rest) = pool.now

  abbrev pub regions_left : LeftMemory Hasher → List RegisteredRegion
  regions_left (pool, (regions, rest)) = regions.now

  abbrev pub queues_left : LeftMemory Hasher → IndexMap Name Queue Hasher
  queues_left (pool, (regions, (queues, rest))) = queues.now

  -- an end with what it was lent, as both are after the call
  abbrev pub site_left : LeftMemory Hasher → Endpoint → EndWithMemory
  site_left (pool, (regions, (queues, (send, (recv, rest))))) e = record { pool = pool.now; held = regions.now; queues = queues.now.entries; send = send; recv = recv; end = e }

-- the end in the words of the protocol, under these names
abbrev pub end_at : Names → EndWithMemory → End
end_at names s = end_in s.pool names s.end

-- what a step of an end needs and keeps; so many places more are reserved
pub record IsSound (s : EndWithMemory) (more : ℕ → ℕ) : Type 0 where
  pub end : IsEnd s.pool s.held s.end
  pub regions : AreHeld s.pool s.held
  pub reserved : AreReserved s.queues s.send s.recv s.end more

-- a context of the protocol holds this end, these regions and these queues
pub record IsHome (c : Context) (names : Names) (s : EndWithMemory) : Type 0 where
  pub regions : c.regions ≡ regions_of s.pool s.held
  pub queues : c.queues ≡ queues_of s.queues
  pub there : with_end c (end_at names s) ≡ c
  pub send : StandsAt s.queues names.send_cq s.send
  pub recv : StandsAt s.queues names.recv_cq s.recv

-- the context with the end, the regions and the queues as they are at a site
abbrev pub home : Context → Names → EndWithMemory → Context
home c names s = with_end (record c { regions = regions_of s.pool s.held; queues = queues_of s.queues }) (end_at names s)

-- all of an end but its work stays
pub record KeepsEnd (old new : Endpoint) : Type 0 where
  pub number : new.number ≡ old.number
  pub domain : new.domain ≡ old.domain
  pub send_depth : new.send_depth ≡ old.send_depth
  pub recv_depth : new.recv_depth ≡ old.recv_depth

-- so many of the oldest of these requests are gone
pub record LosesOldest (old new : List QueuedRequest) : Type 0 where
  pub gone : ℕ
  pub left : new ≡ drop gone old

-- what a step keeps where these requests are posted, and so many more places were reserved: the regions' heads and lists,
-- the lists of others, the bytes of the requests that are left, the pages of all, since those of payloads that are told or flushed are free, and what is reserved
pub record Keeps (old new : EndWithMemory) (posted : List QueuedRequest) (more : ℕ → ℕ) : Type 0 where
  pub end : KeepsEnd old.end new.end
  pub untold : LosesOldest (untold_by old.end.link ++ posted) (untold_by new.end.link)
  pub regions : new.held ≡ old.held
  pub lists : KeepsLists old.pool new.pool old.held (payload_lists (untold_by old.end.link ++ posted))
  pub kept : All (λ p. bytes_of new.pool p.payload.list ≡ bytes_of old.pool p.payload.list) (untold_by new.end.link)
  pub free : free_pages new.pool + payload_pages new.pool (untold_by new.end.link) ≡ free_pages old.pool + payload_pages old.pool (untold_by old.end.link ++ posted)
  pub queues : KeepsReserved old.queues new.queues old.send old.recv old.end new.end more
