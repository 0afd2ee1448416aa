-- Limits of devices, contexts and connections (this project's choice, but for the ranges of the terms).
use Rattle.std.specs.Prelude.{ℕ, ◌≡◌, ◌<◌, ◌≤◌, ◌^◌, ◌==◌, ◌||◌, Bool, true}
use Rattle.rdma_types.specs.declared.requests.Terms.{Terms}

-- devices of a world
abbrev pub most_devices : ℕ
most_devices = 16

-- live contexts of a device
abbrev pub most_contexts : ℕ
most_contexts = 64

-- husks of a device
abbrev pub most_husks : ℕ
most_husks = 256

-- domains of a context
abbrev pub most_domains : ℕ
most_domains = 64

-- regions of a context
abbrev pub most_regions : ℕ
most_regions = 256

-- completion queues of a context
abbrev pub most_queues : ℕ
most_queues = 64

-- queue pairs of a context
abbrev pub most_ends : ℕ
most_ends = 64

-- queue pair numbers of a device: they have 16 bits below its id
abbrev pub most_numbers : ℕ
most_numbers = 65535

-- pairs of keys of a device: keys have 24 bits below its id, and the lowest says which of a pair
abbrev pub most_keys : ℕ
most_keys = 8388607

-- bytes of a region
abbrev pub most_region_bytes : ℕ
most_region_bytes = 16777216

-- requests of a send queue, and receives of a receive queue
abbrev pub most_depth : ℕ
most_depth = 256

-- entries of a completion queue
abbrev pub most_capacity : ℕ
most_capacity = 16384

-- bytes of a message
abbrev pub most_bytes : ℕ
most_bytes = 1048576

-- unacknowledged request packets of an end
abbrev pub window : ℕ
window = 64

-- atomic replies that a responder keeps
abbrev pub most_kept : ℕ
most_kept = 16

-- moves of an end
abbrev pub most_moves : ℕ
most_moves = 65535

-- no packet number reaches this
abbrev pub number_limit : ℕ
number_limit = 2 ^ 62

-- bytes of a page
abbrev pub page_size : ℕ
page_size = 4096

-- pages of a device
abbrev pub pages : ℕ
pages = 8192

-- datagrams that the network's store keeps
abbrev pub most_flights : ℕ
most_flights = 16384

-- how late a datagram may be, in packet numbers
abbrev pub latest : ℕ
latest = 4194304

-- one of the five payload sizes of a packet (IBA)
abbrev pub is_mtu : ℕ → Bool
is_mtu n = (n == 256) || ((n == 512) || ((n == 1024) || ((n == 2048) || (n == 4096))))

-- the terms of a connection are in their ranges
pub record AreTerms (t : Terms) : Type 0 where
  pub mtu : is_mtu t.mtu ≡ true
  pub own_start : t.own_start < 2 ^ 24
  pub peer_start : t.peer_start < 2 ^ 24
  pub retry : t.retry ≤ 7
  pub rnr : t.rnr ≤ 7
  pub some_reads : 1 ≤ t.reads
  pub few_reads : t.reads ≤ 16
