-- What is compared, as it is held.
use Rattle.std.specs.Prelude.{ℕ, ◌≡◌, List, [], Option, Some, option_map, unwrap_or}
use Rattle.rdma_types.specs.declared.names.Name.{Name}
use Rattle.rdma_types.specs.Objects.{CompletionQueue, Region}
use Rattle.page_pool.specs.Pool.{Pool}
use Rattle.end_queues.specs.Completions.{Queue}
use Rattle.memory_keys.specs.declared.RegisteredRegion.{RegisteredRegion}
use Rattle.memory_keys.specs.declared.RegionHead.{RegionHead}
use Rattle.memory_keys.specs.Regions.{held_at, region_of}

-- a completion queue under its name
abbrev pub shown_queue : Name × Queue → CompletionQueue
shown_queue q = record { name = q.0; capacity = q.1.capacity; entries = q.1.entries }

-- a region of this head is found under its local key
pub record IsUnder (held : List RegisteredRegion) (head : RegionHead) : Type 0 where
  pub found : RegisteredRegion
  pub head_is : found.head ≡ head
  pub there : held_at head.keys.local held ≡ Some found

-- the bytes of the region with a local key
abbrev pub bytes_under : Pool → List RegisteredRegion → ℕ → List ℕ
bytes_under pool held key = unwrap_or (option_map (λ h. (region_of pool h).bytes) (held_at key held)) []

-- the region of a head, with the bytes under its local key
abbrev pub region_under : Pool → List RegisteredRegion → RegionHead → Region
region_under pool held head = record {
  name = head.name;
  domain = head.domain;
  base = head.base;
  length = head.length;
  rights = head.rights;
  keys = head.keys;
  bytes = bytes_under pool held head.keys.local;
}
