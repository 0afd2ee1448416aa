-- What the regions of a context hold and grant, over a pool of pages.
use Rattle.std.specs.Prelude.{ℕ, ◌≡◌, ◌≢◌, ◌+◌, ◌-◌, ◌*◌, ◌%◌, ◌≤◌, ◌<◌, ◌==◌, ◌&&◌, Bool, List, [], ◌∷◌, ◌++◌, length, take, map, Option, Some, None, option_map, IsSomeAnd, All, nat_eq, nat_le, bytes_eq, if◌then◌else◌, unwrap_or, replicate, slice_get, remove}
use Rattle.std.specs.List.{IsDistinct}
use Rattle.rdma_types.specs.declared.names.Name.{Name}
use Rattle.rdma_types.specs.Lists.{first_that, named}
use Rattle.rdma_types.specs.Memory.{Right, allows, granted, cut}
use Rattle.rdma_types.specs.Objects.{Region, no_region}
use Rattle.page_pool.specs.Pool.{Pool, IsIn, bytes_of, bytes_in, pages_for}
use Rattle.protocol.specs.Memory.{stored}
use Rattle.memory_keys.specs.declared.RegisteredRegion.{RegisteredRegion}
use Rattle.memory_keys.specs.declared.RegionHead.{RegionHead}
use Rattle.memory_keys.specs.declared.RegionRange.{RegionRange}

-- the region with a local key
abbrev pub held_at : ℕ → List RegisteredRegion → Option RegisteredRegion
held_at key held = first_that (λ h. h.head.keys.local == key) held

-- no two regions have a local key, and a remote key is the number after the local one
pub record AreKeyed (held : List RegisteredRegion) : Type 0 where
  pub distinct : IsDistinct nat_eq (map (λ h. h.head.keys.local) held)
  pub pairs : All (λ h. h.head.keys.remote ≡ h.head.keys.local + 1) held

-- a region with its bytes
abbrev pub region_of : Pool → RegisteredRegion → Region
region_of pool h = record {
  name = h.head.name;
  domain = h.head.domain;
  base = h.head.base;
  length = h.head.length;
  rights = h.head.rights;
  keys = h.head.keys;
  bytes = take h.head.length (bytes_in pool h.list);
}

-- a region of zeros
abbrev pub blank_region : RegionHead → Region
blank_region head = record {
  name = head.name;
  domain = head.domain;
  base = head.base;
  length = head.length;
  rights = head.rights;
  keys = head.keys;
  bytes = replicate head.length 0;
}

-- the regions with their bytes
abbrev pub regions_of : Pool → List RegisteredRegion → List Region
regions_of pool held = map (region_of pool) held

-- a region holds so many bytes from the address on
abbrev pub holds_range : RegionHead → ℕ → ℕ → Bool
holds_range head at count = nat_le head.base at && nat_le (at + count) (head.base + head.length)

-- what a grant asks of a region besides its key
abbrev pub gives : RegionHead → Name → ℕ → ℕ → Right → Bool
gives head domain at count right = bytes_eq head.domain domain && (allows head.rights right && holds_range head at count)

-- the spot of so many bytes in a region from an address on
abbrev pub place_in : ℕ → ℕ → Region → RegionRange
place_in at count r = record { region = r.keys.local; off = at - r.base; length = count }

-- the place in the region that grants it; a place of no bytes is granted, and in no region
abbrev pub granted_spot : (Region → ℕ) → List Region → Name → ℕ → ℕ → ℕ → Right → Option RegionRange
granted_spot key_of regions domain key at count right =
    if count == 0 then Some (record { region = 0; off = 0; length = 0 })
    else option_map (place_in at count) (granted key_of regions domain key at count right)

-- the pages of a region live, and hold its bytes
pub record Lies (pool : Pool) (h : RegisteredRegion) : Type 0 where
  pub lives : IsIn pool h.list
  pub size : length (bytes_in pool h.list) ≡ 4096 * pages_for h.head.length

-- each region has a list of its own, which lives in the pool and has exactly the pages of the region
pub record AreHeld (pool : Pool) (held : List RegisteredRegion) : Type 0 where
  pub lie : All (Lies pool) held
  pub apart : IsDistinct nat_eq (map (λ h. h.list) held)

-- a list that lived lives on, and is as long as it was
pub record KeepsLength (old new : Pool) (list : ℕ) : Type 0 where
  pub lives : IsIn old list → IsIn new list
  pub size : length (bytes_in new list) ≡ length (bytes_in old list)

-- lists of no region are as they were
pub record KeepsOthers (old new : Pool) (held : List RegisteredRegion) : Type 0 where
  pub pages : new.pages ≡ old.pages
  pub others : (list : ℕ) → IsIn old list → All (λ h. h.list ≢ list) held → bytes_of new list ≡ bytes_of old list

-- one region more behind the others, of this head, with a list that was new
pub record IsAdded (pool : Pool) (old new : List RegisteredRegion) (head : RegionHead) : Type 0 where
  pub held : RegisteredRegion
  pub head_is : held.head ≡ head
  pub fresh : bytes_of pool held.list ≡ None
  pub behind : new ≡ old ++ held ∷ []

-- a spot of no bytes, or one inside a region that is held
abbrev pub IsSpot : List RegisteredRegion → RegionRange → Type 0
IsSpot held spot = 0 < spot.length → IsSomeAnd (held_at spot.region held) (λ h. spot.off + spot.length ≤ h.head.length)

-- a part of a spot: so many bytes, from one of its bytes on
abbrev pub part_of : RegionRange → ℕ → ℕ → RegionRange
part_of spot from count = record { region = spot.region; off = spot.off + from; length = count }

-- the regions with bytes at a spot
abbrev pub stored_at : RegionRange → List ℕ → List Region → List Region
stored_at spot new regions = map (λ r. if r.keys.local == spot.region then stored r spot.off new else r) regions

-- the bytes of a spot
abbrev pub spot_bytes : Pool → List RegisteredRegion → RegionRange → List ℕ
spot_bytes pool held spot = unwrap_or (option_map (λ h. cut spot.off spot.length (bytes_in pool h.list)) (held_at spot.region held)) []

-- the pages that a spot touches, counted from its region's base
abbrev pub pages_touched : RegionRange → ℕ
pages_touched spot = if spot.length == 0 then 0 else pages_for (spot.off % 4096 + spot.length)

-- the first region with a name: what is told of it, under which key it is found, and the protocol's region that it is
pub record IsNamed (list : List RegisteredRegion) (name : Name) (head : RegionHead) : Type 0 where
  pub held : RegisteredRegion
  pub head_is : held.head ≡ head
  pub found : held_at head.keys.local list ≡ Some held
  pub region : (pool : Pool) → named (λ r. r.name) no_region name (regions_of pool list) ≡ region_of pool held

-- the first region with a name is gone from among the others
pub record IsRemoved (old new : List RegisteredRegion) (name : Name) : Type 0 where
  pub place : ℕ
  pub held : RegisteredRegion
  pub there : slice_get old place ≡ Some held
  pub rest : new ≡ remove old place
  pub region : (pool : Pool) → named (λ r. r.name) no_region name (regions_of pool old) ≡ region_of pool held
