-- Ranges of regions.
use Rattle.std.specs.Prelude.{ℕ, ◌+◌, ◌-◌, ◌≡◌, ◌≤◌, List}
use Rattle.rdma_types.specs.declared.names.Name.{Name}
use Rattle.memory_keys.specs.declared.RegisteredRegion.{RegisteredRegion}
use Rattle.memory_keys.specs.declared.RegionHead.{RegionHead}
use Rattle.memory_keys.specs.declared.RegionRange.{RegionRange}
use Rattle.memory_keys.specs.Regions.{AreKeyed, IsNamed}

-- a spot is the range of the region with that name
pub record IsRange (list : List RegisteredRegion) (name : Name) (at count : ℕ) (spot : RegionRange) : Type 0 where
  pub head : RegionHead
  pub named : IsNamed list name head
  pub keyed : AreKeyed list
  pub low : head.base ≤ at
  pub high : at + count ≤ head.base + head.length
  pub region : spot.region ≡ head.keys.local
  pub off : spot.off ≡ at - head.base
  pub length : spot.length ≡ count
