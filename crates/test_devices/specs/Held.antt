-- A region of a context, without its pages.
use Rattle.std.specs.Prelude.{ℕ, ◌+◌, List, [], ◌∷◌, codes}
use Rattle.rdma_types.specs.Objects.{Region}
use Rattle.memory_keys.specs.declared.RegionHead.{RegionHead}
use Rattle.memory_keys.specs.Regions.{blank_region}

-- a region of the domain `p` from address 8192 on, with all four rights and the keys from `local` on
abbrev pub head : List ℕ → ℕ → ℕ → RegionHead
head name local count = record { name = name; domain = codes "p"; base = 8192; length = count; rights = record { 0 = 15 }; keys = record { local = local; remote = local + 1 } }

-- the region `n` of 64 bytes, with the keys 2 and 3
abbrev pub regions : List Region
regions = blank_region (head (codes "n") 2 64) ∷ []
