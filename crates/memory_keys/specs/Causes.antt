-- Why regions are not made or not dropped.
use Rattle.std.specs.Prelude.{ℕ, ◌==◌, not, List, [], ◌∷◌, length, Option, Some, None, Result, Ok, Err, nat_le, nat_lt}
use Rattle.std.specs.List.{list_any}
use Rattle.rdma_types.specs.Causes.{Cause, cause}
use Rattle.rdma_types.specs.Limits.{most_regions}
use Rattle.rdma_types.specs.Lists.{has_name, named}
use Rattle.rdma_types.specs.Objects.{Region, no_region}
use Rattle.rdma_types.specs.declared.answers.Refusal.{Refusal}
use Rattle.rdma_types.specs.declared.answers.Refusal.TheVariants as refusal
use Rattle.rdma_types.specs.declared.names.Name.{Name}
use Rattle.page_pool.specs.Pool.{pages_for}
use Rattle.memory_keys.specs.declared.MemFault.{MemFault}
use Rattle.memory_keys.specs.declared.MemFault.TheVariants.{NumberTaken, TooMany, NoPage, OutOfMemory}
use Rattle.memory_keys.specs.declared.RegionHead.{RegionHead}

-- why no region is made, in the order of checking
abbrev pub register_causes : List Region → ℕ → RegionHead → List Cause
register_causes regions free head =
    cause refusal.NumberTaken (has_name (λ r. r.name) head.name regions)
    ∷ cause refusal.TooMany (nat_le most_regions (length regions))
    ∷ cause refusal.NoPage (nat_lt free (pages_for head.length))
    ∷ []

-- the region with a name
abbrev pub region_named : Name → List Region → Region
region_named name regions = named (λ r. r.name) no_region name regions

-- why no region is dropped, in the order of checking
abbrev pub deregister_causes : List Region → Name → List ℕ → List Cause
deregister_causes regions name busy =
    cause refusal.NoSuch (not (has_name (λ r. r.name) name regions))
    ∷ cause refusal.InUse (list_any (λ key. key == (region_named name regions).keys.local) busy)
    ∷ []

-- a refusal; out of memory is none, and has no cause here
abbrev pub told_as : MemFault → Option Refusal
told_as NumberTaken = Some refusal.NumberTaken
told_as TooMany = Some refusal.TooMany
told_as NoPage = Some refusal.NoPage
told_as OutOfMemory = None

-- the refusal of an answer; out of memory is none
abbrev pub refusal_of : {T : Type 0} → Result T MemFault → Option Refusal
refusal_of (Ok x) = None
refusal_of (Err fault) = told_as fault
