-- Ranges of regions, in the protocol's words.
use Rattle.std.proofs.Common.{◌≡◌, ℕ, ◌+◌, Bool, true, false, List, [], ap, sym, ◌∙◌}
use Rattle.std.specs.Prelude.{Some, None, not, ◌&&◌, nat_le}
use Rattle.std.specs.Bool.{OnTrue}
use Rattle.rdma_types.specs.Causes.{first_cause}
use Rattle.rdma_types.specs.declared.answers.Refusal.TheVariants.{NoSuch, BadKey}
use Rattle.rdma_types.specs.declared.names.Name.{Name}
use Rattle.rdma_types.specs.Lists.{has_name, named}
use Rattle.rdma_types.specs.Memory.{holds}
use Rattle.rdma_types.specs.Objects.{no_region}
use Rattle.page_pool.specs.Pool.{Pool}
use Rattle.memory_keys.specs.declared.RegisteredRegion.{RegisteredRegion}
use Rattle.memory_keys.specs.declared.RegionHead.{RegionHead}
use Rattle.memory_keys.specs.Regions.{IsNamed, holds_range, region_of, regions_of}
use Rattle.protocol.specs.Refusals.{has_region}
use Rattle.protocol.specs.State.{Context, region_at}
use Rattle.context_core.specs.Causes.{range_causes}
use Rattle.context_core.proofs.FirstCause.{first-holds, none-holds}
use Rattle.context_core.proofs.CauseOrder.{second-holds, after-two}

-- the region is not there
pub range-absent : (pool : Pool) (list : List RegisteredRegion) (c : Context) (name : Name) (at count : ℕ) → c.regions ≡ regions_of pool list → false ≡ has_name (λ r. r.name) name (regions_of pool list) → Some NoSuch ≡ first_cause (range_causes c name at count)
range-absent pool list c name at count e no-region = sym (first-holds NoSuch (not (has_region c name)) _ (ap (λ rs. not (has_name (λ r. r.name) name rs)) e ∙ ap not (sym no-region)))

-- what it holds
range-holds : (pool : Pool) (list : List RegisteredRegion) (c : Context) (name : Name) (at count : ℕ) (head : RegionHead) → c.regions ≡ regions_of pool list → IsNamed list name head → holds (region_at c name) at count ≡ holds_range head at count
unfolding holds
range-holds pool list c name at count head e n =
    let region : region_at c name ≡ region_of pool n.held = ap (named (λ r. r.name) no_region name) e ∙ n.region pool in
    ap (λ r. nat_le r.base at && nat_le (at + count) (r.base + r.length)) region ∙ ap (λ h. nat_le h.base at && nat_le (at + count) (h.base + h.length)) n.head_is

pub range-outside : (pool : Pool) (list : List RegisteredRegion) (c : Context) (name : Name) (at count : ℕ) (head : RegionHead) → c.regions ≡ regions_of pool list → true ≡ has_name (λ r. r.name) name (regions_of pool list) → IsNamed list name head → holds_range head at count ≡ false → Some BadKey ≡ first_cause (range_causes c name at count)
range-outside pool list c name at count head e there n h = sym (second-holds NoSuch BadKey (not (has_region c name)) (not (holds (region_at c name) at count)) [] (ap (λ rs. not (has_name (λ r. r.name) name rs)) e ∙ ap not (sym there)) (ap not (range-holds pool list c name at count head e n ∙ h)))

pub range-inside : (pool : Pool) (list : List RegisteredRegion) (c : Context) (name : Name) (at count : ℕ) (head : RegionHead) → c.regions ≡ regions_of pool list → true ≡ has_name (λ r. r.name) name (regions_of pool list) → IsNamed list name head → holds_range head at count ≡ true → None ≡ first_cause (range_causes c name at count)
range-inside pool list c name at count head e there n h = sym (after-two NoSuch BadKey (not (has_region c name)) (not (holds (region_at c name) at count)) [] (ap (λ rs. not (has_name (λ r. r.name) name rs)) e ∙ ap not (sym there)) (ap not (range-holds pool list c name at count head e n ∙ h)) ∙ none-holds)

pub on-true : {P : Type 0} (b : Bool) → OnTrue b P → b ≡ true → P
on-true true p e = p
on-true false p e = absurd (cc)
