use Rattle.std.proofs.Common.{◌≡◌, List, drop}
use Rattle.std.specs.Prelude.{map}
use Rattle.rdma_types.specs.declared.names.Name.{Name}
use Rattle.rdma_types.specs.Lists.{at}
use Rattle.rdma_types.specs.Objects.{no_region}
use Rattle.protocol.specs.Images.{region_of_image}
use Rattle.context_core.proofs.counting.base_of.Given as goal

abbrev pub invariant-loop-region : goal.invariant-loop-region
invariant-loop-region l = (domains : List Name) → at (λ r. r.keys.local) no_region l.key (map (region_of_image domains) l.regions) ≡ at (λ r. r.keys.local) no_region l.key (map (region_of_image domains) (drop l.region-index l.regions))
