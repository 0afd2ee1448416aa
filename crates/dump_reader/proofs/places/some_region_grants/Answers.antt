use Rattle.std.proofs.Common.{rules, tests, ◌∙◌}
use Rattle.std.specs.Prelude.{if◌then◌else◌}
use Rattle.std.proofs.lemmas.Iterator.{YieldsList-from_slice}
use Rattle.std.proofs.lemmas.Iterator.Search.{any_from_yields_List}
use Rattle.rdma_types.specs.Memory.{LocalWrite, NoRight, grants, local_key}
use Rattle.protocol.specs.declared.images.RegionImage.{RegionImage}
use Rattle.protocol.specs.Images.{region_of_image}
use Rattle.dump_reader.proofs.Seen.{granted_seen}
use Rattle.dump_reader.proofs.places.some_region_grants.Goals as goal

pub returns : goal.returns
returns c =
    let s = c.args.scope.now in
    let a = c.args.asked.now in
    any_from_yields_List (λ (r : RegionImage). grants local_key s.domain.now a.lkey a.at a.count (if a.lands then LocalWrite else NoRight) (region_of_image s.domains.now r)) _ _ _ c.any.ensures.ran (YieldsList-from_slice s.regions.now cc) (λ x b q k. search (rules, tests))
    ∙ granted_seen s.domains.now s.regions.now s.domain.now a.lkey a.at a.count (if a.lands then LocalWrite else NoRight)
