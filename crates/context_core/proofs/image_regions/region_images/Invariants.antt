use Rattle.std.proofs.Common.{◌≡◌, take}
use Rattle.std.specs.Prelude.{map}
use Rattle.memory_keys.specs.Regions.{regions_of}
use Rattle.protocol.specs.Images.{region_image}
use Rattle.context_core.proofs.image_regions.region_images.Given as goal

abbrev pub invariant-loop-place : goal.invariant-loop-place
invariant-loop-place l = l.images.items ≡ map (region_image l.domains.keys) (regions_of l.pool (take l.place l.regions))
