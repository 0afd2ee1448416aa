use Rattle.std.proofs.Common.{◌≡◌, take}
use Rattle.std.specs.Prelude.{map}
use Rattle.memory_keys.specs.Regions.{regions_of}
use Rattle.protocol.specs.Images.{region_of_image}
use Rattle.context_core.specs.Coming.{AreMade}
use Rattle.context_core.proofs.coming.put_regions.Given as goal

abbrev pub invariant-loop-image : goal.invariant-loop-image
invariant-loop-image l = record {
  made : AreMade l.initial.pool l.pool l.regions;
  shown : regions_of l.pool l.regions ≡ map (region_of_image l.domains) (take l.image-index l.images);
}
