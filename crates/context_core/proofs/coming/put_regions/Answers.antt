use Rattle.std.proofs.Common.{◌∙◌, ap}
use Rattle.memory_keys.specs.Regions.{held_at, regions_of}
use Rattle.context_core.proofs.RegionsFromImage.{key-new, made-more, made-none, region-more}
use Rattle.context_core.proofs.coming.put_regions.Goals as goal

pub loop-image-init : goal.loop-image-init
loop-image-init c = record { made = made-none c.args.pool.now c.args.regions.now c.requires.empty; shown = ap (regions_of c.args.pool.now) c.requires.empty }

pub restore-requires-clause-new : goal.restore-requires-clause-new
restore-requires-clause-new c = ap (λ h. held_at h.keys.local c.loop-image.regions) c.head_of-head.ensures ∙ key-new c.loop-image.pool c.loop-image.regions c.args.domains.now c.args.images.now c.loop-image.image-index c.image-item.result c.loop-image.invariant.shown c.loop-image-test.true c.image-item.is c.requires.keys

pub loop-image-preserved : goal.loop-image-preserved
loop-image-preserved c = record {
  made = made-more c.args.pool.now c.loop-image.pool c.restore.new.pool c.loop-image.regions c.restore.new.self c.head_of-head.result c.loop-image.invariant.made c.in-Ok.ensures.added c.in-Ok.ensures.others c.in-Ok.ensures.held c.in-Ok.ensures.free;
  shown = region-more c.loop-image.pool c.restore.new.pool c.loop-image.regions c.restore.new.self c.args.domains.now c.args.images.now c.loop-image.image-index c.image-item.result c.head_of-head.result c.loop-image-test.true c.image-item.is c.head_of-head.ensures c.loop-image.invariant.shown c.in-Ok.ensures.regions;
}
