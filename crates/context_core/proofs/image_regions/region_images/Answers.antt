use Rattle.std.proofs.Common.{◌<◌, ◌++◌, ◌∷◌, [], length, ap, ◌∙◌, arith}
use Rattle.std.specs.Prelude.{map}
use Rattle.memory_keys.specs.Regions.{region_of, regions_of}
use Rattle.protocol.specs.Images.{region_image}
use Rattle.context_core.proofs.ListPrefixes.{both_on, taken_all}
use Rattle.context_core.proofs.image_regions.region_images.Goals as goal

pub loop-place-preserved : goal.loop-place-preserved
loop-place-preserved c =
    let inside : c.loop-place.place < length c.args.regions.now = omega arith in
    c.in_ok-push.ensures.items ∙ (ap (λ xs. xs ++ c.in_ok-image.image ∷ []) c.loop-place.invariant ∙ both_on (region_image c.args.domains.now.keys) (region_of c.args.pool.now) c.args.regions.now c.loop-place.place c.in_ok-image.image inside c.in_ok-image.ensures)

pub returns : goal.returns
returns c = c.new.ensures ∙ (c.loop-place.invariant ∙ ap (λ hs. map (region_image c.args.domains.now.keys) (regions_of c.args.pool.now hs)) (taken_all c.args.regions.now c.loop-place.place c.len-place-end.result c.len-place-end.ensures c.loop-place-test.false))
