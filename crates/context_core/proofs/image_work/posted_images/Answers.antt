use Rattle.std.proofs.Common.{◌≡◌, ◌++◌, ◌∷◌, [], ap, sym, ◌∙◌}
use Rattle.std.specs.Prelude.{Some, map, slice_get}
use Rattle.std.specs.Option.{option_copied}
use Rattle.protocol.specs.Images.{posted_image}
use Rattle.page_pool.specs.Held.{HoldsPayload}
use Rattle.end_queues.specs.Untold.{posted_in, untold_in}
use Rattle.context_core.proofs.ListPrefixes.{at_place, both_of, is_there, taken_all}
use Rattle.context_core.proofs.image_work.posted_images.Goals as goal

pub loop-i-preserved : goal.loop-i-preserved
loop-i-preserved c =
    let there : slice_get c.args.requester.now.items c.loop-i.i ≡ Some c.unwrap-posted.result.now = sym c.posted.ensures ∙ ap option_copied c.unwrap-posted.ensures in
    c.in_ok-push.ensures.items ∙ (ap (λ xs. xs ++ c.in_ok-image.image ∷ []) c.loop-i.invariant ∙ both_of posted_image (posted_in c.args.pool.now) c.args.requester.now.items c.loop-i.i c.unwrap-posted.result.now c.in_ok-image.image there c.in_ok-image.ensures)

pub unwrap-posted-requires : goal.unwrap-posted-requires
unwrap-posted-requires c = is_there _ c.posted.result c.args.requester.now.items c.loop-i.i c.untold-i-end.result c.posted.ensures c.untold-i-end.ensures c.loop-i-test.true

pub posted_image-requires : goal.posted_image-requires
posted_image-requires c =
    let there : slice_get c.args.requester.now.items c.loop-i.i ≡ Some c.unwrap-posted.result.now = sym c.posted.ensures ∙ ap option_copied c.unwrap-posted.ensures in
    at_place (λ p. HoldsPayload c.args.pool.now p.payload) c.args.requester.now.items c.loop-i.i c.unwrap-posted.result.now there c.requires

pub returns : goal.returns
returns c = c.new.ensures ∙ (c.loop-i.invariant ∙ ap (λ ps. map posted_image (untold_in c.args.pool.now ps)) (taken_all c.args.requester.now.items c.loop-i.i c.untold-i-end.result c.untold-i-end.ensures c.loop-i-test.false))
