use Rattle.std.proofs.Common.{◌∙◌}
use Rattle.settle_core.proofs.LeftEnds.{unfinished_is}
use Rattle.settle_core.proofs.leaving.unfinished.Goals as goal

pub returns : goal.returns
returns c =
    c.new.ensures
    ∙ unfinished_is c.args.world.now c.as_slice.result.now c.images.result.now c.new-left.result.items c.push_live.new.left.items c.push_images.new.left.items c.new-left.ensures.items (c.as_slice.ensures ∙ c.in_ok-ends.ensures.live c.requires) c.images.ensures c.in_ok-push_live.ensures c.in_ok-push_images.ensures
