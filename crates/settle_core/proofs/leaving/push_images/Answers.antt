use Rattle.std.proofs.Common.{arith, ◌≤◌, length}
use Rattle.settle_core.specs.Left.{left_image_of}
use Rattle.settle_core.proofs.LeftEnds.{left-all, left-more, left-none}
use Rattle.settle_core.proofs.leaving.push_images.Goals as goal

pub loop-image-init : goal.loop-image-init
loop-image-init c = left-none left_image_of c.args.left.now.items c.args.images.now

pub loop-image-preserved : goal.loop-image-preserved
loop-image-preserved c =
    left-more left_image_of c.args.images.now c.loop-image.image-index c.image-item.result c.args.left.now.items c.loop-image.left.items c.push_image.new.left.items c.loop-image-test.true c.image-item.is c.loop-image.invariant c.in_ok-push_image.ensures

pub returns : goal.returns
returns c = let all : length c.args.images.now ≤ c.loop-image.image-index = omega (arith, c.loop-image-test.false) in left-all left_image_of c.args.images.now c.loop-image.image-index c.args.left.now.items c.loop-image.left.items all c.loop-image.invariant
