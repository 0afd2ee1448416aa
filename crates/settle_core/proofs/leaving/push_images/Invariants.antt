use Rattle.std.proofs.Common.{◌≡◌, ◌++◌, take}
use Rattle.std.specs.Prelude.{flat_map}
use Rattle.settle_core.specs.Left.{left_image_of}
use Rattle.settle_core.proofs.leaving.push_images.Given as goal

abbrev pub invariant-loop-image : goal.invariant-loop-image
invariant-loop-image l = l.left.items ≡ l.initial.left.items ++ flat_map left_image_of (take l.image-index l.images)
