-- What is left of the bytes and what is left to be passed over come to the same.
use Rattle.std.proofs.Common.{◌≡◌, drop}
use Rattle.device_c.proofs.images.skip.Given as goal

abbrev pub invariant-loop-left : goal.invariant-loop-left
invariant-loop-left l = drop l.left l.writer.left ≡ drop l.fn.place l.fn.writer.left

abbrev pub decreases-loop-left : goal.decreases-loop-left
decreases-loop-left l = l.left
