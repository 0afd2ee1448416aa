use Rattle.std.proofs.Common.{◌≡◌, ◌++◌, take}
use Rattle.std.specs.Prelude.{flat_map}
use Rattle.protocol.specs.Settle.{left_image}
use Rattle.settle_core.proofs.leaving.push_image.Given as goal

abbrev pub invariant-loop-end : goal.invariant-loop-end
invariant-loop-end l = l.left.items ≡ l.initial.left.items ++ flat_map (left_image l.image.name) (take l.end-index l.ends)
