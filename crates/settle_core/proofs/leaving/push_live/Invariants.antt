use Rattle.std.proofs.Common.{◌≡◌, ◌++◌, take}
use Rattle.std.specs.Prelude.{flat_map}
use Rattle.settle_core.specs.Left.{left_view}
use Rattle.settle_core.proofs.leaving.push_live.Given as goal

abbrev pub invariant-loop-end : goal.invariant-loop-end
invariant-loop-end l = l.left.items ≡ l.initial.left.items ++ flat_map left_view (take l.end-index l.ends)
