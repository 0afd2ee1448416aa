use Rattle.std.proofs.Common.{◌≡◌, ◌+◌, take}
use Rattle.std.specs.Prelude.{sum_by}
use Rattle.protocol.specs.Memory.{pages_of_length}
use Rattle.context_core.proofs.counting.less_regions.Given as goal

abbrev pub invariant-loop-region : goal.invariant-loop-region
invariant-loop-region l = l.left + sum_by (λ r. pages_of_length r.length) (take l.region-index l.regions) ≡ l.initial.left
