use Rattle.std.proofs.Common.{◌≡◌, ◌+◌, List, take}
use Rattle.std.specs.Prelude.{map, sum_by}
use Rattle.rdma_types.specs.declared.names.Name.{Name}
use Rattle.protocol.specs.Images.{region_of_image}
use Rattle.protocol.specs.Memory.{pages_of_request}
use Rattle.protocol.specs.State.{Context}
use Rattle.context_core.proofs.counting.less_ends.Given as goal

abbrev pub invariant-loop-end : goal.invariant-loop-end
invariant-loop-end l = (c : Context) (domains : List Name) → c.regions ≡ map (region_of_image domains) l.regions → l.left + sum_by (λ e. sum_by (λ p. pages_of_request c p.request) e.untold) (take l.end-index l.ends) ≡ l.initial.left
