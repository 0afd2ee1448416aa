use Rattle.std.proofs.Common.{◌≡◌, ◌-◌}
use Rattle.std.specs.Prelude.{reverse}
use Rattle.memory_keys.specs.Regions.{regions_of}
use Rattle.endpoint_core.specs.Due.{responses}
use Rattle.context_core.proofs.arriving.responses.Given as goal

abbrev pub invariant-loop-k : goal.invariant-loop-k
invariant-loop-k l = reverse l.list.items ≡ responses l.pool (regions_of l.pool l.regions) l.link l.due (l.count - l.k)
