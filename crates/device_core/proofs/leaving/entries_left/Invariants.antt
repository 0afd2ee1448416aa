use Rattle.std.proofs.Common.{◌≡◌, map, take}
use Rattle.std.specs.List.{flat_map}
use Rattle.page_pool.specs.Pool.{Pool}
use Rattle.context_core.specs.Context.{context_in}
use Rattle.device_core.specs.Leaving.{left_by}
use Rattle.device_core.specs.Parts.{entry_of}
use Rattle.device_core.proofs.leaving.entries_left.Given as goal

abbrev pub invariant-loop-place : goal.invariant-loop-place
invariant-loop-place l = (pool : Pool) → map entry_of l.entries ≡ flat_map left_by (take l.place (context_in pool l.name l.state).ends)
