use Rattle.std.proofs.Common.{◌≡◌, ℕ, take}
use Rattle.std.specs.Prelude.{nat_eq}
use Rattle.indexmap.specs.IndexMap.{get}
use Rattle.page_pool.specs.Pool.{Pool}
use Rattle.context_core.specs.Context.{context_in}
use Rattle.device_core.specs.Index.{without_numbers}
use Rattle.device_core.specs.Leaving.{gone_in}
use Rattle.device_core.proofs.leaving.drop_ends.Given as goal

abbrev pub invariant-loop-place : goal.invariant-loop-place
invariant-loop-place l = (pool : Pool) (k : ℕ) → get nat_eq l.index k ≡ without_numbers (gone_in (take l.place (context_in pool l.name l.state).ends)) k (get nat_eq l.initial.index k)
