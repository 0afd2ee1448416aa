use Rattle.std.proofs.Common.{◌≡◌, ◌++◌, take}
use Rattle.std.specs.Prelude.{map}
use Rattle.page_pool.specs.Pool.{Pool}
use Rattle.context_core.specs.Context.{context_in, end_of}
use Rattle.context_core.specs.Links.{live_end}
use Rattle.context_core.proofs.state.ContextState.push_ends.Given as goal

abbrev pub invariant-loop-place : goal.invariant-loop-place
invariant-loop-place l = (pool : Pool) → l.live.items ≡ l.fn.live.items ++ map (live_end (context_in pool l.context l.self)) (map (end_of pool l.self.queues) (take l.place l.self.ends))
