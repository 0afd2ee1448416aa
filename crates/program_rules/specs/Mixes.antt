-- The mixes of generated scripts (this project's choice).
use Rattle.std.specs.Prelude.{◌<◌, ◌≤◌}
use Rattle.workload_gen.specs.declared.plan.Mix.{Mix}

-- 1 to 8 connections, 1 to 2,000 messages and at most 16 moves
pub record IsMix (mix : Mix) : Type 0 where
  pub connections : (0 < mix.connections) × (mix.connections ≤ 8)
  pub messages : (0 < mix.messages) × (mix.messages ≤ 2000)
  pub moves : mix.moves ≤ 16
