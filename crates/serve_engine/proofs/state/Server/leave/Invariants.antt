use Rattle.std.proofs.Common.{◌≤◌}
use Rattle.serve_rules.specs.Links.{LeavesAtMost}
use Rattle.serve_engine.proofs.state.Server.leave.Given as goal

abbrev pub invariant-loop : goal.invariant-loop
invariant-loop g l = LeavesAtMost l.counter l.initial.self l.self × (l.counter ≤ 32)
