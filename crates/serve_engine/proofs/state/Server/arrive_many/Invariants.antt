use Rattle.std.proofs.Common.{◌≡◌, ◌≤◌}
use Rattle.serve_rules.specs.Turns.{arrived_many}
use Rattle.serve_engine.proofs.state.Server.arrive_many.Given as goal

abbrev pub invariant-loop : goal.invariant-loop
invariant-loop l = (l.self ≡ arrived_many l.counter l.initial.self) × (l.counter ≤ 64)
