use Rattle.std.proofs.Common.{◌≡◌, ◌≤◌}
use Rattle.serve_rules.specs.Turns.{sent_many}
use Rattle.serve_engine.proofs.state.Server.send_many.Given as goal

abbrev pub invariant-loop : goal.invariant-loop
invariant-loop l = (l.self ≡ sent_many l.counter l.initial.self) × (l.counter ≤ 64)
