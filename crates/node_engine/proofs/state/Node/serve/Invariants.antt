use Rattle.std.proofs.Common.{◌-◌}
use Rattle.node_rules.specs.Parts.{Comes}
use Rattle.node_rules.specs.Serve.{turns}
use Rattle.node_engine.proofs.state.Node.serve.Given as goal

abbrev pub invariant-loop : goal.invariant-loop
invariant-loop g l = Comes (turns l.turns l.initial.self) (turns (l.turns - l.counter) l.self) (g.P.Ports.contents l.initial.ports) (g.P.Ports.contents l.ports)
