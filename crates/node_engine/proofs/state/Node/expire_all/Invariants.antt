use Rattle.std.proofs.Common.{drop}
use Rattle.node_rules.specs.Parts.{Comes}
use Rattle.node_rules.specs.Serve.{expiring}
use Rattle.node_engine.specs.Names.{names_of}
use Rattle.node_engine.proofs.state.Node.expire_all.Given as goal

abbrev pub invariant-loop-end : goal.invariant-loop-end
invariant-loop-end g l = Comes (expiring l.now (names_of l.live) l.initial.self) (expiring l.now (names_of (drop l.end-index l.live)) l.self) (g.P.Ports.contents l.initial.ports) (g.P.Ports.contents l.ports)
