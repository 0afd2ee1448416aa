use Rattle.std.proofs.Common.{drop}
use Rattle.node_rules.specs.Node.{sending}
use Rattle.node_rules.specs.Parts.{Comes}
use Rattle.node_engine.proofs.stepping.send_all.Given as goal

abbrev pub invariant-loop-datagram : goal.invariant-loop-datagram
invariant-loop-datagram g l = Comes {A = Unit {0}} (λ more. sending l.sent (more tt)) (λ more. sending (drop l.datagram-index l.sent) (more tt)) (g.P.Ports.contents l.initial.ports) (g.P.Ports.contents l.ports)
