use Rattle.std.proofs.Common.{◌≡◌, ◌+◌, length}
use Rattle.node_rules.specs.Parts.{Comes}
use Rattle.node_rules.specs.Script.{lines_do}
use Rattle.node_engine.proofs.running.run.Given as goal

abbrev pub invariant-loop-line : goal.invariant-loop-line
invariant-loop-line g l = record {
  come : Comes {A = Unit {0}} (λ more. lines_do 1 l.initial.lines l.initial.node) (λ more. lines_do (l.number + 1) l.lines l.node) (g.P.Ports.contents l.initial.ports) (g.P.Ports.contents l.ports);
  count : l.number + length l.lines ≡ length l.initial.lines;
}

abbrev pub decreases-loop-line : goal.decreases-loop-line
decreases-loop-line g l = length l.lines
