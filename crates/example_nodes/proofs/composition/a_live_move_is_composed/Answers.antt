use Rattle.std.proofs.Common.{refl}
use Rattle.law_nodes.specs.Composed.{lines_from, node_at}
use Rattle.order_rules.specs.Evaluate.{opened}
use Rattle.example_nodes.specs.Evaluate.{run_of, spelled}
use Rattle.example_nodes.proofs.Compositions.{composed, running}
use Rattle.example_nodes.proofs.composition.a_live_move_is_composed.Goals as goal

pub returns-clause-composed : goal.returns-clause-composed
returns-clause-composed c = composed

pub returns-clause-heard : goal.returns-clause-heard
unfolding opened run_of spelled node_at lines_from
returns-clause-heard c = refl

pub returns-clause-running : goal.returns-clause-running
returns-clause-running c = running
