use Rattle.std.proofs.Common.{refl}
use Rattle.order_rules.specs.Evaluate.{opened}
use Rattle.example_nodes.specs.Evaluate.{run_of, spelled}
use Rattle.example_nodes.specs.Forged.{nodes, order}
use Rattle.example_nodes.proofs.Forging.{running, unsent}
use Rattle.example_nodes.proofs.composition.forged_datagrams_are_bounded.Goals as goal

pub returns-clause-running : goal.returns-clause-running
returns-clause-running c = running

pub returns-clause-unsent : goal.returns-clause-unsent
returns-clause-unsent c = unsent

pub returns-clause-before : goal.returns-clause-before
unfolding opened run_of spelled
returns-clause-before c = refl

pub returns-clause-after : goal.returns-clause-after
unfolding opened run_of spelled
returns-clause-after c = refl

pub returns-clause-bounded : goal.returns-clause-bounded
returns-clause-bounded c = c.nodes_change_what_they_may.ensures.nodes nodes order running
