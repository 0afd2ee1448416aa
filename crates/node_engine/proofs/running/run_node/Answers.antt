use Rattle.node_rules.specs.Script.{node_plan}
use Rattle.node_engine.proofs.Counts.{counts_of}
use Rattle.node_engine.proofs.running.run_node.Goals as goal

pub returns-clause-faults : goal.returns-clause-faults
returns-clause-faults g c = counts_of (node_plan c.args.id c.args.own c.args.input.now) _ _ c.run.result c.run.ensures
