use Rattle.law_machine_runs.proofs.Worlds.{worlds_isolated}
use Rattle.law_machine_runs.proofs.isolation.worlds_are_isolated.Goals as goal

pub returns : goal.returns
returns c = worlds_isolated c.law_holds.ensures.start c.steps_are_named.ensures.events c.steps_are_named.ensures.runs
