use Rattle.std.specs.Prelude.{refl}
use Rattle.example_nodes.specs.Evaluate.{run_of, spelled}
use Rattle.example_nodes.proofs.plans.a_silent_end_expires.Goals as goal

pub returns-clause-text : goal.returns-clause-text
unfolding run_of spelled
returns-clause-text c = refl

pub returns-clause-sent : goal.returns-clause-sent
unfolding run_of spelled
returns-clause-sent c = refl

pub returns-clause-ticks : goal.returns-clause-ticks
unfolding run_of spelled
returns-clause-ticks c = refl

pub returns-clause-ending : goal.returns-clause-ending
unfolding run_of spelled
returns-clause-ending c = refl
