use Rattle.std.specs.Prelude.{refl}
use Rattle.example_nodes.specs.Evaluate.{run_of, spelled}
use Rattle.example_nodes.proofs.plans.forged_datagrams.Goals as goal

pub returns-clause-cut : goal.returns-clause-cut
unfolding run_of spelled
returns-clause-cut c = refl

pub returns-clause-cut_sent : goal.returns-clause-cut_sent
unfolding run_of spelled
returns-clause-cut_sent c = refl

pub returns-clause-key : goal.returns-clause-key
unfolding run_of spelled
returns-clause-key c = refl

pub returns-clause-key_sent : goal.returns-clause-key_sent
unfolding run_of spelled
returns-clause-key_sent c = refl

pub returns-clause-longer : goal.returns-clause-longer
unfolding run_of spelled
returns-clause-longer c = refl

pub returns-clause-length_sent : goal.returns-clause-length_sent
unfolding run_of spelled
returns-clause-length_sent c = refl

pub returns-clause-number : goal.returns-clause-number
unfolding run_of spelled
returns-clause-number c = refl

pub returns-clause-number_sent : goal.returns-clause-number_sent
unfolding run_of spelled
returns-clause-number_sent c = refl
