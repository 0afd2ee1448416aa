use Rattle.std.specs.Prelude.{refl}
use Rattle.example_scripts.proofs.EvaluateDatagrams.{all_written}
use Rattle.example_scripts.proofs.datagrams.a_forged_write_is_read_as_it_is_spelled.Goals as goal

pub returns-clause-front : goal.returns-clause-front
unfolding all_written
returns-clause-front c = refl

pub returns-clause-said : goal.returns-clause-said
unfolding all_written
returns-clause-said c = refl

pub returns-clause-written : goal.returns-clause-written
unfolding all_written
returns-clause-written c = refl
