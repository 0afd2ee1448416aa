use Rattle.std.specs.Prelude.{refl}
use Rattle.example_scripts.proofs.EvaluateDatagrams.{all_written}
use Rattle.example_scripts.proofs.datagrams.worked_examples_are_written_as_they_were_read.Goals as goal

pub returns : goal.returns
unfolding all_written
returns c = refl
