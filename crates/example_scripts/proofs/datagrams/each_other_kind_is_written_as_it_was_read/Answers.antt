use Rattle.std.specs.Prelude.{refl}
use Rattle.example_scripts.proofs.EvaluateDatagrams.{all_written}
use Rattle.example_scripts.proofs.datagrams.each_other_kind_is_written_as_it_was_read.Goals as goal

pub returns : goal.returns
unfolding all_written
returns c = refl
