use Rattle.std.specs.Prelude.{refl}
use Rattle.example_scripts.proofs.EvaluateDatagrams.{all_written}
use Rattle.example_scripts.proofs.datagrams.these_bits_are_ignored_and_no_others.Goals as goal

pub returns : goal.returns
unfolding all_written
returns c = refl
