use Rattle.std.specs.Prelude.{refl}
use Rattle.law_headline.specs.Evaluate.{written_for}
use Rattle.example_scripts.proofs.sessions.immediate_and_a_read.Goals as goal

pub returns : goal.returns
unfolding written_for
returns c = refl
