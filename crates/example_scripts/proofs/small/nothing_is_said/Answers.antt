use Rattle.std.specs.Prelude.{refl}
use Rattle.law_headline.specs.Evaluate.{said_in, written_for}
use Rattle.example_scripts.proofs.small.nothing_is_said.Goals as goal

pub returns-clause-written : goal.returns-clause-written
unfolding written_for
returns-clause-written c = refl

pub returns-clause-good : goal.returns-clause-good
unfolding said_in
returns-clause-good c = refl
