use Rattle.std.specs.Prelude.{refl}
use Rattle.law_headline.specs.Evaluate.{heard_in, written_for}
use Rattle.example_scripts.proofs.small.a_dumped_context.Goals as goal

pub returns-clause-written : goal.returns-clause-written
unfolding written_for
returns-clause-written c = refl

pub returns-clause-heard : goal.returns-clause-heard
unfolding heard_in
returns-clause-heard c = refl
