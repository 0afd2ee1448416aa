use Rattle.std.specs.Fmt.{digits}
use Rattle.std.specs.Prelude.{refl}
use Rattle.law_headline.specs.Evaluate.{said_in, written_for}
use Rattle.example_scripts.proofs.small.an_unknown_word.Goals as goal

pub returns-clause-written : goal.returns-clause-written
unfolding written_for
returns-clause-written c = refl

pub returns-clause-bad : goal.returns-clause-bad
unfolding said_in
returns-clause-bad c = refl

pub returns-clause-last : goal.returns-clause-last
unfolding digits
returns-clause-last c = refl
