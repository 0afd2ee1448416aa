use Rattle.std.specs.Prelude.{refl}
use Rattle.mailbox_rules.specs.Evaluate.{answered}
use Rattle.test_program.proofs.letters.limit_of_eager_letters.Goals as goal

pub returns : goal.returns
unfolding answered
returns c = refl
