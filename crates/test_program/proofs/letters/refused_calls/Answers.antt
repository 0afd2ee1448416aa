use Rattle.std.specs.Prelude.{refl}
use Rattle.mailbox_rules.specs.Evaluate.{answered}
use Rattle.test_program.proofs.letters.refused_calls.Goals as goal

pub returns : goal.returns
unfolding answered
returns c = refl
