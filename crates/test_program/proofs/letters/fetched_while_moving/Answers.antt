use Rattle.std.specs.Prelude.{refl}
use Rattle.mailbox_rules.specs.Evaluate.{answered}
use Rattle.test_program.proofs.letters.fetched_while_moving.Goals as goal

pub returns : goal.returns
unfolding answered
returns c = refl
