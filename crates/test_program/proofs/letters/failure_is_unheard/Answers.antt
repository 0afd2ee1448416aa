use Rattle.std.specs.Prelude.{refl}
use Rattle.mailbox_rules.specs.Evaluate.{answered, open_after}
use Rattle.test_program.proofs.letters.failure_is_unheard.Goals as goal

pub returns-clause-replies : goal.returns-clause-replies
unfolding answered
returns-clause-replies c = refl

pub returns-clause-letters : goal.returns-clause-letters
unfolding open_after
returns-clause-letters c = refl
