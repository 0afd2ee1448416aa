use Rattle.std.specs.Prelude.{refl}
use Rattle.mailbox_rules.specs.Evaluate.{open_after}
use Rattle.test_program.proofs.letters.open_letters_are_told.Goals as goal

pub returns : goal.returns
unfolding open_after
returns c = refl
