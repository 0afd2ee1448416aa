use Rattle.std.specs.Prelude.{refl}
use Rattle.mailbox_rules.specs.Evaluate.{line_written}
use Rattle.test_program.proofs.letters.small_plan.Goals as goal

pub returns : goal.returns
unfolding line_written
returns c = refl
