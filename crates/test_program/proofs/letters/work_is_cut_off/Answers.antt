use Rattle.std.specs.Prelude.{refl}
use Rattle.mailbox_rules.specs.Evaluate.{answered_after_cut}
use Rattle.test_program.proofs.letters.work_is_cut_off.Goals as goal

pub returns : goal.returns
unfolding answered_after_cut
returns c = refl
