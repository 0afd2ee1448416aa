use Rattle.std.specs.Prelude.{refl}
use Rattle.protocol.specs.Evaluate.{computed}
use Rattle.example_scripts.proofs.packets.replies.few_replies_are_kept.Goals as goal

pub returns-clause-count : goal.returns-clause-count
unfolding computed
returns-clause-count c = refl

pub returns-clause-at : goal.returns-clause-at
unfolding computed
returns-clause-at c = refl

pub returns-clause-none : goal.returns-clause-none
unfolding computed
returns-clause-none c = refl
