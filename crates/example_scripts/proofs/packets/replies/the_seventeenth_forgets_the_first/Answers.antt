use Rattle.std.specs.Prelude.{refl}
use Rattle.protocol.specs.Evaluate.{computed}
use Rattle.example_scripts.proofs.packets.replies.the_seventeenth_forgets_the_first.Goals as goal

pub returns-clause-count : goal.returns-clause-count
unfolding computed
returns-clause-count c = refl

pub returns-clause-at : goal.returns-clause-at
unfolding computed
returns-clause-at c = refl

pub returns-clause-found : goal.returns-clause-found
unfolding computed
returns-clause-found c = refl

pub returns-clause-forty : goal.returns-clause-forty
unfolding computed
returns-clause-forty c = refl
