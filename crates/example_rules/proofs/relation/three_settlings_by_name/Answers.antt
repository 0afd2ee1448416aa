use Rattle.std.proofs.Common.{refl}
use Rattle.protocol.specs.Evaluate.{reached}
use Rattle.example_rules.specs.Evaluate.{settles_by}
use Rattle.example_rules.specs.Worlds.{world_1}
use Rattle.example_rules.proofs.relation.three_settlings_by_name.Goals as goal

pub returns-clause-whole : goal.returns-clause-whole
unfolding settles_by reached world_1
returns-clause-whole c = refl

pub returns-clause-again : goal.returns-clause-again
unfolding settles_by reached world_1
returns-clause-again c = refl

pub returns-clause-expired : goal.returns-clause-expired
unfolding settles_by reached world_1
returns-clause-expired c = refl
