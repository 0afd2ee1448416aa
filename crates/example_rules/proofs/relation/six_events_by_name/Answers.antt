use Rattle.std.proofs.Common.{refl}
use Rattle.protocol.specs.Evaluate.{reached}
use Rattle.packetless_machine.specs.Evaluate.{ran_to}
use Rattle.example_rules.specs.Evaluate.{named_at}
use Rattle.example_rules.specs.Worlds.{world_1, machine_1}
use Rattle.example_rules.proofs.relation.six_events_by_name.Goals as goal

pub returns : goal.returns
unfolding named_at reached ran_to world_1 machine_1
returns c = refl
