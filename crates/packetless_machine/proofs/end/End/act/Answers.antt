use Rattle.std.proofs.Common.{rules}
use Rattle.packetless_machine.specs.Steps.{acted_with}
use Rattle.packetless_machine.proofs.end.End.act.Goals as goal

pub returns-clause-ok : goal.returns-clause-ok
unfolding acted_with
returns-clause-ok c = search rules
