use Rattle.std.proofs.Common.{◌-◌, length}
use Rattle.protocol.specs.State.{device_at}
use Rattle.evac_rules.specs.Evacuation.{names_on}
use Rattle.evac_plan.proofs.Askings.{IsPrefix}
use Rattle.evac_plan.proofs.asking.names_on.Given as goal

abbrev pub invariant-loop-name : goal.invariant-loop-name
invariant-loop-name l = IsPrefix (names_on l.world l.device) l.names.items

abbrev pub decreases-loop-name : goal.decreases-loop-name
decreases-loop-name l = length (device_at l.world l.device).contexts - length l.names.items
