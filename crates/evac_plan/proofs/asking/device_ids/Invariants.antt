use Rattle.std.proofs.Common.{◌-◌, length, map}
use Rattle.evac_plan.proofs.Askings.{IsPrefix}
use Rattle.evac_plan.proofs.asking.device_ids.Given as goal

abbrev pub invariant-loop-id : goal.invariant-loop-id
invariant-loop-id l = IsPrefix (map (λ d. d.id) l.world.devices) l.ids.items

abbrev pub decreases-loop-id : goal.decreases-loop-id
decreases-loop-id l = length l.world.devices - length l.ids.items
