use Rattle.evac_rules.specs.Evacuation.{Evacuation}
use Rattle.evac_plan.specs.Steps.{IsFresh, Shows}
use Rattle.evac_plan.proofs.Ways.{IsOnWay}
use Rattle.evac_plan.proofs.evacuating.move_each.Given as goal

abbrev pub invariant-loop-name : goal.invariant-loop-name
invariant-loop-name g l = (s : Evacuation) → Shows l.fn.world s → IsFresh s → IsOnWay s l.from l.targets l.names l.name-index l.world l.moved.items
