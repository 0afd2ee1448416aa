use Rattle.evac_rules.specs.Evacuation.{Evacuation}
use Rattle.evac_plan.specs.Steps.{Shows}
use Rattle.evac_plan.proofs.Tries.{IsTrying}
use Rattle.evac_plan.proofs.moving.try_each.Given as goal

abbrev pub invariant-loop-target : goal.invariant-loop-target
invariant-loop-target l = (s : Evacuation) → Shows l.fn.world s → IsTrying s l.context l.targets l.target-index l.world
