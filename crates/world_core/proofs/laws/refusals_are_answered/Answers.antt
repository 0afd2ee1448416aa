-- Each refusal by its event.
use Rattle.world_core.proofs.Refusals.{answered}
use Rattle.world_core.proofs.laws.refusals_are_answered.Goals as goal

pub returns : goal.returns
returns c = answered
