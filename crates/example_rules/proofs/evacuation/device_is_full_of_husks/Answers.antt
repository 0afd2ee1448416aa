use Rattle.std.specs.Prelude.{refl}
use Rattle.evac_rules.specs.Evaluate.{evacuated}
use Rattle.example_rules.proofs.evacuation.device_is_full_of_husks.Goals as goal

pub returns : goal.returns
unfolding evacuated
returns c = refl
