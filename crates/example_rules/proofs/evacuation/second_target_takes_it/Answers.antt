use Rattle.std.specs.Prelude.{refl}
use Rattle.evac_rules.specs.Evaluate.{evacuated_after}
use Rattle.example_rules.proofs.evacuation.second_target_takes_it.Goals as goal

pub returns : goal.returns
unfolding evacuated_after
returns c = refl
