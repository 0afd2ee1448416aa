use Rattle.law_scripts.proofs.Worlds.{AreLaws, empty_sound, settled_sound, step_sound}
use Rattle.law_scripts.proofs.settled_scripts.worlds_stay_sound.Goals as goal

pub returns-clause-empty : goal.returns-clause-empty
returns-clause-empty c = empty_sound

pub returns-clause-step : goal.returns-clause-step
returns-clause-step c = let laws : AreLaws = record { new = c.devices_stay_sound.ensures.new; step = c.devices_stay_sound.ensures.step; image = c.images_keep_the_rules.ensures.image } in step_sound laws

pub returns-clause-settling : goal.returns-clause-settling
returns-clause-settling c = let laws : AreLaws = record { new = c.devices_stay_sound.ensures.new; step = c.devices_stay_sound.ensures.step; image = c.images_keep_the_rules.ensures.image } in settled_sound laws
