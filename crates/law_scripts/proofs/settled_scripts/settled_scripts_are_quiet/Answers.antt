use Rattle.law_scripts.proofs.Scripts.{quiet_scripts}
use Rattle.law_scripts.proofs.settled_scripts.settled_scripts_are_quiet.Goals as goal

pub returns : goal.returns
returns c = quiet_scripts c.settling_leaves.ensures c.scripts_keep_worlds_sound.ensures.sound c.scripts_are_followed.ensures.follows_prefix
