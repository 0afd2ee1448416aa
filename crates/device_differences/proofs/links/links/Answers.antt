use Rattle.device_differences.specs.Differing.{maybe}
use Rattle.device_differences.proofs.links.links.Goals as goal

pub returns-in-None-None : goal.returns-in-None-None
unfolding maybe
returns-in-None-None c = cc

pub returns-in-None-Some : goal.returns-in-None-Some
unfolding maybe
returns-in-None-Some c = cc

pub returns-in-Some-None : goal.returns-in-Some-None
unfolding maybe
returns-in-Some-None c = cc

pub returns-in-Some-Some : goal.returns-in-Some-Some
unfolding maybe
returns-in-Some-Some c = cc
