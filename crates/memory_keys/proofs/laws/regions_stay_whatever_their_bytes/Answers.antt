use Rattle.memory_keys.proofs.Protocol.{first-region, spot-in-regions}
use Rattle.memory_keys.proofs.laws.regions_stay_whatever_their_bytes.Goals as goal

pub returns-clause-spot : goal.returns-clause-spot
returns-clause-spot c = spot-in-regions

pub returns-clause-under : goal.returns-clause-under
returns-clause-under c = λ pool held key. first-region pool key held
