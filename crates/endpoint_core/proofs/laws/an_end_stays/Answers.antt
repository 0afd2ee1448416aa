use Rattle.endpoint_core.proofs.Frames.{end-kept, sound-kept}
use Rattle.endpoint_core.proofs.laws.an_end_stays.Goals as goal

pub returns-clause-sound : goal.returns-clause-sound
returns-clause-sound c = sound-kept

pub returns-clause-same : goal.returns-clause-same
returns-clause-same c = end-kept
