use Rattle.responder.proofs.Staying.{cut-short, flushed, made, placed, posted}
use Rattle.responder.proofs.laws.soundness_stays.Goals as goal

pub returns-clause-posted : goal.returns-clause-posted
returns-clause-posted c = posted

pub returns-clause-flushed : goal.returns-clause-flushed
returns-clause-flushed c = flushed

pub returns-clause-cut : goal.returns-clause-cut
returns-clause-cut c = cut-short

pub returns-clause-made : goal.returns-clause-made
returns-clause-made c = made

pub returns-clause-placed : goal.returns-clause-placed
returns-clause-placed c = placed
