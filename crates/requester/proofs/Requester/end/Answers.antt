-- The end is kept.
use Rattle.protocol.specs.Requester.{end_of_queue}
use Rattle.requester.proofs.Requester.end.Goals as goal

pub returns : goal.returns
unfolding end_of_queue
returns c = rw (← c.self.view_is) c.self.invariant.end
