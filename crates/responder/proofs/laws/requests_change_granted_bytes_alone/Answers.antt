use Rattle.responder.proofs.Bounds.{bounded}
use Rattle.responder.proofs.laws.requests_change_granted_bytes_alone.Goals as goal

pub returns : goal.returns
returns c = bounded
