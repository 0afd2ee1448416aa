use Rattle.responder.proofs.Cases.{fits-names}
use Rattle.responder.proofs.Leaving.{leaving}
use Rattle.responder.proofs.laws.answers_leave_the_rest.Goals as goal

pub returns : goal.returns
returns c = λ terms domain qp r regions unused d fits. leaving _ d (fits-names d fits)
