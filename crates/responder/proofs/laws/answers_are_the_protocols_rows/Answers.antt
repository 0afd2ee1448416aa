use Rattle.responder.proofs.Rows.{request-row}
use Rattle.responder.proofs.laws.answers_are_the_protocols_rows.Goals as goal

pub returns : goal.returns
returns c = request-row
