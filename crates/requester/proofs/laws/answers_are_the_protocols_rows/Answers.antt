-- The rows of the tables, one by one.
use Rattle.std.proofs.Common.{refl}
use Rattle.protocol.specs.Requester.{transmitted}
use Rattle.requester.proofs.Rows.{response_is, transmission_is}
use Rattle.requester.proofs.laws.answers_are_the_protocols_rows.Goals as goal

pub returns-clause-response : goal.returns-clause-response
returns-clause-response c = response_is

pub returns-clause-transmission : goal.returns-clause-transmission
returns-clause-transmission c = transmission_is

pub returns-clause-transmitted : goal.returns-clause-transmitted
unfolding transmitted
returns-clause-transmitted c = λ l x. refl
