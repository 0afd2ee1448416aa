-- Word by word and row by row.
use Rattle.requester.proofs.Payloads.{response_in, told_in}
use Rattle.requester.proofs.laws.rules_look_at_no_payload.Goals as goal

pub returns-clause-response : goal.returns-clause-response
returns-clause-response c = response_in

pub returns-clause-told : goal.returns-clause-told
returns-clause-told c = told_in
