use Rattle.law_simulation.proofs.relation.EventSend.{send_follows}
use Rattle.law_simulation.proofs.relation.EventReceive.{receive_follows}
use Rattle.law_simulation.proofs.relation.EventPoll.{poll_follows}
use Rattle.law_simulation.proofs.relation.posting.posting_follows.Goals as goal

pub returns-clause-receive : goal.returns-clause-receive
returns-clause-receive c = λ o receive w m r s. receive_follows w m o receive s

pub returns-clause-poll : goal.returns-clause-poll
returns-clause-poll c = λ o most w m r s. poll_follows w m o most s

pub returns-clause-send : goal.returns-clause-send
returns-clause-send c = λ o request w m r s. send_follows w m o request r s
