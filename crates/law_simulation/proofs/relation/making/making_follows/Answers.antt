use Rattle.std.proofs.Common.{arith}
use Rattle.law_simulation.proofs.relation.EventConnect.{connect_follows}
use Rattle.law_simulation.proofs.relation.EventContext.{context_follows}
use Rattle.law_simulation.proofs.relation.EventDevice.{device_follows}
use Rattle.law_simulation.proofs.relation.EventEnd.{end_follows}
use Rattle.law_simulation.proofs.relation.EventDomain.{domain_follows}
use Rattle.law_simulation.proofs.relation.EventRegion.{region_follows}
use Rattle.law_simulation.proofs.relation.EventQueue.{queue_follows}
use Rattle.law_simulation.proofs.relation.making.making_follows.Goals as goal

pub returns-clause-domain : goal.returns-clause-domain
returns-clause-domain c = λ o w m r s. domain_follows w m o s

pub returns-clause-region : goal.returns-clause-region
returns-clause-region c = λ o domain base length rights w m r s. region_follows w m o domain base length rights (omega (arith, r.1, r.2)) s

pub returns-clause-queue : goal.returns-clause-queue
returns-clause-queue c = λ o capacity w m r s. queue_follows w m o capacity s

pub returns-clause-device : goal.returns-clause-device
returns-clause-device c = λ id address w m r s. device_follows w m id address r s

pub returns-clause-queue_pair : goal.returns-clause-queue_pair
returns-clause-queue_pair c = λ o domain send_cq recv_cq send_depth recv_depth w m r s. end_follows w m o domain send_cq recv_cq send_depth recv_depth r.1 s

pub returns-clause-context : goal.returns-clause-context
returns-clause-context c = λ name device w m r s. context_follows w m name device s

pub returns-clause-connect : goal.returns-clause-connect
returns-clause-connect c = λ one two terms w m r s. connect_follows w m one two terms r s
