use Rattle.law_simulation.proofs.sending.EventExpire.{expire_follows}
use Rattle.law_simulation.proofs.sending.EventTransmit.{transmit_follows}
use Rattle.law_simulation.proofs.sending.EventRnrOver.{rnr_over_follows}
use Rattle.law_simulation.proofs.sending.sending.sending_follows.Goals as goal

pub returns-clause-expire : goal.returns-clause-expire
returns-clause-expire c = λ o w m r s. expire_follows w m o s

pub returns-clause-rnr_over : goal.returns-clause-rnr_over
returns-clause-rnr_over c = λ o w m r s. rnr_over_follows w m o s

pub returns-clause-transmit : goal.returns-clause-transmit
returns-clause-transmit c = λ o w m r s. transmit_follows w m o s
