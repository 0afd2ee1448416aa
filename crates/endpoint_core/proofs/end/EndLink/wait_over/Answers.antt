use Rattle.std.proofs.Common.{ap, sym}
use Rattle.protocol.specs.EndWords.{with_sender}
use Rattle.protocol.specs.Requester.{waited_out}
use Rattle.requester.specs.Sending.{sender_of}
use Rattle.endpoint_core.specs.Ends.{link_in}
use Rattle.endpoint_core.proofs.Rows.{sender-in}
use Rattle.endpoint_core.proofs.end.EndLink.wait_over.Goals as goal

pub returns-clause-next : goal.returns-clause-next
unfolding with_sender
returns-clause-next c = λ pool. ap (λ s. record (link_in pool c.args.self.now) { sender = s })
    (sym (sender-in pool c.args.self.now.requester c.rnr_over.new.self (waited_out (sender_of c.args.self.now.requester)) c.rnr_over.ensures.numbers c.rnr_over.ensures.kept.items))
