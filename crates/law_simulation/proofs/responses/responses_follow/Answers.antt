use Rattle.law_simulation.specs.Packets.{IsAck, IsSequenceNak, IsRefusal, IsReceiverNotReady, IsAtomicResponse, IsReadResponse}
use Rattle.law_simulation.proofs.responses.responses_follow.Goals as goal

pub returns-clause-acks : goal.returns-clause-acks
returns-clause-acks c = λ husks. c.kind_follows.ensures IsAck husks c.acks_are_taken.ensures

pub returns-clause-sequence_naks : goal.returns-clause-sequence_naks
returns-clause-sequence_naks c = λ husks. c.kind_follows.ensures IsSequenceNak husks c.sequence_naks_are_taken.ensures

pub returns-clause-receiver_not_ready : goal.returns-clause-receiver_not_ready
returns-clause-receiver_not_ready c = λ husks. c.kind_follows.ensures IsReceiverNotReady husks c.receiver_not_ready_is_taken.ensures

pub returns-clause-atomic_responses : goal.returns-clause-atomic_responses
returns-clause-atomic_responses c = λ husks. c.kind_follows.ensures IsAtomicResponse husks c.atomic_responses_are_taken.ensures

pub returns-clause-read_responses : goal.returns-clause-read_responses
returns-clause-read_responses c = λ husks. c.kind_follows.ensures IsReadResponse husks c.read_responses_are_taken.ensures

pub returns-clause-refusals : goal.returns-clause-refusals
returns-clause-refusals c = λ husks b. c.kind_follows.ensures (IsRefusal b) husks (c.refusals_are_taken.ensures b)
