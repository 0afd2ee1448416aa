-- What a responder's answer to a request is to its end: the step that the protocol gives.
use Rattle.std.specs.Prelude.{ℕ, ◌-◌, ◌==◌, List, [], ◌∷◌, if◌then◌else◌}
use Rattle.rdma_types.specs.declared.answers.ArrivalEffect.TheVariants as took
use Rattle.rdma_types.specs.declared.names.Name.{Name}
use Rattle.rdma_types.specs.declared.requests.Completion.{Completion}
use Rattle.rdma_types.specs.declared.requests.WcStatus.TheVariants as status
use Rattle.rdma_types.specs.Objects.{Region}
use Rattle.protocol.specs.declared.wire.Syndrome.TheVariants.{Ack, Rnr, Nak}
use Rattle.protocol.specs.EndWords.{EndStep, completing, linked, silent, stays, with_receiver, with_unused}
use Rattle.protocol.specs.Memory.{region_of_key}
use Rattle.protocol.specs.Requester.{ended_with}
use Rattle.protocol.specs.Responder.{acknowledge, nak_code, old_answer, read_pieces}
use Rattle.protocol.specs.State.{Context, End, Link}
use Rattle.responder.specs.declared.answers.Reply.{Reply}
use Rattle.responder.specs.declared.answers.Reply.TheVariants as reply
use Rattle.responder.specs.Taking.{Around, Taking}

-- what a responder of this end and this link works on in a context
abbrev pub around : Context → End → Link → Around
around c e l = record { terms = l.terms; domain = e.domain; qp = e.number; receiver = l.receiver; regions = c.regions; unused = e.unused }

-- the context with other regions
abbrev pub with_regions : Context → List Region → Context
with_regions c regions = record c { regions = regions }

-- the context with these completions at the end of a queue; none change nothing
abbrev pub completing_all : Context → Name → List Completion → Context
completing_all c q [] = c
completing_all c q (w ∷ ws) = completing c q (w ∷ ws)

-- the end and its link as they are after a request
abbrev pub end_after : End → Taking → End
end_after e t = with_unused e t.unused

-- the link as it is after a request
abbrev pub link_after : Link → Taking → Link
link_after l t = with_receiver l t.receiver

-- the context after a request that acted
abbrev pub context_after : Context → End → Link → Taking → Context
context_after c e l t = completing_all (linked (with_regions c t.regions) (end_after e t) (link_after l t)) e.recv_cq t.done

-- a repeat changes nothing: number n is before the expected one
abbrev pub context_at : Context → End → Link → Taking → ℕ → Context
context_at c e l t n = if n == l.receiver.expected then context_after c e l t else c

-- the step on an answer: acknowledgements are for the number before the expected one, NAKs and RNR NAKs for the expected
-- one, and a refusal ends the end with all its work flushed
abbrev pub step_by : Context → End → Link → Taking → Reply → EndStep
step_by c e l t reply.Acted = stays (context_after c e l t) took.Acted
step_by c e l t reply.Ack = record { context = context_after c e l t; took = took.Ack; sent = acknowledge (link_after l t) (t.receiver.expected - 1) Ack ∷ [] }
step_by c e l t (reply.ReadBytes spot first count) = record {
  context = context_at c e l t first;
  took = took.Bytes;
  sent = read_pieces (link_after l t) (region_of_key c spot.region) spot.off spot.length first count;
}
step_by c e l t (reply.AtomicOld number old) = record { context = context_at c e l t number; took = took.Old; sent = old_answer (link_after l t) number old ∷ [] }
step_by c e l t reply.SequenceNak = record { context = context_after c e l t; took = took.SeqNak; sent = acknowledge l l.receiver.expected (Nak 0) ∷ [] }
step_by c e l t reply.NotReady = record { context = c; took = took.NotReady; sent = acknowledge l l.receiver.expected Rnr ∷ [] }
step_by c e l t (reply.Refused w) = record {
  context = ended_with (completing_all c e.recv_cq t.done) (end_after e t) (link_after l t) status.Flush;
  took = took.Refused w;
  sent = acknowledge l l.receiver.expected (Nak (nak_code w)) ∷ [];
}
step_by c e l t reply.DupAck = record { context = c; took = took.DupAck; sent = acknowledge l (l.receiver.expected - 1) Ack ∷ [] }
step_by c e l t (reply.Silent w) = silent c w

-- the step of an end on what a request does
unfoldable pub step_of : Context → End → Link → Taking → EndStep
step_of c e l t = step_by c e l t t.reply
