-- The table of events, and the whole law.
use Rattle.std.proofs.Common.{ℕ, List}
use Rattle.std.specs.Prelude.{Option}
use Rattle.rdma_types.specs.declared.names.ObjName.{ObjName}
use Rattle.protocol.specs.declared.events.Event.{Event}
use Rattle.protocol.specs.declared.events.Event.TheVariants as events
use Rattle.protocol.specs.declared.events.WorldEvent.{WorldEvent}
use Rattle.protocol.specs.declared.events.WorldEvent.TheVariants as world_events
use Rattle.rdma_types.specs.declared.names.Name.{Name}
use Rattle.rdma_types.specs.declared.requests.Address.{Address}
use Rattle.rdma_types.specs.declared.requests.Receive.{Receive}
use Rattle.rdma_types.specs.declared.requests.Request.{Request}
use Rattle.rdma_types.specs.declared.requests.Terms.{Terms}
use Rattle.rdma_types.specs.declared.rights.Rights.{Rights}
use Rattle.protocol.specs.State.{empty_world}
use Rattle.packetless_machine.specs.Machine.{empty}
use Rattle.law_simulation.specs.Views.{peer}
use Rattle.law_simulation.specs.Stands.{Stands}
use Rattle.law_simulation.specs.Law.{AlwaysFollows, Law}
use Rattle.law_simulation.specs.Delivered.{AreAllTaken, RequestsAreTaken, HusksAnswer, AcksAreTaken, SequenceNaksAreTaken, RefusalsAreTaken, ReceiverNotReadyIsTaken, ReadResponsesAreTaken, AtomicResponsesAreTaken, StoppedIsTaken, ResumesAreTaken, ResumeAcksAreTaken}
use Rattle.law_simulation.specs.Runs.{IsHeardLegal, RunsFollow}

-- ---- the events of a context

-- the laws of events other than deliveries
pub record AreLaws : Type 0 where
  pub device : (id : ℕ) (address : Address) → AlwaysFollows (world_events.AddDevice id address)
  pub context : (name : Name) (device : ℕ) → AlwaysFollows (world_events.MakeContext name device)
  pub domain : (o : ObjName) → AlwaysFollows (world_events.At (events.MakeDomain o))
  pub region : (o : ObjName) (domain : Option Name) (base length : ℕ) (rights : Rights) → AlwaysFollows (world_events.At (events.MakeRegion o domain base length rights))
  pub queue : (o : ObjName) (capacity : ℕ) → AlwaysFollows (world_events.At (events.MakeCq o capacity))
  pub queue_pair : (o : ObjName) (domain send_cq recv_cq : Option Name) (send_depth recv_depth : ℕ) → AlwaysFollows (world_events.At (events.MakeQp o domain send_cq recv_cq send_depth recv_depth))
  pub connect : (one two : ObjName) (terms : Terms) → AlwaysFollows (world_events.Connect one two terms)
  pub store : (o : ObjName) (address : ℕ) (bytes : List ℕ) → AlwaysFollows (world_events.At (events.Store o address bytes))
  pub load : (o : ObjName) (address length : ℕ) → AlwaysFollows (world_events.At (events.Load o address length))
  pub drop : (o : ObjName) → AlwaysFollows (world_events.At (events.DropRegion o))
  pub lose : (k : ℕ) → AlwaysFollows (world_events.Lose k)
  pub wire : (k : ℕ) → AlwaysFollows (world_events.Wire k)
  pub send : (o : ObjName) (request : Request) → AlwaysFollows (world_events.At (events.PostSend o request))
  pub receive : (o : ObjName) (receive : Receive) → AlwaysFollows (world_events.At (events.PostRecv o receive))
  pub poll : (o : ObjName) (most : ℕ) → AlwaysFollows (world_events.At (events.Poll o most))
  pub transmit : (o : ObjName) → AlwaysFollows (world_events.At (events.Transmit o))
  pub expire : (o : ObjName) → AlwaysFollows (world_events.At (events.Expire o))
  pub rnr_over : (o : ObjName) → AlwaysFollows (world_events.At (events.RnrOver o))
  pub stop : (name : Name) → AlwaysFollows (world_events.Stop name)
  pub restore : (name : Name) (device : ℕ) → AlwaysFollows (world_events.Restore name device)
  pub release : (name : Name) (device : ℕ) → AlwaysFollows (world_events.Release name device)

-- an event of a context
at_follows : AreLaws → (e : Event) → AlwaysFollows (world_events.At e)
at_follows laws (events.MakeContext name) = λ w m r s. absurd r
at_follows laws (events.MakeDomain o) = laws.domain o
at_follows laws (events.MakeRegion o domain base length rights) = laws.region o domain base length rights
at_follows laws (events.MakeCq o capacity) = laws.queue o capacity
at_follows laws (events.MakeQp o domain send_cq recv_cq send_depth recv_depth) = laws.queue_pair o domain send_cq recv_cq send_depth recv_depth
at_follows laws (events.Connect end peer partner terms) = λ w m r s. absurd r
at_follows laws (events.DropRegion o) = laws.drop o
at_follows laws (events.Store o address bytes) = laws.store o address bytes
at_follows laws (events.Load o address length) = laws.load o address length
at_follows laws (events.PostSend o r) = laws.send o r
at_follows laws (events.PostRecv o r) = laws.receive o r
at_follows laws (events.Poll o most) = laws.poll o most
at_follows laws (events.Transmit o) = laws.transmit o
at_follows laws (events.Arrive from bytes) = λ w m r s. absurd r
at_follows laws (events.Expire o) = laws.expire o
at_follows laws (events.RnrOver o) = laws.rnr_over o
at_follows laws (events.Stop name alone) = λ w m r s. absurd r
at_follows laws (events.Restore image) = λ w m r s. absurd r
at_follows laws (events.Release name) = λ w m r s. absurd r

-- ---- the table

pub each_follows : AreLaws → ((k : ℕ) → AlwaysFollows (world_events.Deliver k)) → (e : WorldEvent) → AlwaysFollows e
each_follows laws deliveries (world_events.AddDevice id address) = laws.device id address
each_follows laws deliveries (world_events.MakeContext name device) = laws.context name device
each_follows laws deliveries (world_events.At e) = at_follows laws e
each_follows laws deliveries (world_events.Connect one two terms) = laws.connect one two terms
each_follows laws deliveries (world_events.Deliver k) = deliveries k
each_follows laws deliveries (world_events.Lose k) = laws.lose k
each_follows laws deliveries (world_events.Wire k) = laws.wire k
each_follows laws deliveries (world_events.Stop name) = laws.stop name
each_follows laws deliveries (world_events.Restore name device) = laws.restore name device
each_follows laws deliveries (world_events.Release name device) = laws.release name device

-- ---- the kinds of datagrams

-- the laws of all kinds but requests
pub record AreOthersTaken : Type 0 where
  pub acks : AcksAreTaken
  pub sequence_naks : SequenceNaksAreTaken
  pub refusals : RefusalsAreTaken
  pub receiver_not_ready : ReceiverNotReadyIsTaken
  pub read_responses : ReadResponsesAreTaken
  pub atomic_responses : AtomicResponsesAreTaken
  pub stopped : StoppedIsTaken
  pub resumes : ResumesAreTaken
  pub resume_acks : ResumeAcksAreTaken
  pub husks : HusksAnswer

pub all_taken : AreOthersTaken → RequestsAreTaken → AreAllTaken
all_taken others requests = record {
  requests = requests;
  acks = others.acks;
  sequence_naks = others.sequence_naks;
  refusals = others.refusals;
  receiver_not_ready = others.receiver_not_ready;
  read_responses = others.read_responses;
  atomic_responses = others.atomic_responses;
  stopped = others.stopped;
  resumes = others.resumes;
  resume_acks = others.resume_acks;
  husks = others.husks;
}

-- ---- the whole law

pub law_is : Stands empty_world empty → RunsFollow → IsHeardLegal → ((e : WorldEvent) → AlwaysFollows e) → Law
law_is start runs heard follows = record {
  start = start;
  step = follows;
  run = λ es r. runs empty_world empty es (λ k d b. follows _) r start;
  legal = λ es r. heard es (runs empty_world empty es (λ k d b. follows _) r start);
}
