-- The delivery of a datagram: what must hold of each kind of datagram, so that the machine follows every delivery.
use Rattle.std.specs.Prelude.{◌≡◌, ℕ, ◌-◌, List, [], ◌∷◌, slice_get, Bool, true, false, Option, Some, None, if◌then◌else◌}
use Rattle.rdma_types.specs.declared.names.ObjName.{ObjName}
use Rattle.rdma_types.specs.declared.answers.Answer.TheVariants as answers
use Rattle.rdma_types.specs.declared.answers.ArrivalEffect.{ArrivalEffect}
use Rattle.rdma_types.specs.declared.answers.ArrivalEffect.TheVariants as took
use Rattle.protocol.specs.declared.events.WorldEvent.TheVariants.{Deliver}
use Rattle.protocol.specs.Fabric.{Look, Here, IsGone, IsLost, IsAged, is_late, kept_flight, look}
use Rattle.protocol.specs.Wire.{Packet, packet_of, wire_of, is_request, is_control}
use Rattle.protocol.specs.Moves.{nak_stopped}
use Rattle.protocol.specs.State as state
use Rattle.protocol.specs.State.{World, Device, Flight, HuskEntry, Link, context_at, end_at}
use Rattle.protocol.specs.EndStep.{takes}
use Rattle.protocol.specs.DeviceStep.{ended_step, gives, husk_entries, found_in}
use Rattle.protocol.specs.WorldStep.{is_live, home, ran, now_of, device_with}
use Rattle.packetless_machine.specs.declared.steps.MachineStep.{MachineStep}
use Rattle.packetless_machine.specs.declared.steps.MachineStep.TheVariants as steps
use Rattle.packetless_machine.specs.Machine as machine
use Rattle.packetless_machine.specs.Machine.{Machine}
use Rattle.packetless_machine.specs.Legal.{IsRun, after}
use Rattle.law_simulation.specs.Packets.{Class, class_of, IsRequest, IsReadResponse, IsAtomicResponse, IsAck, IsSequenceNak, IsRefusal, IsReceiverNotReady, IsStopped, IsResume, IsResumeAck}
use Rattle.law_simulation.specs.Views.{net_of, name_of, peer}
use Rattle.law_simulation.specs.Facts.{Fact, PacketFact}
use Rattle.law_simulation.specs.Carries.{CarriesNumbered}
use Rattle.law_simulation.specs.Stands.{Stands}
use Rattle.law_simulation.specs.Named.{FollowsByName, numbered_steps}

-- ---- a datagram at an end that lives in Rts

-- the context of an end, where it lives
abbrev pub context_there : World → ObjName → state.Context
context_there w o = context_at (home w o.context) o.context

-- the end, where it lives
abbrev pub end_there : World → ObjName → state.End
end_there w o = end_at (context_there w o) o.name

-- the number that a datagram of that kind is compared with, to be late: the expected one for a request, and `top` for a
-- response
abbrev pub mark_at : Link → Packet → ℕ
mark_at l d = if is_request d.opcode then l.receiver.expected else l.sender.top

-- a datagram that says d, with that true number and those bytes, arrives at the end o, which lives in Rts with the link l
pub record Arrives (w : World) (m : Machine) (o : ObjName) (l : Link) (number : Option ℕ) (bytes : List ℕ) (d : Packet) : Type 0 where
  pub stands : Stands w m
  pub live : is_live w o.context ≡ true
  pub there : machine.has_end m o ≡ true
  pub linked : (end_there w o).link ≡ Some l
  pub alive : l.ended ≡ false
  -- the datagram names that end, and is what was sent
  pub named : name_of m d.dest ≡ o
  pub read : packet_of bytes ≡ Some d
  pub fact : PacketFact ((net_of w m).side o) ((net_of w m).side (peer (net_of w m) o)) ((net_of w m).end o) ((net_of w m).end (peer (net_of w m) o)) number bytes d
  -- it is not late
  pub fresh : is_late number (mark_at l d) ≡ false

-- no verb is among the steps
abbrev pub AreInner : List MachineStep → Type 0
AreInner [] = Unit {0}
AreInner (steps.Verb verb given ∷ ss) = ⊥
AreInner (other ∷ ss) = AreInner ss

-- what the end took the packet for
abbrev pub taken_for : World → ObjName → Link → Packet → ArrivalEffect
taken_for w o l d = (takes (context_there w o) (end_there w o) l d).took

-- the machine makes inner steps that the datagram may carry, those that are named, and comes to a state for which the world
-- stands once the end took the packet and its answers are on their way
pub record Takes (w : World) (m : Machine) (o : ObjName) (l : Link) (number : Option ℕ) (d : Packet) : Type 0 where
  pub steps : List MachineStep
  pub inner : AreInner steps
  pub is_run : IsRun m steps
  pub allowed : CarriesNumbered w m o number d.payload (class_of d) steps
  pub named : steps ≡ numbered_steps w m o number d.payload (class_of d) (taken_for w o l d)
  pub stands : Stands (ran w (ended_step (home w o.context) (takes (context_there w o) (end_there w o) l d))).world (after m steps)

-- ---- what must hold of each kind

-- a datagram of that kind is followed at each end that lives in Rts
abbrev pub IsOwed : Class → Type 0
IsOwed c =
    (w : World) (m : Machine) (o : ObjName) (l : Link) (number : Option ℕ) (bytes : List ℕ) (d : Packet) →
    Arrives w m o l number bytes d → class_of d ≡ c → Takes w m o l number d

abbrev pub RequestsAreTaken : Type 0
RequestsAreTaken = IsOwed IsRequest

abbrev pub AcksAreTaken : Type 0
AcksAreTaken = IsOwed IsAck

abbrev pub SequenceNaksAreTaken : Type 0
SequenceNaksAreTaken = IsOwed IsSequenceNak

abbrev pub RefusalsAreTaken : Type 0
RefusalsAreTaken = (is_access : Bool) → IsOwed (IsRefusal is_access)

abbrev pub ReceiverNotReadyIsTaken : Type 0
ReceiverNotReadyIsTaken = IsOwed IsReceiverNotReady

abbrev pub ReadResponsesAreTaken : Type 0
ReadResponsesAreTaken = IsOwed IsReadResponse

abbrev pub AtomicResponsesAreTaken : Type 0
AtomicResponsesAreTaken = IsOwed IsAtomicResponse

abbrev pub StoppedIsTaken : Type 0
StoppedIsTaken = (count : ℕ) → IsOwed (IsStopped count)

abbrev pub ResumesAreTaken : Type 0
ResumesAreTaken = (body : _) → IsOwed (IsResume body)

abbrev pub ResumeAcksAreTaken : Type 0
ResumeAcksAreTaken = (body : _) → IsOwed (IsResumeAck body)

-- a husk answers a datagram that is no message of moving, for an end that is not there: the NAK_STOPPED that it sends
-- keeps the relation
abbrev pub HusksAnswer : Type 0
HusksAnswer =
    (w : World) (m : Machine) (f : Flight) (d : Device) (p : Packet) (h : HuskEntry) (hs : List HuskEntry) →
    Stands w m → device_with w f.to ≡ Some d → packet_of f.bytes ≡ Some p → Fact (net_of w m) f →
    found_in p.dest d.contexts ≡ [] → husk_entries p.dest d.husks ≡ h ∷ hs → is_control p ≡ false →
    Stands (ran w (gives d (answers.Took took.Stopped 0 1) (record { to = f.from; number = None; bytes = wire_of (nak_stopped h p.psn) } ∷ []))).world m

-- all of them
pub record AreAllTaken : Type 0 where
  pub requests : RequestsAreTaken
  pub acks : AcksAreTaken
  pub sequence_naks : SequenceNaksAreTaken
  pub refusals : RefusalsAreTaken
  pub receiver_not_ready : ReceiverNotReadyIsTaken
  pub read_responses : ReadResponsesAreTaken
  pub atomic_responses : AtomicResponsesAreTaken
  pub stopped : StoppedIsTaken
  pub resumes : ResumesAreTaken
  pub resume_acks : ResumeAcksAreTaken
  pub husks : HusksAnswer

-- ---- deliveries

-- datagram k is gone, lost or aged
abbrev pub IsAway : Look → Type 0
IsAway (Here f) = ⊥
IsAway IsGone = Unit {0}
IsAway IsLost = Unit {0}
IsAway IsAged = Unit {0}

-- the machine follows a delivery that brings nothing, since the datagram is gone, lost or aged, by the steps that are named
abbrev pub FollowsAway : Type 0
FollowsAway = (k : ℕ) (w : World) (m : Machine) → Stands w m → IsAway (look w.sent k (now_of w (kept_flight w.sent k))) → FollowsByName w m (Deliver k)

-- datagram k, if it was sent, is of that kind
abbrev pub IsOfKind : World → ℕ → Class → Type 0
IsOfKind w k c = (f : Flight) (d : Packet) → slice_get w.sent (k - 1) ≡ Some f → packet_of f.bytes ≡ Some d → class_of d ≡ c

-- .. and each delivery of a datagram of that kind
abbrev pub FollowsKind : Class → Type 0
FollowsKind c = (k : ℕ) (w : World) (m : Machine) → Stands w m → IsOfKind w k c → FollowsByName w m (Deliver k)
