-- What is owed of each kind of datagram, put together.
use Rattle.std.proofs.Common.{◌≡◌, ℕ, List, refl, subst}
use Rattle.std.specs.Prelude.{Option, Some, None}
use Rattle.rdma_types.specs.declared.names.ObjName.{ObjName}
use Rattle.protocol.specs.declared.events.WorldEvent.TheVariants as world_events
use Rattle.protocol.specs.State.{World, Link}
use Rattle.protocol.specs.Wire.{Packet}
use Rattle.packetless_machine.specs.Machine.{Machine, End}
use Rattle.law_simulation.specs.Packets.{Class, class_of, IsRequest, IsReadResponse, IsAtomicResponse, IsAck, IsSequenceNak, IsRefusal, IsReceiverNotReady, IsStopped, IsResume, IsResumeAck, IsNothing}
use Rattle.law_simulation.specs.Views.{Side, net_of, peer}
use Rattle.law_simulation.specs.Facts.{ClassFact, NumberedFact, MoveFact}
use Rattle.law_simulation.specs.Stands.{Stands}
use Rattle.law_simulation.specs.Named.{FollowsByName}
use Rattle.law_simulation.specs.Delivered.{Arrives, Takes, IsOwed, IsOfKind, HusksAnswer, AreAllTaken}
use Rattle.law_simulation.proofs.delivery.Arriving.{delivered_follows}

-- no end sends a datagram that is of no kind
no_kind : (p x : Side) (e g : End) (number : Option ℕ) (d : Packet) → ClassFact p x e g number d → class_of d ≡ IsNothing → ⊥
no_kind p x e g None d fact is = subst (MoveFact x) is fact
no_kind p x e g (Some n) d fact is = subst (NumberedFact p x e g n d) is fact

by_kind : (w : World) (m : Machine) (o : ObjName) (l : Link) (number : Option ℕ) (bytes : List ℕ) (d : Packet) → AreAllTaken → Arrives w m o l number bytes d → (c : Class) → class_of d ≡ c → Takes w m o l number d
by_kind w m o l number bytes d all a IsRequest is = all.requests w m o l number bytes d a is
by_kind w m o l number bytes d all a IsReadResponse is = all.read_responses w m o l number bytes d a is
by_kind w m o l number bytes d all a IsAtomicResponse is = all.atomic_responses w m o l number bytes d a is
by_kind w m o l number bytes d all a IsAck is = all.acks w m o l number bytes d a is
by_kind w m o l number bytes d all a IsSequenceNak is = all.sequence_naks w m o l number bytes d a is
by_kind w m o l number bytes d all a (IsRefusal is_access) is = all.refusals is_access w m o l number bytes d a is
by_kind w m o l number bytes d all a IsReceiverNotReady is = all.receiver_not_ready w m o l number bytes d a is
by_kind w m o l number bytes d all a (IsStopped count) is = all.stopped count w m o l number bytes d a is
by_kind w m o l number bytes d all a (IsResume body) is = all.resumes body w m o l number bytes d a is
by_kind w m o l number bytes d all a (IsResumeAck body) is = all.resume_acks body w m o l number bytes d a is
by_kind w m o l number bytes d all a IsNothing is = absurd (no_kind ((net_of w m).side o) ((net_of w m).side (peer (net_of w m) o)) ((net_of w m).end o) ((net_of w m).end (peer (net_of w m) o)) number d a.fact.fact is)

-- one kind
pub kind_follows : (c : Class) → HusksAnswer → IsOwed c → (k : ℕ) (w : World) (m : Machine) → Stands w m → IsOfKind w k c → FollowsByName w m (world_events.Deliver k)
kind_follows c husks owed k w m s is = delivered_follows w m k s husks (λ f d l sent read a. owed _ m _ l f.number f.bytes d a (is f d sent read))

-- all kinds
pub deliver_follows : AreAllTaken → (k : ℕ) (w : World) (m : Machine) → Stands w m → FollowsByName w m (world_events.Deliver k)
deliver_follows all k w m s = delivered_follows w m k s all.husks (λ f d l sent read a. by_kind _ m _ l f.number f.bytes d all a (class_of d) refl)
