-- The inner steps that are named are inner steps, so that an event that is followed by the named steps is followed.
use Rattle.std.proofs.Common.{◌≡◌, ℕ, zero, suc, ◌-◌, ◌*◌, List, [], ◌∷◌, ◌++◌, true, false, Bool, refl, sym, ap, ◌∙◌, subst}
use Rattle.std.specs.Prelude.{Option, Some, None, ◌==◌, ◌&&◌, nat_lt, if◌then◌else◌, min}
use Rattle.rdma_types.specs.declared.names.ObjName.{ObjName}
use Rattle.rdma_types.specs.declared.answers.Answer.{Answer}
use Rattle.rdma_types.specs.declared.answers.Answer.TheVariants as answers
use Rattle.rdma_types.specs.declared.answers.ArrivalEffect.{ArrivalEffect}
use Rattle.rdma_types.specs.declared.answers.ArrivalEffect.TheVariants as took
use Rattle.rdma_types.specs.declared.requests.WcStatus.TheVariants as statuses
use Rattle.rdma_types.specs.declared.verbs.Verb.{Verb}
use Rattle.packetless_machine.specs.declared.steps.MachineStep.{MachineStep}
use Rattle.packetless_machine.specs.declared.steps.MachineStep.TheVariants as steps
use Rattle.packetless_machine.specs.Machine as machine
use Rattle.packetless_machine.specs.Machine.{Machine}
use Rattle.law_simulation.specs.Law.{inner_of}
use Rattle.rdma_types.specs.Kinds.{is_read, kind_of, size_of}
use Rattle.rdma_types.specs.Spans.{span_of}
use Rattle.rdma_types.specs.declared.answers.RefusalReason.TheVariants as whys
use Rattle.protocol.specs.declared.events.Event.{Event}
use Rattle.protocol.specs.declared.events.Event.TheVariants as events
use Rattle.protocol.specs.declared.events.WorldEvent.{WorldEvent}
use Rattle.protocol.specs.declared.events.WorldEvent.TheVariants as world_events
use Rattle.protocol.specs.State.{World, Flight}
use Rattle.protocol.specs.Wire.{Packet}
use Rattle.protocol.specs.WorldStep.{world_step}
use Rattle.packetless_machine.specs.Numbers.{due}
use Rattle.packetless_machine.specs.Steps.{may_run, may_atom, may_read, may_refuse}
use Rattle.law_simulation.specs.Carries.{Allows, due_steps, expire_steps, is_counted, is_rest_granted, piece_at, request_at, land_steps, offers_from, offers_of, repeat_steps, request_steps, tell_steps}
use Rattle.law_simulation.specs.Kept.{kept_of}
use Rattle.law_simulation.specs.Packets.{Class, IsRequest, IsReadResponse, IsAtomicResponse, IsAck, IsSequenceNak, IsRefusal, IsReceiverNotReady, IsStopped, IsResume, IsResumeAck, IsNothing}
use Rattle.law_simulation.specs.Named as named
use Rattle.law_simulation.specs.Named.{NamedIsMore, acknowledged_steps, event_steps, inner_by, inner_steps, known_bytes, last_step, learning, ending, old_steps, read_steps, spoken_steps, tells}

-- nothing but inner steps
abbrev pub AreInner : List MachineStep → Type 0
AreInner ss = inner_of ss ≡ ss

-- verbs in front are left out
pub spoken_left : (xs : List (Verb × Answer)) (ss : List MachineStep) → inner_of (spoken_steps xs ++ ss) ≡ inner_of ss
spoken_left [] ss = refl
spoken_left (x ∷ xs) ss = spoken_left xs ss

if_inner : (b : Bool) (xs ys : List MachineStep) → AreInner xs → AreInner ys → AreInner (if b then xs else ys)
if_inner true xs ys h k = h
if_inner false xs ys h k = k

both_inner : (xs ys : List MachineStep) → AreInner xs → AreInner ys → inner_of (xs ++ ys) ≡ xs ++ ys
both_inner xs ys h k = joined xs ∙ (ap (λ z. z ++ inner_of ys) h ∙ ap (λ z. xs ++ z) k)
  where
    joined : (xs : List MachineStep) → inner_of (xs ++ ys) ≡ inner_of xs ++ inner_of ys
    joined [] = refl
    joined (steps.Verb verb given ∷ ss) = joined ss
    joined (steps.Run q n ∷ ss) = ap (λ z. steps.Run q n ∷ z) (joined ss)
    joined (steps.Atom q ∷ ss) = ap (λ z. steps.Atom q ∷ z) (joined ss)
    joined (steps.ReadTurn q ∷ ss) = ap (λ z. steps.ReadTurn q ∷ z) (joined ss)
    joined (steps.Refuse q why ∷ ss) = ap (λ z. steps.Refuse q why ∷ z) (joined ss)
    joined (steps.Dry q ∷ ss) = ap (λ z. steps.Dry q ∷ z) (joined ss)
    joined (steps.Offer q i off n ∷ ss) = ap (λ z. steps.Offer q i off n ∷ z) (joined ss)
    joined (steps.Land q o ∷ ss) = ap (λ z. steps.Land q o ∷ z) (joined ss)
    joined (steps.Known q bytes ∷ ss) = ap (λ z. steps.Known q bytes ∷ z) (joined ss)
    joined (steps.Tell q ∷ ss) = ap (λ z. steps.Tell q ∷ z) (joined ss)
    joined (steps.Expire q ∷ ss) = ap (λ z. steps.Expire q ∷ z) (joined ss)
    joined (steps.Wait q ∷ ss) = ap (λ z. steps.Wait q ∷ z) (joined ss)
    joined (steps.Bounce q ∷ ss) = ap (λ z. steps.Bounce q ∷ z) (joined ss)

tells_inner : (q : ObjName) (count : ℕ) → AreInner (tells q count)
unfolding tells
tells_inner q zero = refl
tells_inner q (suc count) = ap (λ z. steps.Tell q ∷ z) (tells_inner q count)

bytes_inner : (q : ObjName) (n : ℕ) → AreInner (known_bytes q n)
unfolding known_bytes
bytes_inner q zero = refl
bytes_inner q (suc n) = refl

learning_inner : (q : ObjName) (e : machine.End) (n : ℕ) → AreInner (learning q e n)
unfolding learning
learning_inner q e n = if_inner _ _ [] (both_inner _ _ (tells_inner q _) (bytes_inner q _)) refl

last_inner : (q : ObjName) (t : ArrivalEffect) → AreInner (last_step q t)
unfolding last_step ending
last_inner q took.Waits = refl
last_inner q (took.Ended statuses.Success) = refl
last_inner q (took.Ended statuses.LocalLength) = refl
last_inner q (took.Ended statuses.Flush) = refl
last_inner q (took.Ended statuses.RemoteInvalid) = refl
last_inner q (took.Ended statuses.RemoteAccess) = refl
last_inner q (took.Ended statuses.RetryExceeded) = refl
last_inner q (took.Ended statuses.RnrExceeded) = refl
last_inner q took.Acted = refl
last_inner q took.Ack = refl
last_inner q took.Bytes = refl
last_inner q took.Old = refl
last_inner q took.SeqNak = refl
last_inner q took.NotReady = refl
last_inner q took.DupAck = refl
last_inner q (took.Refused w) = refl
last_inner q took.Acked = refl
last_inner q took.Landed = refl
last_inner q took.Rewound = refl
last_inner q took.Stopped = refl
last_inner q took.Paused = refl
last_inner q took.Resumed = refl
last_inner q took.ResumeAck = refl
last_inner q took.Running = refl
last_inner q (took.Silent w) = refl

acknowledged_inner : (m : Machine) (q : ObjName) (limit : ℕ) (t : ArrivalEffect) → AreInner (acknowledged_steps m q limit t)
unfolding acknowledged_steps
acknowledged_inner m q limit t = if_inner _ _ [] (both_inner _ _ (learning_inner q _ limit) (last_inner q t)) refl

land_inner : (q : ObjName) (o : ℕ) (bytes : List ℕ) → AreInner (land_steps q o bytes)
unfolding land_steps
land_inner q o [] = refl
land_inner q o (b ∷ bs) = refl

read_inner : (q : ObjName) (e : machine.End) (n : ℕ) (bytes : List ℕ) → AreInner (read_steps q e n bytes)
unfolding read_steps tell_steps
read_inner q e n bytes = both_inner _ _ (learning_inner q e n) (both_inner _ _ (land_inner q _ bytes) (if_inner (suc (piece_at e n) == span_of (machine.posted_at e.posted (request_at e n)) e.mtu) (steps.Tell q ∷ []) [] refl refl))

old_inner : (q : ObjName) (e : machine.End) (n : ℕ) → AreInner (old_steps q e n)
unfolding old_steps
old_inner q e n = both_inner _ _ (learning_inner q e n) refl

offers_inner : (q : ObjName) (e : machine.End) (i k left : ℕ) → AreInner (offers_from q e i k left)
unfolding offers_from
offers_inner q e i k zero = refl
offers_inner q e i k (suc left) = ap (λ z. steps.Offer q i (k * e.mtu) (min e.mtu (size_of (machine.posted_at e.posted i) - k * e.mtu)) ∷ z) (offers_inner q e i (suc k) left)

all_offers : (q : ObjName) (e : machine.End) (i k : ℕ) → AreInner (offers_of q e i k)
unfolding offers_of
all_offers q e i k = offers_inner q e i k _

by_tests : (m : Machine) (q : ObjName) (bytes : ℕ) (xs : List MachineStep) → AreInner xs → (a b c d e f : Bool) →
    AreInner (if a then steps.Run q bytes ∷ [] else if b then steps.Atom q ∷ [] else if c then steps.ReadTurn q ∷ xs else if d then steps.Refuse q whys.Invalid ∷ [] else if e then steps.Refuse q whys.Access ∷ [] else if f then steps.Refuse q whys.Length ∷ [] else steps.Dry q ∷ [])
by_tests m q bytes xs h true b c d e f = refl
by_tests m q bytes xs h false true c d e f = refl
by_tests m q bytes xs h false false true d e f = ap (λ z. steps.ReadTurn q ∷ z) h
by_tests m q bytes xs h false false false true e f = refl
by_tests m q bytes xs h false false false false true f = refl
by_tests m q bytes xs h false false false false false true = refl
by_tests m q bytes xs h false false false false false false = refl

due_inner : (m : Machine) (q : ObjName) (bytes : ℕ) → AreInner (due_steps m q bytes)
unfolding due_steps
due_inner m q bytes =
    by_tests m q bytes _ (all_offers q (machine.end_of m q) (machine.end_of m q).acted 0) (may_run m q bytes) (may_atom m q) (may_read m q) (may_refuse m q whys.Invalid) (may_refuse m q whys.Access) (may_refuse m q whys.Length)

repeat_inner : (m : Machine) (q : ObjName) (i k : ℕ) → AreInner (repeat_steps m q i k)
unfolding repeat_steps
repeat_inner m q i k = if_inner (is_read (kind_of (machine.posted_at (machine.end_of m q).posted i)) && is_rest_granted m q i k) (offers_of q (machine.end_of m q) i k) [] (all_offers q (machine.end_of m q) i k) refl

request_inner : (m : Machine) (q : ObjName) (n bytes : ℕ) → AreInner (request_steps m q n bytes)
unfolding request_steps
request_inner m q n bytes =
    if_inner (n == due (machine.end_of m q)) (due_steps m q bytes) _ (due_inner m q bytes)
    (if_inner (nat_lt n (due (machine.end_of m q))) (repeat_steps m q _ _) [] (repeat_inner m q (request_at (machine.end_of m q) n) (piece_at (machine.end_of m q) n)) refl)

class_inner : (w : World) (m : Machine) (p : ObjName) (n : ℕ) (bytes : List ℕ) (c : Class) (t : ArrivalEffect) → AreInner (named.class_steps w m p n bytes c t)
class_inner w m p n bytes IsRequest t = if_inner _ [] _ refl (request_inner m _ n _)
class_inner w m p n bytes IsReadResponse t = if_inner _ _ [] (read_inner p _ n bytes) refl
class_inner w m p n bytes IsAtomicResponse t = if_inner _ _ [] (old_inner p _ n) refl
class_inner w m p n bytes IsAck t = acknowledged_inner m p _ t
class_inner w m p n bytes IsSequenceNak t = acknowledged_inner m p _ t
class_inner w m p n bytes (IsRefusal b) t = acknowledged_inner m p _ t
class_inner w m p n bytes IsReceiverNotReady t = acknowledged_inner m p _ t
class_inner w m p n bytes (IsStopped count) t = refl
class_inner w m p n bytes (IsResume body) t = refl
class_inner w m p n bytes (IsResumeAck body) t = refl
class_inner w m p n bytes IsNothing t = refl

numbered_inner : (w : World) (m : Machine) (p : ObjName) (number : Option ℕ) (bytes : List ℕ) (c : Class) (t : ArrivalEffect) → AreInner (named.numbered_steps w m p number bytes c t)
numbered_inner w m p None bytes c t = refl
numbered_inner w m p (Some n) bytes c t = class_inner w m p n bytes c t

packet_inner : (w : World) (m : Machine) (f : Flight) (d : Option Packet) (t : ArrivalEffect) → AreInner (named.packet_steps w m f d t)
packet_inner w m f None t = refl
packet_inner w m f (Some d) t = if_inner _ _ [] (numbered_inner w m _ f.number d.payload _ t) refl

flight_inner : (w : World) (m : Machine) (f : Option Flight) (t : ArrivalEffect) → AreInner (named.flight_steps w m f t)
flight_inner w m None t = refl
flight_inner w m (Some f) t = packet_inner w m f _ t

delivery_inner : (w : World) (m : Machine) (k : ℕ) (a : Answer) → AreInner (named.delivery_steps w m k a)
delivery_inner w m k (answers.Took t first count) = flight_inner w m _ t
delivery_inner w m k other = refl

turn_inner : (e : Event) (a : Answer) → AreInner (named.turn_steps e a)
unfolding expire_steps
turn_inner (events.Expire q) a = if_inner (is_counted a) (steps.Expire q ∷ []) [] refl refl
turn_inner other a = refl

by_inner : (w : World) (m : Machine) (e : WorldEvent) (a : Answer) → AreInner (inner_by w m e a)
by_inner w m (world_events.Deliver k) a = delivery_inner w m k a
by_inner w m (world_events.At e) a = turn_inner e a
by_inner w m other a = refl

pub named_inner : (w : World) (m : Machine) (e : WorldEvent) → inner_of (event_steps w m e) ≡ inner_steps w m e
named_inner w m e = spoken_left (kept_of w e (world_step w e).answer) (inner_by w m e (world_step w e).answer) ∙ by_inner w m e (world_step w e).answer

pub named_more : NamedIsMore
named_more w m e f = record {
  steps = event_steps w m e;
  is_run = f.is_run;
  heard = f.heard;
  allowed = subst (λ z. Allows w m e (world_step w e).answer z) (sym (named_inner w m e)) f.allowed;
  stands = f.stands;
}
