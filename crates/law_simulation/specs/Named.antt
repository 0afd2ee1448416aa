-- The steps of the machine at an event of a world by name: exactly these, in this order.
use Rattle.std.specs.Prelude.{◌≡◌, ℕ, zero, suc, ◌-◌, ◌*◌, List, [], ◌∷◌, ◌++◌, All, length, slice_get, Bool, true, false, nat_lt, ◌==◌, ◌&&◌, if◌then◌else◌, bytes_eq, Option, Some, None}
use Rattle.rdma_types.specs.declared.names.ObjName.{ObjName}
use Rattle.rdma_types.specs.declared.answers.Answer.{Answer}
use Rattle.rdma_types.specs.declared.answers.Answer.TheVariants as answers
use Rattle.rdma_types.specs.declared.answers.ArrivalEffect.{ArrivalEffect}
use Rattle.rdma_types.specs.declared.answers.ArrivalEffect.TheVariants as took
use Rattle.rdma_types.specs.declared.requests.WcStatus.{WcStatus}
use Rattle.rdma_types.specs.declared.requests.WcStatus.TheVariants as statuses
use Rattle.rdma_types.specs.declared.verbs.Verb.{Verb}
use Rattle.protocol.specs.declared.events.Event.{Event}
use Rattle.protocol.specs.declared.events.Event.TheVariants as events
use Rattle.protocol.specs.declared.events.WorldEvent.{WorldEvent}
use Rattle.protocol.specs.declared.events.WorldEvent.TheVariants as world_events
use Rattle.protocol.specs.EndWords.{is_paused}
use Rattle.protocol.specs.State.{World, Flight}
use Rattle.protocol.specs.Wire.{Packet, packet_of}
use Rattle.protocol.specs.WorldStep.{world_step, world_after}
use Rattle.packetless_machine.specs.declared.steps.MachineStep.{MachineStep}
use Rattle.packetless_machine.specs.declared.steps.MachineStep.TheVariants as steps
use Rattle.packetless_machine.specs.Legal.{IsRun, after, seen}
use Rattle.packetless_machine.specs.Machine as machine
use Rattle.packetless_machine.specs.Machine.{Machine, Offered, empty}
use Rattle.packetless_machine.specs.Numbers.{oldest}
use Rattle.packetless_machine.specs.Tables.{place_where}
use Rattle.law_simulation.specs.Carries.{Allows, before_barrier, expire_steps, finds_end, land_steps, piece_at, request_at, request_steps, tell_steps}
use Rattle.law_simulation.specs.Kept.{kept_of}
use Rattle.law_simulation.specs.Law.{AllowsAll, Follows, IsInRange, joined_steps, kept}
use Rattle.law_simulation.specs.Packets.{Class, class_of, IsRequest, IsReadResponse, IsAtomicResponse, IsAck, IsSequenceNak, IsRefusal, IsReceiverNotReady}
use Rattle.law_simulation.specs.Stands.{Stands}
use Rattle.law_simulation.specs.Views.{link_of, name_of}

-- ---- what the owner of q learns

-- so many requests are told
unfoldable pub tells : ObjName → ℕ → List MachineStep
tells q zero = []
tells q (suc count) = steps.Tell q ∷ tells q count

-- bytes of the next request become known, where there are any
unfoldable pub known_bytes : ObjName → ℕ → List MachineStep
known_bytes q zero = []
known_bytes q (suc n) = steps.Known q (suc n) ∷ []

-- all numbers below n are in place: one Tell for each request before that of number n, and then one Known where n is inside
-- its request; nothing where the owner knows them already
unfoldable pub learning : ObjName → machine.End → ℕ → List MachineStep
learning q e n = if nat_lt (oldest e) n then tells q (request_at e n - e.told) ++ known_bytes q (piece_at e n * e.mtu) else []

-- ---- a response with number n to q, by what q took it for

-- an acknowledge that is not useless moved the oldest number, or sent the requester back
unfoldable pub is_learned : ArrivalEffect → Bool
is_learned took.Acked = true
is_learned took.Rewound = true
is_learned took.Waits = true
is_learned (took.Ended status) = true
is_learned other = false

-- how an end goes to Error after the last of its waits, and by a refusal
unfoldable pub ending : ObjName → WcStatus → MachineStep
ending q statuses.RnrExceeded = steps.Wait q
ending q other = steps.Bounce q

-- after what is learned: a wait that is counted, or the end
unfoldable pub last_step : ObjName → ArrivalEffect → List MachineStep
last_step q took.Waits = steps.Wait q ∷ []
last_step q (took.Ended status) = ending q status ∷ []
last_step q other = []

-- an acknowledge: what is learned up to a number, and the last step
unfoldable pub acknowledged_steps : Machine → ObjName → ℕ → ArrivalEffect → List MachineStep
acknowledged_steps m q limit t = if is_learned t then learning q (machine.end_of m q) limit ++ last_step q t else []

-- the offer is one of these bytes of the Read
abbrev pub is_offer : ℕ → ℕ → List ℕ → Offered → Bool
is_offer request offset bytes o = (o.request == request) && ((o.offset == offset) && bytes_eq o.bytes bytes)

-- the place of the first offer that fits READ response n
unfoldable pub offer_place : machine.End → ℕ → List ℕ → ℕ
offer_place e n bytes = place_where (is_offer (request_at e n) (piece_at e n * e.mtu) bytes) e.offers

-- the response landed
unfoldable pub is_landed : ArrivalEffect → Bool
is_landed took.Landed = true
is_landed other = false

-- what a READ response lands: its bytes, where there are any, and after the last piece the Read is told
unfoldable pub read_steps : ObjName → machine.End → ℕ → List ℕ → List MachineStep
read_steps q e n bytes = learning q e n ++ (land_steps q (offer_place e n bytes) bytes ++ tell_steps q e n)

-- an old value lands as its atomic is told
unfoldable pub old_steps : ObjName → machine.End → ℕ → List MachineStep
old_steps q e n = learning q e n ++ steps.Tell q ∷ []

-- a response of each kind
abbrev pub response_steps : Machine → ObjName → ℕ → List ℕ → Class → ArrivalEffect → List MachineStep
response_steps m q n bytes IsReadResponse t = if is_landed t then read_steps q (machine.end_of m q) n bytes else []
response_steps m q n bytes IsAtomicResponse t = if is_landed t then old_steps q (machine.end_of m q) n else []
response_steps m q n bytes IsAck t = acknowledged_steps m q (before_barrier m q (suc n)) t
response_steps m q n bytes IsSequenceNak t = acknowledged_steps m q (before_barrier m q n) t
response_steps m q n bytes (IsRefusal is_access) t = acknowledged_steps m q (before_barrier m q n) t
response_steps m q n bytes IsReceiverNotReady t = acknowledged_steps m q (before_barrier m q n) t
response_steps m q n bytes other t = []

-- ---- any datagram, at the end p, which is live where it arrives and in Rts

-- a Paused end executes nothing
abbrev pub class_steps : World → Machine → ObjName → ℕ → List ℕ → Class → ArrivalEffect → List MachineStep
class_steps w m p n bytes IsRequest t = if is_paused (link_of w p).moving.phase then [] else request_steps m (machine.end_of m p).peer n (length bytes)
class_steps w m p n bytes other t = response_steps m p n bytes other t

-- messages of moving have no number
abbrev pub numbered_steps : World → Machine → ObjName → Option ℕ → List ℕ → Class → ArrivalEffect → List MachineStep
numbered_steps w m p None bytes c t = []
numbered_steps w m p (Some n) bytes c t = class_steps w m p n bytes c t

-- a datagram, or bytes that are none
abbrev pub packet_steps : World → Machine → Flight → Option Packet → ArrivalEffect → List MachineStep
packet_steps w m f None t = []
packet_steps w m f (Some d) t = if finds_end w m f d then numbered_steps w m (name_of m d.dest) f.number d.payload (class_of d) t else []

-- one of those that were sent
abbrev pub flight_steps : World → Machine → Option Flight → ArrivalEffect → List MachineStep
flight_steps w m None t = []
flight_steps w m (Some f) t = packet_steps w m f (packet_of f.bytes) t

-- ---- an event and its answer

-- a delivery that was taken
abbrev pub delivery_steps : World → Machine → ℕ → Answer → List MachineStep
delivery_steps w m k (answers.Took t first count) = flight_steps w m (slice_get w.sent (k - 1)) t
delivery_steps w m k other = []

-- an event of a device: one Expire where an expiry was counted
abbrev pub turn_steps : Event → Answer → List MachineStep
turn_steps (events.Expire q) a = expire_steps a q
turn_steps other a = []

-- the inner steps at an event that was answered so
abbrev pub inner_by : World → Machine → WorldEvent → Answer → List MachineStep
inner_by w m (world_events.Deliver k) a = delivery_steps w m k a
inner_by w m (world_events.At event) a = turn_steps event a
inner_by w m other a = []

-- the key or number that an answer gives
abbrev pub given_in : Answer → ℕ
given_in (answers.Region keys) = keys.local
given_in (answers.Qp number) = number
given_in other = 0

-- verbs that were answered so
abbrev pub spoken_steps : List (Verb × Answer) → List MachineStep
spoken_steps [] = []
spoken_steps (x ∷ xs) = steps.Verb x.0 (given_in x.1) ∷ spoken_steps xs

-- all steps at it: that of its verb, if it counts as made, and the inner steps
abbrev pub steps_by : World → Machine → WorldEvent → Answer → List MachineStep
steps_by w m e a = spoken_steps (kept_of w e a) ++ inner_by w m e a

-- ---- an event

-- the inner steps at an event
abbrev pub inner_steps : World → Machine → WorldEvent → List MachineStep
inner_steps w m e = inner_by w m e (world_step w e).answer

-- all steps at an event
abbrev pub event_steps : World → Machine → WorldEvent → List MachineStep
event_steps w m e = steps_by w m e (world_step w e).answer

-- from m the machine may make the steps that are named, hears by them what an application hears of the event, the event
-- allows them, and they lead to a state that the next world stands for
pub record ReachesByName (w : World) (m : Machine) (e : WorldEvent) (w' : World) (answer : Answer) : Type 0 where
  pub is_run : IsRun m (steps_by w m e answer)
  pub heard : seen m (steps_by w m e answer) ≡ kept_of w e answer
  pub allowed : Allows w m e answer (inner_by w m e answer)
  pub stands : Stands w' (after m (steps_by w m e answer))

-- the machine follows an event by the steps that are named
abbrev pub FollowsByName : World → Machine → WorldEvent → Type 0
FollowsByName w m e = ReachesByName w m e (world_step w e).world (world_step w e).answer

-- .. from every machine state for which the world stands, where the event's fields are in their ranges
abbrev pub AlwaysFollowsByName : WorldEvent → Type 0
AlwaysFollowsByName e = (w : World) (m : Machine) → IsInRange e → Stands w m → FollowsByName w m e

-- .. each event
abbrev pub EventsFollowByName : Type 0
EventsFollowByName = (e : WorldEvent) → AlwaysFollowsByName e

-- .. which is more than that it follows it
abbrev pub NamedIsMore : Type 0
NamedIsMore = (w : World) (m : Machine) (e : WorldEvent) → FollowsByName w m e → Follows w m e

-- ---- a run

-- the steps at each event
unfoldable pub steps_of_each : World → Machine → List WorldEvent → List (List MachineStep)
steps_of_each w m [] = []
steps_of_each w m (e ∷ es) = event_steps w m e ∷ steps_of_each (world_step w e).world (after m (event_steps w m e)) es

-- .. one after the other
abbrev pub run_steps : World → Machine → List WorldEvent → List MachineStep
run_steps w m es = joined_steps (steps_of_each w m es)

-- the machine follows a whole run by the named steps
pub record RunFollowsByName (w : World) (m : Machine) (es : List WorldEvent) : Type 0 where
  pub is_run : IsRun m (run_steps w m es)
  pub heard : seen m (run_steps w m es) ≡ kept w es
  pub allowed : AllowsAll w m es (steps_of_each w m es)
  pub stands : Stands (world_after w es) (after m (run_steps w m es))

-- .. each run in range, from every machine state for which the world stands
abbrev pub RunsFollowByName : Type 0
RunsFollowByName = (w : World) (m : Machine) (es : List WorldEvent) → All IsInRange es → Stands w m → RunFollowsByName w m es
