-- What a datagram may do where it comes, before the end took it, and the steps once it did.
use Rattle.std.specs.Prelude.{ℕ, suc, ◌≡◌, Bool, true, false, List, [], ◌++◌, length, if◌then◌else◌}
use Rattle.rdma_types.specs.declared.answers.EndState.{EndState}
use Rattle.rdma_types.specs.declared.answers.EndState.TheVariants as state
use Rattle.rdma_types.specs.declared.answers.ArrivalEffect.{ArrivalEffect}
use Rattle.rdma_types.specs.declared.names.ObjName.{ObjName}
use Rattle.protocol.specs.Fabric.{kept_flight}
use Rattle.protocol.specs.State.{World}
use Rattle.packetless_machine.specs.declared.steps.MachineStep.{MachineStep}
use Rattle.packetless_machine.specs.Machine as machine
use Rattle.packetless_machine.specs.Machine.{Machine}
use Rattle.law_kept_datagrams.specs.Alike.{with_kept_datagrams}
use Rattle.law_simulation.specs.Carries.{before_barrier, request_steps, tell_steps}
use Rattle.law_simulation.specs.Named.{acknowledged_steps, flight_steps, is_landed, learning, old_steps, read_steps}
use Rattle.law_simulation.specs.Packets.{Class, IsRequest, IsReadResponse, IsAtomicResponse, IsAck, IsSequenceNak, IsRefusal, IsReceiverNotReady}
use Rattle.law_simulation.specs.Stands.{Stands}
use Rattle.trace_record.specs.Steps.{HasDue, HasNumbers, landing_at}
use Rattle.trace_record.specs.declared.recorder.arrivals.Arrival.{Arrival}
use Rattle.trace_record.specs.declared.recorder.arrivals.Arrival.TheVariants as arrival
use Rattle.trace_record.specs.declared.recorder.arrivals.DatagramKind.{DatagramKind}
use Rattle.trace_record.specs.declared.recorder.arrivals.DatagramKind.TheVariants as sort

-- the world is what is kept of a whole one, which stands for the machine's state
pub record IsBeside (w : World) (m : Machine) : Type 0 where
  pub whole : World
  pub left : w ≡ with_kept_datagrams whole
  pub stands : Stands whole m

-- the sorts of datagrams that differ in their steps
abbrev pub sort_of : Class → DatagramKind
sort_of IsRequest = sort.Request
sort_of IsReadResponse = sort.ReadResponse
sort_of IsAtomicResponse = sort.AtomicResponse
sort_of IsAck = sort.Ack
sort_of IsSequenceNak = sort.Nak
sort_of (IsRefusal is_access) = sort.Nak
sort_of IsReceiverNotReady = sort.Nak
sort_of other = sort.Other

-- the state of an end in Rts, and of one that is Paused
abbrev pub is_live_state : EndState → Bool
is_live_state state.Init = false
is_live_state state.Error = false
is_live_state other = true

abbrev pub is_paused_state : EndState → Bool
is_paused_state state.Paused = true
is_paused_state other = false

-- the steps that are named at a datagram of a sort with number n and these bytes, at an end in Rts that is Paused or not
abbrev pub sorted_steps : Machine → Bool → ObjName → ℕ → List ℕ → DatagramKind → ArrivalEffect → List MachineStep
sorted_steps m paused q n bytes sort.Request t = if paused then [] else request_steps m (machine.end_of m q).peer n (length bytes)
sorted_steps m paused q n bytes sort.ReadResponse t = if is_landed t then read_steps q (machine.end_of m q) n bytes else []
sorted_steps m paused q n bytes sort.AtomicResponse t = if is_landed t then old_steps q (machine.end_of m q) n else []
sorted_steps m paused q n bytes sort.Ack t = acknowledged_steps m q (before_barrier m q (suc n)) t
sorted_steps m paused q n bytes sort.Nak t = acknowledged_steps m q (before_barrier m q n) t
sorted_steps m paused q n bytes sort.Other t = []

-- the steps of what may be done, once the end took the datagram so
abbrev pub arrival_steps : Machine → Arrival → ArrivalEffect → List MachineStep
arrival_steps m arrival.Nothing t = []
arrival_steps m (arrival.Request q n bytes) t = request_steps m q n bytes
arrival_steps m (arrival.Read q n offer) t =
    if is_landed t then learning q (machine.end_of m q) n ++ (landing_at q offer ++ tell_steps q (machine.end_of m q) n) else []
arrival_steps m (arrival.Old q n) t = if is_landed t then old_steps q (machine.end_of m q) n else []
arrival_steps m (arrival.Acknowledge q limit) t = acknowledged_steps m q limit t

-- that is what a datagram of a sort may do at such an end: its steps are those that are named
abbrev pub IsArrivalAt : Machine → Bool → ObjName → ℕ → List ℕ → DatagramKind → Arrival → Type 0
IsArrivalAt m paused q n bytes s a = (t : ArrivalEffect) → sorted_steps m paused q n bytes s t ≡ arrival_steps m a t

-- that is what datagram k may do, in each whole world of which this one is what is kept, and which stands for the machine's state
abbrev pub IsArrival : World → Machine → ℕ → Arrival → Type 0
IsArrival kept m k a = (w : World) (t : ArrivalEffect) → kept ≡ with_kept_datagrams w → Stands w m → flight_steps w m (kept_flight w.sent k) t ≡ arrival_steps m a t

-- the numbers of the end that it speaks of have 64 bits
abbrev pub HasItsNumbers : Machine → Arrival → Type 0
HasItsNumbers m arrival.Nothing = Unit {0}
HasItsNumbers m (arrival.Request q n bytes) = HasDue (machine.end_of m q)
HasItsNumbers m (arrival.Read q n offer) = HasNumbers (machine.end_of m q)
HasItsNumbers m (arrival.Old q n) = HasNumbers (machine.end_of m q)
HasItsNumbers m (arrival.Acknowledge q limit) = HasNumbers (machine.end_of m q)
