-- What an event of a world does to a world, to the machine beside it, and to the trace.
use Rattle.std.specs.Prelude.{ℕ, ◌≡◌, ◌++◌, Bool, false, List, []}
use Rattle.std.specs.List.{All}
use Rattle.rdma_types.specs.declared.answers.Answer.{Answer}
use Rattle.rdma_types.specs.declared.answers.Answer.TheVariants as answers
use Rattle.rdma_types.specs.Lists.{has}
use Rattle.protocol.specs.declared.events.WorldEvent.{WorldEvent}
use Rattle.protocol.specs.declared.events.WorldEvent.TheVariants as world_event
use Rattle.protocol.specs.State.{World}
use Rattle.protocol.specs.WorldStep.{world_step}
use Rattle.packetless_machine.specs.declared.steps.MachineStep.{MachineStep}
use Rattle.packetless_machine.specs.Legal.{after}
use Rattle.packetless_machine.specs.Machine.{Machine}
use Rattle.law_kept_datagrams.specs.Alike.{with_kept_datagrams}
use Rattle.law_traces.specs.Said.{IsShort}
use Rattle.law_simulation.specs.Kept.{kept_of}
use Rattle.law_simulation.specs.Named.{event_steps, inner_steps, turn_steps}
use Rattle.law_simulation.specs.Stands.{Stands}
use Rattle.trace_rules.specs.Recording.{spoken_text}
use Rattle.run_traces.specs.Written.{steps_text}
use Rattle.trace_record.specs.declared.recorder.arrivals.Arrival.{Arrival}
use Rattle.trace_record.specs.Arrivals.{IsArrival, arrival_steps}

-- the device of a new context is there
abbrev pub made_by : World → WorldEvent → Bool
made_by w (world_event.MakeContext name device) = has (λ d. d.id) device w.devices
made_by w other = false

-- what was foreseen of an event is what its datagram may do
abbrev pub IsForeseen : World → Machine → WorldEvent → Arrival → Type 0
IsForeseen kept m (world_event.Deliver k) a = IsArrival kept m k a
IsForeseen kept m other a = Unit {0}

-- the inner steps at an event that was answered so, by what was foreseen
abbrev pub taken_steps : Machine → Arrival → Answer → List MachineStep
taken_steps m a (answers.Took t first count) = arrival_steps m a t
taken_steps m a other = []

abbrev pub foreseen_steps : Machine → WorldEvent → Arrival → Answer → List MachineStep
foreseen_steps m (world_event.Deliver k) a answer = taken_steps m a answer
foreseen_steps m (world_event.At event) a answer = turn_steps event answer
foreseen_steps m other a answer = []

-- the whole world and the machine come to where the event leads, what is kept of that world is left, and what is recorded of
-- the event stands behind what was written; the numbers of its inner steps have 32 bits
pub record IsEventRecorded (w : World) (m : Machine) (line : List ℕ) (e : WorldEvent) (next : World) (m' : Machine) (old new : List ℕ) : Type 0 where
  pub left : next ≡ with_kept_datagrams (world_step w e).world
  pub machine : m' ≡ after m (event_steps w m e)
  pub stands : Stands (world_step w e).world (after m (event_steps w m e))
  pub text : new ≡ old ++ (spoken_text line (kept_of w e (world_step w e).answer) ++ steps_text (inner_steps w m e))
  pub short : All IsShort (inner_steps w m e)
