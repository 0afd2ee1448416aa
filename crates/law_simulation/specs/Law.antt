-- What the law says: the packetless machine follows every event of a world, and every run.
use Rattle.std.specs.Prelude.{◌≡◌, ℕ, ◌<◌, ◌≤◌, ◌^◌, List, [], ◌∷◌, ◌++◌, All, IfSome, true, false}
use Rattle.rdma_types.specs.declared.requests.Request.{Request}
use Rattle.rdma_types.specs.declared.verbs.Verb.{Verb}
use Rattle.rdma_types.specs.declared.answers.Answer.{Answer}
use Rattle.rdma_types.specs.Kinds.{is_atomic}
use Rattle.rdma_types.specs.Limits.{AreTerms, most_capacity, most_depth, most_region_bytes}
use Rattle.rdma_types.specs.Shapes.{is_swap}
use Rattle.protocol.specs.declared.events.Event.{Event}
use Rattle.protocol.specs.declared.events.Event.TheVariants as events
use Rattle.protocol.specs.declared.events.WorldEvent.{WorldEvent}
use Rattle.protocol.specs.declared.events.WorldEvent.TheVariants as world_events
use Rattle.protocol.specs.State.{World, empty_world}
use Rattle.protocol.specs.WorldStep.{world_step, world_after}
use Rattle.packetless_machine.specs.declared.steps.MachineStep.{MachineStep}
use Rattle.packetless_machine.specs.declared.steps.MachineStep.TheVariants as steps
use Rattle.packetless_machine.specs.Machine.{Machine, empty}
use Rattle.packetless_machine.specs.Legal.{IsRun, IsLegal, after, seen}
use Rattle.law_simulation.specs.Kept.{kept_of}
use Rattle.law_simulation.specs.Carries.{Allows}
use Rattle.law_simulation.specs.Stands.{Stands}

-- ---- events whose fields are in their ranges, as the types and the reader of lines give them

-- a request, as its types and the reader of lines give it; an atomic is of one word, and only a compare and swap has a
-- compare value
pub record IsRequestInRange (r : Request) : Type 0 where
  pub remote : r.shape.remote < 2 ^ 64
  pub rkey : r.shape.rkey < 2 ^ 32
  pub swap_add : r.shape.swap_add < 2 ^ 64
  pub compare : r.shape.compare < 2 ^ 64
  pub no_compare : is_swap r.shape.kind ≡ false → r.shape.compare ≡ 0
  pub imm : IfSome r.shape.imm (λ n. n < 2 ^ 32)
  pub word : is_atomic r.shape.kind ≡ true → r.shape.length ≡ 8

-- the depths of a queue pair
abbrev pub AreDepths : ℕ → ℕ → Type 0
AreDepths send receive = (1 ≤ send) × (send ≤ most_depth) × (1 ≤ receive) × (receive ≤ most_depth)

-- an event of a context; those that a world has as events of its own are none
abbrev pub IsEventInRange : Event → Type 0
IsEventInRange (events.MakeContext name) = ⊥
IsEventInRange (events.Connect end peer partner terms) = ⊥
IsEventInRange (events.Arrive from bytes) = ⊥
IsEventInRange (events.Stop context alone) = ⊥
IsEventInRange (events.Restore image) = ⊥
IsEventInRange (events.Release context) = ⊥
IsEventInRange (events.MakeRegion name domain base count rights) = (1 ≤ count) × (count ≤ most_region_bytes) × (base ≤ 2 ^ 63) × (rights.0 < 16)
IsEventInRange (events.MakeCq name capacity) = (1 ≤ capacity) × (capacity ≤ most_capacity)
IsEventInRange (events.MakeQp name domain send_cq recv_cq send_depth recv_depth) = AreDepths send_depth recv_depth
IsEventInRange (events.Store region address bytes) = All (λ b. b < 256) bytes
IsEventInRange (events.PostSend o r) = IsRequestInRange r
IsEventInRange other = Unit {0}

-- an event of a world
abbrev pub IsInRange : WorldEvent → Type 0
IsInRange (world_events.AddDevice id address) = (1 ≤ id) × (id ≤ 255) × (address.ip < 2 ^ 32) × (address.port < 2 ^ 16)
IsInRange (world_events.At event) = IsEventInRange event
IsInRange (world_events.Connect one two terms) = AreTerms terms
IsInRange other = Unit {0}

-- ---- one event

-- the inner steps among some steps
abbrev pub inner_of : List MachineStep → List MachineStep
inner_of [] = []
inner_of (steps.Verb verb given ∷ ss) = inner_of ss
inner_of (other ∷ ss) = other ∷ inner_of ss

-- from m the machine makes steps that the event allows, hears what an application hears of it, and comes to a state
-- that the next world stands for
pub record Reaches (w : World) (m : Machine) (e : WorldEvent) (w' : World) (answer : Answer) : Type 0 where
  pub steps : List MachineStep
  pub is_run : IsRun m steps
  pub heard : seen m steps ≡ kept_of w e answer
  pub allowed : Allows w m e answer (inner_of steps)
  pub stands : Stands w' (after m steps)

-- the machine follows an event
abbrev pub Follows : World → Machine → WorldEvent → Type 0
Follows w m e = Reaches w m e (world_step w e).world (world_step w e).answer

-- .. from every machine state for which the world stands, where the event's fields are in their ranges
abbrev pub AlwaysFollows : WorldEvent → Type 0
AlwaysFollows e = (w : World) (m : Machine) → IsInRange e → Stands w m → Follows w m e

-- ---- a run

-- the verbs that count as made, with their answers
abbrev pub kept : World → List WorldEvent → List (Verb × Answer)
kept w [] = []
kept w (e ∷ es) = let s = world_step w e in kept_of w e s.answer ++ kept s.world es

-- the steps of a run of the machine, event by event, each allowed by its event
abbrev pub AllowsAll : World → Machine → List WorldEvent → List (List MachineStep) → Type 0
AllowsAll w m [] [] = Unit {0}
AllowsAll w m [] (ss ∷ rest) = ⊥
AllowsAll w m (e ∷ es) [] = ⊥
AllowsAll w m (e ∷ es) (ss ∷ rest) = Allows w m e (world_step w e).answer (inner_of ss) × AllowsAll (world_step w e).world (after m ss) es rest

-- those of all events, one after the other
abbrev pub joined_steps : List (List MachineStep) → List MachineStep
joined_steps [] = []
joined_steps (ss ∷ rest) = ss ++ joined_steps rest

-- the machine follows a whole run
pub record FollowsRun (w : World) (m : Machine) (es : List WorldEvent) : Type 0 where
  pub steps : List (List MachineStep)  -- those of each event
  pub is_run : IsRun m (joined_steps steps)
  pub heard : seen m (joined_steps steps) ≡ kept w es
  pub allowed : AllowsAll w m es steps
  pub stands : Stands (world_after w es) (after m (joined_steps steps))

-- ---- the whole law; the functions of this crate prove the parts that they name

-- the empty world stands for the empty machine; each event in range is followed, from any world that stands; so each
-- run is, and what an application hears in it is legal
pub record Law : Type 0 where
  pub start : Stands empty_world empty
  pub step : (e : WorldEvent) → AlwaysFollows e
  pub run : (es : List WorldEvent) → All IsInRange es → FollowsRun empty_world empty es
  pub legal : (es : List WorldEvent) → All IsInRange es → IsLegal (kept empty_world es)
