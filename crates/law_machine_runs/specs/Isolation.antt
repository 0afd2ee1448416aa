-- Isolation: in every run a context's memory and objects are changed only by its owner and by its own connections, memory by a partner only
-- where a key grants it.
use Rattle.std.specs.Prelude.{◌≡◌, ◌⊎◌, true, List, [], ◌∷◌, All, Option, Some, None, slice_get}
use Rattle.rdma_types.specs.declared.names.Name.{Name}
use Rattle.rdma_types.specs.declared.names.ObjName.{ObjName}
use Rattle.rdma_types.specs.declared.verbs.Verb.{Verb}
use Rattle.rdma_types.specs.declared.verbs.Verb.TheVariants as verbs
use Rattle.rdma_types.specs.Kinds.{is_atomic}
use Rattle.rdma_types.specs.Lists.{named}
use Rattle.rdma_types.specs.Objects.{CompletionQueue, Region, no_queue, no_region}
use Rattle.protocol.specs.declared.events.WorldEvent.{WorldEvent}
use Rattle.protocol.specs.State.{World, empty_world}
use Rattle.protocol.specs.WorldStep.{world_after, world_step}
use Rattle.packetless_machine.specs.declared.steps.MachineStep.{MachineStep}
use Rattle.packetless_machine.specs.declared.steps.MachineStep.TheVariants as steps
use Rattle.packetless_machine.specs.Machine.{Machine, empty, end_of}
use Rattle.packetless_machine.specs.Legal.{IsRun, after, effect}
use Rattle.law_simulation.specs.Law.{IsInRange}
use Rattle.law_simulation.specs.Named.{event_steps, run_steps}
use Rattle.law_simulation.specs.Views as views
use Rattle.law_simulation.specs.Views.{owned_there}
use Rattle.law_machine_runs.specs.Changes.{Byte, Domains, IsSame, MayChange, Pair, Plan, Queue, Thing, pair_of, plan_of}

-- ---- runs of the machine

-- a step leaves each thing as it is, or may change it
abbrev pub IsIsolated : Machine → MachineStep → Type 0
IsIsolated m s = (t : Thing) → IsSame m (effect m s) t ⊎ MayChange m s t

-- .. and so does each step of a run, where it is made
abbrev pub AreIsolated : Machine → List MachineStep → Type 0
AreIsolated m [] = Unit {0}
AreIsolated m (s ∷ ss) = IsIsolated m s × AreIsolated (effect m s) ss

-- an atomic that is posted is of one word, as the reader of lines gives it
abbrev pub IsOfWord : MachineStep → Type 0
IsOfWord (steps.Verb (verbs.PostSend o r) given) = is_atomic r.shape.kind ≡ true → r.shape.length ≡ 8
IsOfWord other = Unit {0}

-- each step of every run from the empty machine
abbrev pub RunsAreIsolated : Type 0
RunsAreIsolated = (ss : List MachineStep) → All IsOfWord ss → IsRun empty ss → AreIsolated empty ss

-- ---- whose step it is

-- the context that holds a thing
abbrev pub owner_of : Thing → Name
owner_of (Byte o k) = o.context
owner_of (Plan o) = o.context
owner_of (Queue o) = o.context
owner_of (Pair o) = o.context
owner_of (Domains c) = c

-- the application of that context asks the verb; the applications of both ends ask that they are connected
abbrev pub IsAskedBy : Verb → Name → Type 0
IsAskedBy (verbs.Context name made) c = name ≡ c
IsAskedBy (verbs.Connect one two terms) c = (one.context ≡ c) ⊎ (two.context ≡ c)
IsAskedBy (verbs.MakeDomain name) c = name.context ≡ c
IsAskedBy (verbs.MakeRegion name domain base count rights) c = name.context ≡ c
IsAskedBy (verbs.MakeCq name capacity) c = name.context ≡ c
IsAskedBy (verbs.MakeQp name domain send_cq recv_cq send_depth recv_depth) c = name.context ≡ c
IsAskedBy (verbs.DropRegion name) c = name.context ≡ c
IsAskedBy (verbs.Store name address bytes) c = name.context ≡ c
IsAskedBy (verbs.Load name address count) c = name.context ≡ c
IsAskedBy (verbs.PostSend name request) c = name.context ≡ c
IsAskedBy (verbs.PostRecv name receive) c = name.context ≡ c
IsAskedBy (verbs.Poll name max) c = name.context ≡ c

-- one end of the connection of that queue pair is in the context
abbrev pub IsConnectionOf : Machine → Option ObjName → Name → Type 0
IsConnectionOf m None c = ⊥
IsConnectionOf m (Some q) c = (q.context ≡ c) ⊎ ((end_of m q).peer.context ≡ c)

-- the step is a verb of the context, or a step of one of its connections
abbrev pub IsStepOf : Machine → MachineStep → Name → Type 0
IsStepOf m (steps.Verb verb given) c = IsAskedBy verb c
IsStepOf m other c = IsConnectionOf m (pair_of other) c

-- only such steps may change what a context holds
abbrev pub OnlyOwnersChange : Type 0
OnlyOwnersChange = (m : Machine) (s : MachineStep) (t : Thing) → MayChange m s t → IsStepOf m s (owner_of t)

-- ---- runs of worlds, with losses and moves

-- a region, and a completion queue, of a world: wherever its context is
abbrev pub region_there : World → ObjName → Region
region_there w o = named (λ r. r.name) no_region o.name (views.context_of w o.context).regions

abbrev pub queue_there : World → ObjName → CompletionQueue
queue_there w o = named (λ q. q.name) no_queue o.name (views.context_of w o.context).queues

-- a thing is the same in two worlds; of a queue pair all that its owner has
abbrev pub IsSameThere : World → World → Thing → Type 0
IsSameThere w w' (Byte o k) = slice_get (region_there w' o).bytes k ≡ slice_get (region_there w o).bytes k
IsSameThere w w' (Plan o) = plan_of (region_there w' o) ≡ plan_of (region_there w o)
IsSameThere w w' (Queue o) = queue_there w' o ≡ queue_there w o
IsSameThere w w' (Pair o) = owned_there (views.end_of w' o) ≡ owned_there (views.end_of w o)
IsSameThere w w' (Domains c) = (views.context_of w' c).domains ≡ (views.context_of w c).domains

-- one of these steps, where it is made, may change the thing
abbrev pub SomeMayChange : Machine → List MachineStep → Thing → Type 0
SomeMayChange m [] t = ⊥
SomeMayChange m (s ∷ ss) t = MayChange m s t ⊎ SomeMayChange (effect m s) ss t

-- after any run of a world, an event leaves each thing as it is, or one of the machine's steps at this event may change it
abbrev pub WorldsAreIsolated : Type 0
WorldsAreIsolated =
    (es : List WorldEvent) (e : WorldEvent) → All IsInRange es → IsInRange e → (t : Thing) →
    IsSameThere (world_after empty_world es) (world_step (world_after empty_world es) e).world t
    ⊎ SomeMayChange (after empty (run_steps empty_world empty es)) (event_steps (world_after empty_world es) (after empty (run_steps empty_world empty es)) e) t
