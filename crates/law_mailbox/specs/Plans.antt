-- What a machine consists of: it changes only where something is made or dropped.
use Rattle.std.specs.Prelude.{ℕ, ◌≡◌, map}
use Rattle.rdma_types.specs.declared.names.Name.{Name}
use Rattle.packetless_machine.specs.declared.steps.MachineStep.{MachineStep}
use Rattle.packetless_machine.specs.Legal.{effect}
use Rattle.packetless_machine.specs.Machine.{Context, Machine, context_of, has_context}
use Rattle.packetless_machine.specs.Verbs.{after_verb}
use Rattle.rdma_types.specs.declared.verbs.Verb.{Verb}
use Rattle.rdma_types.specs.declared.verbs.Verb.TheVariants as verbs
use Rattle.law_mailbox.specs.Held.{IsInner}

-- a context has the regions of another one by their names and lengths, its completion queues by their names and capacities, and its
-- ends by their names
pub record IsBuiltAs (a b : Context) : Type 0 where
  pub region_names : map (λ r. r.name) a.regions ≡ map (λ r. r.name) b.regions
  pub region_lengths : map (λ r. r.length) a.regions ≡ map (λ r. r.length) b.regions
  pub queue_names : map (λ q. q.name) a.queues ≡ map (λ q. q.name) b.queues
  pub capacities : map (λ q. q.capacity) a.queues ≡ map (λ q. q.capacity) b.queues
  pub end_names : map (λ e. e.name) a.ends ≡ map (λ e. e.name) b.ends

-- a machine has the contexts of another one, and each is built as before
pub record AreBuiltAs (m' m : Machine) : Type 0 where
  pub there : (c : Name) → has_context m' c ≡ has_context m c
  pub each : (c : Name) → IsBuiltAs (context_of m' c) (context_of m c)

-- inner steps build nothing
abbrev pub StepsBuildNothing : Type 0
StepsBuildNothing = (m : Machine) (s : MachineStep) → IsInner s → AreBuiltAs (effect m s) m

-- a verb that builds nothing: a store, a load, a posting or a poll
abbrev pub IsVerbOfWork : Verb → Type 0
IsVerbOfWork (verbs.Store region address bytes) = Unit {0}
IsVerbOfWork (verbs.Load region address count) = Unit {0}
IsVerbOfWork (verbs.PostSend o r) = Unit {0}
IsVerbOfWork (verbs.PostRecv o v) = Unit {0}
IsVerbOfWork (verbs.Poll cq max) = Unit {0}
IsVerbOfWork other = ⊥

-- .. and nor do these verbs
abbrev pub VerbsBuildNothing : Type 0
VerbsBuildNothing = (m : Machine) (v : Verb) (given : ℕ) → IsVerbOfWork v → AreBuiltAs (after_verb m v given) m
