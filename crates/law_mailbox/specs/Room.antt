-- A completion queue's entries and what is reserved of it are within its capacity.
use Rattle.std.specs.Prelude.{ℕ, ◌≡◌, ◌+◌, ◌≤◌, length, true}
use Rattle.rdma_types.specs.declared.names.Name.{Name}
use Rattle.rdma_types.specs.Lists.{named}
use Rattle.rdma_types.specs.Objects.{no_queue}
use Rattle.packetless_machine.specs.declared.steps.MachineStep.{MachineStep}
use Rattle.packetless_machine.specs.Legal.{effect, is_enabled}
use Rattle.packetless_machine.specs.Machine.{Context, Machine, context_of, reserved}
use Rattle.law_mailbox.specs.Held.{IsInner}

-- the entries of a context's queue, and those that are reserved there
abbrev pub load_in : Name → Context → ℕ
load_in q x = length (named (λ z. z.name) no_queue q x.queues).entries + reserved x q

abbrev pub load : Machine → Name → Name → ℕ
load m c q = load_in q (context_of m c)

-- an inner step adds nothing to it: what it completes was reserved
abbrev pub StepsAddNoLoad : Type 0
StepsAddNoLoad = (m : Machine) (s : MachineStep) → IsInner s → is_enabled m s ≡ true → (c q : Name) → load (effect m s) c q ≤ load m c q
