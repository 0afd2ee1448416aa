-- Statuses 12 and 13: the retries of an end, or its waits for a receive, are spent.
use Rattle.std.specs.Prelude.{◌≡◌, ◌≢◌, ◌⊎◌, Contains}
use Rattle.rdma_types.specs.declared.names.Name.{Name}
use Rattle.rdma_types.specs.declared.requests.Completion.{Completion}
use Rattle.rdma_types.specs.declared.requests.WcStatus.{WcStatus}
use Rattle.packetless_machine.specs.declared.steps.MachineStep.{MachineStep}
use Rattle.packetless_machine.specs.declared.steps.MachineStep.TheVariants as steps
use Rattle.packetless_machine.specs.Machine.{Machine, end_of, queue_of}
use Rattle.packetless_machine.specs.Legal.{effect}

-- the step is an expiry of an end whose counted expiries are all that it has
abbrev pub IsLastExpiry : Machine → MachineStep → Type 0
IsLastExpiry m (steps.Expire o) = (end_of m o).spent ≡ (end_of m o).retry
IsLastExpiry m other = ⊥

-- the step is a wait of an end whose counted waits are all that it has
abbrev pub IsLastWait : Machine → MachineStep → Type 0
IsLastWait m (steps.Wait o) = ((end_of m o).rnr ≢ 7) × ((end_of m o).waits ≡ (end_of m o).rnr)
IsLastWait m other = ⊥

-- a completion that a queue has after a step was there before or has another status, unless the step is such a one
abbrev pub ComesOnlyBy : WcStatus → (Machine → MachineStep → Type 0) → Type 0
ComesOnlyBy status IsLast =
    (m : Machine) (s : MachineStep) (c q : Name) (x : Completion) → Contains (queue_of (effect m s) c q).entries x →
    Contains (queue_of m c q).entries x ⊎ (x.status ≢ status) ⊎ IsLast m s
