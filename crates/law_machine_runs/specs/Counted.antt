-- Completions with statuses 12 and 13, counted: the retries of an end, or its waits for a receive, are spent.
use Rattle.std.specs.Prelude.{◌≡◌, ◌≤◌, ◌+◌, ◌⊎◌, ℕ, ◌&&◌, Bool, true, false, List, bytes_eq, if◌then◌else◌}
use Rattle.std.specs.List.{count_by}
use Rattle.rdma_types.specs.declared.names.Name.{Name}
use Rattle.rdma_types.specs.declared.names.ObjName.{ObjName}
use Rattle.rdma_types.specs.declared.requests.Completion.{Completion}
use Rattle.rdma_types.specs.declared.requests.WcStatus.{WcStatus}
use Rattle.rdma_types.specs.declared.requests.WcStatus.TheVariants as statuses
use Rattle.packetless_machine.specs.declared.steps.MachineStep.{MachineStep}
use Rattle.packetless_machine.specs.Machine.{Machine, end_of, queue_of}
use Rattle.packetless_machine.specs.Steps.{has_untold}
use Rattle.packetless_machine.specs.Verbs.{has_queue}
use Rattle.packetless_machine.specs.Legal.{effect}

-- status 12
abbrev pub is_retry_exceeded : WcStatus → Bool
is_retry_exceeded statuses.RetryExceeded = true
is_retry_exceeded other = false

-- status 13
abbrev pub is_rnr_exceeded : WcStatus → Bool
is_rnr_exceeded statuses.RnrExceeded = true
is_rnr_exceeded other = false

-- how many completions have such a status; equal ones are counted as often as they stand there
abbrev pub count_in : (WcStatus → Bool) → List Completion → ℕ
count_in test xs = count_by (λ x. test x.status) xs

-- .. in a queue of the machine
abbrev pub count_at : (WcStatus → Bool) → Machine → Name → Name → ℕ
count_at test m c q = count_in test (queue_of m c q).entries

-- a step leaves no more of them in any queue than there were, unless it is such a one
abbrev pub GrowsOnlyBy : (WcStatus → Bool) → (Machine → MachineStep → Type 0) → Type 0
GrowsOnlyBy test IsLast =
    (m : Machine) (s : MachineStep) (c q : Name) → (count_at test (effect m s) c q ≤ count_at test m c q) ⊎ IsLast m s

-- the queue of the completions of an end's requests
abbrev pub is_queue_of : Machine → ObjName → Name → Name → Bool
is_queue_of m o c q = bytes_eq c o.context && bytes_eq q (end_of m o).send_queue

-- such a step of an end that has an untold request leaves exactly one more in the queue of its completions, which is there, and as many
-- as there were in every other queue
abbrev pub GrowsByOne : (WcStatus → Bool) → (Machine → MachineStep → Type 0) → (ObjName → MachineStep) → Type 0
GrowsByOne test IsLast step =
    (m : Machine) (o : ObjName) → IsLast m (step o) → has_untold m o ≡ true → has_queue m o.context (end_of m o).send_queue ≡ true →
    (c q : Name) → count_at test (effect m (step o)) c q ≡ count_at test m c q + (if is_queue_of m o c q then 1 else 0)
