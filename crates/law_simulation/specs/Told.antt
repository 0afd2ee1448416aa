-- Requests are finished for their owner one after the other, in the order of their posting.
use Rattle.std.specs.Prelude.{◌≡◌, ◌⊎◌, ℕ, suc, length, true}
use Rattle.rdma_types.specs.declared.names.ObjName.{ObjName}
use Rattle.packetless_machine.specs.declared.steps.MachineStep.{MachineStep}
use Rattle.packetless_machine.specs.declared.steps.MachineStep.TheVariants as steps
use Rattle.packetless_machine.specs.Machine.{Machine, End, end_of}
use Rattle.packetless_machine.specs.Legal.{effect}

-- how many requests of q are finished for their owner: those posted first
abbrev pub told_of : Machine → ObjName → ℕ
told_of m q = (end_of m q).told

-- the step finishes a request of q
abbrev pub IsTellOf : ObjName → MachineStep → Type 0
IsTellOf q (steps.Tell o) = o ≡ q
IsTellOf q other = ⊥

-- an end that failed: all its requests are finished
abbrev pub AreAllTold : End → Type 0
AreAllTold e = (e.ended ≡ true) × (e.told ≡ length e.posted)

-- a step leaves the count as it is, or finishes the next request, or the end failed and all are finished
abbrev pub TellsByOne : Type 0
TellsByOne =
    (m : Machine) (s : MachineStep) (q : ObjName) →
    (told_of (effect m s) q ≡ told_of m q) ⊎ (IsTellOf q s × (told_of (effect m s) q ≡ suc (told_of m q))) ⊎ AreAllTold (end_of (effect m s) q)
