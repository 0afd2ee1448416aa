-- Requests act once: what a step of the machine does to the count of the requests of an end that acted.
use Rattle.std.specs.Prelude.{◌≡◌, ℕ, suc, ◌+◌, ◌==◌, ◌⊎◌, List, [], ◌∷◌, if◌then◌else◌}
use Rattle.rdma_types.specs.declared.names.ObjName.{ObjName}
use Rattle.packetless_machine.specs.declared.steps.MachineStep.{MachineStep}
use Rattle.packetless_machine.specs.declared.steps.MachineStep.TheVariants as steps
use Rattle.packetless_machine.specs.Machine.{Machine, end_of}
use Rattle.packetless_machine.specs.Legal.{after, effect}

-- how many requests of q acted; requests act in the order of their posting
abbrev pub acted_of : Machine → ObjName → ℕ
acted_of m q = (end_of m q).acted

-- the step puts bytes of a Write or Send of q in place, lets an atomic of q act, or gives a Read of q its turn
abbrev pub IsTurnOf : ObjName → MachineStep → Type 0
IsTurnOf q (steps.Run o n) = o ≡ q
IsTurnOf q (steps.Atom o) = o ≡ q
IsTurnOf q (steps.ReadTurn o) = o ≡ q
IsTurnOf q other = ⊥

-- a step leaves the count as it is, or is a turn of q by which the next request acts
abbrev pub ActsByOne : Type 0
ActsByOne =
    (m : Machine) (s : MachineStep) (q : ObjName) →
    (acted_of (effect m s) q ≡ acted_of m q) ⊎ (IsTurnOf q s × (acted_of (effect m s) q ≡ suc (acted_of m q)))

-- how many steps of a run change the count
abbrev pub turns_taken : ObjName → Machine → List MachineStep → ℕ
turns_taken q m [] = 0
turns_taken q m (s ∷ ss) = (if acted_of (effect m s) q == acted_of m q then 0 else 1) + turns_taken q (effect m s) ss

-- in each run as many requests of q act as steps change the count: none acts again
abbrev pub ActsOnce : Type 0
ActsOnce = (m : Machine) (ss : List MachineStep) (q : ObjName) → acted_of (after m ss) q ≡ acted_of m q + turns_taken q m ss
