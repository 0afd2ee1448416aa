-- Each byte of a message is put in place once.
use Rattle.std.specs.Prelude.{◌≡◌, ◌<◌, ◌+◌, ℕ, ◌==◌, ◌&&◌, Bool, false, List, [], ◌∷◌, length, nat_le, nat_lt, if◌then◌else◌}
use Rattle.rdma_types.specs.declared.names.ObjName.{ObjName}
use Rattle.rdma_types.specs.Kinds.{kind_of, lands}
use Rattle.rdma_types.specs.Lists.{same_object}
use Rattle.packetless_machine.specs.declared.steps.MachineStep.{MachineStep}
use Rattle.packetless_machine.specs.declared.steps.MachineStep.TheVariants as steps
use Rattle.packetless_machine.specs.Machine.{End, Machine, empty, end_of, posted_at}
use Rattle.packetless_machine.specs.Steps.{in_place}
use Rattle.packetless_machine.specs.Legal.{IsRun, after, effect}

-- these bytes of request number i, of n from `into` on, are with byte b
abbrev pub has_byte : End → ℕ → ℕ → ℕ → Bool
has_byte e n i b = e.acted == i && (nat_le e.into b && nat_lt b (e.into + n))

-- the step is a Run of q that puts byte b of request number i in place: that is the current request, and its bytes from `into` on
-- that the step puts are with that one
abbrev pub puts : ObjName → ℕ → ℕ → Machine → MachineStep → Bool
puts q i b m (steps.Run o n) = same_object o q && has_byte (end_of m q) n i b
puts q i b m other = false

-- how many steps of a run do so
abbrev pub times_put : ObjName → ℕ → ℕ → Machine → List MachineStep → ℕ
times_put q i b m [] = 0
times_put q i b m (s ∷ ss) = (if puts q i b m s then 1 else 0) + times_put q i b (effect m s) ss

-- request number i of an end is a Write or a Send
pub record IsMessage (e : End) (i : ℕ) : Type 0 where
  pub posted : i < length e.posted
  pub kind : lands (kind_of (posted_at e.posted i)) ≡ false

-- in each run from the empty machine a byte of a Write or Send that is in place was put once, and any other never
abbrev pub PutOnce : Type 0
PutOnce =
    (ss : List MachineStep) (q : ObjName) (i b : ℕ) → IsRun empty ss → IsMessage (end_of (after empty ss) q) i →
    times_put q i b empty ss ≡ (if nat_lt b (in_place (end_of (after empty ss) q) i) then 1 else 0)
