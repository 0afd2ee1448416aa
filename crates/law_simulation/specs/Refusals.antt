-- The expected requests that do not act: those that are refused, and those that find no receive.
use Rattle.std.specs.Prelude.{◌≡◌, ℕ, ◌+◌, List, length, Bool, true, false, Some, is_some, not, ◌==◌, ◌&&◌, ◌||◌}
use Rattle.rdma_types.specs.declared.names.ObjName.{ObjName}
use Rattle.rdma_types.specs.Kinds.{is_send, is_write, kind_of}
use Rattle.protocol.specs.State.{World, Link}
use Rattle.protocol.specs.Wire.{Packet}
use Rattle.protocol.specs.Responder.{is_invalid, is_not_ready, is_too_long, target}
use Rattle.packetless_machine.specs.Machine as machine
use Rattle.packetless_machine.specs.Machine.{Machine, End}
use Rattle.packetless_machine.specs.Steps.{current, fills, has_imm, has_unused, is_current_granted, is_misaligned, may_atom, may_read, may_run, overflows, peer_of, receive_for}
use Rattle.law_simulation.specs.Packets.{class_of, IsRequest}
use Rattle.law_simulation.specs.Delivered.{Arrives, context_there, end_there}
use Rattle.law_simulation.specs.Taken.{IsExpected}

-- the end that asks o
abbrev pub asker_of : Machine → ObjName → ObjName
asker_of m o = (machine.end_of m o).peer

-- .. as the machine has it
abbrev pub asking_end : Machine → ObjName → End
asking_end m o = machine.end_of m (asker_of m o)

-- ---- the responder's checks, in their order

-- the expected request is invalid
abbrev pub IsInvalid : World → Machine → ObjName → Link → ℕ → Packet → Type 0
IsInvalid w m o l n d = IsExpected w m o l n d × (is_invalid l d ≡ true)

-- .. it is valid
abbrev pub IsValid : World → Machine → ObjName → Link → ℕ → Packet → Type 0
IsValid w m o l n d = IsExpected w m o l n d × (is_invalid l d ≡ false)

-- .. and its place is not granted
abbrev pub IsNotGranted : World → Machine → ObjName → Link → ℕ → Packet → Type 0
IsNotGranted w m o l n d = IsValid w m o l n d × (is_some (target (context_there w o) (end_there w o) d) ≡ false)

-- .. or is granted
abbrev pub IsGrantedNow : World → Machine → ObjName → Link → ℕ → Packet → Type 0
IsGrantedNow w m o l n d = IsValid w m o l n d × (is_some (target (context_there w o) (end_there w o) d) ≡ true)

-- .. and it finds no receive
abbrev pub FindsNoReceive : World → Machine → ObjName → Link → ℕ → Packet → Type 0
FindsNoReceive w m o l n d = IsGrantedNow w m o l n d × (is_not_ready (end_there w o) d ≡ true)

-- .. or finds one that is too short
abbrev pub IsTooLong : World → Machine → ObjName → Link → ℕ → Packet → Type 0
IsTooLong w m o l n d = IsGrantedNow w m o l n d × (is_not_ready (end_there w o) d ≡ false) × (is_too_long (end_there w o) l d ≡ true)

-- ---- the machine's tests

-- the machine may not act on the expected request: none of Run, Atom and ReadTurn is enabled
abbrev pub MayNotAct : World → Machine → ObjName → Link → ℕ → Packet → Type 0
MayNotAct w m o l n d =
    IsExpected w m o l n d × (may_run m (asker_of m o) (length d.payload) ≡ false) × (may_atom m (asker_of m o) ≡ false) × (may_read m (asker_of m o) ≡ false)

-- the packet needs a receive: it begins a Send, or ends a Write with immediate
abbrev pub needs_one : End → Packet → Bool
needs_one g d = (is_send (kind_of (current g)) && (g.into == 0)) || (is_write (kind_of (current g)) && (fills g (length d.payload) && has_imm (current g)))

-- the responder's checks of d are the machine's tests of its current request
pub record AreTests (w : World) (m : Machine) (o : ObjName) (l : Link) (d : Packet) : Type 0 where
  -- of all that is invalid, only an atomic whose address is not a multiple of 8 can be the packet of its number
  pub invalid : is_invalid l d ≡ is_misaligned (current (asking_end m o))
  -- the responder finds the place of a Send, and where the whole range of the request is granted
  pub granted : is_some (target (context_there w o) (end_there w o) d) ≡ (is_send (kind_of (current (asking_end m o))) || is_current_granted m (asker_of m o))
  -- it is not ready where a receive is needed, and none is unused
  pub ready : is_not_ready (end_there w o) d ≡ (needs_one (asking_end m o) d && not (has_unused (peer_of m (asker_of m o))))
  -- where a receive is there, a Send is too long where its bytes so far overflow it
  pub fits : is_not_ready (end_there w o) d ≡ false →
      is_too_long (end_there w o) l d ≡ (is_send (kind_of (current (asking_end m o))) && overflows (receive_for (peer_of m (asker_of m o))) ((asking_end m o).into + length d.payload))

-- each expected request is checked so
abbrev pub ChecksAgree : Type 0
ChecksAgree =
    (w : World) (m : Machine) (o : ObjName) (l : Link) (n : ℕ) (bytes : List ℕ) (d : Packet) →
    Arrives w m o l (Some n) bytes d → class_of d ≡ IsRequest → IsExpected w m o l n d → AreTests w m o l d
