-- The atomics that arrive: those that act, and those that repeat one that acted.
use Rattle.std.specs.Prelude.{◌≡◌, ℕ, true}
use Rattle.rdma_types.specs.declared.names.ObjName.{ObjName}
use Rattle.rdma_types.specs.Kinds.{is_atomic, kind_of}
use Rattle.protocol.specs.State.{World, Link}
use Rattle.protocol.specs.Wire.{Packet}
use Rattle.packetless_machine.specs.Machine as machine
use Rattle.packetless_machine.specs.Machine.{Machine}
use Rattle.packetless_machine.specs.Steps.{may_atom}
use Rattle.law_simulation.specs.Taken.{IsExpected, IsRepeat, asked}

-- the expected request is an atomic that the machine may let act
abbrev pub IsAtomTurn : World → Machine → ObjName → Link → ℕ → Packet → Type 0
IsAtomTurn w m o l n d = IsExpected w m o l n d × (may_atom m (machine.end_of m o).peer ≡ true)

-- the request repeats an atomic
abbrev pub IsAtomicRepeat : World → Machine → ObjName → Link → ℕ → Packet → Type 0
IsAtomicRepeat w m o l n d = IsRepeat w m o l n d × (is_atomic (kind_of (asked m o n)) ≡ true)
