-- The requests that repeat a READ request.
use Rattle.std.specs.Prelude.{◌≡◌, ℕ, true}
use Rattle.rdma_types.specs.declared.names.ObjName.{ObjName}
use Rattle.rdma_types.specs.Kinds.{is_read, kind_of}
use Rattle.protocol.specs.State.{World, Link}
use Rattle.protocol.specs.Wire.{Packet}
use Rattle.packetless_machine.specs.Machine.{Machine}
use Rattle.law_simulation.specs.Taken.{IsRepeat, asked}

-- the end is not Paused, and the request repeats a READ request, for a whole Read or for the rest of one
abbrev pub IsReadRepeat : World → Machine → ObjName → Link → ℕ → Packet → Type 0
IsReadRepeat w m o l n d = IsRepeat w m o l n d × (is_read (kind_of (asked m o n)) ≡ true)
