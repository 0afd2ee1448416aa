-- What is proved of the requests that arrive at an end in Rts, case by case.
use Rattle.std.specs.Prelude.{length, ◌≡◌, ℕ, ◌<◌, List, true, false, Some}
use Rattle.rdma_types.specs.declared.names.ObjName.{ObjName}
use Rattle.rdma_types.specs.Kinds.{is_atomic, is_read, is_send, is_write, kind_of}
use Rattle.rdma_types.specs.Objects.{Posted}
use Rattle.protocol.specs.EndWords.{is_paused}
use Rattle.protocol.specs.State.{World, Link}
use Rattle.protocol.specs.Wire.{Packet}
use Rattle.packetless_machine.specs.Machine as machine
use Rattle.packetless_machine.specs.Machine.{Machine}
use Rattle.packetless_machine.specs.Steps.{current, may_dry, may_read, may_run}
use Rattle.law_simulation.specs.Packets.{class_of, IsRequest}
use Rattle.law_simulation.specs.Facts.{request_for}
use Rattle.law_simulation.specs.Delivered.{Arrives, Takes}

-- the request that number n is of, where it arrives at o
abbrev pub asked : Machine → ObjName → ℕ → Posted
asked m o n = request_for (machine.end_of m (machine.end_of m o).peer) n

-- the peer's request that acts next
abbrev pub current_of : Machine → ObjName → Posted
current_of m o = current (machine.end_of m (machine.end_of m o).peer)

-- each request n that arrives at an end in Rts, and for which a test holds, is followed
abbrev pub AreTakenWhere : (World → Machine → ObjName → Link → ℕ → Packet → Type 0) → Type 0
AreTakenWhere Test =
    (w : World) (m : Machine) (o : ObjName) (l : Link) (n : ℕ) (bytes : List ℕ) (d : Packet) →
    Arrives w m o l (Some n) bytes d → class_of d ≡ IsRequest → Test w m o l n d → Takes w m o l (Some n) d

-- the end is Paused
abbrev pub IsAtPaused : World → Machine → ObjName → Link → ℕ → Packet → Type 0
IsAtPaused w m o l n d = is_paused l.moving.phase ≡ true

-- the end is not Paused, and the request is ahead of the expected one
abbrev pub IsAhead : World → Machine → ObjName → Link → ℕ → Packet → Type 0
IsAhead w m o l n d = (is_paused l.moving.phase ≡ false) × (l.receiver.expected < n)

-- the end is not Paused, and the request is a repeat
abbrev pub IsRepeat : World → Machine → ObjName → Link → ℕ → Packet → Type 0
IsRepeat w m o l n d = (is_paused l.moving.phase ≡ false) × (n < l.receiver.expected)

-- .. of a Write or Send
abbrev pub IsMessageRepeat : World → Machine → ObjName → Link → ℕ → Packet → Type 0
IsMessageRepeat w m o l n d = IsRepeat w m o l n d × (is_read (kind_of (asked m o n)) ≡ false) × (is_atomic (kind_of (asked m o n)) ≡ false)

-- the end is not Paused, and the request is the expected one
abbrev pub IsExpected : World → Machine → ObjName → Link → ℕ → Packet → Type 0
IsExpected w m o l n d = (is_paused l.moving.phase ≡ false) × (n ≡ l.receiver.expected)

-- .. a piece of a Write that the machine may put in place
abbrev pub IsWriteRun : World → Machine → ObjName → Link → ℕ → Packet → Type 0
IsWriteRun w m o l n d = IsExpected w m o l n d × (is_write (kind_of (current_of m o)) ≡ true) × (may_run m (machine.end_of m o).peer (length d.payload) ≡ true)

-- .. a piece of a Write that the machine may not put in place, since its immediate finds no receive
abbrev pub IsWriteDry : World → Machine → ObjName → Link → ℕ → Packet → Type 0
IsWriteDry w m o l n d =
    IsExpected w m o l n d × (is_write (kind_of (current_of m o)) ≡ true) × (may_run m (machine.end_of m o).peer (length d.payload) ≡ false) × (may_dry m (machine.end_of m o).peer ≡ true)

-- .. a piece of a Send that the machine may put in place
abbrev pub IsSendRun : World → Machine → ObjName → Link → ℕ → Packet → Type 0
IsSendRun w m o l n d = IsExpected w m o l n d × (is_send (kind_of (current_of m o)) ≡ true) × (may_run m (machine.end_of m o).peer (length d.payload) ≡ true)

-- .. the first piece of a Send that the machine may not put in place, since it finds no receive
abbrev pub IsSendDry : World → Machine → ObjName → Link → ℕ → Packet → Type 0
IsSendDry w m o l n d =
    IsExpected w m o l n d × (is_send (kind_of (current_of m o)) ≡ true) × (may_run m (machine.end_of m o).peer (length d.payload) ≡ false) × (may_dry m (machine.end_of m o).peer ≡ true)

-- .. a READ request whose Read the machine may give its turn
abbrev pub IsReadTurn : World → Machine → ObjName → Link → ℕ → Packet → Type 0
IsReadTurn w m o l n d = IsExpected w m o l n d × (is_read (kind_of (current_of m o)) ≡ true) × (may_read m (machine.end_of m o).peer ≡ true)
