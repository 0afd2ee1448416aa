-- What a datagram may be answered with, as it is taken before.
use Rattle.std.specs.Prelude.{ℕ, ◌≡◌, ◌+◌, ◌==◌, ◌||◌, Bool, List, Option, Some, None, ⊤, if◌then◌else◌}
use Rattle.std.specs.Bool.{OnTrue}
use Rattle.rdma_types.specs.declared.answers.Sent.{Sent}
use Rattle.protocol.specs.declared.wire.Aeth.{Aeth}
use Rattle.protocol.specs.declared.wire.Syndrome.TheVariants.{Ack}
use Rattle.protocol.specs.Wire.{is_request}
use Rattle.context_core.specs.declared.rooms.DatagramRoom.{DatagramRoom}
use Rattle.context_core.specs.Rooms.{HasRoomFor}
use Rattle.endpoint_core.specs.declared.answers.EndReply.{EndReply}
use Rattle.endpoint_core.specs.declared.answers.EndReply.TheVariants.{Nothing, Acknowledge, ReadBytes, Old, ResumeAck}

-- what is sent for a reply: the READ responses that were there, or else these
abbrev pub IsSentFor : EndReply → List Sent → List Sent → List Sent → Type 0
IsSentFor (ReadBytes spot first count) read other sent = read ≡ sent
IsSentFor Nothing read other sent = sent ≡ other
IsSentFor (Acknowledge number syndrome) read other sent = sent ≡ other
IsSentFor (Old number value) read other sent = sent ≡ other
IsSentFor (ResumeAck count address) read other sent = sent ≡ other

-- the reply hands out no bytes
abbrev pub HasNoBytes : EndReply → Type 0
HasNoBytes (ReadBytes spot first count) = ⊥
HasNoBytes Nothing = ⊤
HasNoBytes (Acknowledge number syndrome) = ⊤
HasNoBytes (Old number value) = ⊤
HasNoBytes (ResumeAck count address) = ⊤

-- the opcode of READ response k of so many: Only, First, Last or Middle
abbrev pub opcode_at : ℕ → ℕ → ℕ
opcode_at k count = if count == 1 then 0x10 else if k == 0 then 0x0D else if k + 1 == count then 0x0F else 0x0E

-- its AETH with this count of finished messages; a Middle has none
abbrev pub aeth_at : ℕ → ℕ → Option Aeth
aeth_at opcode msn = if opcode == 0x0E then None else Some (record { syndrome = Ack; msn = msn })

-- a packet of this opcode may be answered: a request or a RESUME
abbrev pub may_answer : ℕ → Bool
may_answer opcode = is_request opcode || opcode == 0x1E

-- memory for a reply to a packet of this opcode is there, where it may be answered
abbrev pub IsRoomFor : ℕ → DatagramRoom → Type 0
IsRoomFor opcode room = OnTrue (may_answer opcode) (HasRoomFor room 92)

-- memory for a reply without bytes is there
abbrev pub HasRoom : EndReply → DatagramRoom → Type 0
HasRoom (ReadBytes spot first count) room = ⊤
HasRoom Nothing room = ⊤
HasRoom (Acknowledge number syndrome) room = HasRoomFor room 92
HasRoom (Old number value) room = HasRoomFor room 92
HasRoom (ResumeAck count address) room = HasRoomFor room 92
