-- What is sent for an end, and the memory that it takes.
use Rattle.std.specs.Prelude.{◌<◌, ◌^◌, ◌%◌, List, [], ◌∷◌, Some, None, IfSome}
use Rattle.rdma_types.specs.declared.answers.Answer.{Answer}
use Rattle.rdma_types.specs.declared.answers.Answer.TheVariants as answer
use Rattle.rdma_types.specs.declared.answers.Sent.{Sent}
use Rattle.rdma_types.specs.declared.requests.Address.{Address}
use Rattle.rdma_types.specs.declared.requests.Shape.{Shape}
use Rattle.protocol.specs.EndWords.{to_partner}
use Rattle.protocol.specs.Moves.{resume_of}
use Rattle.protocol.specs.Numbers.{wire_number}
use Rattle.protocol.specs.Requester as rows
use Rattle.protocol.specs.Requester.{Transmission, Sends, SendsResume, IsIdle, WindowIsFull, ReadsAreFull, IsFenced}
use Rattle.protocol.specs.Segments.{packet_of_piece}
use Rattle.protocol.specs.State.{Link}
use Rattle.protocol.specs.Wire.{Packet}
use Rattle.context_core.specs.declared.sending.SendRow.{SendRow}
use Rattle.context_core.specs.declared.sending.SendRow.TheVariants as send

-- the packet under a destination of 24 bits, as it is written
abbrev pub addressed : Packet → Packet
addressed p = record p { dest = p.dest % 16777216 }

-- the fields of a request are in their ranges
pub record IsInRange (s : Shape) : Type 0 where
  pub length' : s.length < 2 ^ 32
  pub remote : s.remote < 2 ^ 64
  pub rkey : s.rkey < 2 ^ 32
  pub imm : IfSome s.imm (λ n. n < 2 ^ 32)
  pub swap_add : s.swap_add < 2 ^ 64
  pub compare : s.compare < 2 ^ 64

-- what a row of the table of transmissions is answered
abbrev pub row_answer : Transmission → Answer
row_answer SendsResume = answer.Sent 0
row_answer rows.Waits = answer.Waiting
row_answer IsIdle = answer.Idle
row_answer WindowIsFull = answer.WindowFull
row_answer ReadsAreFull = answer.ReadsFull
row_answer IsFenced = answer.Fenced
row_answer (Sends x) = answer.Sent 0

-- what a transmission is answered, by what the code tells of it
abbrev pub send_answer : SendRow → Answer
send_answer send.Sent = answer.Sent 0
send_answer send.Idle = answer.Idle
send_answer send.WindowFull = answer.WindowFull
send_answer send.ReadsFull = answer.ReadsFull
send_answer send.Fenced = answer.Fenced
send_answer send.Waiting = answer.Waiting

-- .. and what is sent
abbrev pub row_sent : Link → Address → Transmission → List Sent
row_sent l own SendsResume = to_partner l None (resume_of l own) ∷ []
row_sent l own rows.Waits = []
row_sent l own IsIdle = []
row_sent l own WindowIsFull = []
row_sent l own ReadsAreFull = []
row_sent l own IsFenced = []
row_sent l own (Sends x) = to_partner l (Some l.sender.next) (packet_of_piece x.posted l.terms.mtu x.k l.peer (wire_number l.terms.own_start l.sender.next)) ∷ []
