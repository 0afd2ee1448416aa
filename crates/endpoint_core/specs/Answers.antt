-- What the calls of an end answer, in the words of the protocol's rules.
use Rattle.std.specs.Prelude.{ℕ, ◌≡◌, ◌+◌, ◌<◌, ◌==◌, List, [], ◌∷◌, ◌++◌, Bool, false, Option, Some, None, length, ⊤, IsTrue, if◌then◌else◌}
use Rattle.std.specs.Option.{option_map_or}
use Rattle.rdma_types.specs.declared.answers.Answer.{Answer}
use Rattle.rdma_types.specs.declared.answers.Answer.TheVariants as answer
use Rattle.rdma_types.specs.declared.answers.ExpiryIgnored.{ExpiryIgnored}
use Rattle.rdma_types.specs.declared.answers.Sent.{Sent}
use Rattle.rdma_types.specs.declared.requests.Receive.{Receive}
use Rattle.transport.specs.declared.move_core.Control.{Control}
use Rattle.transport.specs.declared.move_core.Control.TheVariants.{Stopped, Resume, ResumeAck}
use Rattle.transport.specs.declared.move_core.MoveEffect.{MoveEffect}
use Rattle.transport.specs.declared.move_core.MoveEffect.TheVariants as row
use Rattle.rdma_types.specs.declared.answers.ArrivalEffect.{ArrivalEffect}
use Rattle.rdma_types.specs.declared.answers.ArrivalEffect.TheVariants as took
use Rattle.rdma_types.specs.declared.answers.DropReason.TheVariants as why
use Rattle.rdma_types.specs.declared.requests.WcStatus.{WcStatus}
use Rattle.rdma_types.specs.declared.requests.WcStatus.TheVariants as status
use Rattle.rdma_types.specs.Lists.{at}
use Rattle.rdma_types.specs.Objects as objects
use Rattle.rdma_types.specs.Objects.{Region, no_region}
use Rattle.rdma_types.specs.Spans.{pieces}
use Rattle.memory_keys.specs.declared.RegisteredRegion.{RegisteredRegion}
use Rattle.memory_keys.specs.Regions.{IsSpot, regions_of}
use Rattle.page_pool.specs.Pool.{Pool}
use Rattle.protocol.specs.Moves.{fresh_start, resume_packet}
use Rattle.protocol.specs.Requester as rows
use Rattle.protocol.specs.Requester.{Transmission, Sends, SendsResume, IsIdle, WindowIsFull, ReadsAreFull, IsFenced, counted, ended_with, not_counted, transmission, transmitted, waited_out}
use Rattle.protocol.specs.Responder.{acknowledge, old_answer, read_pieces}
use Rattle.protocol.specs.Segments.{packet_of_piece}
use Rattle.protocol.specs.State.{Context, End, Link, Sender}
use Rattle.protocol.specs.DeviceStep.{posted_at}
use Rattle.protocol.specs.EndStep.{takes}
use Rattle.protocol.specs.Wire.{Packet, fits_syndrome}
use Rattle.protocol.specs.EndWords.{EndStep, silent, completing, failed_receive, linked, to_partner, with_end, with_sender, with_unused, is_in_error}
use Rattle.requester.specs.declared.answers.Transmit.TheVariants.{Sent as IsSent, Idle, WindowFull, ReadsFull, Fenced, Waiting}
use Rattle.requester.specs.Sending.{sender_in}
use Rattle.requester.specs.Taking.{request_at}
use Rattle.requester.specs.Transmitting.{piece_said, row_said}
use Rattle.transport.specs.Heads.{packet_with}
use Rattle.transport.specs.declared.segmenter.head.PacketHead.{PacketHead}
use Rattle.endpoint_core.specs.declared.answers.EndReply.{EndReply}
use Rattle.endpoint_core.specs.declared.answers.EndReply.TheVariants as reply
use Rattle.endpoint_core.specs.declared.answers.EndSend.{EndSend}
use Rattle.endpoint_core.specs.declared.answers.EndSend.TheVariants as send
use Rattle.endpoint_core.specs.declared.end.EndLink.{EndLink}
use Rattle.endpoint_core.specs.Ends.{link_in}
use Rattle.endpoint_core.specs.Sites.{EndWithMemory}

-- ---- replies

-- the datagrams of a reply, to the recorded place of the partner
abbrev pub sent_by : List Region → Link → EndReply → List Sent
sent_by regions l reply.Nothing = []
sent_by regions l (reply.Acknowledge number syndrome) = acknowledge l number syndrome ∷ []
sent_by regions l (reply.ReadBytes spot first count) = read_pieces l (at (λ r. r.keys.local) no_region spot.region regions) spot.off spot.length first count
sent_by regions l (reply.Old number old) = old_answer l number old ∷ []
sent_by regions l (reply.ResumeAck count address) = to_partner l None (resume_packet 0x1F l.peer (record { count = count; address = address })) ∷ []

-- the datagrams of a reply of the end of a site
abbrev pub sent_of : EndWithMemory → EndReply → List Sent
sent_of s r = option_map_or (λ l. sent_by (regions_of s.pool s.held) (link_in s.pool l) r) s.end.link []

-- the bytes of a read are there, and it has as many responses as they have pieces; an acknowledge or a NAK can be written
abbrev pub IsReply : List RegisteredRegion → EndLink → EndReply → Type 0
IsReply held l (reply.ReadBytes spot first count) = IsSpot held spot × (count ≡ pieces spot.length l.terms.mtu)
IsReply held l reply.Nothing = ⊤
IsReply held l (reply.Acknowledge number syndrome) = IsTrue (fits_syndrome 0x11 syndrome)
IsReply held l (reply.Old number old) = ⊤
IsReply held l (reply.ResumeAck count address) = ⊤

-- ---- steps of an end that may be connected; one in Init does nothing

-- a packet arrives
abbrev pub taken_at : Context → End → Option Link → Packet → EndStep
taken_at c e None d = silent c why.Unknown
taken_at c e (Some l) d = takes c e l d

-- a request is posted
abbrev pub posted_by : Context → End → Option Link → objects.Posted → Context
posted_by c e None p = c
posted_by c e (Some l) p = posted_at c e l p

-- the end goes to Error with a status
abbrev pub failed_at : Context → End → Option Link → WcStatus → Context
failed_at c e None s = c
failed_at c e (Some l) s = ended_with c e l s

-- the RNR timer is over
abbrev pub waited_at : Context → End → Option Link → Context
waited_at c e None = c
waited_at c e (Some l) = linked c e (with_sender l (waited_out l.sender))

-- a receive at the end of the unused ones; in Error it completes at once, flushed
abbrev pub received_at : Context → End → Receive → Context
received_at c e r =
    if is_in_error e.link
    then completing c e.recv_cq (failed_receive e.number status.Flush r ∷ [])
    else with_end c (with_unused e (e.unused ++ r ∷ []))

-- ---- transmissions

-- the row of the table of transmissions
abbrev pub transmission_at : Option Link → Transmission
transmission_at None = rows.Waits
transmission_at (Some l) = transmission l

-- the row that an answer says
abbrev pub row_in : Pool → Option EndLink → EndSend → Transmission
row_in pool None s = rows.Waits
row_in pool (Some l) (send.Transmit t) = row_said l.terms (sender_in pool l.requester) t
row_in pool (Some l) (send.Resume count) = SendsResume

-- the packet of a head is that of the piece with this number of the request at this place
pub record IsPacket (pool : Pool) (l : EndLink) (number index : ℕ) (head : PacketHead) : Type 0 where
  pub number_is_next : number ≡ l.requester.numbers.next
  pub there : index < length l.requester.items
  pub packet : (dest psn : ℕ)
      → packet_with head (request_at (sender_in pool l.requester) index) dest psn
      ≡ packet_of_piece (request_at (sender_in pool l.requester) index) l.terms.mtu (piece_said l.terms (sender_in pool l.requester) number index).k dest psn

-- what is sent is the packet of the next number; a RESUME has the end's move count
abbrev pub IsPacketOf : Pool → EndLink → EndSend → Type 0
IsPacketOf pool l (send.Transmit (IsSent number index head)) = IsPacket pool l number index head
IsPacketOf pool l (send.Transmit Idle) = ⊤
IsPacketOf pool l (send.Transmit WindowFull) = ⊤
IsPacketOf pool l (send.Transmit ReadsFull) = ⊤
IsPacketOf pool l (send.Transmit Fenced) = ⊤
IsPacketOf pool l (send.Transmit Waiting) = ⊤
IsPacketOf pool l (send.Resume count) = count ≡ l.moves.own

-- the link after a row
abbrev pub link_after_row : Link → Transmission → Link
link_after_row l (Sends x) = transmitted l x
link_after_row l SendsResume = l
link_after_row l rows.Waits = l
link_after_row l IsIdle = l
link_after_row l WindowIsFull = l
link_after_row l ReadsAreFull = l
link_after_row l IsFenced = l

-- the context after a transmission
abbrev pub sent_at : Context → End → Option Link → Context
sent_at c e None = c
sent_at c e (Some l) = linked c e (link_after_row l (transmission l))

-- ---- expiries

-- the context after an expiry, for the reason that it is not counted, if there is one
abbrev pub expired_by : Context → End → Link → Option ExpiryIgnored → Context
expired_by c e l (Some w) = c
expired_by c e l None =
    if l.sender.spent == l.terms.retry then ended_with c e l status.RetryExceeded else linked c e (with_sender l (counted l.sender))

-- one more counted expiry is one too many
abbrev pub is_spent : Link → Option ExpiryIgnored → Bool
is_spent l (Some w) = false
is_spent l None = l.sender.spent == l.terms.retry

-- the link after an expiry that is not one too many
abbrev pub link_after_expiry : Link → Option ExpiryIgnored → Link
link_after_expiry l (Some w) = l
link_after_expiry l None = with_sender l (counted l.sender)

-- what is answered
abbrev pub expired_answer : Link → Option ExpiryIgnored → Answer
expired_answer l (Some w) = answer.NotCounted w
expired_answer l None = if l.sender.spent == l.terms.retry then answer.Spent else answer.Expired (l.sender.spent + 1)

-- an expiry
abbrev pub expired_at : Context → End → Option Link → Context
expired_at c e None = c
expired_at c e (Some l) = expired_by c e l (not_counted l)

-- its answer
abbrev pub expiry_of : Option Link → Answer
expiry_of None = answer.Done
expiry_of (Some l) = expired_answer l (not_counted l)

-- an expiry that is not one too many, its answer, and the link after it
pub record IsExpiry (l : Link) (a : Answer) (new : Link) : Type 0 where
  pub few : is_spent l (not_counted l) ≡ false
  pub answer : a ≡ expired_answer l (not_counted l)
  pub next : new ≡ link_after_expiry l (not_counted l)

-- ---- moving

-- what a row is answered
abbrev pub move_took : MoveEffect → ArrivalEffect
move_took row.Paused = took.Paused
move_took row.Resumed = took.Resumed
move_took row.Again = took.ResumeAck
move_took row.Running = took.Running
move_took row.Stale = took.Silent why.Stale

-- RESUME_ACK with the body of a RESUME
abbrev pub ack_of : Control → EndReply
ack_of (Resume count address) = reply.ResumeAck count address
ack_of (Stopped count) = reply.Nothing
ack_of (ResumeAck count) = reply.Nothing

-- the reply of a row
abbrev pub move_reply : MoveEffect → Control → EndReply
move_reply row.Paused control = reply.Nothing
move_reply row.Resumed control = ack_of control
move_reply row.Again control = ack_of control
move_reply row.Running control = reply.Nothing
move_reply row.Stale control = reply.Nothing

-- a reply that hands out no bytes
abbrev pub IsAck : EndReply → Type 0
IsAck reply.Nothing = ⊤
IsAck (reply.ResumeAck count address) = ⊤
IsAck (reply.Acknowledge number syndrome) = ⊥
IsAck (reply.ReadBytes spot first count) = ⊥
IsAck (reply.Old number old) = ⊥

-- the requester after a row
abbrev pub sender_after : MoveEffect → Sender → Sender
sender_after row.Paused s = s
sender_after row.Resumed s = fresh_start s
sender_after row.Again s = s
sender_after row.Running s = s
sender_after row.Stale s = s
