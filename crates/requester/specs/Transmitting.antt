-- What a Running requester sends next (IBA 9.7): the row of the table, the answer that says it, and the sender after it.
use Rattle.std.specs.Prelude.{ℕ, ◌+◌, ◌-◌, ◌==◌, ◌≡◌, Bool, Option, nat_le, if◌then◌else◌, ⊤}
use Rattle.rdma_types.specs.declared.requests.Terms.{Terms}
use Rattle.rdma_types.specs.Limits.{window}
use Rattle.rdma_types.specs.Objects as objects
use Rattle.rdma_types.specs.Spans.{Piece, first_number, piece_at, request_of}
use Rattle.protocol.specs.Requester as rows
use Rattle.protocol.specs.Requester.{Transmission, Sends, SendsResume, IsIdle, WindowIsFull, ReadsAreFull, IsFenced, end_of_queue, going_to, next_transmission, packets_in_flight, past}
use Rattle.protocol.specs.Segments.{packet_of_piece}
use Rattle.protocol.specs.State.{Sender}
use Rattle.transport.specs.declared.segmenter.head.PacketHead.{PacketHead}
use Rattle.transport.specs.Heads.{Asks, packet_with}
use Rattle.requester.specs.declared.answers.Transmit.{Transmit}
use Rattle.requester.specs.declared.answers.Transmit.TheVariants.{Sent, Idle, WindowFull, ReadsFull, Fenced, Waiting}
use Rattle.requester.specs.Taking.{request_at}

-- the first row that holds at a Running end that is not in Error
unfoldable pub next_row : Terms → Sender → Transmission
next_row terms s =
    if s.rnr_wait
    then rows.Waits
    else if s.next == end_of_queue terms s
    then IsIdle
    else if nat_le window (packets_in_flight s.untold terms.mtu s.first s.una s.next)
    then WindowIsFull
    else next_transmission terms s (piece_at s.untold terms.mtu (s.next - s.first))

-- the piece that has this number, of the request at this place
abbrev pub piece_said : Terms → Sender → ℕ → ℕ → Piece
piece_said terms s number index = record { posted = request_at s index; k = number - (s.first + first_number s.untold terms.mtu index) }

-- the row that an answer says
abbrev pub row_said : Terms → Sender → Transmit → Transmission
row_said terms s (Sent number index head) = Sends (piece_said terms s number index)
row_said terms s Idle = IsIdle
row_said terms s WindowFull = WindowIsFull
row_said terms s ReadsFull = ReadsAreFull
row_said terms s Fenced = IsFenced
row_said terms s Waiting = rows.Waits

-- what is sent has number `next` and is of the request that has that number, and its head is that of the piece: with the bytes of its request it is the packet of
-- the protocol's rules
abbrev pub IsHeadOf : Terms → Sender → Transmit → Type 0
IsHeadOf terms s (Sent number index head) =
    (number ≡ s.next)
    × (index ≡ request_of s.untold terms.mtu (s.next - s.first))
    × ((p : objects.Posted) (dest psn : ℕ) → Asks p (request_at s index).request.shape → packet_with head p dest psn ≡ packet_of_piece p terms.mtu (piece_said terms s number index).k dest psn)
IsHeadOf terms s Idle = ⊤
IsHeadOf terms s WindowFull = ⊤
IsHeadOf terms s ReadsFull = ⊤
IsHeadOf terms s Fenced = ⊤
IsHeadOf terms s Waiting = ⊤

-- the sender after a row: past what is sent, and else as before
abbrev pub after_row : Terms → Sender → Transmission → Sender
after_row terms s (Sends x) = going_to s (past terms s.next x)
after_row terms s SendsResume = s
after_row terms s rows.Waits = s
after_row terms s IsIdle = s
after_row terms s WindowIsFull = s
after_row terms s ReadsAreFull = s
after_row terms s IsFenced = s
