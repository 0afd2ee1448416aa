-- The READ responses that a request may be answered with, as they are known before it acts.
use Rattle.std.specs.Prelude.{ℕ, ◌≡◌, ◌+◌, ◌%◌, ◌==◌, ◌&&◌, ◌||◌, Bool, List, Option, Some, None, nat_le, nat_lt, option_map, ⊤, if◌then◌else◌}
use Rattle.rdma_types.specs.declared.answers.Sent.{Sent}
use Rattle.rdma_types.specs.declared.names.Name.{Name}
use Rattle.rdma_types.specs.declared.requests.Terms.{Terms}
use Rattle.rdma_types.specs.Limits.{most_bytes}
use Rattle.rdma_types.specs.Lists.{at}
use Rattle.rdma_types.specs.Memory.{RemoteRead, remote_key}
use Rattle.rdma_types.specs.Objects.{Region, no_region}
use Rattle.rdma_types.specs.Spans.{pieces}
use Rattle.page_pool.specs.Pool.{Pool}
use Rattle.memory_keys.specs.declared.RegionRange.{RegionRange}
use Rattle.memory_keys.specs.Regions.{granted_spot, regions_of}
use Rattle.transport.specs.Table.{phase_of}
use Rattle.protocol.specs.declared.wire.Reth.{Reth}
use Rattle.protocol.specs.EndWords.{is_paused}
use Rattle.protocol.specs.Numbers.{unwrap_near}
use Rattle.protocol.specs.Responder.{is_read_request, read_pieces}
use Rattle.protocol.specs.State.{Link, Receiver}
use Rattle.protocol.specs.Wire.{Packet}
use Rattle.endpoint_core.specs.declared.answers.DueRead.{DueRead}
use Rattle.endpoint_core.specs.declared.answers.EndReply.{EndReply}
use Rattle.endpoint_core.specs.declared.answers.EndReply.TheVariants as reply
use Rattle.endpoint_core.specs.declared.end.EndLink.{EndLink}
use Rattle.endpoint_core.specs.Answers.{sent_of}
use Rattle.endpoint_core.specs.Ends.{link_in}
use Rattle.endpoint_core.specs.Sites.{EndWithMemory}

-- a READ of so many numbers from n on is not ahead: all its numbers are before the expected one, or the first is the
-- expected one, and its length is within the limit of a message
abbrev pub is_in_turn : ℕ → ℕ → ℕ → ℕ → Bool
is_in_turn expected n count length = if nat_lt n expected then nat_le (n + count) expected else (n == expected) && nat_le length most_bytes

-- the count of finished messages that the responses tell: a READ that is executed is one
abbrev pub told_msn : Receiver → ℕ → ℕ
told_msn r n = if n == r.expected then (r.msn + 1) % 16777216 else r.msn

-- the responses of a READ from number n on with the bytes of a spot
abbrev pub due_of : Receiver → ℕ → RegionRange → DueRead
due_of r n spot = record { spot = spot; first = n; msn = told_msn r n }

-- .. where the READ is in turn and its place is granted
abbrev pub due_at : Terms → Receiver → List Region → Name → Reth → Option ℕ → Option DueRead
due_at t r regions domain h None = None
due_at t r regions domain h (Some n) =
    if is_in_turn r.expected n (pieces h.length t.mtu) h.length
    then option_map (due_of r n) (granted_spot remote_key regions domain h.rkey h.address h.length RemoteRead)
    else None

-- .. of the READ of a RETH
abbrev pub due_by : Terms → Receiver → List Region → Name → ℕ → Option Reth → Option DueRead
due_by t r regions domain psn None = None
due_by t r regions domain psn (Some h) = due_at t r regions domain h (unwrap_near t.peer_start psn r.expected)

-- .. of a packet
abbrev pub due_read : Terms → Receiver → List Region → Name → Packet → Option DueRead
due_read t r regions domain d = if is_read_request d.opcode then due_by t r regions domain d.psn d.reth else None

-- .. at a connected end; a Paused one and one in Error answer no request
abbrev pub due_in : EndLink → List Region → Name → Packet → Option DueRead
due_in l regions domain d = if l.ended || is_paused (phase_of l.moves.phase) then None else due_read l.terms l.responder.receiver regions domain d

-- the link with another count of finished messages
abbrev pub telling : Link → ℕ → Link
telling l msn = record l { receiver = record l.receiver { msn = msn } }

-- the bytes of a spot in so many READ responses
abbrev pub responses : Pool → List Region → EndLink → DueRead → ℕ → List Sent
responses pool regions l due count = read_pieces (telling (link_in pool l) due.msn) (at (λ r. r.keys.local) no_region due.spot.region regions) due.spot.off due.spot.length due.first count

-- what is answered with bytes was due before, in as many responses as it has pieces
pub record IsDue (old new : EndWithMemory) (l : EndLink) (d : Packet) (spot : RegionRange) (first count : ℕ) : Type 0 where
  pub msn : ℕ
  pub all : count ≡ pieces spot.length l.terms.mtu
  pub due : due_in l (regions_of old.pool old.held) old.end.domain d ≡ Some (record { spot = spot; first = first; msn = msn })
  pub sent : sent_of new (reply.ReadBytes spot first count) ≡ responses old.pool (regions_of old.pool old.held) l (record { spot = spot; first = first; msn = msn }) count

-- .. and no other reply was
abbrev pub WasDue : EndWithMemory → EndWithMemory → EndLink → Packet → EndReply → Type 0
WasDue old new l d (reply.ReadBytes spot first count) = IsDue old new l d spot first count
WasDue old new l d reply.Nothing = ⊤
WasDue old new l d (reply.Acknowledge number syndrome) = ⊤
WasDue old new l d (reply.Old number old-value) = ⊤
WasDue old new l d (reply.ResumeAck count address) = ⊤
