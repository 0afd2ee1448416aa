-- What is true of the two ends of a connection: requester and responder against the machine's queue of requests, and
-- the counts of moves. In each fact q is the machine's end whose requests are spoken of.
use Rattle.std.specs.Prelude.{◌≡◌, ◌≢◌, ℕ, ◌+◌, ◌-◌, ◌%◌, ◌^◌, ◌<◌, ◌≤◌, ◌⊎◌, List, [], ◌∷◌, ◌++◌, length, take, drop, Contains, All, IfSome, Bool, true, false, Some, bytes_eq}
use Rattle.std.specs.List.{list_any}
use Rattle.rdma_types.specs.declared.names.ObjName.{ObjName}
use Rattle.rdma_types.specs.declared.requests.Address.{Address}
use Rattle.rdma_types.specs.Kinds.{is_atomic, is_read, is_send, is_write, kind_of, lands, size_of}
use Rattle.rdma_types.specs.Limits.{AreTerms, most_kept, most_moves, number_limit}
use Rattle.rdma_types.specs.Memory.{is_granted, remote_key}
use Rattle.rdma_types.specs.Objects.{Posted, Region}
use Rattle.rdma_types.specs.Shapes.{is_swap}
use Rattle.rdma_types.specs.Spans.{end_number, first_number, span_of}
use Rattle.rdma_types.specs.declared.names.Name.{Name}
use Rattle.protocol.specs.declared.images.KeptReply.{KeptReply}
use Rattle.protocol.specs.State.{Sender, Receiver, Paused, Resuming, Progress, NoMessage, InSend, InWrite}
use Rattle.protocol.specs.WorldStep.{exchanged}
use Rattle.packetless_machine.specs.declared.reply.Reply.{Reply}
use Rattle.packetless_machine.specs.declared.reply.Reply.TheVariants.{Finished, OldValue, Denied}
use Rattle.packetless_machine.specs.Machine.{End, posted_at}
use Rattle.packetless_machine.specs.Numbers.{due, oldest}
use Rattle.packetless_machine.specs.Steps.{current, front, right_for}
use Rattle.law_simulation.specs.Views.{Side}

-- ---- ranges of fields, and whole pieces

-- a posted request has fields that a datagram can say
pub record IsSayable (r : Posted) : Type 0 where
  pub remote : r.request.shape.remote < 2 ^ 64
  pub rkey : r.request.shape.rkey < 2 ^ 32
  pub swap_add : r.request.shape.swap_add < 2 ^ 64
  pub compare : r.request.shape.compare < 2 ^ 64
  -- only a compare and swap has a compare value
  pub no_compare : is_swap (kind_of r) ≡ false → r.request.shape.compare ≡ 0
  pub imm : IfSome r.request.shape.imm (λ n. n < 2 ^ 32)
  -- an atomic is of one word
  pub word : is_atomic (kind_of r) ≡ true → size_of r ≡ 8
  -- the bytes of a Write or Send were taken whole, and are bytes
  pub payload : lands (kind_of r) ≡ false → length r.payload ≡ size_of r
  pub bytes : All (λ b. b < 256) r.payload

-- the range of a request does not go past the last address
abbrev pub IsUnwrapped : Posted → Type 0
IsUnwrapped r = r.request.shape.remote + size_of r ≤ 2 ^ 64

-- an old value is a word
abbrev pub IsWordReply : Reply → Type 0
IsWordReply Finished = Unit {0}
IsWordReply (OldValue value) = value < 2 ^ 64
IsWordReply (Denied why) = Unit {0}

-- that many bytes of a request are whole pieces of an unfinished message, or none
abbrev pub AreWholePieces : ℕ → Posted → ℕ → Type 0
AreWholePieces mtu r bytes = (bytes % mtu ≡ 0) × ((bytes ≡ 0) ⊎ (bytes < size_of r))

-- what stands in pieces at a connected end of the machine
pub record IsInPieces (q : End) : Type 0 where
  -- the bytes of the current request that are in place
  pub acting : AreWholePieces q.mtu (current q) q.into
  -- the bytes of the first untold request that its owner knows to be in place, or that landed
  pub telling : AreWholePieces q.mtu (front q) q.known
  -- each request can be said
  pub sayable : All IsSayable q.posted
  -- offered bytes are bytes
  pub offers : All (λ o. All (λ b. b < 256) o.bytes) q.offers
  -- a Read that had its turn has a range of addresses that a datagram can say
  pub reads : (i : ℕ) → i < q.acted → is_read (kind_of (posted_at q.posted i)) ≡ true → IsUnwrapped (posted_at q.posted i)
  -- each old value that was answered is a word
  pub old_words : All IsWordReply q.answers

-- ---- the requester

-- the requester in Rts
pub record Sends (s : Sender) (q : End) : Type 0 where
  -- its first untold request begins with this number
  pub first : s.first ≡ first_number q.posted q.mtu q.told
  -- the oldest unacknowledged number is the first that the owner does not know to be in place
  pub una : s.una ≡ oldest q
  -- counted expiries are equal, and no more than the retries
  pub spent : s.spent ≡ q.spent
  pub few : q.spent ≤ q.retry
  -- counted waits are equal, and no more than the limit, unless they have none
  pub waits : q.rnr ≢ 7 → (s.waits ≡ q.waits) × (q.waits ≤ q.rnr)

-- the requester in Error: all its numbers are the end of the numbers
pub record IsOver (s : Sender) (q : End) : Type 0 where
  pub first : s.first ≡ end_number q.posted q.mtu
  pub una : s.una ≡ end_number q.posted q.mtu
  pub next : s.next ≡ end_number q.posted q.mtu
  pub top : s.top ≡ end_number q.posted q.mtu

-- the numbers of a requester, in Rts or in Error, are in order
pub record IsOrdered (s : Sender) (q : End) : Type 0 where
  -- nothing is sent again that is acknowledged
  pub una_next : s.una ≤ s.next
  -- `top` is past all that was sent
  pub next_top : s.next ≤ s.top
  -- nothing is sent that was not posted
  pub top_end : s.top ≤ end_number q.posted q.mtu
  -- nothing acts that was not sent
  pub due_top : due q ≤ s.top
  -- unacknowledged numbers are few, so that wire numbers are not mistaken
  pub reach : s.top ≤ due q + 2 ^ 20
  -- no number is past the limit
  pub limit : end_number q.posted q.mtu < number_limit

-- request i has an earlier Read or atomic that is not told
abbrev pub lands_untold_before : End → ℕ → Bool
lands_untold_before q i = list_any (λ r. lands (kind_of r)) (take (i - q.told) (drop q.told q.posted))

-- the fence: nothing of a fenced request is sent while an earlier Read or atomic is not told
abbrev pub IsFencedIn : Sender → End → Type 0
IsFencedIn s q =
    (i : ℕ) → i < length q.posted → (posted_at q.posted i).request.fence ≡ true → lands_untold_before q i ≡ true → s.top ≤ first_number q.posted q.mtu i

-- ---- the responder, at the peer of q

-- an old value with its number
unfoldable pub old_value : ℕ → Reply → List KeptReply
old_value n Finished = []
old_value n (OldValue value) = record { number = n; old = value } ∷ []
old_value n (Denied why) = []

-- the old values that were answered, with the numbers of their requests; n is the number of the first
unfoldable pub old_values : ℕ → ℕ → List Posted → List Reply → List KeptReply
old_values mtu n [] answers = []
old_values mtu n (r ∷ rs) [] = []
old_values mtu n (r ∷ rs) (a ∷ answers) = old_value n a ++ old_values mtu (n + span_of r mtu) rs answers

-- the last things of a list
unfoldable pub last_of : {A : Type 0} → ℕ → List A → List A
last_of n xs = drop (length xs - n) xs

-- the responder in Rts
pub record Receives (r : Receiver) (q : End) : Type 0 where
  -- it expects the packet that acts next
  pub expected : r.expected ≡ due q
  -- it keeps the last replies of atomics
  pub kept : r.kept ≡ last_of most_kept (old_values q.mtu 0 q.posted q.answers)
  -- it refused nothing, or it would have ended
  pub answered : length q.answers ≡ q.acted

-- the region with that local key is the one that the request writes, and holds its range at that offset
pub record IsWriting (regions : List Region) (key off : ℕ) (r : Posted) : Type 0 where
  pub region : Region
  pub there : Contains regions region
  pub local : region.keys.local ≡ key
  pub remote : region.keys.remote ≡ r.request.shape.rkey
  pub place : region.base + off ≡ r.request.shape.remote

-- a domain and the memory of its context grant a request its whole range
unfoldable pub is_granted_in : Name → List Region → Posted → Bool
is_granted_in domain regions r =
    is_granted remote_key regions domain r.request.shape.rkey r.request.shape.remote (size_of r) (right_for (kind_of r))

-- the message in progress is the current request of q, and has its bytes so far; `domain` and `regions` are the
-- responder's
abbrev pub IsProgress : End → Name → List Region → Progress → Type 0
IsProgress q domain regions NoMessage = q.into ≡ 0
IsProgress q domain regions (InSend bytes receive) =
    (0 < bytes) × (bytes ≡ q.into) × (is_send (kind_of (current q)) ≡ true) × (bytes ≤ receive.length)
IsProgress q domain regions (InWrite region off count bytes) =
    (0 < bytes) × (bytes ≡ q.into) × (is_write (kind_of (current q)) ≡ true) × (count ≡ size_of (current q))
    × (is_granted_in domain regions (current q) ≡ true) × IsWriting regions region off (current q)

-- ---- moves

-- the end x is carried, or waits to be heard after a move
abbrev pub IsMoving : Side → Type 0
IsMoving x = (x.carried ≡ true) ⊎ (x.link.moving.phase ≡ Resuming)

-- the end x, and what its partner y recorded of it
pub record IsHeardOf (x y : Side) : Type 0 where
  -- y's record is no more than x's count
  pub known : y.link.moving.recorded ≤ x.link.moving.own
  -- where x is live in Rts and y's record is its count, y's address is that of x's device
  pub address : (a : Address) → x.rts ≡ true → x.place ≡ Some a → y.link.moving.recorded ≡ x.link.moving.own → y.link.moving.partner ≡ a
  -- where both are in Rts and x does not move, y's record is x's count
  pub settled : x.rts ≡ true → y.rts ≡ true → (IsMoving x → ⊥) → y.link.moving.recorded ≡ x.link.moving.own
  -- where y is Paused, x is carried, or y's record is below x's count, or x has ended
  pub paused : y.rts ≡ true → y.link.moving.phase ≡ Paused → (x.carried ≡ true) ⊎ (y.link.moving.recorded < x.link.moving.own) ⊎ (x.link.ended ≡ true)
  -- they do not both move
  pub one : x.rts ≡ true → y.rts ≡ true → IsMoving x → IsMoving y → ⊥
  -- no end moves more often than the limit
  pub limit : x.link.moving.own ≤ most_moves

-- ---- the whole

-- the connected end o: x is its side, y its peer's, and the machine has them as q and p
pub record IsJoined (o : ObjName) (x y : Side) (q p : End) : Type 0 where
  -- the peer is connected, to this end
  pub connected : y.connected ≡ true
  pub back : p.peer ≡ o
  -- it lies in another context
  pub apart : bytes_eq q.peer.context o.context ≡ false
  -- the partner's number and the terms are the machine's
  pub number : x.link.peer ≡ p.number
  pub mtu : x.link.terms.mtu ≡ q.mtu
  pub retry : x.link.terms.retry ≡ q.retry
  pub rnr : x.link.terms.rnr ≡ q.rnr
  -- the terms are in their ranges, and both ends have the same but for the starts exchanged
  pub terms : AreTerms x.link.terms
  pub exchanged : y.link.terms ≡ exchanged x.link.terms
  -- what is in place, known or offered stands in pieces
  pub in_pieces : IsInPieces q
  -- the requester, in Rts or in Error
  pub sends : x.rts ≡ true → Sends x.link.sender q
  pub over : x.link.ended ≡ true → IsOver x.link.sender q
  pub ordered : IsOrdered x.link.sender q
  pub fenced : x.rts ≡ true → IsFencedIn x.link.sender q
  -- the responder in Rts
  pub receives : y.rts ≡ true → Receives y.link.receiver q
  -- a responder in Error has no message in progress
  pub idle : y.link.ended ≡ true → y.link.receiver.progress ≡ NoMessage
  -- what the peer recorded of this end's moves
  pub heard_of : IsHeardOf x y
