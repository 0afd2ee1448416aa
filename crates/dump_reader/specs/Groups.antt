-- The readers of groups of fields between two lists, and how a thing is made of its groups (this project's choice).
use Rattle.std.specs.Prelude.{ℕ, ◌+◌, ◌^◌, ◌==◌, ◌&&◌, ◌||◌, not, Bool, List, map, Option, Some, None, nat_lt, nat_le, if◌then◌else◌, Result, Ok, Err}
use Rattle.rdma_types.specs.declared.names.Name.{Name}
use Rattle.rdma_types.specs.declared.requests.Kind.{Kind}
use Rattle.rdma_types.specs.declared.requests.Request.{Request}
use Rattle.rdma_types.specs.declared.requests.Terms.{Terms}
use Rattle.rdma_types.specs.Kinds.{is_atomic, takes_bytes}
use Rattle.rdma_types.specs.Limits.{most_bytes, most_kept}
use Rattle.rdma_types.specs.Lists.{some}
use Rattle.rdma_types.specs.Memory.{is_granted, landing_right, local_key}
use Rattle.rdma_types.specs.Objects.{Region}
use Rattle.rdma_types.specs.Shapes.{has_remote, is_swap}
use Rattle.protocol.specs.declared.images.EndImage.{EndImage}
use Rattle.protocol.specs.declared.images.KeptReply.{KeptReply}
use Rattle.protocol.specs.declared.images.LinkImage.{LinkImage}
use Rattle.protocol.specs.declared.images.PostedImage.{PostedImage}
use Rattle.protocol.specs.declared.images.Progress.{Progress}
use Rattle.protocol.specs.declared.images.RegionImage.{RegionImage}
use Rattle.rdma_types.specs.declared.requests.Completion.{Completion}
use Rattle.rdma_types.specs.declared.requests.Receive.{Receive}
use Rattle.protocol.specs.Lawful.{is_number, is_local_key, is_whole_pieces}
use Rattle.protocol.specs.Dumps.{Reading, Reader, Good, Bad, then_read, gives, number, any, count_field, name_field, within, is_24, is_bit, is_below_limit, follows, kind_of, has_flag, keeps_numbers, shape_of_length, ReadQueue, queue_names, region_names, terms_field, progress_by, receive_field, may_write_at, length_at}
use Rattle.protocol.specs.declared.images.Progress.TheVariants as progress
use Rattle.dump_reader.specs.declared.cursor.Offence.{Offence}
use Rattle.dump_reader.specs.declared.heads.RegionImageHead.{RegionImageHead}
use Rattle.dump_reader.specs.declared.heads.PlacedQueue.{PlacedQueue}
use Rattle.dump_reader.specs.declared.heads.QueueHead.{QueueHead}
use Rattle.dump_reader.specs.declared.heads.EndImageHead.{EndImageHead}
use Rattle.dump_reader.specs.declared.heads.LinkImageHead.{LinkImageHead}
use Rattle.dump_reader.specs.declared.heads.Peer.{Peer}
use Rattle.dump_reader.specs.declared.heads.RequestHead.{RequestHead}
use Rattle.protocol.specs.Images.{region_of_image}
use Rattle.dump_reader.specs.declared.heads.Numbers.{Numbers}
use Rattle.dump_reader.specs.declared.heads.Waiting.{Waiting}
use Rattle.dump_reader.specs.declared.heads.RequestPosition.{RequestPosition}

-- what a reader came to: the value and where it stands now, or the offence
abbrev pub came : {A : Type 0} → Result A Offence → ℕ → List ℕ → Reading A
came (Ok x) place bytes = Good x place bytes
came (Err e) place bytes = Bad e.place e.why

-- ---- regions and queues

-- a region without its bytes
unfoldable pub region_head_field : ℕ → List RegionImage → Reader RegionImageHead
region_head_field domains seen =
    then_read (name_field (region_names seen)) λ name.
    then_read (number 2 λ n. nat_lt n domains) λ domain.
    then_read (number 8 λ n. nat_le n (2 ^ 63)) λ base.
    then_read (number 4 (within 1 16777216)) λ length'.
    then_read (number 1 λ n. nat_le n 15) λ rights.
    then_read (number 4 λ n. is_local_key n && not (some (λ r. r.keys.local == n) seen)) λ local.
    then_read (number 4 λ n. n == local + 1) λ remote.
    gives (record { name = name; domain = domain; base = base; length = length'; rights = record { 0 = rights }; keys = record { local = local; remote = remote } })

-- a region of its head and its bytes
abbrev pub region_of_head : RegionImageHead → List ℕ → RegionImage
region_of_head h bytes = record { name = h.name; domain = h.domain; base = h.base; length = h.length; rights = h.rights; keys = h.keys; bytes = bytes }

-- a completion queue without its entries: its name, its capacity with the place of it, and how many entries follow
unfoldable pub queue_head_field : List ReadQueue → Reader QueueHead
queue_head_field seen =
    then_read (name_field (queue_names seen)) λ name.
    λ place. then_read (number 4 (within 1 16384)) (λ capacity.
    then_read (count_field 4 capacity) λ count.
    gives (record { name = name; capacity = capacity; place = place; count = count })) place

-- a queue and the place of its capacity
abbrev pub placed : PlacedQueue → ReadQueue
placed q = record { queue = q.queue; place = q.place }

-- a completion queue of its head and its entries
abbrev pub queue_of_head : QueueHead → List Completion → ReadQueue
queue_of_head h entries = record { queue = record { name = h.name; capacity = h.capacity; entries = entries }; place = h.place }

-- ---- queue pairs

-- a queue pair up to its state
unfoldable pub end_head_field : ℕ → ℕ → List EndImage → Reader EndImageHead
end_head_field domains queues seen =
    then_read (name_field (map (λ e. e.name) seen)) λ name.
    then_read (number 4 λ n. is_number n && not (some (λ e. e.number == n) seen)) λ n.
    then_read (number 2 λ i. nat_lt i domains) λ domain.
    then_read (number 2 λ i. nat_lt i queues) λ send_cq.
    then_read (number 2 λ i. nat_lt i queues) λ recv_cq.
    then_read (number 2 (within 1 256)) λ send_depth.
    then_read (number 2 (within 1 256)) λ recv_depth.
    then_read (number 1 λ i. nat_le i 2) λ state.
    gives (record { name = name; number = n; domain = domain; send_cq = send_cq; recv_cq = recv_cq; send_depth = send_depth; recv_depth = recv_depth; state = state })

-- a queue pair of its groups
abbrev pub end_of_head : EndImageHead → Option LinkImage → List PostedImage → List Receive → EndImage
end_of_head h linked untold unused = record {
  name = h.name;
  number = h.number;
  domain = h.domain;
  send_cq = h.send_cq;
  recv_cq = h.recv_cq;
  send_depth = h.send_depth;
  recv_depth = h.recv_depth;
  linked = linked;
  untold = untold;
  unused = unused;
}

-- the partner of a connected end
unfoldable pub peer_field : Bool → Reader Peer
peer_field ended =
    then_read (number 4 is_24) λ peer.
    then_read (number 4 any) λ ip.
    then_read (number 2 any) λ port.
    then_read (number 2 any) λ moves.
    then_read (number 2 any) λ partner_moves.
    then_read (number 1 λ n. nat_le n (if ended then 0 else 1)) λ resuming.
    gives (record { peer = peer; partner = record { ip = ip; port = port }; moves = moves; partner_moves = partner_moves; resuming = resuming == 1 })

-- the numbers of the requester
unfoldable pub numbers_field : Bool → Reader Numbers
numbers_field ended =
    then_read (number 8 is_below_limit) λ first.
    then_read (number 8 λ n. is_below_limit n && nat_le first n) λ una.
    then_read (number 8 (follows ended una)) λ next.
    then_read (number 8 (follows ended next)) λ top.
    gives (record { first = first; una = una; next = next; top = top })

-- what the ends wait for, and the numbers of the responder
unfoldable pub waiting_field : Terms → Reader Waiting
waiting_field terms =
    then_read (number 1 λ n. nat_le n terms.retry) λ spent.
    then_read (number 1 λ n. terms.rnr == 7 || nat_le n terms.rnr) λ waits.
    then_read (number 1 is_bit) λ rnr_wait.
    then_read (number 8 is_below_limit) λ expected.
    then_read (number 1 is_bit) λ nak_sent.
    then_read (number 4 is_24) λ msn.
    gives (record { spent = spent; waits = waits; rnr_wait = rnr_wait == 1; expected = expected; nak_sent = nak_sent == 1; msn = msn })

-- a SEND in progress
abbrev pub send_field : List Region → Name → ℕ → Reader Progress
send_field regions domain mtu =
    then_read (number 4 (is_whole_pieces mtu)) λ done.
    then_read (receive_field regions domain done) λ receive.
    gives (progress.Send done receive)

-- a WRITE in progress
abbrev pub write_field : List Region → Name → ℕ → Reader Progress
write_field regions domain mtu =
    then_read (number 2 (may_write_at regions domain)) λ region.
    then_read (number 4 any) λ off.
    then_read (number 4 λ n. nat_le n most_bytes && (n == 0 || nat_le (off + n) (length_at regions region))) λ length'.
    then_read (number 4 λ n. is_whole_pieces mtu n && nat_lt n length') λ done.
    gives (progress.Write region off length' done)

-- the message in progress
unfoldable pub message_field : List Region → Name → ℕ → Bool → Reader Progress
message_field regions domain mtu ended =
    then_read (number 1 λ n. nat_le n (if ended then 0 else 2)) λ code. progress_by regions domain mtu code

-- what a connected end has, up to the count of its kept replies
unfoldable pub link_head_field : List Region → Name → Bool → Reader LinkImageHead
link_head_field regions domain ended =
    then_read (peer_field ended) λ peer.
    then_read terms_field λ terms.
    then_read (numbers_field ended) λ numbers.
    then_read (waiting_field terms) λ waiting.
    then_read (message_field regions domain terms.mtu ended) λ progress'.
    then_read (count_field 1 most_kept) λ count.
    gives (record { ended = ended; peer = peer; terms = terms; numbers = numbers; waiting = waiting; progress = progress'; count = count })

-- what a connected end has, of its groups
abbrev pub link_of_head : LinkImageHead → List KeptReply → LinkImage
link_of_head h kept = record {
  ended = h.ended;
  peer = h.peer.peer;
  partner = h.peer.partner;
  moves = h.peer.moves;
  partner_moves = h.peer.partner_moves;
  resuming = h.peer.resuming;
  terms = h.terms;
  first = h.numbers.first;
  una = h.numbers.una;
  next = h.numbers.next;
  top = h.numbers.top;
  spent = h.waiting.spent;
  waits = h.waiting.waits;
  rnr_wait = h.waiting.rnr_wait;
  expected = h.waiting.expected;
  nak_sent = h.waiting.nak_sent;
  msn = h.waiting.msn;
  progress = h.progress;
  kept = kept;
}

-- ---- untold requests

-- the flags of a request before which the numbers reach `low`, and a Read or atomic stands or none does
abbrev pub may_be_flags : ℕ → ℕ → ℕ → Bool → Kind → ℕ → Bool
may_be_flags version top low landing k n =
    nat_lt n 8
    && ((not (has_flag 2 n) || takes_bytes k)
    && ((not (has_flag 4 n) || version == 2)
    && not (has_flag 4 n && (landing && nat_lt low top))))

-- its length, and the rules on numbers that it decides: it is request i of so many
abbrev pub may_be_length : LinkImage → ℕ → ℕ → ℕ → Kind → ℕ → Bool
may_be_length l count i low k n =
    (if is_atomic k then n == 8 else nat_le n most_bytes)
    && keeps_numbers l count i k low (low + shape_of_length k n l.terms.mtu)

-- a request up to its length
unfoldable pub request_head_field : ℕ → LinkImage → ℕ → ℕ → ℕ → Bool → Reader RequestHead
request_head_field version l count i low landing =
    then_read (number 8 any) λ id.
    then_read (number 1 λ n. nat_le n 4) λ k.
    then_read (number 1 (may_be_flags version l.top low landing (kind_of k))) λ flags.
    then_read (number 4 λ n. has_flag 2 flags || n == 0) λ imm.
    then_read (number 4 (may_be_length l count i low (kind_of k))) λ length'.
    gives (record { id = id; kind = kind_of k; flags = flags; imm = imm; length = length' })

-- its places and operands
unfoldable pub request_places_field : List Region → Name → RequestHead → Reader Request
request_places_field regions domain h =
    then_read (number 4 any) λ lkey.
    then_read (number 8 λ n. is_granted local_key regions domain lkey n h.length (landing_right h.kind)) λ local.
    then_read (number 8 λ n. has_remote h.kind || n == 0) λ remote.
    then_read (number 4 λ n. has_remote h.kind || n == 0) λ rkey.
    then_read (number 8 λ n. is_atomic h.kind || n == 0) λ swap_add.
    then_read (number 8 λ n. is_swap h.kind || n == 0) λ compare.
    gives (record {
      id = h.id;
      shape = record { kind = h.kind; length = h.length; remote = remote; rkey = rkey; imm = if has_flag 2 h.flags then Some h.imm else None; swap_add = swap_add; compare = compare };
      lkey = lkey;
      local = local;
      signaled = has_flag 1 h.flags;
      fence = has_flag 4 h.flags;
    })

-- a request up to its payload, where it stands
abbrev pub request_start_field : RequestPosition → LinkImage → List Region → Name → Reader Request
request_start_field at l regions domain = then_read (request_head_field at.version l at.count at.index at.low at.landing) (request_places_field regions domain)

-- how many bytes a request took
abbrev pub payload_length : Request → ℕ
payload_length r = if takes_bytes r.shape.kind then r.shape.length else 0

-- the regions of an image, with the names of their domains
abbrev pub regions_of : List Name → List RegionImage → List Region
regions_of domains rs = map (region_of_image domains) rs
