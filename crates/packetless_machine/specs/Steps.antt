-- The inner steps of the packetless machine: when each is enabled, and what it does.
-- Source: the verbs of reliable connections, InfiniBand Architecture Specification, volume 1. The fence holds a
-- request back at its peer until each earlier Read and atomic is told.
use Rattle.std.specs.Prelude.{ℕ, suc, ◌+◌, ◌-◌, ◌%◌, List, [], ◌∷◌, ◌++◌, length, take, drop, slice_get, map, Bool, true, false, not, is_some, nat_eq, nat_lt, nat_le, ◌==◌, ◌&&◌, ◌||◌, if◌then◌else◌, Option, Some, None, option_to_list}
use Rattle.std.specs.List.{list_any}
use Rattle.rdma_types.specs.declared.names.Name.{Name}
use Rattle.rdma_types.specs.declared.names.ObjName.{ObjName}
use Rattle.rdma_types.specs.declared.requests.Receive.{Receive}
use Rattle.rdma_types.specs.declared.requests.Completion.{Completion}
use Rattle.rdma_types.specs.declared.requests.Kind.{Kind}
use Rattle.rdma_types.specs.declared.requests.Shape.{Shape}
use Rattle.rdma_types.specs.declared.requests.Request.{Request}
use Rattle.rdma_types.specs.declared.requests.Kind.TheVariants as kinds
use Rattle.rdma_types.specs.declared.requests.WcKind.TheVariants as wc_kinds
use Rattle.rdma_types.specs.declared.requests.WcStatus.{WcStatus}
use Rattle.rdma_types.specs.declared.requests.WcStatus.TheVariants as statuses
use Rattle.rdma_types.specs.declared.answers.RefusalReason.{RefusalReason}
use Rattle.rdma_types.specs.declared.answers.RefusalReason.TheVariants as whys
use Rattle.rdma_types.specs.Objects.{CompletionQueue, Posted, Region}
use Rattle.rdma_types.specs.Kinds.{is_atomic, is_read, is_send, kind_of, lands, receive_done, request_done, size_of}
use Rattle.rdma_types.specs.Memory.{NoRight, RemoteAtomic, RemoteRead, RemoteWrite, Right, cut, is_granted, local_key, remote_key, word_bytes, word_of}
use Rattle.packetless_machine.specs.declared.reply.Reply.{Reply}
use Rattle.packetless_machine.specs.declared.reply.Reply.TheVariants.{Finished, OldValue, Denied}
use Rattle.packetless_machine.specs.Bytes.{sum_of, swapped}
use Rattle.packetless_machine.specs.Machine.{Machine, End, Offered, context_of, has_end, end_of, regions_of, in_end, with_regions, with_queues, completing, completed, posted_at, put_at, bytes_at}

-- ---- finishing: an end fails, and all its work is completed

-- the requests that are not finished for the owner
unfoldable pub untold : End → List Posted
untold e = drop e.told e.posted

-- the first untold request gets the status, the others Flush
unfoldable pub failed_requests : ℕ → WcStatus → List Posted → List Completion
failed_requests number status [] = []
failed_requests number status (r ∷ rs) = request_done number r status 0 ∷ failed_requests number statuses.Flush rs

-- receives that are flushed
unfoldable pub failed_receives : ℕ → List Receive → List Completion
failed_receives number vs = map (λ v. receive_done number v wc_kinds.Recv statuses.Flush 0 None) vs

-- the receive in use, and then the unused ones
abbrev pub receives_of : End → List Receive
receives_of e = option_to_list e.in_use ++ e.unused

-- the queues, once all work of e is completed in them
unfoldable pub failed_queues : End → WcStatus → List Receive → List CompletionQueue → List CompletionQueue
failed_queues e status receives queues =
    completed e.receive_queue (failed_receives e.number receives)
    (completed e.send_queue (failed_requests e.number status (untold e)) queues)

-- an end that failed has no work left
unfoldable pub closed : End → End
closed e = record e {
  ended = true;
  told = length e.posted;
  known = 0;
  spent = 0;
  waits = 0;
  unused = [];
  in_use = None;
}

-- the end o fails with a status for its first untold request
unfoldable pub ended_with : Machine → ObjName → WcStatus → Machine
ended_with m o status =
    with_queues (in_end m o closed) o.context
    (failed_queues (end_of m o) status (receives_of (end_of m o)) (context_of m o.context).queues)

-- ---- the current request of an end q, and what its peer has for it

-- the end that q is connected to
abbrev pub peer_of : Machine → ObjName → End
peer_of m q = end_of m (end_of m q).peer

-- q is connected, and its peer is there, as it always is
unfoldable pub has_peer : Machine → ObjName → Bool
has_peer m q = (end_of m q).connected && has_end m (end_of m q).peer

-- the memory at the peer
abbrev pub peer_regions : Machine → ObjName → List Region
peer_regions m q = regions_of m (end_of m q).peer.context

-- the request that acts next
abbrev pub current : End → Posted
current e = posted_at e.posted e.acted

-- a Read or atomic before the current request is not told
unfoldable pub lands_before : End → Bool
lands_before e = list_any (λ r. lands (kind_of r)) (take (e.acted - e.told) (drop e.told e.posted))

-- a request is current: it is posted, and no fence holds it back
unfoldable pub has_turn : End → Bool
has_turn e = nat_lt e.acted (length e.posted) && not ((current e).request.fence && lands_before e)

-- q has a current request, and its peer has not ended
unfoldable pub has_current : Machine → ObjName → Bool
has_current m q = has_peer m q && (not (peer_of m q).ended && has_turn (end_of m q))

-- the right that a request needs at its peer
unfoldable pub right_for : Kind → Right
right_for kinds.Write = RemoteWrite
right_for kinds.Send = NoRight
right_for kinds.Read = RemoteRead
right_for kinds.CompareSwap = RemoteAtomic
right_for kinds.FetchAdd = RemoteAtomic

-- a place at the peer is granted to q
unfoldable pub is_granted_there : Machine → ObjName → ℕ → ℕ → ℕ → Right → Bool
is_granted_there m q key address count right =
    is_granted remote_key (peer_regions m q) (peer_of m q).domain key address count right

-- the whole range of a Write, Read or atomic is granted
unfoldable pub is_request_granted : Machine → ObjName → Posted → Bool
is_request_granted m q r =
    is_granted_there m q r.request.shape.rkey r.request.shape.remote (size_of r) (right_for (kind_of r))

-- the whole range of the current request is granted
abbrev pub is_current_granted : Machine → ObjName → Bool
is_current_granted m q = is_request_granted m q (current (end_of m q))

-- the receive in use, or else the oldest unused one
unfoldable pub first_receive : Option Receive → List Receive → Option Receive
first_receive (Some v) vs = Some v
first_receive None vs = slice_get vs 0

-- the receive that a Send to e goes to
unfoldable pub receive_for : End → Option Receive
receive_for e = first_receive e.in_use e.unused

-- the unused receives once a Send has its receive in use
unfoldable pub unused_after : End → List Receive
unused_after e = if is_some e.in_use then e.unused else drop 1 e.unused

-- there is a receive, and that many bytes fit it
unfoldable pub fits : Option Receive → ℕ → Bool
fits None count = false
fits (Some v) count = nat_le count v.length

-- there is a receive, and that many bytes do not fit it
unfoldable pub overflows : Option Receive → ℕ → Bool
overflows None count = false
overflows (Some v) count = nat_lt v.length count

-- a receive is unused
abbrev pub has_unused : End → Bool
has_unused e = nat_lt 0 (length e.unused)

-- the request has an immediate
abbrev pub has_imm : Posted → Bool
has_imm r = is_some r.request.shape.imm

-- the address of an atomic is not a multiple of 8
abbrev pub is_misaligned : Posted → Bool
is_misaligned r = is_atomic (kind_of r) && not (r.request.shape.remote % 8 == 0)

-- ---- Run: n more bytes of the current Write or Send are in place

-- n more bytes make the current message whole
abbrev pub fills : End → ℕ → Bool
fills e n = e.into + n == size_of (current e)

-- n is a number of bytes that may come next
unfoldable pub may_add : End → ℕ → Bool
may_add e n = (nat_le 1 n || ((size_of (current e) == 0) && (n == 0))) && nat_le (e.into + n) (size_of (current e))

-- the current request, by its kind, may have n more bytes put in place
unfoldable pub may_run_kind : Machine → ObjName → ℕ → Kind → Bool
may_run_kind m q n kinds.Write =
    is_current_granted m q && (not (fills (end_of m q) n && has_imm (current (end_of m q))) || has_unused (peer_of m q))
may_run_kind m q n kinds.Send = fits (receive_for (peer_of m q)) ((end_of m q).into + n)
may_run_kind m q n kinds.Read = false
may_run_kind m q n kinds.CompareSwap = false
may_run_kind m q n kinds.FetchAdd = false

-- Run is enabled: n more bytes of the current Write or Send may be put in place
unfoldable pub may_run : Machine → ObjName → ℕ → Bool
may_run m q n =
    has_current m q
    && (may_add (end_of m q) n && may_run_kind m q n (kind_of (current (end_of m q))))

-- the current request has acted
unfoldable pub acted_with : End → Reply → End
acted_with e reply = record e { acted = suc e.acted; into = 0; answers = e.answers ++ reply ∷ [] }

-- n more bytes of the current request are in place
unfoldable pub advanced : End → ℕ → End
advanced e n = if fills e n then acted_with e Finished else record e { into = e.into + n }

-- the bytes that a Run puts in place
abbrev pub next_bytes : End → ℕ → List ℕ
next_bytes e n = cut e.into n (current e).payload

-- bytes put into the memory of context c
abbrev pub putting : Machine → Name → (Region → ℕ) → ℕ → ℕ → List ℕ → Machine
putting m c key_of key address new = with_regions m c (put_at key_of key address new (regions_of m c))

-- the receive at x that the request r uses
unfoldable pub used_by : Posted → End → Option Receive
used_by r x = if is_send (kind_of r) then receive_for x else if has_imm r then slice_get x.unused 0 else None

-- x once a request of this shape used its receive; a Send that is not whole keeps it in use
unfoldable pub receiving : Shape → Bool → End → End
receiving shape whole x =
    if is_send shape.kind
    then record x { in_use = if whole then None else receive_for x; unused = unused_after x }
    else if is_some shape.imm && whole then record x { unused = drop 1 x.unused } else x

-- the completion of the receive that a whole Send, or a whole Write with immediate, used
unfoldable pub received_whole : ℕ → Posted → Option Receive → List Completion
received_whole number r None = []
received_whole number r (Some v) =
    receive_done number v (if is_send (kind_of r) then wc_kinds.Recv else wc_kinds.RecvImm) statuses.Success (size_of r) r.request.shape.imm ∷ []

-- what a Run completes at the peer x of e
unfoldable pub arrivals : End → ℕ → End → List Completion
arrivals e n x = if fills e n then received_whole x.number (current e) (used_by (current e) x) else []

-- n bytes are put where the receive of a Send is
unfoldable pub put_in_receive : Machine → Name → ℕ → List ℕ → Option Receive → Machine
put_in_receive m c into new None = m
put_in_receive m c into new (Some v) = putting m c local_key v.lkey (v.local + into) new

-- .. or in the range of a Write
abbrev pub put_in_range : Machine → Name → ℕ → List ℕ → Posted → Machine
put_in_range m c into new r = putting m c remote_key r.request.shape.rkey (r.request.shape.remote + into) new

-- the next bytes of e are put in place at its peer x, in context c
unfoldable pub placing : Machine → Name → End → End → List ℕ → Machine
placing m c e x new =
    if is_send (kind_of (current e))
    then put_in_receive m c e.into new (receive_for x)
    else put_in_range m c e.into new (current e)

-- a Run of the end e, at q, towards its peer x
unfoldable pub run_towards : Machine → ObjName → ℕ → End → End → Machine
run_towards m q n e x =
    with_queues
    (in_end
    (placing (in_end m q (λ y. advanced y n)) e.peer.context e x (next_bytes e n))
    e.peer (receiving (current e).request.shape (fills e n)))
    e.peer.context (completed x.receive_queue (arrivals e n x) (context_of m e.peer.context).queues)

-- what Run does
unfoldable pub run : Machine → ObjName → ℕ → Machine
run m q n = run_towards m q n (end_of m q) (peer_of m q)

-- ---- Atom: the current atomic acts on its word

-- Atom is enabled: the current request is an atomic on an aligned word that is granted
unfoldable pub may_atom : Machine → ObjName → Bool
may_atom m q =
    has_current m q
    && (is_atomic (kind_of (current (end_of m q)))
    && (not (is_misaligned (current (end_of m q))) && is_current_granted m q))

-- the word in these regions that the request names
unfoldable pub word_there : Posted → List Region → ℕ
word_there r regions = word_of (bytes_at remote_key r.request.shape.rkey r.request.shape.remote 8 regions)

-- what an atomic of that kind makes of a word
unfoldable pub changed_by : Kind → ℕ → ℕ → ℕ → ℕ
changed_by kinds.FetchAdd old value compare = sum_of old value
changed_by other old value compare = swapped old compare value

-- what an atomic makes of the old word
unfoldable pub changed_word : Posted → ℕ → ℕ
changed_word r old = changed_by (kind_of r) old r.request.shape.swap_add r.request.shape.compare

-- the request of q acts on the old word, in context c
unfoldable pub atom_on : Machine → ObjName → Name → Posted → ℕ → Machine
atom_on m q c r old =
    putting (in_end m q (λ e. acted_with e (OldValue old))) c
    remote_key r.request.shape.rkey r.request.shape.remote (word_bytes (changed_word r old))

-- what Atom does
unfoldable pub atom : Machine → ObjName → Machine
atom m q = atom_on m q (end_of m q).peer.context (current (end_of m q)) (word_there (current (end_of m q)) (peer_regions m q))

-- ---- ReadTurn: the current Read has its turn

-- ReadTurn is enabled: the current request is a Read that is granted
unfoldable pub may_read : Machine → ObjName → Bool
may_read m q = has_current m q && (is_read (kind_of (current (end_of m q))) && is_current_granted m q)

-- what ReadTurn does
unfoldable pub read_turn : Machine → ObjName → Machine
read_turn m q = in_end m q (λ e. acted_with e Finished)

-- ---- Refuse: the peer refuses the current request, and ends

-- the reason that the current request has to be refused for
unfoldable pub may_refuse_for : Machine → ObjName → RefusalReason → Bool
may_refuse_for m q whys.Invalid = is_misaligned (current (end_of m q))
may_refuse_for m q whys.Access =
    not (is_misaligned (current (end_of m q)))
    && (not (is_send (kind_of (current (end_of m q)))) && not (is_current_granted m q))
may_refuse_for m q whys.Length =
    is_send (kind_of (current (end_of m q))) && overflows (receive_for (peer_of m q)) (size_of (current (end_of m q)))

-- Refuse is enabled for this reason
unfoldable pub may_refuse : Machine → ObjName → RefusalReason → Bool
may_refuse m q why = has_current m q && may_refuse_for m q why

-- a Send that is too long completes its receive with a length error
unfoldable pub too_long : ℕ → Option Receive → List Completion
too_long number None = []
too_long number (Some v) = receive_done number v wc_kinds.Recv statuses.LocalLength 0 None ∷ []

-- what a refusal completes at x before the rest is flushed
unfoldable pub refused_entries : End → RefusalReason → List Completion
refused_entries x whys.Invalid = []
refused_entries x whys.Access = []
refused_entries x whys.Length = too_long x.number (receive_for x)

-- the receives of x that are then flushed
unfoldable pub refused_receives : End → RefusalReason → List Receive
refused_receives x whys.Invalid = receives_of x
refused_receives x whys.Access = receives_of x
refused_receives x whys.Length = unused_after x

-- the queues at x once it refused a request and all its work is flushed
unfoldable pub refused_queues : End → RefusalReason → List CompletionQueue → List CompletionQueue
refused_queues x why queues =
    failed_queues x statuses.Flush (refused_receives x why) (completed x.receive_queue (refused_entries x why) queues)

-- the answer to the current request is that it is refused
unfoldable pub denied : End → RefusalReason → End
denied e why = record e { answers = e.answers ++ Denied why ∷ [] }

-- the end p refuses the current request of q
unfoldable pub refuse_at : Machine → ObjName → RefusalReason → ObjName → End → Machine
refuse_at m q why p x =
    with_queues (in_end (in_end m q (λ e. denied e why)) p closed) p.context
    (refused_queues x why (context_of m p.context).queues)

-- what Refuse does
unfoldable pub refuse : Machine → ObjName → RefusalReason → Machine
refuse m q why = refuse_at m q why (end_of m q).peer (peer_of m q)

-- ---- Dry: the current request finds no receive

-- the current request, by its kind, needs a receive at its turn
unfoldable pub may_dry_kind : Machine → ObjName → Kind → Bool
may_dry_kind m q kinds.Write = has_imm (current (end_of m q)) && is_current_granted m q
may_dry_kind m q kinds.Send = (end_of m q).into == 0
may_dry_kind m q kinds.Read = false
may_dry_kind m q kinds.CompareSwap = false
may_dry_kind m q kinds.FetchAdd = false

-- Dry is enabled: the current request needs a receive, and none is unused
unfoldable pub may_dry : Machine → ObjName → Bool
may_dry m q = has_current m q && (not (has_unused (peer_of m q)) && may_dry_kind m q (kind_of (current (end_of m q))))

-- the current request met no receive
unfoldable pub dried_at : End → End
dried_at e = record e { dry = e.dry ++ e.acted ∷ [] }

-- what Dry does
unfoldable pub dried : Machine → ObjName → Machine
dried m q = in_end m q dried_at

-- ---- Offer: the peer offers n bytes from `off` of the Read number i, as they are now

-- request number i is a Read that had its turn, and has n bytes from `off` on
unfoldable pub is_read_part : End → ℕ → ℕ → ℕ → Bool
is_read_part e i off n =
    nat_lt i e.acted
    && (nat_lt i (length e.posted)
    && (is_read (kind_of (posted_at e.posted i)) && nat_le (off + n) (size_of (posted_at e.posted i))))

-- Offer is enabled: the place of that part of the Read is granted now, and the peer has not ended
unfoldable pub may_offer : Machine → ObjName → ℕ → ℕ → ℕ → Bool
may_offer m q i off n =
    has_peer m q
    && (is_read_part (end_of m q) i off n
    && (not (peer_of m q).ended
    && is_granted_there m q (posted_at (end_of m q).posted i).request.shape.rkey ((posted_at (end_of m q).posted i).request.shape.remote + off) n RemoteRead))

-- the n bytes from `off` of a Read, as they are in these regions
unfoldable pub bytes_there : Posted → ℕ → ℕ → List Region → List ℕ
bytes_there r off n regions = bytes_at remote_key r.request.shape.rkey (r.request.shape.remote + off) n regions

-- the end with one more offer
unfoldable pub with_offer : End → ℕ → ℕ → List ℕ → End
with_offer e i off bytes = record e { offers = e.offers ++ record { request = i; offset = off; bytes = bytes } ∷ [] }

-- what Offer does
unfoldable pub offered : Machine → ObjName → ℕ → ℕ → ℕ → Machine
offered m q i off n =
    in_end m q (λ e. with_offer e i off (bytes_there (posted_at (end_of m q).posted i) off n (peer_regions m q)))

-- ---- the owner's side: the first untold request of q, where q has not ended

-- q is connected, has not ended and has an untold request; Expire is enabled
unfoldable pub has_untold : Machine → ObjName → Bool
has_untold m q = (end_of m q).connected && (not (end_of m q).ended && nat_lt (end_of m q).told (length (end_of m q).posted))

-- the first untold request
abbrev pub front : End → Posted
front e = posted_at e.posted e.told

-- ---- Land: an offer of the first untold request, at offset `known`, comes to its local place

-- an offer is the one that comes next
unfoldable pub may_land_offer : End → Option Offered → Bool
may_land_offer e None = false
may_land_offer e (Some o) = nat_le 1 (length o.bytes) && ((o.request == e.told) && (o.offset == e.known))

-- Land is enabled for offer number o
unfoldable pub may_land : Machine → ObjName → ℕ → Bool
may_land m q o = has_untold m q && may_land_offer (end_of m q) (slice_get (end_of m q).offers o)

-- the owner knows so many bytes of its first untold request
unfoldable pub with_known : End → ℕ → End
with_known e bytes = record e { known = bytes; spent = 0; waits = 0 }

-- these bytes land for the first untold request of e, at q
unfoldable pub land_at : Machine → ObjName → End → List ℕ → Machine
land_at m q e bytes =
    in_end
    (putting m q.context local_key (front e).request.lkey ((front e).request.local + e.known) bytes)
    q (λ x. with_known x (e.known + length bytes))

-- the bytes of an offer
unfoldable pub bytes_of : Option Offered → List ℕ
bytes_of None = []
bytes_of (Some o) = o.bytes

-- what Land does
unfoldable pub landed : Machine → ObjName → ℕ → Machine
landed m q o = land_at m q (end_of m q) (bytes_of (slice_get (end_of m q).offers o))

-- ---- Known: the owner knows that `bytes` bytes of its first untold Write or Send are in place

-- the bytes of request i that are in place
unfoldable pub in_place : End → ℕ → ℕ
in_place e i = if nat_lt i e.acted then size_of (posted_at e.posted i) else if i == e.acted then e.into else 0

-- Known is enabled: more bytes than the owner knows are in place
unfoldable pub may_know : Machine → ObjName → ℕ → Bool
may_know m q bytes =
    has_untold m q
    && (not (lands (kind_of (front (end_of m q))))
    && (nat_lt (end_of m q).known bytes && nat_le bytes (in_place (end_of m q) (end_of m q).told)))

-- what Known does
unfoldable pub knowing : Machine → ObjName → ℕ → Machine
knowing m q bytes = in_end m q (λ e. with_known e bytes)

-- ---- Tell: the first untold request is finished for its owner

-- Tell is enabled: the first untold request has acted, and a Read has landed whole
unfoldable pub may_tell : Machine → ObjName → Bool
may_tell m q =
    has_untold m q
    && (nat_lt (end_of m q).told (end_of m q).acted
    && (not (is_read (kind_of (front (end_of m q)))) || ((end_of m q).known == size_of (front (end_of m q)))))

-- an old value comes to the local place of its atomic, in context c
unfoldable pub put_old : Machine → Name → Request → Option Reply → Machine
put_old m c r None = m
put_old m c r (Some Finished) = m
put_old m c r (Some (OldValue value)) = putting m c local_key r.lkey r.local (word_bytes value)
put_old m c r (Some (Denied why)) = m

-- a signaled request gives a completion
unfoldable pub success : End → Posted → List Completion
success e r = if r.request.signaled then request_done e.number r statuses.Success (size_of r) ∷ [] else []

-- one more request is told
unfoldable pub told_one : End → End
told_one e = record e { told = suc e.told; known = 0; spent = 0; waits = 0 }

-- the first untold request of e, at q, is told
unfoldable pub tell_at : Machine → ObjName → End → Machine
tell_at m q e =
    in_end
    (put_old (completing m q.context e.send_queue (success e (front e))) q.context (front e).request (slice_get e.answers e.told))
    q told_one

-- what Tell does
unfoldable pub tell : Machine → ObjName → Machine
tell m q = tell_at m q (end_of m q)

-- ---- Expire: an expiry of the first untold request is counted; the last one ends q

-- one more expiry is counted
unfoldable pub expired : End → End
expired e = record e { spent = suc e.spent }

-- what Expire does
unfoldable pub expire : Machine → ObjName → Machine
expire m q =
    if (end_of m q).spent == (end_of m q).retry
    then ended_with m q statuses.RetryExceeded
    else in_end m q expired

-- ---- Wait: a wait of the first untold request for a receive is counted, unless rnr is 7; the last one ends q

-- Wait is enabled: the first untold request met no receive
unfoldable pub may_wait : Machine → ObjName → Bool
may_wait m q = has_untold m q && list_any (nat_eq (end_of m q).told) (end_of m q).dry

-- one more wait is counted
unfoldable pub waited : End → End
waited e = record e { waits = suc e.waits }

-- what Wait does
unfoldable pub wait : Machine → ObjName → Machine
wait m q =
    if (end_of m q).rnr == 7
    then m
    else if (end_of m q).waits == (end_of m q).rnr
    then ended_with m q statuses.RnrExceeded
    else in_end m q waited

-- ---- Bounce: the owner learns that its first untold request is refused, and q ends

-- the answer is a refusal
unfoldable pub is_denied : Option Reply → Bool
is_denied None = false
is_denied (Some Finished) = false
is_denied (Some (OldValue value)) = false
is_denied (Some (Denied why)) = true

-- Bounce is enabled: the first untold request is refused
unfoldable pub may_bounce : Machine → ObjName → Bool
may_bounce m q = has_untold m q && is_denied (slice_get (end_of m q).answers (end_of m q).told)

-- the status that the owner sees
unfoldable pub bounce_status : Option Reply → WcStatus
bounce_status (Some (Denied whys.Access)) = statuses.RemoteAccess
bounce_status other = statuses.RemoteInvalid

-- what Bounce does
unfoldable pub bounce : Machine → ObjName → Machine
bounce m q = ended_with m q (bounce_status (slice_get (end_of m q).answers (end_of m q).told))
