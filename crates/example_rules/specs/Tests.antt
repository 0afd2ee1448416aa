-- The facts of the relation as tests, for worked states.
use Rattle.std.specs.Prelude.{ℕ, ◌*◌, List, [], ◌∷◌, map, slice_get, Bool, true, false, not, is_some, nat_le, nat_lt, ◌==◌, ◌&&◌, ◌||◌, Option, Some, None, bytes_eq, option_to_list}
use Rattle.std.specs.List.{list_any, list_all}
use Rattle.rdma_types.specs.Lists.{has_word}
use Rattle.rdma_types.specs.declared.names.Name.{Name}
use Rattle.rdma_types.specs.declared.names.ObjName.{ObjName}
use Rattle.rdma_types.specs.Objects.{CompletionQueue, Region}
use Rattle.rdma_types.specs.Spans.{first_number, piece_of, request_of}
use Rattle.protocol.specs.Wire.{Packet, packet_of, wire_of}
use Rattle.protocol.specs.Numbers.{wire_number}
use Rattle.protocol.specs.Segments.{packet_at}
use Rattle.protocol.specs.State.{World}
use Rattle.packetless_machine.specs.Machine as machine
use Rattle.packetless_machine.specs.declared.reply.Reply.{Reply}
use Rattle.packetless_machine.specs.declared.reply.Reply.TheVariants.{OldValue, Denied}
use Rattle.packetless_machine.specs.Machine.{Machine}
use Rattle.packetless_machine.specs.Numbers.{due, oldest}
use Rattle.law_simulation.specs.Packets.{Class, class_of, IsRequest, IsReadResponse, IsAtomicResponse, IsAck, IsSequenceNak, IsRefusal, IsReceiverNotReady, IsStopped, IsResume, IsResumeAck}
use Rattle.law_simulation.specs.Views.{Owned, owned, owned_there, context_of, link_of, name_of, is_carried, place_of, in_rts}
use Rattle.law_simulation.specs.Joined.{lands_untold_before, last_of, old_values}
use Rattle.law_simulation.specs.Facts.{past_packet, request_for, is_access_denied}
use Rattle.law_simulation.specs.Carries.{is_at}

-- the peer of an end, by the machine
abbrev pub peer : Machine → ObjName → ObjName
peer m o = (machine.end_of m o).peer

-- two lists agree, one by one
unfoldable pub same_lists : {A B : Type 0} → (A → B → Bool) → List A → List B → Bool
same_lists same [] [] = true
same_lists same [] (y ∷ ys) = false
same_lists same (x ∷ xs) [] = false
same_lists same (x ∷ xs) (y ∷ ys) = same x y && same_lists same xs ys

-- two regions are equal
unfoldable pub same_region : Region → Region → Bool
same_region r s = bytes_eq r.name s.name && (bytes_eq r.domain s.domain && ((r.base == s.base) && ((r.length == s.length) && ((r.rights.0 == s.rights.0) && ((r.keys.local == s.keys.local) && ((r.keys.remote == s.keys.remote) && bytes_eq r.bytes s.bytes))))))

-- two completion queues are equal, with their entries
unfoldable pub same_queue : CompletionQueue → CompletionQueue → Bool
same_queue q r = bytes_eq q.name r.name && ((q.capacity == r.capacity) && same_lists (λ a b. (a.qp == b.qp) && ((a.id == b.id) && (a.length == b.length))) q.entries r.entries)

-- two tests agree
unfoldable pub same_bool : Bool → Bool → Bool
same_bool true b = b
same_bool false b = not b

-- what an owner has of an end is equal
unfoldable pub same_owned : Owned → Owned → Bool
same_owned a b = bytes_eq a.name b.name && ((a.number == b.number) && (bytes_eq a.domain b.domain && (bytes_eq a.send_queue b.send_queue && (bytes_eq a.receive_queue b.receive_queue
    && ((a.send_depth == b.send_depth) && ((a.receive_depth == b.receive_depth) && (same_bool a.connected b.connected && (same_bool a.ended b.ended
    && (same_lists (λ x y. (x.request.id == y.request.id) && bytes_eq x.payload y.payload) a.untold b.untold
    && (same_lists (λ x y. x.id == y.id) (option_to_list a.in_use) (option_to_list b.in_use) && same_lists (λ x y. x.id == y.id) a.unused b.unused))))))))))

-- what an application holds in a context is equal on both sides
unfoldable pub same_context : World → Machine → Name → Bool
same_context w m c =
    same_lists (λ a b. bytes_eq a b) (context_of w c).domains (machine.context_of m c).domains
    && (same_lists same_region (context_of w c).regions (machine.context_of m c).regions
    && (same_lists same_queue (context_of w c).queues (machine.context_of m c).queues
    && same_lists same_owned (map owned_there (context_of w c).ends) (map owned (machine.context_of m c).ends)))

-- each region, and each end, lies in a domain that is there
unfoldable pub in_domains : Machine → Name → Bool
in_domains m c =
    list_all (λ r. has_word r.domain (machine.context_of m c).domains) (machine.context_of m c).regions
    && list_all (λ e. has_word e.domain (machine.context_of m c).domains) (machine.context_of m c).ends

-- the peer keeps the last old values that the machine answered
unfoldable pub same_kept : World → Machine → ObjName → Bool
same_kept w m o = same_lists (λ a b. (a.number == b.number) && (a.old == b.old)) (link_of w (peer m o)).receiver.kept (last_of 16 (old_values (machine.end_of m o).mtu 0 (machine.end_of m o).posted (machine.end_of m o).answers))

-- the bytes are those of the packet
unfoldable pub is_packet : Option Packet → List ℕ → Bool
is_packet None bytes = false
is_packet (Some d) bytes = bytes_eq (wire_of d) bytes

-- the answer is that old value
unfoldable pub is_old : Option Reply → Option ℕ → Bool
is_old (Some (OldValue v)) (Some w) = v == w
is_old other old = false

-- the answer is a refusal, for such a reason
unfoldable pub is_refused : Option Reply → Bool → Bool
is_refused (Some (Denied why)) is_access = same_bool (is_access_denied why) is_access
is_refused other is_access = false

-- the fact of a datagram with true number n
unfoldable pub numbered_test : World → Machine → ObjName → ObjName → ℕ → List ℕ → Packet → Class → Bool
numbered_test w m p x n bytes d IsRequest =
    is_packet (packet_at (machine.end_of m x).posted 0 (link_of w x).terms (link_of w x).peer n) bytes
    && (nat_le (past_packet (machine.end_of m x) n) (link_of w x).sender.top
    && not ((request_for (machine.end_of m x) n).request.fence && lands_untold_before (machine.end_of m x) (request_of (machine.end_of m x).posted (machine.end_of m x).mtu n)))
numbered_test w m p x n bytes d IsReadResponse =
    (d.psn == wire_number (link_of w p).terms.own_start n)
    && list_any (λ o. (o.request == request_of (machine.end_of m p).posted (machine.end_of m p).mtu n) && ((o.offset == piece_of (machine.end_of m p).posted (machine.end_of m p).mtu n * (machine.end_of m p).mtu) && bytes_eq o.bytes d.payload)) (machine.end_of m p).offers
numbered_test w m p x n bytes d IsAtomicResponse =
    (d.psn == wire_number (link_of w p).terms.own_start n)
    && is_old (slice_get (machine.end_of m p).answers (request_of (machine.end_of m p).posted (machine.end_of m p).mtu n)) d.old
numbered_test w m p x n bytes d IsAck = (d.psn == wire_number (link_of w p).terms.own_start n) && nat_lt n (due (machine.end_of m p))
numbered_test w m p x n bytes d IsSequenceNak = (d.psn == wire_number (link_of w p).terms.own_start n) && nat_le n (due (machine.end_of m p))
numbered_test w m p x n bytes d (IsRefusal is_access) =
    (d.psn == wire_number (link_of w p).terms.own_start n)
    && ((n == due (machine.end_of m p)) && is_refused (slice_get (machine.end_of m p).answers (machine.end_of m p).acted) is_access)
numbered_test w m p x n bytes d IsReceiverNotReady =
    (d.psn == wire_number (link_of w p).terms.own_start n)
    && (nat_le n (due (machine.end_of m p)) && list_any (λ i. i == request_of (machine.end_of m p).posted (machine.end_of m p).mtu n) (machine.end_of m p).dry)
numbered_test w m p x n bytes d other = false

-- the fact of a message of moving
unfoldable pub move_test : World → ObjName → Class → Bool
move_test w x (IsStopped count) = nat_lt count (link_of w x).moving.own || (is_carried w x.context && (in_rts w x && (count == (link_of w x).moving.own)))
move_test w x (IsResume body) = nat_le body.count (link_of w x).moving.own && (not (in_rts w x && (is_some (place_of w x.context) && (body.count == (link_of w x).moving.own))) || is_at (place_of w x.context) body.address)
move_test w x (IsResumeAck body) = nat_le body.count (link_of w x).moving.recorded
move_test w x other = false

-- the fact of a datagram by its class
unfoldable pub class_test : World → Machine → ObjName → ObjName → Option ℕ → List ℕ → Packet → Bool
class_test w m p x None bytes d = move_test w x (class_of d)
class_test w m p x (Some n) bytes d = numbered_test w m p x n bytes d (class_of d)

-- the fact of bytes that were sent
unfoldable pub packet_test : World → Machine → Option ℕ → List ℕ → Option Packet → Bool
packet_test w m number bytes None = false
packet_test w m number bytes (Some d) = bytes_eq (wire_of d) bytes && class_test w m (name_of m d.dest) (peer m (name_of m d.dest)) number bytes d

-- the facts of all datagrams
unfoldable pub all_sent : World → Machine → Bool
all_sent w m = list_all (λ f. packet_test w m f.number f.bytes (packet_of f.bytes)) w.sent

-- the numbers of an end's requester, and of the responder at its peer, are the machine's
unfoldable pub same_numbers : World → Machine → ObjName → Bool
same_numbers w m o =
    ((link_of w o).sender.first == first_number (machine.end_of m o).posted (machine.end_of m o).mtu (machine.end_of m o).told)
    && (((link_of w o).sender.una == oldest (machine.end_of m o))
    && (((link_of w o).sender.spent == (machine.end_of m o).spent)
    && (((link_of w (peer m o)).receiver.expected == due (machine.end_of m o))
    && (((link_of w o).peer == (machine.end_of m (peer m o)).number) && same_kept w m o))))
