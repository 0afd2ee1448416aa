-- What C asks for: names as texts, and events; None where a name or a number is outside of what the event allows.
use Rattle.std.specs.Prelude.{ℕ, List, slice_index, Bool, not, ◌&&◌, ◌||◌, ◌==◌, ◌^◌, nat_le, nat_lt, is_none, Option, Some, None, option_map, if◌then◌else◌, position, take}
use Rattle.std.specs.Int.Bits.{bit_and}
use Rattle.std.specs.Option.{option_and_then}
use Rattle.rdma_types.specs.Kinds.{is_atomic, takes_bytes}
use Rattle.rdma_types.specs.Limits.{is_mtu, most_capacity, most_depth, most_region_bytes}
use Rattle.rdma_types.specs.Shapes.{has_remote, is_swap}
use Rattle.rdma_types.specs.Spelled.{is_name}
use Rattle.rdma_types.specs.declared.names.Name.{Name}
use Rattle.rdma_types.specs.declared.names.ObjName.{ObjName}
use Rattle.rdma_types.specs.declared.requests.Address.{Address}
use Rattle.rdma_types.specs.declared.requests.Kind.{Kind}
use Rattle.rdma_types.specs.declared.requests.Kind.TheVariants as kind
use Rattle.rdma_types.specs.declared.requests.Receive.{Receive}
use Rattle.rdma_types.specs.declared.requests.Request.{Request}
use Rattle.rdma_types.specs.declared.requests.Shape.{Shape}
use Rattle.rdma_types.specs.declared.requests.Terms.{Terms}
use Rattle.protocol.specs.declared.events.Event.{Event}
use Rattle.protocol.specs.declared.events.Event.TheVariants as event
use Rattle.c_layout.specs.declared.layout.CAddress.{CAddress}
use Rattle.c_layout.specs.declared.layout.CName.{CName}
use Rattle.c_layout.specs.declared.layout.CObject.{CObject}
use Rattle.c_layout.specs.declared.layout.CQpOptions.{CQpOptions}
use Rattle.c_layout.specs.declared.layout.CReceive.{CReceive}
use Rattle.c_layout.specs.declared.layout.CRequest.{CRequest}
use Rattle.c_layout.specs.declared.layout.CTerms.{CTerms}

-- ---- names and addresses

-- the bytes before a place, or all
abbrev pub up_to : Option ℕ → List ℕ → List ℕ
up_to None bytes = bytes
up_to (Some n) bytes = take n bytes

-- the bytes before the first zero
abbrev pub text_of : CName → List ℕ
text_of n = up_to (position (λ b. b == 0) n.bytes) n.bytes

-- the name that a text spells
abbrev pub name_asked : CName → Option Name
name_asked n = if is_name (text_of n) then Some (text_of n) else None

-- a name, or nothing where the first byte is zero
abbrev pub maybe_name : CName → Option (Option Name)
maybe_name n = if slice_index n.bytes 0 == 0 then Some None else option_map (λ x. Some x) (name_asked n)

-- the thing that two texts spell
abbrev pub object_asked : CObject → Option ObjName
object_asked o = option_and_then (λ c. option_map (λ n. record { context = c; name = n }) (name_asked o.name)) (name_asked o.context)

abbrev pub address_asked : CAddress → Address
address_asked a = record { ip = a.ip; port = a.port }

-- ---- things of a context

abbrev pub context_event : CName → Option Event
context_event n = option_map (λ x. event.MakeContext x) (name_asked n)

abbrev pub domain_event : CObject → Option Event
domain_event o = option_map (λ x. event.MakeDomain x) (object_asked o)

-- a region may have this base, length and rights
abbrev pub is_region : ℕ → ℕ → ℕ → Bool
is_region base length rights = nat_le base (2 ^ 63) && nat_le 1 length && nat_le length most_region_bytes && nat_le rights 15

abbrev pub region_event : CObject → CName → ℕ → ℕ → ℕ → Option Event
region_event o d base length rights =
    if is_region base length rights
    then option_and_then (λ name. option_map (λ domain. event.MakeRegion name domain base length (record { 0 = rights })) (maybe_name d)) (object_asked o)
    else None

-- a completion queue may have this capacity
abbrev pub is_capacity : ℕ → Bool
is_capacity n = nat_le 1 n && nat_le n most_capacity

abbrev pub cq_event : CObject → ℕ → Option Event
cq_event o capacity = if is_capacity capacity then option_map (λ x. event.MakeCq x capacity) (object_asked o) else None

-- a queue of requests or receives may have this depth
abbrev pub is_depth : ℕ → Bool
is_depth n = nat_le 1 n && nat_le n most_depth

-- a queue pair with these things of its own context
abbrev pub qp_of : CQpOptions → ObjName → Option (Option Name) → Option (Option Name) → Option (Option Name) → Option Event
qp_of q name None send recv = None
qp_of q name (Some domain) None recv = None
qp_of q name (Some domain) (Some send) None = None
qp_of q name (Some domain) (Some send) (Some recv) = Some (event.MakeQp name domain send recv q.send_depth q.recv_depth)

abbrev pub qp_event : CObject → CQpOptions → Option Event
qp_event o q =
    if is_depth q.send_depth && is_depth q.recv_depth
    then option_and_then (λ name. qp_of q name (maybe_name q.domain) (maybe_name q.send_cq) (maybe_name q.recv_cq)) (object_asked o)
    else None

abbrev pub drop_region_event : CObject → Option Event
drop_region_event o = option_map (λ x. event.DropRegion x) (object_asked o)

-- ---- connections

-- the terms are in their ranges
abbrev pub are_terms : CTerms → Bool
are_terms t = is_mtu t.mtu && nat_lt t.own_start (2 ^ 24) && nat_lt t.peer_start (2 ^ 24) && nat_le t.retry 7 && nat_le t.rnr 7 && nat_le 1 t.reads && nat_le t.reads 16

abbrev pub terms_of : CTerms → Terms
terms_of t = record { mtu = t.mtu; own_start = t.own_start; peer_start = t.peer_start; retry = t.retry; rnr = t.rnr; reads = t.reads }

abbrev pub connect_event : CObject → ℕ → CAddress → CTerms → Option Event
connect_event o peer partner t =
    if nat_lt peer (2 ^ 24) && are_terms t
    then option_map (λ x. event.Connect x peer (address_asked partner) (terms_of t)) (object_asked o)
    else None

-- ---- memory

abbrev pub store_event : CObject → ℕ → List ℕ → Option Event
store_event o at bytes = option_map (λ x. event.Store x at bytes) (object_asked o)

-- fewer than 2^32 bytes or completions are asked for
abbrev pub is_room : ℕ → Bool
is_room n = nat_lt n (2 ^ 32)

abbrev pub load_event : CObject → ℕ → ℕ → Option Event
load_event o at count = if is_room count then option_map (λ x. event.Load x at count) (object_asked o) else None

abbrev pub poll_event : CObject → ℕ → Option Event
poll_event o room = if is_room room then option_map (λ x. event.Poll x room) (object_asked o) else None

-- ---- requests

abbrev pub kind_asked : ℕ → Option Kind
kind_asked n = if n == 1 then Some kind.Write else if n == 2 then Some kind.Send else if n == 3 then Some kind.Read else if n == 4 then Some kind.CompareSwap else if n == 5 then Some kind.FetchAdd else None

-- a bit of the flags
abbrev pub has_flag : ℕ → ℕ → Bool
has_flag flags bit = not (bit_and flags bit == 0)

-- no flag but the three is set, and the immediate is 0 where it is not there
abbrev pub are_flags : CRequest → Bool
are_flags r = nat_le r.flags 7 && (has_flag r.flags 4 || (r.imm == 0))

-- what its kind does not use is 0 or None, and an atomic has length 8
abbrev pub is_shape : Shape → Bool
is_shape s = (not (is_atomic s.kind) || (s.length == 8)) && (takes_bytes s.kind || is_none s.imm) && (has_remote s.kind || ((s.remote == 0) && (s.rkey == 0))) && (is_atomic s.kind || (s.swap_add == 0)) && (is_swap s.kind || (s.compare == 0))

abbrev pub shape_of : CRequest → Kind → Shape
shape_of r k = record { kind = k; length = r.length; remote = r.remote; rkey = r.remote_key; imm = (if has_flag r.flags 4 then Some r.imm else None); swap_add = r.swap_add; compare = r.compare }

abbrev pub request_of : CRequest → Shape → Request
request_of r s = record { id = r.id; shape = s; lkey = r.local_key; local = r.local; signaled = has_flag r.flags 1; fence = has_flag r.flags 2 }

-- the shape, where it is a lawful one
abbrev pub shape_asked : CRequest → Option Shape
shape_asked r = option_and_then (λ k. if is_shape (shape_of r k) then Some (shape_of r k) else None) (kind_asked r.kind)

abbrev pub send_event : CObject → CRequest → Option Event
send_event o r =
    if are_flags r
    then option_and_then (λ x. option_map (λ s. event.PostSend x (request_of r s)) (shape_asked r)) (object_asked o)
    else None

abbrev pub receive_of : CReceive → Receive
receive_of r = record { id = r.id; lkey = r.local_key; local = r.local; length = r.length }

abbrev pub recv_event : CObject → CReceive → Option Event
recv_event o r = option_map (λ x. event.PostRecv x (receive_of r)) (object_asked o)

-- ---- packets, timers and moves

abbrev pub transmit_event : CObject → Option Event
transmit_event o = option_map (λ x. event.Transmit x) (object_asked o)

abbrev pub expire_event : CObject → Option Event
expire_event o = option_map (λ x. event.Expire x) (object_asked o)

abbrev pub rnr_over_event : CObject → Option Event
rnr_over_event o = option_map (λ x. event.RnrOver x) (object_asked o)

abbrev pub stop_event : CName → ℕ → Option Event
stop_event n alone = if nat_le alone 1 then option_map (λ x. event.Stop x (alone == 1)) (name_asked n) else None

abbrev pub release_event : CName → Option Event
release_event n = option_map (λ x. event.Release x) (name_asked n)
