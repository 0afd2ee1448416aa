-- The visible steps of the packetless machine: each verb's refusals in their order, its answer and its effect.
-- The machine knows no limits on numbers of things, no moves and no pages, and never refuses for those.
use Rattle.std.specs.Prelude.{◌≡◌, ℕ, ◌+◌, ◌-◌, ◌%◌, List, [], ◌∷◌, ◌++◌, length, take, drop, replicate, Bool, true, false, not, nat_eq, nat_lt, nat_le, ◌==◌, ◌&&◌, ◌||◌, if◌then◌else◌, Option, Some, None, bytes_eq, unwrap_or}
use Rattle.std.specs.List.{list_any}
use Rattle.rdma_types.specs.declared.names.Name.{Name}
use Rattle.rdma_types.specs.declared.names.ObjName.{ObjName}
use Rattle.rdma_types.specs.declared.rights.Rights.{Rights}
use Rattle.rdma_types.specs.declared.requests.Request.{Request}
use Rattle.rdma_types.specs.declared.requests.Receive.{Receive}
use Rattle.rdma_types.specs.declared.requests.Terms.{Terms}
use Rattle.rdma_types.specs.declared.requests.WcKind.TheVariants as wc_kinds
use Rattle.rdma_types.specs.declared.requests.WcStatus.TheVariants as statuses
use Rattle.rdma_types.specs.declared.verbs.Verb.{Verb}
use Rattle.rdma_types.specs.declared.verbs.Verb.TheVariants.{Context, Connect, MakeDomain, MakeRegion, MakeCq, MakeQp, DropRegion, Store, Load, PostSend, PostRecv, Poll}
use Rattle.rdma_types.specs.declared.answers.Answer.{Answer}
use Rattle.rdma_types.specs.declared.answers.Answer.TheVariants as answers
use Rattle.rdma_types.specs.declared.answers.Refusal.{Refusal}
use Rattle.rdma_types.specs.declared.answers.Refusal.TheVariants.{NoSuch, NumberTaken, BadState, SqFull, RqFull, CqFull, BadKey, TooLong, InUse}
use Rattle.rdma_types.specs.Lists.{has_name, named, without}
use Rattle.rdma_types.specs.Objects.{Posted, Region, no_region}
use Rattle.rdma_types.specs.Kinds.{is_write, kind_of, lands, receive_done, request_done, size_of}
use Rattle.rdma_types.specs.Memory.{LocalWrite, Right, cut, holds, is_granted, landing_right, local_key, put}
use Rattle.rdma_types.specs.Limits.{most_bytes}
use Rattle.rdma_types.specs.Causes.{cause, first_cause}
use Rattle.packetless_machine.specs.Tables.{replaced}
use Rattle.packetless_machine.specs.Machine.{Machine, End, no_context, new_end, has_context, context_of, has_end, end_of, queue_of, regions_of, with_context, in_end, with_regions, with_queue, completing, bytes_at, untold_count, reserved}
use Rattle.packetless_machine.specs.Steps.{current, has_current, untold}

-- ---- what is there

-- no context of that name was made
abbrev pub lacks_context : Machine → Name → Bool
lacks_context m c = not (has_context m c)

-- there is no end of that name
abbrev pub lacks_end : Machine → ObjName → Bool
lacks_end m o = not (has_end m o)

-- there is a region of that name
abbrev pub has_region : Machine → ObjName → Bool
has_region m o = has_name (λ r. r.name) o.name (regions_of m o.context)

-- there is a completion queue of that name
abbrev pub has_queue : Machine → Name → Name → Bool
has_queue m c q = has_name (λ x. x.name) q (context_of m c).queues

-- there is a domain of that name
abbrev pub has_domain : Machine → Name → Name → Bool
has_domain m c d = has_name (λ x. x) d (context_of m c).domains

-- a word for a thing of the context c; one for a thing of another context is None, and names nothing
unfoldable pub lacks_domain : Machine → Name → Option Name → Bool
lacks_domain m c None = true
lacks_domain m c (Some d) = not (has_domain m c d)

-- .. the same for a completion queue
unfoldable pub lacks_queue : Machine → Name → Option Name → Bool
lacks_queue m c None = true
lacks_queue m c (Some q) = not (has_queue m c q)

-- the name that a word is
abbrev pub word_or_none : Option Name → Name
word_or_none word = unwrap_or word []

-- the region of that name
unfoldable pub region_of : Machine → ObjName → Region
region_of m o = named (λ r. r.name) no_region o.name (regions_of m o.context)

-- ---- posting

-- the local place of a posted request is granted; bytes that land there need the right to write
unfoldable pub is_local_granted : Machine → ObjName → ℕ → ℕ → ℕ → Right → Bool
is_local_granted m o key address count right =
    is_granted local_key (regions_of m o.context) (end_of m o).domain key address count right

-- the entries and the reserved ones fill the queue
unfoldable pub is_full : Machine → Name → Name → Bool
is_full m c q = nat_le (queue_of m c q).capacity (length (queue_of m c q).entries + reserved (context_of m c) q)

-- a request with the bytes that a Write or Send takes as it is posted
unfoldable pub taken : Machine → ObjName → Request → Posted
taken m o r = record {
  request = r;
  payload = if lands r.shape.kind then [] else bytes_at local_key r.lkey r.local r.shape.length (regions_of m o.context);
}

-- ---- dropping a region

-- a request or a receive that is not empty names the region by its local key
abbrev pub request_names : ℕ → Posted → Bool
request_names key r = not (size_of r == 0) && (r.request.lkey == key)

-- .. the same for a receive
abbrev pub receive_names : ℕ → Receive → Bool
receive_names key v = not (v.length == 0) && (v.lkey == key)

-- a Write in progress towards e names the region by its remote key
unfoldable pub is_written : Machine → End → ℕ → Bool
is_written m e key =
    e.connected
    && (has_current m e.peer
    && (nat_lt 0 (end_of m e.peer).into
    && (is_write (kind_of (current (end_of m e.peer))) && ((current (end_of m e.peer)).request.shape.rkey == key))))

-- a Send in progress towards an end names the region of its receive
unfoldable pub in_use_names : ℕ → Option Receive → Bool
in_use_names key None = false
in_use_names key (Some v) = v.lkey == key

-- work of the end e, or work in progress towards it, names the region r
unfoldable pub is_used_by : Machine → Region → End → Bool
is_used_by m r e =
    list_any (request_names r.keys.local) (untold e)
    || (list_any (receive_names r.keys.local) e.unused
    || (in_use_names r.keys.local e.in_use || is_written m e r.keys.remote))

-- work of some end of its context names the region
unfoldable pub is_in_use : Machine → ObjName → Bool
is_in_use m o = list_any (is_used_by m (region_of m o)) (context_of m o.context).ends

-- ---- refusals, by the first cause that holds: things that are not there, names taken, states, lengths, places, things
-- in use, full queues

-- why the verb is refused, if it is
abbrev pub refusal_of : Machine → Verb → Option Refusal
refusal_of m (Context name made) = first_cause (
    cause NoSuch (not made)
    ∷ cause NumberTaken (has_context m name)
    ∷ [])
refusal_of m (Connect one two terms) = first_cause (
    cause NoSuch (lacks_context m one.context || lacks_context m two.context)
    ∷ cause NoSuch (lacks_end m one || lacks_end m two)
    ∷ cause BadState ((end_of m one).connected || ((end_of m two).connected || bytes_eq one.context two.context))
    ∷ [])
refusal_of m (MakeDomain name) = first_cause (
    cause NoSuch (lacks_context m name.context)
    ∷ cause NumberTaken (has_domain m name.context name.name)
    ∷ [])
refusal_of m (MakeRegion name domain base count rights) = first_cause (
    cause NoSuch (lacks_context m name.context)
    ∷ cause NoSuch (lacks_domain m name.context domain)
    ∷ cause NumberTaken (has_region m name)
    ∷ [])
refusal_of m (MakeCq name capacity) = first_cause (
    cause NoSuch (lacks_context m name.context)
    ∷ cause NumberTaken (has_queue m name.context name.name)
    ∷ [])
refusal_of m (MakeQp name domain send_cq recv_cq send_depth recv_depth) = first_cause (
    cause NoSuch (lacks_context m name.context)
    ∷ cause NoSuch (lacks_domain m name.context domain)
    ∷ cause NoSuch (lacks_queue m name.context send_cq)
    ∷ cause NoSuch (lacks_queue m name.context recv_cq)
    ∷ cause NumberTaken (has_end m name)
    ∷ [])
refusal_of m (DropRegion name) = first_cause (
    cause NoSuch (lacks_context m name.context)
    ∷ cause NoSuch (not (has_region m name))
    ∷ cause InUse (is_in_use m name)
    ∷ [])
refusal_of m (Store region address bytes) = first_cause (
    cause NoSuch (lacks_context m region.context)
    ∷ cause NoSuch (not (has_region m region))
    ∷ cause BadKey (not (holds (region_of m region) address (length bytes)))
    ∷ [])
refusal_of m (Load region address count) = first_cause (
    cause NoSuch (lacks_context m region.context)
    ∷ cause NoSuch (not (has_region m region))
    ∷ cause BadKey (not (holds (region_of m region) address count))
    ∷ [])
refusal_of m (PostSend o r) = first_cause (
    cause NoSuch (lacks_context m o.context)
    ∷ cause NoSuch (lacks_end m o)
    ∷ cause BadState (not (end_of m o).connected)
    ∷ cause TooLong (nat_lt most_bytes r.shape.length)
    ∷ cause BadKey (not (is_local_granted m o r.lkey r.local r.shape.length (landing_right r.shape.kind)))
    ∷ cause SqFull (nat_le (end_of m o).send_depth (untold_count (end_of m o)))
    ∷ cause CqFull (is_full m o.context (end_of m o).send_queue)
    ∷ [])
refusal_of m (PostRecv o v) = first_cause (
    cause NoSuch (lacks_context m o.context)
    ∷ cause NoSuch (lacks_end m o)
    ∷ cause TooLong (nat_lt most_bytes v.length)
    ∷ cause BadKey (not (is_local_granted m o v.lkey v.local v.length LocalWrite))
    ∷ cause RqFull (nat_le (end_of m o).receive_depth (length (end_of m o).unused))
    ∷ cause CqFull (is_full m o.context (end_of m o).receive_queue)
    ∷ [])
refusal_of m (Poll cq max) = first_cause (
    cause NoSuch (lacks_context m cq.context)
    ∷ cause NoSuch (not (has_queue m cq.context cq.name))
    ∷ [])

-- ---- effects and answers of a verb that is not refused

-- the context with one more domain, region, completion queue or end
unfoldable pub with_domain : Machine → ObjName → Machine
with_domain m o =
    with_context m o.context (record (context_of m o.context) { domains = (context_of m o.context).domains ++ o.name ∷ [] })

-- a region of zeros, with the key that is given and the next one
abbrev pub new_region : Name → Name → ℕ → ℕ → Rights → ℕ → Region
new_region name domain base count rights given = record {
  name = name;
  domain = domain;
  base = base;
  length = count;
  rights = rights;
  keys = record { local = given; remote = given + 1 };
  bytes = replicate count 0;
}

-- the machine with one more region, and its local key given
unfoldable pub made_region : Machine → ObjName → Name → ℕ → ℕ → Rights → ℕ → Machine
made_region m name domain base count rights given =
    with_regions
    (record m { keys = m.keys ++ given ∷ [] })
    name.context
    (regions_of m name.context ++ new_region name.name domain base count rights given ∷ [])

-- the machine with one more completion queue
unfoldable pub made_queue : Machine → ObjName → ℕ → Machine
made_queue m o capacity =
    with_context m o.context (record (context_of m o.context) {
      queues = (context_of m o.context).queues ++ record { name = o.name; capacity = capacity; entries = [] } ∷ [];
    })

-- the machine with one more end, and its number given
unfoldable pub made_end : Machine → ObjName → Name → Name → Name → ℕ → ℕ → ℕ → Machine
made_end m o domain send_cq recv_cq send_depth recv_depth given =
    with_context (record m { numbers = m.numbers ++ given ∷ [] }) o.context (record (context_of m o.context) {
      ends = (context_of m o.context).ends ++ new_end o given domain send_cq recv_cq send_depth recv_depth ∷ [];
    })

-- the end is connected, and nothing is counted yet
unfoldable pub joined : ObjName → Terms → End → End
joined peer terms e = record e { connected = true; peer = peer; mtu = terms.mtu; retry = terms.retry; rnr = terms.rnr; spent = 0; waits = 0 }

-- both ends are connected to each other
unfoldable pub connected_pair : Machine → ObjName → ObjName → Terms → Machine
connected_pair m one two terms = in_end (in_end m one (joined two terms)) two (joined one terms)

-- the bytes of the region are others from an address on
unfoldable pub overwritten : Region → ℕ → List ℕ → Region
overwritten r address bytes = record r { bytes = put r.bytes (address - r.base) bytes }

-- the machine once bytes of a region are overwritten
unfoldable pub stored : Machine → ObjName → ℕ → List ℕ → Machine
stored m o address bytes =
    with_regions m o.context
    (replaced (λ r. r.name) o.name (overwritten (region_of m o) address bytes) (regions_of m o.context))

-- one more request
abbrev pub with_request : Posted → End → End
with_request r e = record e { posted = e.posted ++ r ∷ [] }

-- one more receive
abbrev pub with_receive : Receive → End → End
with_receive v e = record e { unused = e.unused ++ v ∷ [] }

-- work posted at an end that has ended completes at once
unfoldable pub posted : Machine → ObjName → Request → Machine
posted m o r =
    if (end_of m o).ended
    then completing m o.context (end_of m o).send_queue (request_done (end_of m o).number (taken m o r) statuses.Flush 0 ∷ [])
    else in_end m o (with_request (taken m o r))

-- the machine once a receive is posted
unfoldable pub received : Machine → ObjName → Receive → Machine
received m o v =
    if (end_of m o).ended
    then completing m o.context (end_of m o).receive_queue (receive_done (end_of m o).number v wc_kinds.Recv statuses.Flush 0 None ∷ [])
    else in_end m o (with_receive v)

-- the oldest entries are taken out
unfoldable pub polled : Machine → ObjName → ℕ → Machine
polled m cq max =
    with_queue m cq.context cq.name (record (queue_of m cq.context cq.name) { entries = drop max (queue_of m cq.context cq.name).entries })

-- the machine after a verb that is not refused
abbrev pub done : Machine → Verb → ℕ → Machine
done m (Context name made) given = record m { contexts = m.contexts ++ no_context name ∷ [] }
done m (Connect one two terms) given = connected_pair m one two terms
done m (MakeDomain name) given = with_domain m name
done m (MakeRegion name domain base count rights) given = made_region m name (word_or_none domain) base count rights given
done m (MakeCq name capacity) given = made_queue m name capacity
done m (MakeQp name domain send_cq recv_cq send_depth recv_depth) given =
    made_end m name (word_or_none domain) (word_or_none send_cq) (word_or_none recv_cq) send_depth recv_depth given
done m (DropRegion name) given = with_regions m name.context (without (λ r. r.name) name.name (regions_of m name.context))
done m (Store region address bytes) given = stored m region address bytes
done m (Load region address count) given = m
done m (PostSend o r) given = posted m o r
done m (PostRecv o v) given = received m o v
done m (Poll cq max) given = polled m cq max

-- the answer to a verb that is not refused
abbrev pub granted_answer : Machine → Verb → ℕ → Answer
granted_answer m (MakeRegion name domain base count rights) given = answers.Region (record { local = given; remote = given + 1 })
granted_answer m (MakeQp name domain send_cq recv_cq send_depth recv_depth) given = answers.Qp given
granted_answer m (Load region address count) given =
    answers.Bytes (cut (address - (region_of m region).base) count (region_of m region).bytes)
granted_answer m (Poll cq max) given = answers.Polled (take max (queue_of m cq.context cq.name).entries)
granted_answer m other given = answers.Done

-- The free choice: a region may get any even key, and a queue pair any number, that was never given before.
unfoldable pub is_fresh : List ℕ → ℕ → Bool
is_fresh used given = not (list_any (nat_eq given) used)

-- the key or number may be given
abbrev pub may_give : Machine → Verb → ℕ → Bool
may_give m (MakeRegion name domain base count rights) given = (given % 2 == 0) && is_fresh m.keys given
may_give m (MakeQp name domain send_cq recv_cq send_depth recv_depth) given = is_fresh m.numbers given
may_give m other given = true

-- ---- a verb with its refusal, if there is one

-- a verb with this refusal may be answered
abbrev pub may_answer : Option Refusal → Machine → Verb → ℕ → Bool
may_answer None m v given = may_give m v given
may_answer (Some r) m v given = true

-- the answer to a verb with this refusal
abbrev pub answered : Option Refusal → Machine → Verb → ℕ → Answer
answered None m v given = granted_answer m v given
answered (Some r) m v given = answers.Refused r

-- the machine after a verb with this refusal
abbrev pub after_answer : Option Refusal → Machine → Verb → ℕ → Machine
after_answer None m v given = done m v given
after_answer (Some r) m v given = m

-- a verb may be answered, with what it gives
abbrev pub may_verb : Machine → Verb → ℕ → Bool
may_verb m v given = may_answer (refusal_of m v) m v given

-- the answer to a verb
abbrev pub verb_answer : Machine → Verb → ℕ → Answer
verb_answer m v given = answered (refusal_of m v) m v given

-- the machine after a verb
abbrev pub after_verb : Machine → Verb → ℕ → Machine
after_verb m v given = after_answer (refusal_of m v) m v given
