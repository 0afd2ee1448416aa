-- What a response does at a connected end: what lands, what is told, and the answer.
use Rattle.std.specs.Prelude.{ℕ, ◌≡◌, ◌+◌, ◌≤◌, Bool, true, false, List, length, drop, take, Some, ⊤, slice_get, unwrap_or}
use Rattle.rdma_types.specs.declared.answers.DropReason.TheVariants as why
use Rattle.rdma_types.specs.declared.answers.ArrivalEffect.{ArrivalEffect}
use Rattle.rdma_types.specs.declared.answers.ArrivalEffect.TheVariants as took
use Rattle.rdma_types.specs.declared.names.Name.{Name}
use Rattle.rdma_types.specs.Kinds.{is_atomic, lands}
use Rattle.rdma_types.specs.Memory.{word_bytes}
use Rattle.rdma_types.specs.Objects as objects
use Rattle.page_pool.specs.Pool.{Pool, free_pages}
use Rattle.memory_keys.specs.declared.RegisteredRegion.{RegisteredRegion}
use Rattle.memory_keys.specs.Regions.{AreHeld, KeepsOthers, regions_of}
use Rattle.end_queues.specs.Completions.{Queue}
use Rattle.protocol.specs.Memory.{landed}
use Rattle.protocol.specs.Requester as rows
use Rattle.protocol.specs.Requester.{after_telling, told_completions}
use Rattle.protocol.specs.State.{Context, Sender}
use Rattle.protocol.specs.Wire.{Packet}
use Rattle.requester.specs.declared.answers.ResponseEffect.{ResponseEffect}
use Rattle.requester.specs.declared.answers.ResponseEffect.TheVariants.{Acked, Ended, Landed, OldLanded, Rewound, Useless, Waits}
use Rattle.requester.specs.Sending.{bares, sender_of}
use Rattle.end_completions.specs.Payloads.{GivesBack}
use Rattle.endpoint_core.specs.declared.end.EndLink.{EndLink}
use Rattle.endpoint_core.specs.Queues.{settle_at}

-- what is answered
abbrev pub response_took : ResponseEffect → ArrivalEffect
response_took Acked = took.Acked
response_took (Landed index off) = took.Landed
response_took (OldLanded index old) = took.Landed
response_took Rewound = took.Rewound
response_took Waits = took.Waits
response_took (Ended why) = took.Ended why
response_took Useless = took.Silent why.Useless

-- nothing happens
abbrev pub is_useless : ResponseEffect → Bool
is_useless Useless = true
is_useless Acked = false
is_useless (Landed index off) = false
is_useless (OldLanded index old) = false
is_useless Rewound = false
is_useless Waits = false
is_useless (Ended why) = false

-- the request at a place
abbrev pub request_in : List objects.Posted → ℕ → objects.Posted
request_in us index = unwrap_or (slice_get us index) objects.no_posted

-- the context with what lands, in the place of the request
abbrev pub landed_by : Context → List objects.Posted → Packet → ResponseEffect → Context
landed_by c us d (Landed index off) = landed c (request_in us index).request.lkey ((request_in us index).request.local + off) d.payload
landed_by c us d (OldLanded index old) = landed c (request_in us index).request.lkey (request_in us index).request.local (word_bytes old)
landed_by c us d Acked = c
landed_by c us d Rewound = c
landed_by c us d Waits = c
landed_by c us d (Ended why) = c
landed_by c us d Useless = c

-- what lands is inside the place of its request, a Read or an atomic
abbrev pub Lands : List objects.Posted → Packet → ResponseEffect → Type 0
Lands us d (Landed index off) = (x : objects.Posted) × (slice_get us index ≡ Some x) × (lands x.request.shape.kind ≡ true) × (off + length d.payload ≤ x.request.shape.length)
Lands us d (OldLanded index old) = (x : objects.Posted) × (slice_get us index ≡ Some x) × (lands x.request.shape.kind ≡ true) × (is_atomic x.request.shape.kind ≡ true)
Lands us d Acked = ⊤
Lands us d Rewound = ⊤
Lands us d Waits = ⊤
Lands us d (Ended why) = ⊤
Lands us d Useless = ⊤

-- regions with what landed, in a pool where all else is as it was
pub record HasLanded (us : List objects.Posted) (d : Packet) (t : ResponseEffect) (pool pool' : Pool) (held : List RegisteredRegion) : Type 0 where
  pub landing : (c : Context) → c.regions ≡ regions_of pool held → landed_by c us d t ≡ record c { regions = regions_of pool' held }
  pub regions : AreHeld pool' held
  pub others : KeepsOthers pool pool' held
  pub free : free_pages pool' ≡ free_pages pool

-- what landed, and then what was told, from the requester after the response
pub record HasAnswered (number place : ℕ) (s : Sender) (d : Packet) (t : ResponseEffect) (l l' : EndLink) (pool pool' : Pool) (held : List RegisteredRegion) (qs qs' : List (Name × Queue)) : Type 0 where
  pub untold : s.untold ≡ bares l.requester.items
  pub same : l' ≡ record l { requester = l'.requester }
  pub terms : l'.requester.terms ≡ l.requester.terms
  pub depth : l'.requester.depth ≡ l.requester.depth
  pub items : l'.requester.items ≡ drop (rows.told_count l.requester.terms s) l.requester.items
  pub numbers : sender_of l'.requester ≡ after_telling l.requester.terms s
  pub queues : qs' ≡ settle_at qs place (rows.told_count l.requester.terms s) (told_completions number l.requester.terms s)
  pub mid : Pool
  pub landed' : HasLanded (bares l.requester.items) d t pool mid held
  pub gives : GivesBack mid pool' (take (rows.told_count l.requester.terms s) l.requester.items)
