-- What comes of the parts of an image.
use Rattle.std.specs.Prelude.{ℕ, ◌≡◌, ◌≢◌, ◌+◌, ◌≤◌, false, List, [], length, map, take, All, Option, Some, None, IfSome, option_map, nat_eq, slice_get, sum_by, if◌then◌else◌}
use Rattle.std.specs.List.{IsDistinct}
use Rattle.std.specs.Map.{keys_of, values_of}
use Rattle.rdma_types.specs.declared.names.Name.{Name}
use Rattle.rdma_types.specs.Kinds.{takes_bytes}
use Rattle.rdma_types.specs.Limits.{most_bytes}
use Rattle.rdma_types.specs.Shapes.{IsLawfulShape}
use Rattle.page_pool.specs.Pool.{Pool, IsIn, bytes_of, free_pages, pages_for}
use Rattle.memory_keys.specs.declared.RegisteredRegion.{RegisteredRegion}
use Rattle.memory_keys.specs.declared.RegionHead.{RegionHead}
use Rattle.memory_keys.specs.Regions.{AreHeld}
use Rattle.end_queues.specs.Completions.{Queue as CompletionQueue, unreserved, used_places}
use Rattle.end_queues.specs.Postings.{Queue}
use Rattle.end_queues.specs.declared.work_queues.posted.QueuedRequest.{QueuedRequest}
use Rattle.end_queues.specs.Untold.{untold_in}
use Rattle.protocol.specs.declared.images.ContextImage.{ContextImage}
use Rattle.protocol.specs.declared.images.CqImage.{CqImage}
use Rattle.protocol.specs.declared.images.EndImage.{EndImage}
use Rattle.protocol.specs.declared.images.LinkImage.{LinkImage}
use Rattle.protocol.specs.declared.images.PostedImage.{PostedImage}
use Rattle.protocol.specs.declared.images.RegionImage.{RegionImage}
use Rattle.protocol.specs.declared.images.Progress.{Progress}
use Rattle.protocol.specs.declared.images.Progress.TheVariants as image
use Rattle.protocol.specs.Images.{context_of, moved, name_at, posted_of_image, progress_of_image}
use Rattle.requester.specs.declared.answers.RequesterParts.{RequesterParts}
use Rattle.transport.specs.declared.move_core.MoveState.{MoveState}
use Rattle.transport.specs.declared.move_core.Phase.TheVariants as phase
use Rattle.endpoint_core.specs.Queues.{count_at, queues_of, reserved_in}
use Rattle.endpoint_core.specs.declared.end.Endpoint.{Endpoint}
use Rattle.endpoint_core.specs.declared.end.EndLink.{EndLink}
use Rattle.endpoint_core.specs.Sound.{IsPlaced, IsPosted, payload_lists, payload_pages}
use Rattle.context_core.specs.Context.{Holding, IsPaged, context_in}

-- ---- pools

-- all lists have the bytes that they had, and as many pages are free
pub record IsAlike (old new : Pool) : Type 0 where
  pub pages : new.pages ≡ old.pages
  pub lists : (list : ℕ) → bytes_of new list ≡ bytes_of old list
  pub free : free_pages new ≡ free_pages old

-- these requests' payloads were put into new lists, apart from each other; all other lists stay
pub record AreTaken (old new : Pool) (ps : List QueuedRequest) : Type 0 where
  pub pages : new.pages ≡ old.pages
  pub others : (list : ℕ) → All (λ x. x ≢ list) (payload_lists ps) → bytes_of new list ≡ bytes_of old list
  pub fresh : All (λ p. bytes_of old p.payload.list ≡ None) ps
  pub live : All (λ p. IsIn new p.payload.list) ps
  pub apart : IsDistinct nat_eq (payload_lists ps)
  pub free : free_pages new + payload_pages new ps ≡ free_pages old

-- regions in new lists; all lists that lived stay
pub record AreMade (old new : Pool) (hs : List RegisteredRegion) : Type 0 where
  pub pages : new.pages ≡ old.pages
  pub others : (list : ℕ) → IsIn old list → bytes_of new list ≡ bytes_of old list
  pub fresh : All (λ h. bytes_of old h.list ≡ None) hs
  pub held : AreHeld new hs
  pub free : free_pages new + sum_by (λ h. pages_for h.head.length) hs ≡ free_pages old

-- ---- requests

-- the request of an image may come to an end of the domain: its length is in range, its shape is lawful, its payload is
-- whole, and its place is granted
pub record MayCome (held : List RegisteredRegion) (domain : Name) (p : PostedImage) : Type 0 where
  pub few : p.request.shape.length ≤ most_bytes
  pub shape : IsLawfulShape p.request.shape
  pub whole : length p.payload ≡ (if takes_bytes p.request.shape.kind then p.request.shape.length else 0)
  pub placed : IsPlaced held domain p.request

-- posted requests that come of images
pub record Come (old new : Pool) (held : List RegisteredRegion) (domain : Name) (images : List PostedImage) (ps : List QueuedRequest) : Type 0 where
  pub taken : AreTaken old new ps
  pub posted : All (IsPosted new held domain) ps
  pub paged : All (IsPaged new held) ps
  pub shown : untold_in new ps ≡ map posted_of_image images

-- ---- ends

-- the numbers of a requester after a move
abbrev pub numbers_after : LinkImage → RequesterParts
numbers_after l = record { first = l.first; una = l.una; next = if l.ended then l.next else l.una; top = l.top; spent = l.spent; waits = l.waits; rnr_wait = if l.ended then l.rnr_wait else false }

-- how far an end has moved after a move
abbrev pub moves_after : LinkImage → MoveState
moves_after l = record { phase = if l.ended then phase.Running else phase.Resuming; own = if l.ended then l.moves else l.moves + 1; recorded = l.partner_moves; partner = l.partner }

-- a connection that comes of an image, with these requests
abbrev pub link_after : List RegionImage → LinkImage → Queue QueuedRequest → EndLink
link_after regions l queue = record {
  peer = l.peer;
  terms = l.terms;
  ended = l.ended;
  requester = record { terms = l.terms; depth = queue.depth; items = queue.items; numbers = numbers_after l };
  responder = record { terms = l.terms; receiver = record { expected = l.expected; nak_sent = l.nak_sent; msn = l.msn; progress = progress_of_image regions l.progress; kept = l.kept } };
  moves = moves_after l;
}

-- an end in Init keeps its send queue
abbrev pub unlinked_after : Option LinkImage → Queue QueuedRequest → Option (Queue QueuedRequest)
unlinked_after None queue = Some queue
unlinked_after (Some l) queue = None

-- an end that comes of an image, with these requests
abbrev pub end_after : ContextImage → EndImage → Queue QueuedRequest → Endpoint
end_after c e queue = record {
  number = e.number;
  domain = name_at c.domains e.domain;
  send_depth = e.send_depth;
  recv_depth = e.recv_depth;
  recvs = record { depth = e.recv_depth; items = e.unused };
  unlinked = unlinked_after e.linked queue;
  link = option_map (λ l. link_after c.regions l queue) e.linked;
}

-- an end that comes of an image, with its requests' payloads in new lists
pub record IsEndAfter (old new : Pool) (held : List RegisteredRegion) (c : ContextImage) (e : EndImage) (x : Endpoint) : Type 0 where
  pub queue : Queue QueuedRequest
  pub is : x ≡ end_after c e queue
  pub depth : queue.depth ≡ e.send_depth
  pub come : Come old new held (name_at c.domains e.domain) e.untold queue.items

-- how many receives a message in progress uses
abbrev pub used_of_progress : Progress → ℕ
used_of_progress image.Idle = 0
used_of_progress (image.Send done receive) = 1
used_of_progress (image.Write region off length' done) = 0

-- .. of an end that may be connected
abbrev pub used_of_image : Option LinkImage → ℕ
used_of_image None = 0
used_of_image (Some l) = used_of_progress l.progress

-- the entries that the work of an image's end will take of the queue at a place
abbrev pub promised_to : EndImage → ℕ → ℕ
promised_to e place = count_at e.send_cq (length e.untold) place + count_at e.recv_cq (length e.unused + used_of_image e.linked) place

-- there is room for them
abbrev pub HasPlaces : List (Name × CompletionQueue) → EndImage → Type 0
HasPlaces queues e = (place : ℕ) → IfSome (slice_get (values_of queues) place) (λ q. used_places q + promised_to e place ≤ q.capacity)

-- they are reserved, and all else of the queues stays
pub record AreReservedFor (old new : List (Name × CompletionQueue)) (e : EndImage) : Type 0 where
  pub names : keys_of new ≡ keys_of old
  pub shown : queues_of new ≡ queues_of old
  pub reserved : (place : ℕ) → reserved_in new place ≡ reserved_in old place + promised_to e place

-- ---- contexts

-- what is told of a region of an image
abbrev pub head_after : List Name → RegionImage → RegionHead
head_after domains r = record { name = r.name; domain = name_at domains r.domain; base = r.base; length = r.length; rights = r.rights; keys = r.keys }

-- a completion queue of an image, with no place reserved
abbrev pub queue_after : CqImage → Name × CompletionQueue
queue_after q = (q.name, unreserved q.capacity q.entries)

-- the domains and the completion queues of an image
abbrev pub bare_after : ContextImage → Holding
bare_after c = record { domains = c.domains; regions = []; queues = map queue_after c.queues; ends = [] }

-- an end may move once more, or is in Error
abbrev pub MayMove : Option LinkImage → Type 0
MayMove None = Unit {0}
MayMove (Some l) = l.ended ≡ false → l.moves + 1 ≤ 65535

-- a context is what comes of an image, with only so many of its ends
pub record IsPart (pool : Pool) (c : ContextImage) (count : ℕ) (h : Holding) : Type 0 where
  pub domains : h.domains ≡ c.domains
  pub regions : (context_in pool c.name h).regions ≡ (context_of c).regions
  pub queues : (context_in pool c.name h).queues ≡ (context_of c).queues
  pub ends : (context_in pool c.name h).ends ≡ take count (moved (context_of c)).ends
