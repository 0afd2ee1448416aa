-- What an end keeps between its steps.
use Rattle.std.specs.Prelude.{ℕ, ◌≡◌, ◌≢◌, ◌+◌, ◌<◌, ◌≤◌, ◌^◌, true, false, List, [], length, All, Option, Some, None, nat_eq, ⊤, if◌then◌else◌}
pub use Rattle.end_completions.specs.Payloads.{payload_lists, payload_pages}
use Rattle.std.specs.List.{IsDistinct}
use Rattle.rdma_types.specs.declared.names.Name.{Name}
use Rattle.rdma_types.specs.declared.requests.Request.{Request}
use Rattle.rdma_types.specs.Kinds.{takes_bytes}
use Rattle.rdma_types.specs.Limits.{AreTerms}
use Rattle.rdma_types.specs.Memory.{is_granted, landing_right, local_key}
use Rattle.rdma_types.specs.Shapes.{IsLawfulShape}
use Rattle.rdma_types.specs.Spans.{span}
use Rattle.page_pool.specs.Pool.{Pool, IsIn, bytes_of}
use Rattle.page_pool.specs.Held.{HoldsPayload}
use Rattle.memory_keys.specs.declared.RegisteredRegion.{RegisteredRegion}
use Rattle.memory_keys.specs.Regions.{regions_of}
use Rattle.end_queues.specs.Postings.{empty_queue, Queue}
use Rattle.end_queues.specs.declared.work_queues.posted.QueuedRequest.{QueuedRequest}
use Rattle.requester.specs.Sending.{sender_of}
use Rattle.protocol.specs.Requester.{end_of_queue}
use Rattle.protocol.specs.State.{NoMessage}
use Rattle.responder.specs.Sound.{IsPlace, IsSound as IsServing}
use Rattle.transport.specs.declared.move_core.Phase.TheVariants as phase
use Rattle.endpoint_core.specs.declared.end.Endpoint.{Endpoint}
use Rattle.endpoint_core.specs.declared.end.EndLink.{EndLink}
use Rattle.endpoint_core.specs.Ends.{is_ended_link, untold_by}

-- a request's local place is granted for what is done with it, whatever bytes lie there: a Read or an atomic may write it
abbrev pub IsPlaced : List RegisteredRegion → Name → Request → Type 0
IsPlaced held domain r = (pool : Pool) → is_granted local_key (regions_of pool held) domain r.lkey r.local r.shape.length (landing_right r.shape.kind) ≡ true

-- the payload of a request lies in the pool, apart from the regions, with the bytes that its kind takes
pub record HasPayload (pool : Pool) (held : List RegisteredRegion) (p : QueuedRequest) : Type 0 where
  pub holds : HoldsPayload pool p.payload
  pub whole : p.payload.length ≡ (if takes_bytes p.request.shape.kind then p.request.shape.length else 0)
  pub apart : All (λ h. h.list ≢ p.payload.list) held

-- a posted request: its shape, its payload and its place
pub record IsPosted (pool : Pool) (held : List RegisteredRegion) (domain : Name) (p : QueuedRequest) : Type 0 where
  pub shape : IsLawfulShape p.request.shape
  pub payload : HasPayload pool held p
  pub placed : IsPlaced held domain p.request

-- a connected end's requests and its message in progress; in Error it has none, and is not Paused or Resuming
pub record IsLinked (pool : Pool) (held : List RegisteredRegion) (e : Endpoint) (l : EndLink) : Type 0 where
  pub terms : AreTerms l.terms
  pub sending_terms : l.requester.terms ≡ l.terms
  pub serving_terms : l.responder.terms ≡ l.terms
  pub depth : l.requester.depth ≡ e.send_depth
  pub fit : length l.requester.items ≤ e.send_depth
  pub posted : All (IsPosted pool held e.domain) l.requester.items
  pub apart : IsDistinct nat_eq (payload_lists l.requester.items)
  pub serving : IsServing held e.domain l.responder e.recvs.items
  pub none_untold : l.ended ≡ true → l.requester.items ≡ []
  pub none_unused : l.ended ≡ true → e.recvs.items ≡ []
  pub no_message : l.ended ≡ true → l.responder.receiver.progress ≡ NoMessage
  pub running : l.ended ≡ true → l.moves.phase ≡ phase.Running

-- an end in Init holds an empty send queue, and a connected one none
abbrev pub HoldsQueue : ℕ → Option (Queue QueuedRequest) → Option EndLink → Type 0
HoldsQueue depth unlinked None = unlinked ≡ Some (empty_queue depth)
HoldsQueue depth unlinked (Some l) = unlinked ≡ None

-- an end in Init has receives with places, and a connected one its work
abbrev pub IsInState : Pool → List RegisteredRegion → Endpoint → Option EndLink → Type 0
IsInState pool held e None = All (IsPlace held e.domain) e.recvs.items
IsInState pool held e (Some l) = IsLinked pool held e l

-- an end, with the regions of its context
pub record IsEnd (pool : Pool) (held : List RegisteredRegion) (e : Endpoint) : Type 0 where
  pub queue : HoldsQueue e.send_depth e.unlinked e.link
  pub depth : e.recvs.depth ≡ e.recv_depth
  pub state : IsInState pool held e e.link

-- the numbers of a connection that is not in Error stay below the limit where this request is posted
abbrev pub IsBelowLimit : Option EndLink → Request → Type 0
IsBelowLimit None r = ⊤
IsBelowLimit (Some l) r = l.ended ≡ false → end_of_queue l.terms (sender_of l.requester) + span r.shape l.terms.mtu < 2 ^ 62

-- a request that may be posted at an end: its payload is apart from the regions and from the end's others; it has the
-- bytes of its request where the end is not in Error
pub record IsNew (pool : Pool) (held : List RegisteredRegion) (e : Endpoint) (p : QueuedRequest) : Type 0 where
  pub shape : IsLawfulShape p.request.shape
  pub holds : HoldsPayload pool p.payload
  pub whole : is_ended_link e.link ≡ false → p.payload.length ≡ (if takes_bytes p.request.shape.kind then p.request.shape.length else 0)
  pub apart : All (λ h. h.list ≢ p.payload.list) held
  pub own : All (λ list. list ≢ p.payload.list) (payload_lists (untold_by e.link))
  pub placed : is_granted local_key (regions_of pool held) e.domain p.request.lkey p.request.local p.request.shape.length (landing_right p.request.shape.kind) ≡ true
  pub limit : IsBelowLimit e.link p.request

-- lists that lived, and are neither of the regions nor of these, are as they were
pub record KeepsLists (old new : Pool) (held : List RegisteredRegion) (own : List ℕ) : Type 0 where
  pub pages : new.pages ≡ old.pages
  pub others : (list : ℕ) → IsIn old list → All (λ h. h.list ≢ list) held → All (λ x. x ≢ list) own → bytes_of new list ≡ bytes_of old list
