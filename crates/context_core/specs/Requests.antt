-- Whether a request may be posted, and what is taken for it.
use Rattle.std.specs.Prelude.{ℕ, ◌≡◌, ◌≢◌, ◌+◌, ◌<◌, ◌&&◌, not, Bool, true, false, List, [], ◌∷◌, All, Option, Some, None, IsSome, is_none, length, nat_le, nat_lt, slice_get, if◌then◌else◌}
use Rattle.std.specs.Map.{values_of}
use Rattle.std.specs.Option.{option_map_or}
use Rattle.rdma_types.specs.declared.answers.Refusal.TheVariants.{TooMany, BadState, TooLong, BadKey, SqFull, CqFull}
use Rattle.rdma_types.specs.declared.names.Name.{Name}
use Rattle.rdma_types.specs.declared.requests.Request.{Request}
use Rattle.rdma_types.specs.Causes.{Cause, cause}
use Rattle.rdma_types.specs.Kinds.{takes_bytes}
use Rattle.rdma_types.specs.Limits.{most_bytes, number_limit}
use Rattle.rdma_types.specs.Memory.{is_granted, landing_right, local_key}
use Rattle.rdma_types.specs.Spans.{span}
use Rattle.page_pool.specs.Pool.{Pool, bytes_of, free_pages, pages_of}
use Rattle.page_pool.specs.Held.{HoldsPayload, payload_bytes}
use Rattle.page_pool.specs.declared.Payload.{Payload}
use Rattle.end_queues.specs.Completions.{Queue}
use Rattle.memory_keys.specs.declared.RegisteredRegion.{RegisteredRegion}
use Rattle.memory_keys.specs.declared.RegionRange.{RegionRange}
use Rattle.memory_keys.specs.Regions.{IsSpot, granted_spot, pages_touched, regions_of, spot_bytes}
use Rattle.requester.specs.Sending.{sender_of}
use Rattle.protocol.specs.Refusals.{is_full, is_init, is_past_limit}
use Rattle.protocol.specs.Requester.{end_of_queue}
use Rattle.protocol.specs.State.{Context, End}
use Rattle.protocol.specs.Memory.{untold_of}
use Rattle.endpoint_core.specs.declared.end.Endpoint.{Endpoint}
use Rattle.endpoint_core.specs.declared.end.EndLink.{EndLink}
use Rattle.endpoint_core.specs.Ends.{is_ended_link, untold_by}
use Rattle.endpoint_core.specs.Sound.{IsBelowLimit}
use Rattle.context_core.specs.declared.state.EndSlot.{EndSlot}
use Rattle.context_core.specs.Queues.{HasRoom, is_full_at}

-- ---- causes

-- the number past the request would not be below the limit
abbrev pub is_past : Option EndLink → Request → Bool
is_past None r = false
is_past (Some l) r = not l.ended && nat_le number_limit (end_of_queue l.terms (sender_of l.requester) + span r.shape l.terms.mtu)

-- the queue at a place is full
abbrev pub is_full_place : List (Name × Queue) → ℕ → Bool
is_full_place queues place = option_map_or is_full_at (slice_get (values_of queues) place) true

-- why no request is posted at a queue pair, apart from too few free pages
abbrev pub slot_causes : Pool → List RegisteredRegion → List (Name × Queue) → EndSlot → Request → List Cause
slot_causes pool held queues e r =
    cause TooMany (is_past e.endpoint.link r)
    ∷ cause BadState (is_none e.endpoint.link)
    ∷ cause TooLong (nat_lt most_bytes r.shape.length)
    ∷ cause BadKey (not (is_granted local_key (regions_of pool held) e.endpoint.domain r.lkey r.local r.shape.length (landing_right r.shape.kind)))
    ∷ cause SqFull (nat_le e.endpoint.send_depth (length (untold_by e.endpoint.link)))
    ∷ cause CqFull (is_full_place queues e.send)
    ∷ []

-- the same, as the protocol lists them
abbrev pub post_causes : Context → End → Request → List Cause
post_causes c e r =
    cause TooMany (is_past_limit e.link r)
    ∷ cause BadState (is_init e.link)
    ∷ cause TooLong (nat_lt most_bytes r.shape.length)
    ∷ cause BadKey (not (is_granted local_key c.regions e.domain r.lkey r.local r.shape.length (landing_right r.shape.kind)))
    ∷ cause SqFull (nat_le e.send_depth (length (untold_of e.link)))
    ∷ cause CqFull (is_full c e.send_cq)
    ∷ []

-- ---- bytes

-- how many bytes are taken: those of a Write or Send at a queue pair that is not in Error
abbrev pub taken_length : Option EndLink → Request → ℕ
taken_length link r = if takes_bytes r.shape.kind && not (is_ended_link link) then r.shape.length else 0

-- where the bytes are that are taken
pub record IsSource (held : List RegisteredRegion) (e : Endpoint) (r : Request) (spot : RegionRange) : Type 0 where
  pub inside : IsSpot held spot
  pub size : spot.length ≡ taken_length e.link r
  pub granted : (pool : Pool) → granted_spot local_key (regions_of pool held) e.domain r.lkey r.local (taken_length e.link r) (landing_right r.shape.kind) ≡ Some spot

-- a queue pair takes a request, and the bytes at a spot for it
pub record TakesRequest (held : List RegisteredRegion) (queues : List (Name × Queue)) (e : EndSlot) (r : Request) (spot : RegionRange) : Type 0 where
  pub linked : IsSome e.endpoint.link
  pub limit : IsBelowLimit e.endpoint.link r
  pub granted : (pool : Pool) → is_granted local_key (regions_of pool held) e.endpoint.domain r.lkey r.local r.shape.length (landing_right r.shape.kind) ≡ true
  pub depth : length (untold_by e.endpoint.link) < e.endpoint.send_depth
  pub room : HasRoom queues e.send
  pub source : IsSource held e.endpoint r spot

-- the bytes at a spot stand in a new list
pub record IsTaken (a b : Pool) (held : List RegisteredRegion) (spot : RegionRange) (p : Payload) : Type 0 where
  pub new : bytes_of a p.list ≡ None
  pub same_pages : b.pages ≡ a.pages
  pub others : (list : ℕ) → list ≢ p.list → bytes_of b list ≡ bytes_of a list
  pub apart : All (λ h. h.list ≢ p.list) held
  pub holds : HoldsPayload b p
  pub size : p.length ≡ spot.length
  pub bytes : payload_bytes b p ≡ spot_bytes a held spot
  pub pages : pages_of (bytes_of b p.list) ≡ pages_touched spot
  pub free : free_pages b + pages_touched spot ≡ free_pages a
