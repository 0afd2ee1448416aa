-- Which events threads may ask for, as a test; and which requests a device takes (this project's choice).
use Rattle.std.specs.Prelude.{ℕ, ◌^◌, ◌&&◌, ◌||◌, ◌==◌, not, Bool, true, false, List, Option, None, Some, is_none, nat_le, nat_lt}
use Rattle.std.specs.Bool.{Decides}
use Rattle.std.specs.List.{list_all}
use Rattle.rdma_types.specs.declared.requests.Request.{Request}
use Rattle.rdma_types.specs.declared.requests.Shape.{Shape}
use Rattle.rdma_types.specs.Kinds.{is_atomic, takes_bytes}
use Rattle.rdma_types.specs.Limits.{most_capacity, most_depth, most_region_bytes}
use Rattle.rdma_types.specs.Shapes.{has_remote, is_swap}
use Rattle.protocol.specs.declared.events.Event.{Event}
use Rattle.protocol.specs.declared.events.Event.TheVariants as event
use Rattle.order_rules.specs.Bridge.{IsAskable}

-- ---- fields in their ranges

-- an immediate has 32 bits
abbrev pub is_immediate : Option ℕ → Bool
is_immediate None = true
is_immediate (Some n) = nat_lt n (2 ^ 32)

-- only a compare and swap has a compare value, and an atomic is of one word
abbrev pub has_fields_of_kind : Shape → Bool
has_fields_of_kind s = (is_swap s.kind || s.compare == 0) && (not (is_atomic s.kind) || s.length == 8)

-- a request, as `IsRequestInRange` has it
abbrev pub is_request_in_range : Request → Bool
is_request_in_range r =
    nat_lt r.shape.remote (2 ^ 64)
    && (nat_lt r.shape.rkey (2 ^ 32)
    && (nat_lt r.shape.swap_add (2 ^ 64)
    && (nat_lt r.shape.compare (2 ^ 64)
    && (is_immediate r.shape.imm
    && has_fields_of_kind r.shape))))

-- bytes
abbrev pub are_bytes : List ℕ → Bool
are_bytes bytes = list_all (λ b. nat_lt b 256) bytes

-- the depth of a queue
abbrev pub is_depth : ℕ → Bool
is_depth n = nat_le 1 n && nat_le n most_depth

-- the base, the length and the rights of a region
abbrev pub is_region : ℕ → ℕ → ℕ → Bool
is_region base count rights = nat_le 1 count && (nat_le count most_region_bytes && (nat_le base (2 ^ 63) && nat_lt rights 16))

-- threads may ask for the event: no end alone is connected, and its fields are in their ranges
abbrev pub is_askable : Event → Bool
is_askable (event.Connect o peer partner terms) = false
is_askable (event.MakeRegion o domain base count rights) = is_region base count rights.0
is_askable (event.MakeCq o capacity) = nat_le 1 capacity && nat_le capacity most_capacity
is_askable (event.MakeQp o domain send_cq recv_cq send_depth recv_depth) = is_depth send_depth && is_depth recv_depth
is_askable (event.Store region address bytes) = are_bytes bytes
is_askable (event.PostSend o r) = is_request_in_range r
is_askable other = true

-- it decides the proposition
abbrev pub AskableIsTested : Type 0
AskableIsTested = (e : Event) → Decides (is_askable e) (IsAskable e)

-- ---- requests that a device takes

-- what a kind does not use is 0 or None, and an atomic has length 8
abbrev pub is_lawful_shape : Shape → Bool
is_lawful_shape s =
    (not (is_atomic s.kind) || s.length == 8)
    && ((takes_bytes s.kind || is_none s.imm)
    && ((has_remote s.kind || (s.remote == 0 && s.rkey == 0))
    && ((is_atomic s.kind || s.swap_add == 0)
    && (is_swap s.kind || s.compare == 0))))

-- the event posts no request of another shape
abbrev pub is_lawfully_posted : Event → Bool
is_lawfully_posted (event.PostSend o r) = is_lawful_shape r.shape
is_lawfully_posted other = true
