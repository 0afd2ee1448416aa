-- What bytes that arrive may change on a device, whatever they are and wherever they come from: named bytes of memory, by
-- what stood there before, and nothing else that has a name, a number, a key or a right (IBA 10.6; what is safe is this
-- project's choice).
use Rattle.std.specs.Prelude.{ℕ, ◌≡◌, ◌≢◌, ◌+◌, ◌==◌, ◌&&◌, Bool, false, List, [], ◌∷◌, map, AllPairs, Option, Some, None, bytes_eq, slice_get, if◌then◌else◌}
use Rattle.rdma_types.specs.declared.names.Name.{Name}
use Rattle.rdma_types.specs.Kinds.{lands}
use Rattle.rdma_types.specs.Lists.{some}
use Rattle.rdma_types.specs.Objects.{CompletionQueue, Posted, Region, no_address}
use Rattle.protocol.specs.DeviceStep.{Found, found_in}
use Rattle.protocol.specs.Memory.{region_of_key}
use Rattle.protocol.specs.State.{Context, Device, End, Link, context_at, fresh_link}
use Rattle.protocol.specs.Wire.{Packet, is_request, packet_of}
use Rattle.protocol.specs.Changes.{is_among, may_change}
use Rattle.law_devices.specs.Sound.{plans}

-- ---- bytes that may change

-- a byte of the local place of a Read or atomic
abbrev pub is_landing_byte : Region → ℕ → Posted → Bool
is_landing_byte r k p = lands p.request.shape.kind && ((r.keys.local == p.request.lkey) && is_among p.request.local p.request.shape.length (r.base + k))

-- at a connected end: a request may change what is granted to it, the message in progress and a receive (`may_change`);
-- another packet may change the local places of untold Reads and atomics
abbrev pub may_touch : End → Link → Packet → Region → ℕ → Bool
may_touch e l d r k = if is_request d.opcode then may_change e.domain l.receiver e.unused d r k else some (is_landing_byte r k) l.sender.untold

-- the first of these ends is in that context, and the byte at offset k of the region with that local key may change there
abbrev pub is_touched_at : List Found → Packet → Name → ℕ → ℕ → Bool
is_touched_at [] d name lkey k = false
is_touched_at (f ∷ fs) d name lkey k = bytes_eq f.context.name name && may_touch f.end f.link d (region_of_key f.context lkey) k

-- bytes that are no datagram touch nothing, and neither does a datagram to a husk or to nobody
abbrev pub is_touched_by : Device → Option Packet → Name → ℕ → ℕ → Bool
is_touched_by d None name lkey k = false
is_touched_by d (Some p) name lkey k = is_touched_at (found_in p.dest d.contexts) p name lkey k

-- these bytes, where they arrive, may change the byte at offset k of the region with that local key in that context
unfoldable pub is_touched : Device → List ℕ → Name → ℕ → ℕ → Bool
is_touched d bytes name lkey k = is_touched_by d (packet_of bytes) name lkey k

-- ---- what stays

-- the byte at offset k of the region with that local key in that context, if there is one
abbrev pub byte_of : Device → Name → ℕ → ℕ → Option ℕ
byte_of d name lkey k = slice_get (region_of_key (context_at d name) lkey).bytes k

-- whom a queue pair is connected to, and the terms
abbrev pub connection_of : Option Link → Option Link
connection_of None = None
connection_of (Some l) = Some (fresh_link l.peer no_address l.terms)

-- a queue pair without its receives, and with no more of its link than that
abbrev pub end_frame : End → End
end_frame e = record e { unused = []; link = connection_of e.link }

-- a completion queue without its completions
abbrev pub queue_frame : CompletionQueue → CompletionQueue
queue_frame q = record q { entries = [] }

-- a context without the bytes of its regions, and without completions and work: names, domains, keys, rights, numbers
unfoldable pub frame : Context → Context
frame c = record { name = c.name; domains = c.domains; regions = plans c.regions; queues = map queue_frame c.queues; ends = map end_frame c.ends }

-- of all bytes of all regions of all contexts those alone may differ that are touched; contexts, regions, keys, rights,
-- queue pairs, whom they are connected to, husks and numbers are as they were
pub record ChangesOnly (touched : Name → ℕ → ℕ → Bool) (old new : Device) : Type 0 where
  pub bytes : (name : Name) (lkey k : ℕ) → touched name lkey k ≡ false → byte_of new name lkey k ≡ byte_of old name lkey k
  pub frames : map frame new.contexts ≡ map frame old.contexts
  pub husks : new.husks ≡ old.husks
  pub id : new.id ≡ old.id
  pub address : new.address ≡ old.address
  pub qp_count : new.qp_count ≡ old.qp_count
  pub key_count : new.key_count ≡ old.key_count

-- no two contexts have the same name
abbrev pub HasDistinctContexts : Device → Type 0
HasDistinctContexts d = AllPairs (λ a b. a ≢ b) (map (λ c. c.name) d.contexts)
