-- What is still read of a dump at each place between two groups of fields, with what was read so far.
use Rattle.std.specs.Prelude.{ℕ, zero, suc, ◌+◌, ◌-◌, Bool, false, ◌==◌, ◌||◌, not, List, [], ◌∷◌, ◌++◌, length, map, Option, Some, None, ⊤, if◌then◌else◌}
use Rattle.rdma_types.specs.declared.names.Name.{Name}
use Rattle.rdma_types.specs.declared.requests.Completion.{Completion}
use Rattle.rdma_types.specs.declared.requests.Receive.{Receive}
use Rattle.rdma_types.specs.declared.requests.Request.{Request}
use Rattle.rdma_types.specs.Kinds.{lands}
use Rattle.rdma_types.specs.Limits.{most_domains, most_ends, most_queues, most_regions}
use Rattle.rdma_types.specs.Objects.{Region}
use Rattle.protocol.specs.declared.dumps.DumpWhy.TheVariants as dump_why
use Rattle.protocol.specs.declared.images.ContextImage.{ContextImage}
use Rattle.protocol.specs.declared.images.EndImage.{EndImage}
use Rattle.protocol.specs.declared.images.KeptReply.{KeptReply}
use Rattle.protocol.specs.declared.images.LinkImage.{LinkImage}
use Rattle.protocol.specs.declared.images.PostedImage.{PostedImage}
use Rattle.protocol.specs.declared.images.RegionImage.{RegionImage}
use Rattle.protocol.specs.Images.{name_at}
use Rattle.protocol.specs.Dumps.{Reader, ReadQueue, then_read, gives, raw, items, count_field, count_by, name_field, number_by, region_field, queue_field, entry_field, end_field, link_field, kept_field, receive_field, state_field, is_untold_count, untold_items, is_ended, no_overfull, overfull, at_end, is_magic, shape_of_length}
use Rattle.dump_reader.specs.declared.heads.EndImageHead.{EndImageHead}
use Rattle.dump_reader.specs.declared.heads.LinkImageHead.{LinkImageHead}
use Rattle.dump_reader.specs.declared.heads.QueueHead.{QueueHead}
use Rattle.dump_reader.specs.declared.heads.DumpHead.{DumpHead}
use Rattle.dump_reader.specs.declared.heads.EarlierRequests.{EarlierRequests}
use Rattle.dump_reader.specs.declared.lists.Lists.{Lists}
use Rattle.dump_reader.specs.declared.lists.ReadState.{ReadState}
use Rattle.dump_reader.specs.declared.lists.ReadState.TheVariants as place
use Rattle.dump_reader.specs.Groups.{placed, region_of_head, queue_of_head, end_of_head, link_of_head, request_head_field, request_places_field, payload_length, regions_of}

-- the first fields, up to the count of domains
unfoldable pub opening_field : Reader DumpHead
opening_field =
    then_read (then_read (raw 8) is_magic) λ same.
    then_read (number_by dump_why.Version 2 λ n. n == 1 || n == 2) λ version.
    then_read (name_field []) λ name.
    then_read (count_field 2 most_domains) λ count.
    gives (record { version = version; name = name; count = count })

-- ---- what follows each list

-- the image of what was read
abbrev pub image_of : DumpHead → List Name → List RegionImage → List ReadQueue → List EndImage → ContextImage
image_of o ds rs qs es = record { name = o.name; domains = ds; regions = rs; queues = map (λ q. q.queue) qs; ends = es }

-- the capacity rule, and the end of the bytes
unfoldable pub finished : DumpHead → List Name → List RegionImage → List ReadQueue → List EndImage → Reader ContextImage
finished o ds rs qs es = then_read (no_overfull (overfull (image_of o ds rs qs es) qs) (image_of o ds rs qs es)) at_end

-- the queue pairs
abbrev pub ends_of : DumpHead → List Name → List RegionImage → List ReadQueue → List EndImage → Reader EndImage
ends_of o ds rs qs = end_field o.version ds (regions_of ds rs) (length qs)

-- so many more queue pairs
unfoldable pub more_ends : DumpHead → List Name → List RegionImage → List ReadQueue → ℕ → List EndImage → Reader ContextImage
more_ends o ds rs qs n es = then_read (items n (ends_of o ds rs qs) es) (finished o ds rs qs)

-- so many more completion queues
unfoldable pub more_queues : DumpHead → List Name → List RegionImage → ℕ → List ReadQueue → Reader ContextImage
more_queues o ds rs n qs = then_read (items n queue_field qs) λ qs'. then_read (count_field 2 most_ends) λ k. more_ends o ds rs qs' k []

-- so many more entries of a queue, and what follows it
unfoldable pub more_entries : DumpHead → List Name → List RegionImage → List ReadQueue → ℕ → QueueHead → ℕ → List Completion → Reader ContextImage
more_entries o ds rs qs n h k entries = then_read (items k entry_field entries) λ entries'. more_queues o ds rs n (qs ++ queue_of_head h entries' ∷ [])

-- so many more regions
unfoldable pub more_regions : DumpHead → List Name → ℕ → List RegionImage → Reader ContextImage
more_regions o ds n rs = then_read (items n (region_field (length ds)) rs) λ rs'. then_read (count_field 2 most_queues) λ k. more_queues o ds rs' k []

-- so many more domains
unfoldable pub more_domains : DumpHead → ℕ → List Name → Reader ContextImage
more_domains o n ds = then_read (items n name_field ds) λ ds'. then_read (count_field 2 most_regions) λ k. more_regions o ds' k []

-- ---- inside a queue pair

-- what stands before the request after one
abbrev pub passed : LinkImage → EarlierRequests → Request → EarlierRequests
passed l s r = record s { low = s.low + shape_of_length r.shape.kind r.shape.length l.terms.mtu; landing = s.landing || lands r.shape.kind }

-- nothing stands before the first of so many
abbrev pub first_of : LinkImage → ℕ → EarlierRequests
first_of l k = record { count = k; low = l.first; landing = false }

-- so many more untold requests
unfoldable pub more_requests : ℕ → List Region → Name → LinkImage → ℕ → EarlierRequests → List PostedImage → Reader (List PostedImage)
more_requests version regions domain l zero s ps = gives ps
more_requests version regions domain l (suc n) s ps =
    then_read (request_head_field version l s.count (s.count - suc n) s.low s.landing) λ h.
    then_read (request_places_field regions domain h) λ r.
    then_read (raw (payload_length r)) λ payload.
    more_requests version regions domain l n (passed l s r) (ps ++ record { request = r; payload = payload } ∷ [])

-- the rest of a queue pair, and what follows it
abbrev pub next_ends : DumpHead → List Name → List RegionImage → List ReadQueue → List EndImage → ℕ → EndImage → Reader ContextImage
next_ends o ds rs qs es n e = more_ends o ds rs qs n (es ++ e ∷ [])

-- so many more unused receives of a queue pair
unfoldable pub more_receives : DumpHead → List Name → List RegionImage → List ReadQueue → List EndImage → ℕ → EndImageHead → Option LinkImage → List PostedImage → ℕ → List Receive → Reader ContextImage
more_receives o ds rs qs es n h linked untold k unused =
    then_read (items k (λ xs. receive_field (regions_of ds rs) (name_at ds h.domain) 0) unused) λ unused'.
    next_ends o ds rs qs es n (end_of_head h linked untold unused')

-- the count of unused receives, and what follows it
unfoldable pub unused_list : DumpHead → List Name → List RegionImage → List ReadQueue → List EndImage → ℕ → EndImageHead → Option LinkImage → List PostedImage → Reader ContextImage
unused_list o ds rs qs es n h linked untold =
    then_read (count_by 2 h.recv_depth λ i. i == 0 || not (is_ended linked)) λ k.
    more_receives o ds rs qs es n h linked untold k []

-- so many more untold requests of a queue pair
unfoldable pub more_untold : DumpHead → List Name → List RegionImage → List ReadQueue → List EndImage → ℕ → EndImageHead → LinkImage → EarlierRequests → ℕ → List PostedImage → Reader ContextImage
more_untold o ds rs qs es n h l s k untold =
    then_read (more_requests o.version (regions_of ds rs) (name_at ds h.domain) l k s untold) λ untold'.
    unused_list o ds rs qs es n h (Some l) untold'

-- the count of untold requests, and what follows it
unfoldable pub untold_list : DumpHead → List Name → List RegionImage → List ReadQueue → List EndImage → ℕ → EndImageHead → Option LinkImage → Reader ContextImage
untold_list o ds rs qs es n h linked =
    then_read (count_by 2 h.send_depth (is_untold_count linked)) λ k.
    then_read (untold_items o.version (regions_of ds rs) (name_at ds h.domain) linked k) λ untold.
    unused_list o ds rs qs es n h linked untold

-- so many more kept replies of a queue pair
unfoldable pub more_kept : DumpHead → List Name → List RegionImage → List ReadQueue → List EndImage → ℕ → EndImageHead → LinkImageHead → ℕ → List KeptReply → Reader ContextImage
more_kept o ds rs qs es n h l k kept =
    then_read (items k (kept_field l.waiting.expected) kept) λ kept'.
    untold_list o ds rs qs es n h (Some (link_of_head l kept'))

-- what a connected end has, and what follows it
unfoldable pub linked_list : DumpHead → List Name → List RegionImage → List ReadQueue → List EndImage → ℕ → EndImageHead → Reader ContextImage
linked_list o ds rs qs es n h =
    then_read (link_field (regions_of ds rs) (name_at ds h.domain) (h.state == 2)) λ l.
    untold_list o ds rs qs es n h (Some l)

-- a queue pair from its state on
unfoldable pub end_rest : ℕ → List Name → List Region → EndImageHead → Reader EndImage
end_rest version ds regions h =
    then_read (state_field regions (name_at ds h.domain) h.state) λ linked.
    then_read (count_by 2 h.send_depth (is_untold_count linked)) λ untold_count.
    then_read (untold_items version regions (name_at ds h.domain) linked untold_count) λ untold.
    then_read (count_by 2 h.recv_depth λ i. i == 0 || not (is_ended linked)) λ unused_count.
    then_read (items unused_count (λ xs. receive_field regions (name_at ds h.domain) 0) []) λ unused.
    gives (end_of_head h linked untold unused)

-- ---- places

-- the queues with the places of their capacities
abbrev pub queues_of : Lists → List ReadQueue
queues_of s = map placed s.queues.items

-- what a queue pair has of its link
abbrev pub linked_of : Option LinkImageHead → List KeptReply → Option LinkImage
linked_of None kept = None
linked_of (Some l) kept = Some (link_of_head l kept)

-- what is still read at a place
unfoldable pub ahead : DumpHead → Lists → ReadState → Reader ContextImage
ahead o s (place.Domain m) = more_domains o (suc m) s.domains.items
ahead o s place.RegionCount = then_read (count_field 2 most_regions) λ k. more_regions o s.domains.items k []
ahead o s (place.Region m) = more_regions o s.domains.items (suc m) s.regions.items
ahead o s (place.Bytes h missing n) =
    then_read (raw missing) λ more. more_regions o s.domains.items n (s.regions.items ++ region_of_head h (s.run ++ more) ∷ [])
ahead o s place.QueueCount = then_read (count_field 2 most_queues) λ k. more_queues o s.domains.items s.regions.items k []
ahead o s (place.Queue m) = more_queues o s.domains.items s.regions.items (suc m) (queues_of s)
ahead o s (place.Entry h m n) = more_entries o s.domains.items s.regions.items (queues_of s) n h (suc m) s.entries.items
ahead o s place.EndCount = then_read (count_field 2 most_ends) λ k. more_ends o s.domains.items s.regions.items (queues_of s) k []
ahead o s (place.End m) = more_ends o s.domains.items s.regions.items (queues_of s) (suc m) s.ends.items
ahead o s (place.Link h n) = linked_list o s.domains.items s.regions.items (queues_of s) s.ends.items n h
ahead o s (place.Kept h l m n) = more_kept o s.domains.items s.regions.items (queues_of s) s.ends.items n h l (suc m) s.kept.items
ahead o s (place.Untold h l n) = untold_list o s.domains.items s.regions.items (queues_of s) s.ends.items n h (linked_of l s.kept.items)
ahead o s (place.Request h l before m n) =
    more_untold o s.domains.items s.regions.items (queues_of s) s.ends.items n h (link_of_head l s.kept.items) before (suc m) s.untold.items
ahead o s (place.Payload h l before k n r missing) =
    then_read (raw missing) λ more.
    more_untold o s.domains.items s.regions.items (queues_of s) s.ends.items n h (link_of_head l s.kept.items) before k (s.untold.items ++ record { request = r; payload = s.run ++ more } ∷ [])
ahead o s (place.Unused h l n) = unused_list o s.domains.items s.regions.items (queues_of s) s.ends.items n h (linked_of l s.kept.items) s.untold.items
ahead o s (place.Receive h l m n) =
    more_receives o s.domains.items s.regions.items (queues_of s) s.ends.items n h (linked_of l s.kept.items) s.untold.items (suc m) s.unused.items
ahead o s place.Done = at_end (image_of o s.domains.items s.regions.items (queues_of s) s.ends.items)

-- what follows the head of a queue pair
abbrev pub after_head : DumpHead → List Name → List RegionImage → List ReadQueue → List EndImage → ℕ → EndImageHead → Reader ContextImage
after_head o ds rs qs es n h = if h.state == 0 then untold_list o ds rs qs es n h None else linked_list o ds rs qs es n h

-- what follows the count of untold requests
abbrev pub after_count : DumpHead → List Name → List RegionImage → List ReadQueue → List EndImage → ℕ → EndImageHead → Option LinkImage → ℕ → Reader ContextImage
after_count o ds rs qs es n h None k = unused_list o ds rs qs es n h None []
after_count o ds rs qs es n h (Some l) k = more_untold o ds rs qs es n h l (first_of l k) k []

-- counts of untold requests that the link allows
abbrev pub may_be_untold : Option LinkImageHead → ℕ → Bool
may_be_untold None n = n == 0
may_be_untold (Some l) n = if n == 0 then l.numbers.top == l.numbers.first else not l.ended

-- counts of unused receives that the link allows
abbrev pub may_be_unused : Option LinkImageHead → ℕ → Bool
may_be_unused None n = n == 0 || not false
may_be_unused (Some l) n = n == 0 || not l.ended

-- 1 where bytes are read that may be none
abbrev pub weight : ReadState → ℕ
weight (place.Bytes h missing n) = 1
weight (place.Payload h l before k n r missing) = 1
weight _ = 0

-- some fields are still to come
abbrev pub IsOpen : ReadState → Type 0
IsOpen place.Done = ⊥
IsOpen _ = ⊤
