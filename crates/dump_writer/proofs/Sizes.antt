-- The dump of an image that keeps the rules is not long.
use Rattle.std.proofs.Common.{◌≡◌, ℕ, ◌*◌, ◌<◌, ◌≤◌, ◌^◌, Bool, true, false, Option, Some, None, List, [], ◌∷◌, length, get_or, subst, sym, arith, length-append}
use Rattle.std.specs.Prelude.{All, flat_map, map, if◌then◌else◌}
use Rattle.std.proofs.lemmas.Bool.Decides.{nat_tests}
use Rattle.std.proofs.lemmas.List.{length-map, get_or-map}
use Rattle.std.proofs.lemmas.List.Concat.{length-flat_map}
use Rattle.std.proofs.lemmas.List.Sums.{sum_by-le}
use Rattle.rdma_types.specs.declared.names.Name.{Name}
use Rattle.rdma_types.specs.declared.requests.Completion.{Completion}
use Rattle.rdma_types.specs.declared.requests.Receive.{Receive}
use Rattle.rdma_types.specs.Kinds.{takes_bytes}
use Rattle.rdma_types.specs.Spelled.{is_name}
use Rattle.protocol.specs.declared.images.ContextImage.{ContextImage}
use Rattle.protocol.specs.declared.images.CqImage.{CqImage}
use Rattle.protocol.specs.declared.images.EndImage.{EndImage}
use Rattle.protocol.specs.declared.images.KeptReply.{KeptReply}
use Rattle.protocol.specs.declared.images.LinkImage.{LinkImage}
use Rattle.protocol.specs.declared.images.PostedImage.{PostedImage}
use Rattle.protocol.specs.declared.images.Progress.{Progress}
use Rattle.protocol.specs.declared.images.Progress.TheVariants as progress
use Rattle.protocol.specs.declared.images.RegionImage.{RegionImage}
use Rattle.protocol.specs.Bytes.{big_bytes}
use Rattle.protocol.specs.Dumps.{dump_bytes, text, region_bytes, queue_bytes, entry_bytes, end_bytes, linked_bytes, kept_bytes, progress_bytes, request_bytes, receive_bytes}
use Rattle.protocol.specs.Lawful.{AreNames, IsLawful, IsLawfulEnd, IsLawfulQueue, IsLawfulRegion, IsLawfulRequest, IsLawfulState}

-- items that have so many bytes at most
items_small : {X : Type 0} (spell : X → List ℕ) (most : ℕ) (xs : List X) → All (λ x. length (spell x) ≤ most) xs → length (flat_map spell xs) ≤ length xs * most
items_small spell most xs each = subst (λ (n : ℕ). n ≤ length xs * most) (sym (length-flat_map spell xs)) (sum_by-le (λ x. length (spell x)) most xs each)

name_small : (n : Name) → is_name n ≡ true → length n ≤ 16
name_small [] h = omega arith
name_small (b ∷ bs) h = grind (arith, nat_tests)

-- the names of things
names_small : {X : Type 0} (name : X → Name) (most : ℕ) (xs : List X) → AreNames (map name xs) most → All (λ x. length (name x) ≤ 16) xs
names_small name most xs h k d l =
    let spelled : is_name (name (get_or xs k d)) ≡ true = subst (λ (n : Name). is_name n ≡ true) (get_or-map name xs k d (name d) l) (h.spelled k (name d) (omega (arith, length-map xs name))) in
    name_small (name (get_or xs k d)) spelled

few_of : {X : Type 0} (name : X → Name) (most : ℕ) (xs : List X) → AreNames (map name xs) most → length xs ≤ most
few_of name most xs h = omega (arith, length-map xs name, h.few)

region_small : (domains : ℕ) (r : RegionImage) → length r.name ≤ 16 → IsLawfulRegion domains r → length (region_bytes r) ≤ 16777300
unfolding big_bytes
region_small domains r name h = simp length-append (omega (arith, h.whole, h.few_bytes))

entry_small : (w : Completion) → length (entry_bytes w) ≤ 23
unfolding big_bytes
entry_small w = omega arith

queue_small : (c : ContextImage) (q : CqImage) → length q.name ≤ 16 → IsLawfulQueue c q → length (queue_bytes q) ≤ 400000
unfolding big_bytes
queue_small c q name h =
    let entries = items_small entry_bytes 23 q.entries (λ k d l. entry_small (get_or q.entries k d)) in
    simp length-append (omega (arith, entries, h.fits, h.little_room))

receive_small : (r : Receive) → length (receive_bytes r) ≤ 24
unfolding big_bytes
receive_small r = omega arith

kept_small : (k : KeptReply) → length (kept_bytes k) ≤ 16
unfolding big_bytes
kept_small k = omega arith

progress_small : (p : Progress) → length (progress_bytes p) ≤ 29
unfolding big_bytes
progress_small progress.Idle = omega arith
progress_small (progress.Send done receive) = omega arith
progress_small (progress.Write region off length' done) = omega arith

-- what a connected end has
linked_small : (c : ContextImage) (e : EndImage) (o : Option LinkImage) → IsLawfulState c e o → length (linked_bytes o) ≤ 500
unfolding big_bytes
linked_small c e None h = omega arith
linked_small c e (Some l) h =
    let kept = items_small kept_bytes 16 l.kept (λ k d i. kept_small (get_or l.kept k d)) in
    simp length-append (omega (arith, kept, progress_small l.progress, h.few_kept))

no_more : (b : Bool) (n : ℕ) → (if b then n else 0) ≤ n
no_more true n = omega arith
no_more false n = omega arith

request_small : (c : ContextImage) (domain : ℕ) (p : PostedImage) → IsLawfulRequest c domain p → length (request_bytes p) ≤ 1048700
unfolding big_bytes
request_small c domain p h = simp length-append (omega (arith, h.payload, h.length', no_more (takes_bytes p.request.shape.kind) p.request.shape.length))

end_small : (c : ContextImage) (e : EndImage) → length e.name ≤ 16 → IsLawfulEnd c e → length (end_bytes e) ≤ 300000000
unfolding big_bytes
end_small c e name h =
    let requests = items_small request_bytes 1048700 e.untold (λ k d l. request_small c e.domain (get_or e.untold k d) (h.requests k d l)) in
    let receives = items_small receive_bytes 24 e.unused (λ k d l. receive_small (get_or e.unused k d)) in
    simp length-append (omega (arith, requests, receives, linked_small c e e.linked h.state, h.untold_fit, h.few_sends, h.unused_fit, h.few_receives))

-- its length is a number of 64 bits
pub dump_small : (c : ContextImage) → IsLawful c → length (dump_bytes 2 c) < 2 ^ 64
unfolding dump_bytes big_bytes
dump_small c h =
    let domains = items_small text 17 c.domains (λ k d l. let name = name_small (get_or c.domains k d) (h.domains.spelled k d l) in omega arith) in
    let region = names_small (λ (r : RegionImage). r.name) 256 c.regions h.region_names in
    let regions = items_small region_bytes 16777300 c.regions (λ k d l. region_small (length c.domains) (get_or c.regions k d) (region k d l) (h.regions k d l)) in
    let queue = names_small (λ (q : CqImage). q.name) 64 c.queues h.queue_names in
    let queues = items_small queue_bytes 400000 c.queues (λ k d l. queue_small c (get_or c.queues k d) (queue k d l) (h.queues k d l)) in
    let an_end = names_small (λ (e : EndImage). e.name) 64 c.ends h.end_names in
    let ends = items_small end_bytes 300000000 c.ends (λ k d l. end_small c (get_or c.ends k d) (an_end k d l) (h.ends k d l)) in
    let some_regions = few_of (λ (r : RegionImage). r.name) 256 c.regions h.region_names in
    let some_queues = few_of (λ (q : CqImage). q.name) 64 c.queues h.queue_names in
    let some_ends = few_of (λ (e : EndImage). e.name) 64 c.ends h.end_names in
    simp length-append (omega (arith, domains, regions, queues, ends, name_small c.name h.name, h.domains.few, some_regions, some_queues, some_ends))
