-- Regions whose bytes change.
use Rattle.std.proofs.Common.{◌≡◌, ◌≢◌, ℕ, ◌+◌, ◌-◌, ◌≤◌, true, false, List, [], ◌∷◌, ◌++◌, length, refl, ap, sym, ◌∙◌, subst, arith, inl, take, drop}
use Rattle.std.specs.Prelude.{IsSomeAnd, All, map, nat_eq}
use Rattle.std.specs.List.{AllByRecursion}
use Rattle.std.proofs.lemmas.List.{drop-take, take-take}
use Rattle.std.specs.Prelude.{option_map, unwrap_or}
use Rattle.rdma_types.specs.Memory.{cut}
use Rattle.page_pool.specs.Pool.{bytes_in}
use Rattle.memory_keys.specs.Regions.{spot_bytes}
use Rattle.protocol.specs.Memory.{loaded}
use Rattle.std.proofs.lemmas.List.Elements.{All-from_recursion, recursion_from_All}
use Rattle.rdma_types.specs.declared.answers.Answer.TheVariants as answer
use Rattle.rdma_types.specs.declared.names.Name.{Name}
use Rattle.rdma_types.specs.Lists.{at, has, named}
use Rattle.rdma_types.specs.Memory.{local_key}
use Rattle.rdma_types.specs.Objects.{Region, no_region}
use Rattle.page_pool.specs.Pool.{Pool, free_pages}
use Rattle.memory_keys.specs.declared.RegisteredRegion.{RegisteredRegion}
use Rattle.memory_keys.specs.declared.RegionRange.{RegionRange}
use Rattle.memory_keys.specs.Regions.{AreHeld, IsSpot, KeepsOthers, held_at, region_of, regions_of, stored_at}
use Rattle.memory_keys.proofs.Protocol.{distinct-keys, found-has, found-region, written-some}
use Rattle.end_queues.specs.declared.work_queues.posted.QueuedRequest.{QueuedRequest}
use Rattle.protocol.specs.DeviceStep.{answers, stores, with_context}
use Rattle.protocol.specs.Memory.{pages_of_context, region_of_key, stored, with_region}
use Rattle.protocol.specs.State.{Context, Device, End, region_at}
use Rattle.endpoint_core.specs.Queues.{nothing}
use Rattle.endpoint_core.specs.Sound.{IsEnd, IsPosted}
use Rattle.context_core.specs.declared.state.EndSlot.{EndSlot}
use Rattle.context_core.specs.Context.{Holding, IsContext, IsPaged, Moves, context_in, lists_of, payloads_of, untold_at}
use Rattle.context_core.specs.Ranges.{IsRange}
use Rattle.context_core.proofs.DisjointLists.{Lacks, each-front, each-unmap, lacks-all, lacks-not}
use Rattle.context_core.proofs.ContextPages.{end_pages-same, pages-are, region_pages}
use Rattle.context_core.proofs.SamePayloads.{AreSame}
use Rattle.context_core.proofs.EndSteps.{EndsSame, each-posted, ends-paged, ends-sound, shown-same}

-- ---- the range of a region

range-region : (pool : Pool) (list : List RegisteredRegion) (c : Context) (name : Name) (from count : ℕ) (spot : RegionRange) → c.regions ≡ regions_of pool list → (r : IsRange list name from count spot) → region_at c name ≡ region_of pool r.named.held
range-region pool list c name from count spot e r = ap (named (λ x. x.name) no_region name) e ∙ r.named.region pool

key-region : (pool : Pool) (list : List RegisteredRegion) (c : Context) (name : Name) (from count : ℕ) (spot : RegionRange) → c.regions ≡ regions_of pool list → (r : IsRange list name from count spot) → region_of_key c spot.region ≡ region_of pool r.named.held
unfolding region_of_key
key-region pool list c name from count spot e r = ap (λ k. at local_key no_region k c.regions) r.region ∙ (ap (at local_key no_region r.head.keys.local) e ∙ found-region pool r.head.keys.local list r.named.held r.named.found)

pub range-spot : (list : List RegisteredRegion) (name : Name) (from count : ℕ) (spot : RegionRange) → IsRange list name from count spot → IsSpot list spot
range-spot list name from count spot r some = subst (λ o. IsSomeAnd o (λ h. spot.off + spot.length ≤ h.head.length)) (sym (ap (λ k. held_at k list) r.region ∙ r.named.found)) inside
  where
    inside : spot.off + spot.length ≤ r.named.held.head.length
    inside =
        let head : r.named.held.head.length ≡ r.head.length = ap (λ h. h.length) r.named.head_is in
        omega (arith, r.low, r.high, r.off, r.length, head)

pub store-is : (pool : Pool) (list : List RegisteredRegion) (c : Context) (name : Name) (from count : ℕ) (spot : RegionRange) (new : List ℕ) → c.regions ≡ regions_of pool list → IsRange list name from count spot
    → with_region c (stored (region_at c name) (from - (region_at c name).base) new) ≡ record c { regions = stored_at spot new c.regions }
store-is pool list c name from count spot new e r =
    let region : region_at c name ≡ region_of_key c spot.region = range-region pool list c name from count spot e r ∙ sym (key-region pool list c name from count spot e r) in
    let base : (region_at c name).base ≡ r.head.base = ap (λ x. x.base) (range-region pool list c name from count spot e r) ∙ ap (λ h. h.base) r.named.head_is in
    let off : from - (region_at c name).base ≡ spot.off = ap (λ b. from - b) base ∙ sym r.off in
    let there : has local_key spot.region (regions_of pool list) ≡ true = ap (λ k. has local_key k (regions_of pool list)) r.region ∙ found-has pool r.head.keys.local list r.named.held r.named.found in
    ap (λ o. with_region c (stored (region_at c name) o new)) off
    ∙ (ap (λ x. with_region c (stored x spot.off new)) region
    ∙ written-some c (regions_of pool list) spot new e (distinct-keys pool list r.keyed) there)

-- ---- a change of the regions' bytes alone

kept-posted : (a b : Pool) (held : List RegisteredRegion) (domain : Name) → KeepsOthers a b held → (ps : List QueuedRequest) → AllByRecursion (IsPosted a held domain) ps → AreSame a b ps
kept-posted a b held domain k [] h = tt
kept-posted a b held domain k (p ∷ ps) h = (k.others p.payload.list h.0.payload.holds.lives h.0.payload.apart, kept-posted a b held domain k ps h.1)

pub kept-payloads : (a b : Pool) (held : List RegisteredRegion) → KeepsOthers a b held → (es : List (Name × EndSlot)) → AllByRecursion (λ e. IsEnd a held e.1.endpoint) es → EndsSame a b es
kept-payloads a b held k [] h = tt
kept-payloads a b held k (e ∷ es) h = (kept-posted a b held e.1.endpoint.domain k (untold_at e) (each-posted a held e.1.endpoint e.1.endpoint.link h.0.state), kept-payloads a b held k es h.1)

pub region-front : (h : Holding) (list : ℕ) → Lacks (lists_of h) list → Lacks (map (λ r. r.list) h.regions) list
unfolding lists_of
region-front h list l = each-front (λ y. nat_eq list y ≡ false) (map (λ r. r.list) h.regions) (payloads_of h.ends) l

-- what is left
pub record Changes (a b : Pool) (h : Holding) : Type 0 where
  pub is : IsContext b h
  pub moves : Moves a b h h
  pub shown : (n : Name) → context_in b n h ≡ record (context_in a n h) { regions = regions_of b h.regions }

pub changes : (a b : Pool) (h : Holding) → IsContext a h → KeepsOthers a b h.regions → AreHeld b h.regions → free_pages b ≡ free_pages a → Changes a b h
unfolding context_in
changes a b h is k held free =
    let same = kept-payloads a b h.regions k h.ends (recursion_from_All (λ e. IsEnd a h.regions e.1.endpoint) h.ends is.is.ends) in
    let new : IsContext b h = record {
      is = record {
        held = held;
        keyed = is.is.keyed;
        ends = All-from_recursion (λ e. IsEnd b h.regions e.1.endpoint) h.ends (ends-sound a b h.regions h.ends same (recursion_from_All (λ e. IsEnd a h.regions e.1.endpoint) h.ends is.is.ends));
        placed = is.is.placed;
        apart = is.is.apart;
        paged = All-from_recursion (λ e. All (IsPaged b h.regions) (untold_at e)) h.ends (ends-paged a b h.regions h.ends same (recursion_from_All (λ e. All (IsPaged a h.regions) (untold_at e)) h.ends is.is.paged));
        reserved = is.is.reserved;
        queue_names = is.is.queue_names;
        end_names = is.is.end_names;
        few_queues = is.is.few_queues;
      };
    } in
    record {
      is = new;
      moves = record {
        pages = k.pages;
        others = λ list live not. k.others list live (heads list (lacks-all list (map (λ r. r.list) h.regions) (front list (lacks-not list (lists_of h) not))));
        fresh = λ list c. inl c;
        free = λ n. ap (λ f. f + pages_of_context (context_in b n h)) free ∙ ap (λ p. free_pages a + p) (pages-are b h nothing n new.is ∙ (ap (λ p. region_pages h.regions + p) (end_pages-same a b h.ends same) ∙ sym (pages-are a h nothing n is.is)));
      };
      shown = λ n. ap {A = List End} (λ es. record (context_in a n h) { regions = regions_of b h.regions; ends = es }) (shown-same a b h.queues h.queues refl h.ends same);
    }
  where
    front : (list : ℕ) → Lacks (lists_of h) list → Lacks (map (λ r. r.list) h.regions) list
    front list l = region-front h list l

    heads : (list : ℕ) → All (λ y. y ≢ list) (map (λ r. r.list) h.regions) → All (λ r. r.list ≢ list) h.regions
    heads list all = All-from_recursion (λ r. r.list ≢ list) h.regions (each-unmap (λ y. y ≢ list) (λ r. r.list) h.regions (recursion_from_All (λ y. y ≢ list) (map (λ r. r.list) h.regions) all))

-- the rule of a store
pub stores-is : (a b : Pool) (n : Name) (d : Device) (h : Holding) (name : Name) (from : ℕ) (spot : RegionRange) (new : List ℕ) → Changes a b h → IsRange h.regions name from (length new) spot → regions_of b h.regions ≡ stored_at spot new (regions_of a h.regions)
    → stores d (context_in a n h) (region_at (context_in a n h) name) from new ≡ answers (with_context d (context_in b n h)) answer.Done
unfolding stores context_in
stores-is a b n d h name from spot new ch r e =
    ap (λ c. answers (with_context d c) answer.Done) (store-is a h.regions (context_in a n h) name from (length new) spot new refl r ∙ (ap {A = List Region} (λ rs. record (context_in a n h) { regions = rs }) (sym e) ∙ sym (ch.shown n)))

-- ---- loading

cut-take : (bs : List ℕ) (off count n : ℕ) → off + count ≤ n → take count (drop off (take n bs)) ≡ take count (drop off bs)
cut-take bs off count n l =
    let split : n ≡ off + (n - off) = omega arith in
    ap (λ k. take count (drop off (take k bs))) split
    ∙ (ap (take count) (drop-take off (n - off) bs) ∙ take-take count (n - off) (drop off bs) (omega arith))

pub loads-is : (pool : Pool) (list : List RegisteredRegion) (c : Context) (name : Name) (from count : ℕ) (spot : RegionRange) → c.regions ≡ regions_of pool list → IsRange list name from count spot → loaded (region_at c name) from count ≡ spot_bytes pool list spot
unfolding cut
loads-is pool list c name from count spot e r =
    let region = range-region pool list c name from count spot e r in
    let head : r.named.held.head ≡ r.head = r.named.head_is in
    let off : from - r.named.held.head.base ≡ spot.off = ap (λ h. from - h.base) head ∙ sym r.off in
    let inside : spot.off + count ≤ r.named.held.head.length = let size : r.named.held.head.length ≡ r.head.length = ap (λ h. h.length) head in omega (arith, r.low, r.high, r.off, size) in
    ap (λ x. loaded x from count) region
    ∙ (ap (λ o. take count (drop o (take r.named.held.head.length (bytes_in pool r.named.held.list)))) off
    ∙ (cut-take (bytes_in pool r.named.held.list) spot.off count r.named.held.head.length inside
    ∙ (ap (λ k. take k (drop spot.off (bytes_in pool r.named.held.list))) (sym r.length)
    ∙ ap (λ o. unwrap_or (option_map (λ h. cut spot.off spot.length (bytes_in pool h.list)) o) []) (sym (ap (λ k. held_at k list) r.region ∙ r.named.found)))))

pub whole : (xs ys : List ℕ) (n : ℕ) → length xs ≡ n → take n (xs ++ ys) ≡ xs
whole [] ys n l = ap (λ k. take k ys) (sym l)
whole (x ∷ xs) ys n l = ap (λ k. take k (x ∷ (xs ++ ys))) (sym l) ∙ ap (λ zs. x ∷ zs) (whole xs ys (length xs) refl)
