-- A context over two pools that agree on its lists.
use Rattle.std.proofs.Common.{◌≡◌, ℕ, zero, List, [], ◌∷◌, ◌++◌, length, take, refl, ap, ◌∙◌, arith}
use Rattle.std.specs.Prelude.{is_some, map, All, Contains, unwrap_or}
use Rattle.std.specs.List.{AllByRecursion}
use Rattle.std.proofs.lemmas.List.Elements.{All-from_recursion, recursion_from_All, All-contains, Contains-append_left, Contains-append_right}
use Rattle.rdma_types.specs.declared.names.Name.{Name}
use Rattle.page_pool.specs.Pool.{Pool, IsIn, bytes_of}
use Rattle.memory_keys.specs.declared.RegisteredRegion.{RegisteredRegion}
use Rattle.memory_keys.specs.Regions.{Lies, region_of, regions_of}
use Rattle.end_queues.specs.declared.work_queues.posted.QueuedRequest.{QueuedRequest}
use Rattle.protocol.specs.State.{End}
use Rattle.endpoint_core.specs.Sound.{IsEnd, IsPosted, payload_lists}
use Rattle.context_core.specs.declared.state.EndSlot.{EndSlot}
use Rattle.context_core.specs.Context.{Holding, IsHolding, IsPaged, context_in, lists_of, payloads_of, untold_at}
use Rattle.context_core.proofs.SamePayloads.{AreSame}
use Rattle.context_core.proofs.EndSteps.{EndsSame, each-posted, ends-paged, ends-sound, shown-same}

-- both have the same bytes of each of these lists
abbrev pub Agree : Pool → Pool → List ℕ → Type 0
Agree a b lists = (list : ℕ) → Contains lists list → bytes_of b list ≡ bytes_of a list

agree-posted : (a b : Pool) (ps : List QueuedRequest) → Agree a b (payload_lists ps) → AreSame a b ps
agree-posted a b [] g = tt
agree-posted a b (p ∷ ps) g = (g p.payload.list (zero, omega arith, refl), agree-posted a b ps (λ list c. g list (Contains-append_right (p.payload.list ∷ []) (payload_lists ps) list c)))

pub agree-ends : (a b : Pool) (es : List (Name × EndSlot)) → Agree a b (payloads_of es) → EndsSame a b es
agree-ends a b [] g = tt
agree-ends a b (e ∷ es) g = (
  agree-posted a b (untold_at e) (λ list c. g list (Contains-append_left (payload_lists (untold_at e)) (payloads_of es) list c)),
  agree-ends a b es (λ list c. g list (Contains-append_right (payload_lists (untold_at e)) (payloads_of es) list c)),
)

agree-regions : (a b : Pool) (hs : List RegisteredRegion) → Agree a b (map (λ r. r.list) hs) → regions_of b hs ≡ regions_of a hs
agree-regions a b [] g = refl
agree-regions a b (h ∷ hs) g =
    let bytes : bytes_of b h.list ≡ bytes_of a h.list = g h.list (zero, omega arith, refl) in
    let here : region_of b h ≡ region_of a h = ap (λ o. record { name = h.head.name; domain = h.head.domain; base = h.head.base; length = h.head.length; rights = h.head.rights; keys = h.head.keys; bytes = take h.head.length (unwrap_or o []) }) bytes in
    let rest : regions_of b hs ≡ regions_of a hs = agree-regions a b hs (λ list c. g list (Contains-append_right (h.list ∷ []) (map (λ r. r.list) hs) list c)) in
    cc

pub agree-lie : (a b : Pool) (hs : List RegisteredRegion) → Agree a b (map (λ r. r.list) hs) → AllByRecursion (Lies a) hs → AllByRecursion (Lies b) hs
agree-lie a b [] g l = tt
agree-lie a b (h ∷ hs) g l =
    let bytes : bytes_of b h.list ≡ bytes_of a h.list = g h.list (zero, omega arith, refl) in (
      record { lives = ap is_some bytes ∙ l.0.lives; size = ap (λ o. length (unwrap_or o [])) bytes ∙ l.0.size },
      agree-lie a b hs (λ list c. g list (Contains-append_right (h.list ∷ []) (map (λ r. r.list) hs) list c)) l.1,
    )

-- of the regions, and of the payloads
pub of-regions : (a b : Pool) (h : Holding) → Agree a b (lists_of h) → Agree a b (map (λ r. r.list) h.regions)
unfolding lists_of
of-regions a b h g list c = g list (Contains-append_left (map (λ r. r.list) h.regions) (payloads_of h.ends) list c)

pub of-payloads : (a b : Pool) (h : Holding) → Agree a b (lists_of h) → Agree a b (payloads_of h.ends)
unfolding lists_of
of-payloads a b h g list c = g list (Contains-append_right (map (λ r. r.list) h.regions) (payloads_of h.ends) list c)

pub context-same : (a b : Pool) (h : Holding) (n : Name) → Agree a b (lists_of h) → context_in b n h ≡ context_in a n h
unfolding context_in
context-same a b h n g =
    let regions = agree-regions a b h.regions (of-regions a b h g) in
    let ends = shown-same a b h.queues h.queues refl h.ends (agree-ends a b h.ends (of-payloads a b h g)) in
    ap {A = List _} (λ rs. record (context_in b n h) { regions = rs }) regions ∙ ap {A = List End} (λ es. record (context_in a n h) { ends = es }) ends

pub holding-same : (a b : Pool) (h : Holding) (more : ℕ → ℕ) → Agree a b (lists_of h) → IsHolding a h more → IsHolding b h more
holding-same a b h more g is =
    let same = agree-ends a b h.ends (of-payloads a b h g) in
    record {
      held = record { lie = All-from_recursion (Lies b) h.regions (agree-lie a b h.regions (of-regions a b h g) (recursion_from_All (Lies a) h.regions is.held.lie)); apart = is.held.apart };
      keyed = is.keyed;
      ends = All-from_recursion (λ e. IsEnd b h.regions e.1.endpoint) h.ends (ends-sound a b h.regions h.ends same (recursion_from_All (λ e. IsEnd a h.regions e.1.endpoint) h.ends is.ends));
      placed = is.placed;
      apart = is.apart;
      paged = All-from_recursion (λ e. All (IsPaged b h.regions) (untold_at e)) h.ends (ends-paged a b h.regions h.ends same (recursion_from_All (λ e. All (IsPaged a h.regions) (untold_at e)) h.ends is.paged));
      reserved = is.reserved;
      queue_names = is.queue_names;
      end_names = is.end_names;
      few_queues = is.few_queues;
    }

-- ---- its lists live

posted-live : (pool : Pool) (held : List RegisteredRegion) (domain : Name) (ps : List QueuedRequest) → AllByRecursion (IsPosted pool held domain) ps → AllByRecursion (IsIn pool) (payload_lists ps)
posted-live pool held domain [] h = tt
posted-live pool held domain (p ∷ ps) h = (h.0.payload.holds.lives, posted-live pool held domain ps h.1)

each-both : (P : ℕ → Type 0) (xs ys : List ℕ) → AllByRecursion P xs → AllByRecursion P ys → AllByRecursion P (xs ++ ys)
each-both P [] ys h k = k
each-both P (x ∷ xs) ys h k = (h.0, each-both P xs ys h.1 k)

ends-live : (pool : Pool) (held : List RegisteredRegion) (es : List (Name × EndSlot)) → AllByRecursion (λ e. IsEnd pool held e.1.endpoint) es → AllByRecursion (IsIn pool) (payloads_of es)
ends-live pool held [] h = tt
ends-live pool held (e ∷ es) h = each-both (IsIn pool) (payload_lists (untold_at e)) (payloads_of es) (posted-live pool held e.1.endpoint.domain (untold_at e) (each-posted pool held e.1.endpoint e.1.endpoint.link h.0.state)) (ends-live pool held es h.1)

regions-live : (pool : Pool) (hs : List RegisteredRegion) → AllByRecursion (Lies pool) hs → AllByRecursion (IsIn pool) (map (λ r. r.list) hs)
regions-live pool [] h = tt
regions-live pool (x ∷ xs) h = (h.0.lives, regions-live pool xs h.1)

pub lists-live : (pool : Pool) (h : Holding) (more : ℕ → ℕ) → IsHolding pool h more → AllByRecursion (IsIn pool) (lists_of h)
unfolding lists_of
lists-live pool h more is = each-both (IsIn pool) (map (λ r. r.list) h.regions) (payloads_of h.ends) (regions-live pool h.regions (recursion_from_All (Lies pool) h.regions is.held.lie)) (ends-live pool h.regions h.ends (recursion_from_All (λ e. IsEnd pool h.regions e.1.endpoint) h.ends is.ends))

pub list-lives : (pool : Pool) (h : Holding) (more : ℕ → ℕ) (list : ℕ) → IsHolding pool h more → Contains (lists_of h) list → IsIn pool list
list-lives pool h more list is c = All-contains (IsIn pool) (lists_of h) list (All-from_recursion (IsIn pool) (lists_of h) (lists-live pool h more is)) c
