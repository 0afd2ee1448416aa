-- The pages that a context takes.
use Rattle.std.proofs.Common.{◌≡◌, ℕ, ◌+◌, List, [], ◌∷◌, ◌++◌, refl, ap, sym, ◌∙◌}
use Rattle.std.specs.Prelude.{Option, Some, None, map, option_map, All, sum, sum_by}
use Rattle.std.specs.List.{AllByRecursion}
use Rattle.std.proofs.lemmas.List.Elements.{recursion_from_All}
use Rattle.std.proofs.lemmas.List.Sums.{sum_by-append, sum_by-cons}
use Rattle.rdma_types.specs.declared.names.Name.{Name}
use Rattle.rdma_types.specs.Objects as objects
use Rattle.rdma_types.specs.Objects.{Region}
use Rattle.page_pool.specs.Pool.{Pool, bytes_of, pages_of}
use Rattle.end_queues.specs.Completions.{Queue}
use Rattle.memory_keys.specs.declared.RegisteredRegion.{RegisteredRegion}
use Rattle.memory_keys.specs.Regions.{regions_of}
use Rattle.end_queues.specs.declared.work_queues.posted.QueuedRequest.{QueuedRequest}
use Rattle.end_queues.specs.Untold.{posted_in, untold_in}
use Rattle.protocol.specs.Memory.{pages_of_context, pages_of_length, pages_of_request, region_of_key, untold_of}
use Rattle.protocol.specs.State.{no_context}
use Rattle.endpoint_core.specs.declared.end.EndLink.{EndLink}
use Rattle.endpoint_core.specs.Ends.{link_in, untold_by}
use Rattle.end_completions.specs.Payloads.{payload_pages}
use Rattle.context_core.specs.declared.state.EndSlot.{EndSlot}
use Rattle.context_core.specs.Context.{Holding, IsHolding, IsPaged, context_in, end_of, untold_at}
use Rattle.context_core.proofs.SamePayloads.{AreSame}
use Rattle.context_core.proofs.EndSteps.{EndsSame}

sum-cons : (x : ℕ) (xs : List ℕ) → sum (x ∷ xs) ≡ x + sum xs
sum-cons x xs = sum_by-cons (λ y. y) x xs

pub sum-map : {A : Type 0} (f : A → ℕ) (xs : List A) → sum (map f xs) ≡ sum_by f xs
sum-map f [] = refl
sum-map f (x ∷ xs) = sum-cons (f x) (map f xs) ∙ (ap (λ n. f x + n) (sum-map f xs) ∙ sym (sum_by-cons f x xs))

-- the pages of regions, and those of the payloads of ends
abbrev pub region_pages : List RegisteredRegion → ℕ
region_pages held = sum_by (λ r. pages_of_length r.head.length) held

abbrev pub end_pages : Pool → List (Name × EndSlot) → ℕ
end_pages pool ends = sum_by (λ e. payload_pages pool (untold_at e)) ends

regions-are : (pool : Pool) (held : List RegisteredRegion) → sum (map (λ r. pages_of_length r.length) (regions_of pool held)) ≡ region_pages held
regions-are pool [] = refl
regions-are pool (h ∷ hs) = sum-cons (pages_of_length h.head.length) (map (λ r. pages_of_length r.length) (regions_of pool hs)) ∙ (ap (λ n. pages_of_length h.head.length + n) (regions-are pool hs) ∙ sym (sum_by-cons (λ r. pages_of_length r.head.length) h hs))

posted-are : (pool : Pool) (held : List RegisteredRegion) (f : objects.Posted → ℕ) → ((p : QueuedRequest) → f (posted_in pool p) ≡ pages_of_request (record no_context { regions = regions_of pool held }) p.request) → (ps : List QueuedRequest) → AllByRecursion (IsPaged pool held) ps → sum (map f (untold_in pool ps)) ≡ payload_pages pool ps
unfolding payload_pages
posted-are pool held f same [] h = refl
posted-are pool held f same (p ∷ ps) h =
    sum-cons (f (posted_in pool p)) (map f (untold_in pool ps))
    ∙ (ap (λ n. n + sum (map f (untold_in pool ps))) (same p ∙ sym h.0)
    ∙ (ap (λ n. pages_of (bytes_of pool p.payload.list) + n) (posted-are pool held f same ps h.1)
    ∙ sym (sum_by-cons (λ q. pages_of (bytes_of pool q.payload.list)) p ps)))

link-are : (pool : Pool) (held : List RegisteredRegion) (f : objects.Posted → ℕ) → ((p : QueuedRequest) → f (posted_in pool p) ≡ pages_of_request (record no_context { regions = regions_of pool held }) p.request) → (l : Option EndLink) → AllByRecursion (IsPaged pool held) (untold_by l) → sum (map f (untold_of (option_map (link_in pool) l))) ≡ payload_pages pool (untold_by l)
unfolding payload_pages
link-are pool held f same None h = refl
link-are pool held f same (Some l) h = posted-are pool held f same l.requester.items h

ends-are : (pool : Pool) (held : List RegisteredRegion) (queues : List (Name × Queue)) (f : objects.Posted → ℕ) → ((p : QueuedRequest) → f (posted_in pool p) ≡ pages_of_request (record no_context { regions = regions_of pool held }) p.request) → (es : List (Name × EndSlot)) → AllByRecursion (λ e. All (IsPaged pool held) (untold_at e)) es
    → sum (map (λ e. sum (map f (untold_of e.link))) (map (end_of pool queues) es)) ≡ end_pages pool es
ends-are pool held queues f same [] h = refl
ends-are pool held queues f same (e ∷ es) h =
    sum-cons (sum (map f (untold_of (option_map (link_in pool) e.1.endpoint.link)))) (map (λ e. sum (map f (untold_of e.link))) (map (end_of pool queues) es))
    ∙ (ap (λ n. n + sum (map (λ e. sum (map f (untold_of e.link))) (map (end_of pool queues) es))) (link-are pool held f same e.1.endpoint.link (recursion_from_All (IsPaged pool held) (untold_at e) h.0))
    ∙ (ap (λ n. payload_pages pool (untold_at e) + n) (ends-are pool held queues f same es h.1)
    ∙ sym (sum_by-cons (λ y. payload_pages pool (untold_at y)) e es)))

pub pages-are : (pool : Pool) (h : Holding) (more : ℕ → ℕ) (n : Name) → IsHolding pool h more → pages_of_context (context_in pool n h) ≡ region_pages h.regions + end_pages pool h.ends
unfolding pages_of_context context_in pages_of_request region_of_key
pages-are pool h more n is =
    let regions = regions-are pool h.regions in
    let ends = ends-are pool h.regions h.queues (λ p. pages_of_request (context_in pool n h) p.request) (λ p. refl) h.ends (recursion_from_All (λ e. All (IsPaged pool h.regions) (untold_at e)) h.ends is.paged) in
    ap (λ k. k + sum (map (λ e. sum (map (λ p. pages_of_request (context_in pool n h) p.request) (untold_of e.link))) (context_in pool n h).ends)) regions ∙ ap (λ k. region_pages h.regions + k) ends

payloads-same : (a b : Pool) (ps : List QueuedRequest) → AreSame a b ps → payload_pages b ps ≡ payload_pages a ps
unfolding payload_pages
payloads-same a b [] s = refl
payloads-same a b (p ∷ ps) s =
    sum_by-cons (λ q. pages_of (bytes_of b q.payload.list)) p ps
    ∙ (ap (λ o. pages_of o + payload_pages b ps) s.0
    ∙ (ap (λ n. pages_of (bytes_of a p.payload.list) + n) (payloads-same a b ps s.1)
    ∙ sym (sum_by-cons (λ q. pages_of (bytes_of a q.payload.list)) p ps)))

pub end_pages-same : (a b : Pool) (es : List (Name × EndSlot)) → EndsSame a b es → end_pages b es ≡ end_pages a es
end_pages-same a b [] s = refl
end_pages-same a b (e ∷ es) s =
    sum_by-cons (λ y. payload_pages b (untold_at y)) e es
    ∙ (ap (λ n. n + end_pages b es) (payloads-same a b (untold_at e) s.0)
    ∙ (ap (λ n. payload_pages a (untold_at e) + n) (end_pages-same a b es s.1)
    ∙ sym (sum_by-cons (λ y. payload_pages a (untold_at y)) e es)))

pub payloads-append : (pool : Pool) (xs ys : List QueuedRequest) → payload_pages pool (xs ++ ys) ≡ payload_pages pool xs + payload_pages pool ys
unfolding payload_pages
payloads-append pool xs ys = sum_by-append (λ p. pages_of (bytes_of pool p.payload.list)) xs ys
