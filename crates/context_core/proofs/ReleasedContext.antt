-- A context that is gone.
use Rattle.std.proofs.Common.{◌≡◌, ◌≢◌, ℕ, ◌+◌, false, List, [], ◌∷◌, ◌++◌, refl, ap, sym, ◌∙◌, subst, arith}
use Rattle.std.specs.Prelude.{All, Contains, is_some, map, nat_eq, sum_by}
use Rattle.std.specs.List.{AllByRecursion, IsDistinct}
use Rattle.std.proofs.lemmas.List.Elements.{All-contains, All-from_recursion, recursion_from_All}
use Rattle.std.proofs.lemmas.List.Sums.{sum_by-cons}
use Rattle.rdma_types.specs.declared.names.Name.{Name}
use Rattle.page_pool.specs.Pool.{Pool, IsIn, bytes_of, free_pages, pages_for}
use Rattle.memory_keys.specs.declared.RegisteredRegion.{RegisteredRegion}
use Rattle.memory_keys.specs.Regions.{AreHeld, KeepsOthers, Lies}
use Rattle.end_queues.specs.declared.work_queues.posted.QueuedRequest.{QueuedRequest}
use Rattle.protocol.specs.Memory.{pages_of_length}
use Rattle.end_completions.specs.Payloads.{GivesBack, payload_lists, payload_pages}
use Rattle.end_completions.specs.Payloads as end_memory
use Rattle.endpoint_core.specs.Queues.{nothing}
use Rattle.endpoint_core.specs.Sound.{IsEnd, IsPosted}
use Rattle.context_core.specs.declared.state.EndSlot.{EndSlot}
use Rattle.context_core.specs.Context.{Holding, IsContext, Moves, lists_of, no_holding, payloads_of, posted_of, untold_at}
use Rattle.context_core.proofs.PoolAgreement.{agree-lie}
use Rattle.context_core.proofs.EmptyContext.{empty-context}
use Rattle.context_core.proofs.DisjointLists.{Lacks, each-append, each-back, each-front, each-map, each-unmap, lacks-all, lacks-not}
use Rattle.context_core.proofs.ContextPages.{end_pages, pages-are, payloads-append, region_pages}
use Rattle.context_core.proofs.RegisteredRegions.{pages-alike}
use Rattle.context_core.proofs.SplitEntries.{map-append}
use Rattle.context_core.proofs.EndSteps.{each-posted}

-- the lists of all payloads
lists-alike : (es : List (Name × EndSlot)) → payload_lists (posted_of es) ≡ payloads_of es
lists-alike [] = refl
lists-alike (e ∷ es) = map-append (λ p. p.payload.list) (untold_at e) (posted_of es) ∙ ap (λ ls. payload_lists (untold_at e) ++ ls) (lists-alike es)

-- .. and their pages
pages-of-all : (pool : Pool) (es : List (Name × EndSlot)) → payload_pages pool (posted_of es) ≡ end_pages pool es
unfolding payload_pages
pages-of-all pool [] = refl
pages-of-all pool (e ∷ es) = payloads-append pool (untold_at e) (posted_of es) ∙ (ap (λ n. payload_pages pool (untold_at e) + n) (pages-of-all pool es) ∙ sym (sum_by-cons (λ y. payload_pages pool (untold_at y)) e es))

all-posted : (pool : Pool) (held : List RegisteredRegion) (es : List (Name × EndSlot)) → AllByRecursion (λ e. IsEnd pool held e.1.endpoint) es → (P : QueuedRequest → Type 0) → ((domain : Name) (p : QueuedRequest) → IsPosted pool held domain p → P p) → AllByRecursion P (posted_of es)
all-posted pool held [] h P f = tt
all-posted pool held (e ∷ es) h P f = each-append P (untold_at e) (posted_of es) (each (untold_at e) (each-posted pool held e.1.endpoint e.1.endpoint.link h.0.state)) (all-posted pool held es h.1 P f)
  where
    each : (ps : List QueuedRequest) → AllByRecursion (IsPosted pool held e.1.endpoint.domain) ps → AllByRecursion P ps
    each [] k = tt
    each (p ∷ ps) k = (f e.1.endpoint.domain p k.0, each ps k.1)

-- the payloads of a context live, each in a list of its own
pub posted-apart : (pool : Pool) (h : Holding) → IsContext pool h → end_memory.AreApart pool (posted_of h.ends)
posted-apart pool h is = record {
  live = All-from_recursion (λ p. IsIn pool p.payload.list) (posted_of h.ends) (all-posted pool h.regions h.ends (recursion_from_All (λ e. IsEnd pool h.regions e.1.endpoint) h.ends is.is.ends) (λ p. IsIn pool p.payload.list) (λ domain p k. k.payload.holds.lives));
  apart = subst (IsDistinct nat_eq) (sym (lists-alike h.ends)) is.is.apart;
}

module _ {a b : Pool} {h : Holding} (is : IsContext a h) (gives : GivesBack a b (posted_of h.ends)) where
  -- a region's list is that of no payload
  region-kept : (list : ℕ) → Contains (map (λ r. r.list) h.regions) list → bytes_of b list ≡ bytes_of a list
  region-kept list c = gives.others list (All-from_recursion (λ x. x ≢ list) (payload_lists (posted_of h.ends)) (each-map (λ x. x ≢ list) (λ p. p.payload.list) (posted_of h.ends)
      (all-posted a h.regions h.ends (recursion_from_All (λ e. IsEnd a h.regions e.1.endpoint) h.ends is.is.ends) (λ p. p.payload.list ≢ list) (λ domain p k same. differs p k.payload.apart same))))
    where
      differs : (p : QueuedRequest) → All (λ x. x.list ≢ p.payload.list) h.regions → p.payload.list ≡ list → ⊥
      differs p apart same = All-contains (λ y. y ≢ p.payload.list) (map (λ r. r.list) h.regions) list (All-from_recursion (λ y. y ≢ p.payload.list) (map (λ r. r.list) h.regions) (each-map (λ y. y ≢ p.payload.list) (λ r. r.list) h.regions (recursion_from_All (λ x. x.list ≢ p.payload.list) h.regions apart))) c (sym same)

  -- the regions are held as before
  pub regions-held : AreHeld b h.regions
  regions-held = record {
    lie = All-from_recursion (Lies b) h.regions (agree-lie a b h.regions region-kept (recursion_from_All (Lies a) h.regions is.is.held.lie));
    apart = is.is.held.apart;
  }

  pages-sum : (hs : List RegisteredRegion) → sum_by (λ x. pages_for x.head.length) hs ≡ region_pages hs
  pages-sum [] = refl
  pages-sum (x ∷ xs) = sum_by-cons (λ y. pages_for y.head.length) x xs ∙ (ap (λ n. n + sum_by (λ y. pages_for y.head.length) xs) (sym (pages-alike x.head.length)) ∙ (ap (λ n. pages_of_length x.head.length + n) (pages-sum xs) ∙ sym (sum_by-cons (λ y. pages_of_length y.head.length) x xs)))

  -- no list of the context is another's
  heads : (list : ℕ) → All (λ y. y ≢ list) (map (λ x. x.list) h.regions) → All (λ x. x.list ≢ list) h.regions
  heads list all = All-from_recursion (λ x. x.list ≢ list) h.regions (each-unmap (λ y. y ≢ list) (λ x. x.list) h.regions (recursion_from_All (λ y. y ≢ list) (map (λ x. x.list) h.regions) all))

  other-kept : (c : Pool) → KeepsOthers b c h.regions → (list : ℕ) → IsIn a list → Lacks (lists_of h) list → bytes_of c list ≡ bytes_of a list
  unfolding lists_of
  other-kept c others list live lacks =
      let payloads : Lacks (payload_lists (posted_of h.ends)) list = subst (λ ls. Lacks ls list) (sym (lists-alike h.ends)) (each-back (λ y. nat_eq list y ≡ false) (map (λ x. x.list) h.regions) (payloads_of h.ends) lacks) in
      let first : bytes_of b list ≡ bytes_of a list = gives.others list (lacks-all list (payload_lists (posted_of h.ends)) payloads) in
      others.others list (ap is_some first ∙ live) (heads list (lacks-all list (map (λ x. x.list) h.regions) (each-front (λ y. nat_eq list y ≡ false) (map (λ x. x.list) h.regions) (payloads_of h.ends) lacks))) ∙ first

  -- all pages of the context are free
  pub gone-moves : (c : Pool) → KeepsOthers b c h.regions → free_pages c ≡ free_pages b + sum_by (λ x. pages_for x.head.length) h.regions → Moves a c h no_holding
  unfolding lists_of
  gone-moves c others free = record {
    pages = others.pages ∙ gives.pages;
    others = λ list live not. other-kept c others list live (lacks-not list (lists_of h) not);
    fresh = λ list k. absurd (no-list list k);
    free = λ n. counted (free_pages c) (free_pages b) (free_pages a) (sum_by (λ x. pages_for x.head.length) h.regions) (region_pages h.regions) (payload_pages a (posted_of h.ends)) (end_pages a h.ends) _ _ free gives.free (pages-sum h.regions) (pages-of-all a h.ends) (pages-are a h nothing n is.is) (pages-are c no_holding nothing n (empty-context c no_holding refl).is);
  }
    where
      no-list : (list : ℕ) → Contains (lists_of no_holding) list → ⊥
      no-list list k = omega (arith, k.1)

      counted : (fc fb fa r r' p p' held none : ℕ) → fc ≡ fb + r → fb ≡ fa + p → r ≡ r' → p ≡ p' → held ≡ r' + p' → none ≡ 0 + 0 → fc + none ≡ fa + held
      counted fc fb fa r r' p p' held none one two three four five six = omega arith
