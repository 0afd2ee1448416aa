-- What settling looks at of queue pairs.
use Rattle.std.proofs.Common.{◌≡◌, Bool, true, false, List, [], ◌∷◌, refl, subst, get_or}
use Rattle.std.specs.Prelude.{All, Option, Some, None, map, option_map, bytes_eq, if◌then◌else◌}
use Rattle.std.specs.Map.{lookup}
use Rattle.std.proofs.lemmas.List.Elements.{All-head, All-tail}
use Rattle.rdma_types.specs.declared.names.Name.{Name}
use Rattle.rdma_types.specs.Lists.{named}
use Rattle.page_pool.specs.Pool.{Pool}
use Rattle.end_queues.specs.Completions.{Queue}
use Rattle.protocol.specs.State.{Link, end_at, no_end}
use Rattle.endpoint_core.specs.declared.end.Endpoint.{Endpoint}
use Rattle.endpoint_core.specs.declared.end.EndLink.{EndLink}
use Rattle.endpoint_core.specs.Ends.{link_in}
use Rattle.endpoint_core.specs.Sound.{IsInState}
use Rattle.context_core.specs.declared.state.EndSlot.{EndSlot}
use Rattle.context_core.specs.Context.{Holding, IsContext, context_in, end_of}
use Rattle.context_core.specs.Links.{SendByTerms, SendsByTerms, live_end}
use Rattle.context_core.proofs.NamedLookups.{same-either}

-- ---- terms

-- a queue pair that is found sends by its terms
pub sends-found : (n : Name) (es : List (Name × EndSlot)) (s : EndSlot) → All (λ e. SendsByTerms e.1.endpoint.link) es → lookup (bytes_eq n) es ≡ Some s → SendsByTerms s.endpoint.link
sends-found n [] s all h = absurd (cc)
sends-found n (e ∷ es) s all h = by (bytes_eq n e.0) h (sends-found n es s (All-tail (λ x. SendsByTerms x.1.endpoint.link) e es all))
  where
    by : (b : Bool) → (if b then Some e.1 else lookup (bytes_eq n) es) ≡ Some s → (lookup (bytes_eq n) es ≡ Some s → SendsByTerms s.endpoint.link) → SendsByTerms s.endpoint.link
    by true g later = let same : e.1 ≡ s = cc in subst (λ x. SendsByTerms x.endpoint.link) same (All-head (λ x. SendsByTerms x.1.endpoint.link) e es all)
    by false g later = later g

-- each queue pair of a context sends by its terms
pub sends-all : (pool : Pool) (h : Holding) → IsContext pool h → SendByTerms h
sends-all pool h is = λ k d l. by (get_or h.ends k d).1.endpoint (get_or h.ends k d).1.endpoint.link (is.is.ends k d l).state
  where
    by : (e : Endpoint) (o : Option EndLink) → IsInState pool h.regions e o → SendsByTerms o
    by e None s = tt
    by e (Some l) s = s.sending_terms

-- ---- in the protocol's words

-- the queue pairs, and the name of their context
pub ends-are : (pool : Pool) (n : Name) (h : Holding) → map (live_end (context_in pool n h)) (map (end_of pool h.queues) h.ends) ≡ map (live_end (context_in pool n h)) (context_in pool n h).ends
unfolding context_in
ends-are pool n h = refl

pub name-is : (pool : Pool) (n : Name) (h : Holding) → (context_in pool n h).name ≡ n
unfolding context_in
name-is pool n h = refl

-- the connection of a queue pair that a map finds
abbrev pub link_shown : Pool → Option EndSlot → Option Link
link_shown pool None = None
link_shown pool (Some s) = option_map (link_in pool) s.endpoint.link

link-by : (pool : Pool) (qs : List (Name × Queue)) (n : Name) (es : List (Name × EndSlot)) → link_shown pool (lookup (bytes_eq n) es) ≡ (named (λ x. x.name) no_end n (map (end_of pool qs) es)).link
unfolding named
link-by pool qs n [] = refl
link-by pool qs n (x ∷ xs) = by (bytes_eq n x.0) refl (link-by pool qs n xs)
  where
    by : (b : Bool) → bytes_eq n x.0 ≡ b → link_shown pool (lookup (bytes_eq n) xs) ≡ (named (λ y. y.name) no_end n (map (end_of pool qs) xs)).link → link_shown pool (lookup (bytes_eq n) (x ∷ xs)) ≡ (named (λ y. y.name) no_end n (map (end_of pool qs) (x ∷ xs))).link
    by true t rest = rw (same-either x.0 n) (rw t refl)
    by false t rest = rw (same-either x.0 n) (rw t rest)

-- .. is that of the queue pair with the name
pub link-at : (pool : Pool) (n : Name) (h : Holding) (name : Name) → link_shown pool (lookup (bytes_eq name) h.ends) ≡ (end_at (context_in pool n h) name).link
unfolding context_in
link-at pool n h name = link-by pool h.queues name h.ends
