-- One end of a context steps, and the others stay.
use Rattle.std.proofs.Common.{◌≡◌, ℕ, suc, ◌<◌, false, List, [], ◌∷◌, ◌++◌, length, refl, ap, sym, ◌∙◌, subst, get_or}
use Rattle.std.specs.Prelude.{Option, Some, None, map, All, nat_eq, bytes_eq, slice_get}
use Rattle.std.specs.List.{AllByRecursion, IsDistinct}
use Rattle.std.specs.Map.{keys_of}
use Rattle.std.proofs.lemmas.List.Elements.{All-from_recursion, recursion_from_All}
use Rattle.indexmap.specs.IndexMap.{set_value_at}
use Rattle.rdma_types.specs.declared.names.Name.{Name}
use Rattle.rdma_types.specs.Lists.{store_named}
use Rattle.page_pool.specs.Pool.{Pool}
use Rattle.end_queues.specs.Completions.{Queue}
use Rattle.memory_keys.specs.declared.RegisteredRegion.{RegisteredRegion}
use Rattle.end_queues.specs.declared.work_queues.posted.QueuedRequest.{QueuedRequest}
use Rattle.protocol.specs.EndWords.{with_end}
use Rattle.protocol.specs.State.{End}
use Rattle.endpoint_core.specs.declared.end.Endpoint.{Endpoint}
use Rattle.endpoint_core.specs.declared.end.EndLink.{EndLink}
use Rattle.endpoint_core.specs.Ends.{end_in, untold_by}
use Rattle.endpoint_core.specs.Sites.{IsHome, EndWithMemory}
use Rattle.endpoint_core.specs.Sound.{IsEnd, IsInState, IsPosted, KeepsLists, payload_lists}
use Rattle.context_core.specs.declared.state.EndSlot.{EndSlot}
use Rattle.context_core.specs.Context.{HasQueues, Holding, IsHolding, IsPaged, context_in, end_of, names_in, payloads_of, queue_name, site_in, untold_at}
use Rattle.context_core.proofs.DisjointLists.{AreApart, Lacks, distinct-none, each-back, each-front, lacks-all}
use Rattle.context_core.proofs.SamePayloads.{AreSame, all-paged, end-same, sound-same}
use Rattle.context_core.proofs.SplitEntries.{IsSplit, front-differs, map-append, name-there, position-here, split-at, stored-split}

-- ---- a context is the home of its ends

-- the names before a place, of ends and of what they are
pub front-names : (pool : Pool) (queues : List (Name × Queue)) (n : Name) (front : List (Name × EndSlot)) → AllByRecursion (λ y. bytes_eq y n ≡ false) (keys_of front) → AllByRecursion (λ y. bytes_eq y n ≡ false) (map (λ x. x.name) (map (end_of pool queues) front))
front-names pool queues n [] h = tt
front-names pool queues n (x ∷ xs) h = (h.0, front-names pool queues n xs h.1)

-- the names before an end differ from its own
pub before-differs : (h : Holding) (i : ℕ) (e : Name × EndSlot) (s : IsSplit h.ends i e) → IsDistinct bytes_eq (keys_of h.ends) → AllByRecursion (λ y. bytes_eq y e.0 ≡ false) (keys_of s.front)
before-differs h i e s d = front-differs (keys_of s.front) e.0 (keys_of s.back) (subst (IsDistinct bytes_eq) (ap keys_of s.whole ∙ map-append (λ x. x.0) s.front (e ∷ s.back)) d)

-- another end in the place of one
pub with-end : (pool : Pool) (n : Name) (h : Holding) (i : ℕ) (e : Name × EndSlot) (s : IsSplit h.ends i e) (x : End) → x.name ≡ e.0 → IsDistinct bytes_eq (keys_of h.ends)
    → with_end (context_in pool n h) x ≡ record (context_in pool n h) { ends = map (end_of pool h.queues) s.front ++ x ∷ map (end_of pool h.queues) s.back }
unfolding with_end context_in
with-end pool n h i e s x named d =
    let shown : map (end_of pool h.queues) h.ends ≡ map (end_of pool h.queues) s.front ++ end_of pool h.queues e ∷ map (end_of pool h.queues) s.back = ap (map (end_of pool h.queues)) s.whole ∙ map-append (end_of pool h.queues) s.front (e ∷ s.back) in
    let before = front-names pool h.queues e.0 s.front (before-differs h i e s d) in
    let stored = stored-split (λ y. y.name) e.0 (end_of pool h.queues e) x (map (end_of pool h.queues) s.front) (map (end_of pool h.queues) s.back) refl before in
    ap (λ es. record (context_in pool n h) { ends = es }) (ap (λ k. store_named (λ y. y.name) k x (map (end_of pool h.queues) h.ends)) named ∙ (ap (store_named (λ y. y.name) e.0 x) shown ∙ stored))

pub is-home : (pool : Pool) (n : Name) (h : Holding) (more : ℕ → ℕ) (i : ℕ) (e : Name × EndSlot) → IsHolding pool h more → slice_get h.ends i ≡ Some e → HasQueues h.queues e → IsHome (context_in pool n h) (names_in h.queues e) (site_in pool h e)
unfolding context_in
is-home pool n h more i e is there has =
    let s = split-at h.ends i e there in
    let shown : map (end_of pool h.queues) h.ends ≡ map (end_of pool h.queues) s.front ++ end_of pool h.queues e ∷ map (end_of pool h.queues) s.back = ap (map (end_of pool h.queues)) s.whole ∙ map-append (end_of pool h.queues) s.front (e ∷ s.back) in
    record {
      regions = refl;
      queues = refl;
      there = with-end pool n h i e s (end_of pool h.queues e) refl is.end_names ∙ ap (λ es. record (context_in pool n h) { ends = es }) (sym shown);
      send = position-here (keys_of h.queues) e.1.send (queue_name h.queues e.1.send) is.queue_names (named e.1.send has.0);
      recv = position-here (keys_of h.queues) e.1.recv (queue_name h.queues e.1.recv) is.queue_names (named e.1.recv has.1);
    }
  where
    length-keys : (qs : List (Name × Queue)) → length (keys_of qs) ≡ length qs
    length-keys [] = refl
    length-keys (q ∷ qs) = ap suc (length-keys qs)

    named : (place : ℕ) → place < length h.queues → slice_get (keys_of h.queues) place ≡ Some (queue_name h.queues place)
    named place l = name-there (keys_of h.queues) place (subst (λ k. place < k) (sym (length-keys h.queues)) l)

-- ---- what a step leaves

-- the untold requests of a sound end are posted ones
pub each-posted : (pool : Pool) (held : List RegisteredRegion) (e : Endpoint) (l : Option EndLink) → IsInState pool held e l → AllByRecursion (IsPosted pool held e.domain) (untold_by l)
each-posted pool held e None h = tt
each-posted pool held e (Some l) h = recursion_from_All (IsPosted pool held e.domain) l.requester.items h.posted

pub own-distinct : (pool : Pool) (held : List RegisteredRegion) (e : Endpoint) (l : Option EndLink) → IsInState pool held e l → IsDistinct nat_eq (payload_lists (untold_by l))
own-distinct pool held e None h = distinct-none
own-distinct pool held e (Some l) h = h.apart

-- lists that are none of the regions' and none of these are as they were
kept-lists : (a b : Pool) (held : List RegisteredRegion) (own : List ℕ) (domain : Name) → KeepsLists a b held own → (ps : List QueuedRequest) → AllByRecursion (IsPosted a held domain) ps → AreApart (payload_lists ps) own → AreSame a b ps
kept-lists a b held own domain k [] h n = tt
kept-lists a b held own domain k (p ∷ ps) h n = (k.others p.payload.list h.0.payload.holds.lives h.0.payload.apart (lacks-all p.payload.list own n.0), kept-lists a b held own domain k ps h.1 n.1)

-- the ends whose payloads are others
abbrev pub EndsSame : Pool → Pool → List (Name × EndSlot) → Type 0
EndsSame a b es = AllByRecursion (λ e. AreSame a b (untold_at e)) es

pub kept-ends : (a b : Pool) (held : List RegisteredRegion) (own : List ℕ) → KeepsLists a b held own → (es : List (Name × EndSlot)) → AllByRecursion (λ e. IsEnd a held e.1.endpoint) es → AreApart (payloads_of es) own → EndsSame a b es
kept-ends a b held own k [] h n = tt
kept-ends a b held own k (e ∷ es) h n = (
  kept-lists a b held own e.1.endpoint.domain k (untold_at e) (each-posted a held e.1.endpoint e.1.endpoint.link h.0.state) (each-front (Lacks own) (payload_lists (untold_at e)) (payloads_of es) n),
  kept-ends a b held own k es h.1 (each-back (Lacks own) (payload_lists (untold_at e)) (payloads_of es) n),
)

-- ends with the same payloads, under the same names
pub shown-same : (a b : Pool) (old new : List (Name × Queue)) → keys_of new ≡ keys_of old → (es : List (Name × EndSlot)) → EndsSame a b es → map (end_of b new) es ≡ map (end_of a old) es
shown-same a b old new keys [] s = refl
shown-same a b old new keys (e ∷ es) s =
    let names : names_in new e ≡ names_in old e = ap (λ ks. record { name = e.0; send_cq = get_or ks e.1.send []; recv_cq = get_or ks e.1.recv [] }) keys in
    let here : end_of b new e ≡ end_of a old e = end-same a b (names_in new e) e.1.endpoint s.0 ∙ ap (λ ns. end_in a ns e.1.endpoint) names in
    let rest : map (end_of b new) es ≡ map (end_of a old) es = shown-same a b old new keys es s.1 in
    cc

pub ends-sound : (a b : Pool) (held : List RegisteredRegion) (es : List (Name × EndSlot)) → EndsSame a b es → AllByRecursion (λ e. IsEnd a held e.1.endpoint) es → AllByRecursion (λ e. IsEnd b held e.1.endpoint) es
ends-sound a b held [] s h = tt
ends-sound a b held (e ∷ es) s h = (sound-same a b held e.1.endpoint s.0 h.0, ends-sound a b held es s.1 h.1)

pub ends-paged : (a b : Pool) (held : List RegisteredRegion) (es : List (Name × EndSlot)) → EndsSame a b es → AllByRecursion (λ e. All (IsPaged a held) (untold_at e)) es → AllByRecursion (λ e. All (IsPaged b held) (untold_at e)) es
ends-paged a b held [] s h = tt
ends-paged a b held (e ∷ es) s h = (
  All-from_recursion (IsPaged b held) (untold_at e) (all-paged a b held (untold_at e) s.0 (recursion_from_All (IsPaged a held) (untold_at e) h.0)),
  ends-paged a b held es s.1 h.1,
)

-- ---- the step

-- the context after a step of the end at a place
abbrev pub after : Holding → ℕ → Name × EndSlot → List RegisteredRegion → List (Name × Queue) → Endpoint → Holding
after h i e held queues x = record h { regions = held; queues = queues; ends = set_value_at h.ends i (record { send = e.1.send; recv = e.1.recv; endpoint = x }) }

-- what the end of a context has after a step
abbrev pub site_after : Pool → Name × EndSlot → List RegisteredRegion → List (Name × Queue) → Endpoint → EndWithMemory
site_after pool e held queues x = record { pool = pool; held = held; queues = queues; send = e.1.send; recv = e.1.recv; end = x }

-- the payloads of requests that are posted are of no end, and have the pages that the requests take
pub record AreNew (pool : Pool) (h : Holding) (posted : List QueuedRequest) : Type 0 where
  pub others : AreApart (payloads_of h.ends) (payload_lists posted)
  pub paged : AllByRecursion (IsPaged pool h.regions) posted

-- what stands before the end that steps, and behind it
pub record Stays (a b : Pool) (h : Holding) (i : ℕ) (e : Name × EndSlot) : Type 0 where
  pub split : IsSplit h.ends i e
  pub front : EndsSame a b split.front
  pub back : EndsSame a b split.back
