-- Regions made and dropped under the queue pairs of a context.
use Rattle.std.proofs.Common.{◌≡◌, ◌≢◌, ℕ, zero, suc, ◌+◌, ◌<◌, Bool, true, false, List, [], ◌∷◌, ◌++◌, refl, ap, sym, ◌∙◌, arith, inl, inr}
use Rattle.std.specs.Prelude.{◌==◌, ◌||◌, ◌&&◌, ◌⊎◌, not, Option, Some, None, All, Contains, map, option_map, slice_get, remove}
use Rattle.std.specs.List.{AllByRecursion}
use Rattle.std.proofs.lemmas.List.Elements.{All-from_recursion, recursion_from_All, All-push, Contains-append_left, Contains-append_right, Contains-append_cases}
use Rattle.std.proofs.lemmas.Bool.Decides.{nat_tests}
use Rattle.rdma_types.specs.declared.names.Name.{Name}
use Rattle.rdma_types.specs.declared.requests.Receive.{Receive}
use Rattle.rdma_types.specs.Lists.{first_that, some}
use Rattle.page_pool.specs.Pool.{Pool, bytes_of, free_pages}
use Rattle.end_queues.specs.Completions.{Queue}
use Rattle.memory_keys.specs.declared.RegisteredRegion.{RegisteredRegion}
use Rattle.memory_keys.specs.Regions.{AreHeld, AreKeyed, KeepsOthers, held_at, regions_of}
use Rattle.end_queues.specs.declared.work_queues.posted.QueuedRequest.{QueuedRequest}
use Rattle.end_queues.specs.Untold.{untold_in}
use Rattle.protocol.specs.EndWords.{in_use_by}
use Rattle.protocol.specs.Memory.{untold_of}
use Rattle.protocol.specs.Refusals.{message_names, names_key, progress_names}
use Rattle.protocol.specs.State.{End, Progress, NoMessage, InSend, InWrite}
use Rattle.endpoint_core.specs.declared.end.EndLink.{EndLink}
use Rattle.endpoint_core.specs.Ends.{link_in, untold_by, used_by}
use Rattle.endpoint_core.specs.Queues.{nothing}
use Rattle.endpoint_core.specs.Sound.{IsEnd, IsPosted}
use Rattle.context_core.specs.declared.state.EndSlot.{EndSlot}
use Rattle.context_core.specs.Context.{Holding, IsContext, IsPaged, Moves, context_in, end_of, lists_of, payloads_of, untold_at}
use Rattle.context_core.proofs.DisjointLists.{each-unmap, lacks-all, lacks-not}
use Rattle.context_core.proofs.ContextPages.{end_pages, end_pages-same, pages-are, region_pages}
use Rattle.context_core.proofs.KeptGrants.{Finds, LinkStays, MessageStays, Reaches, Still, end-still, paged-still}
use Rattle.context_core.proofs.EndSteps.{EndsSame, each-posted, ends-paged, ends-sound, shown-same}
use Rattle.context_core.proofs.RegionStores.{kept-payloads, region-front}

-- other regions, and what the queue pairs name stays
pub record Rearranges (a b : Pool) (h : Holding) (new : List RegisteredRegion) : Type 0 where
  pub is : IsContext a h
  pub others : KeepsOthers a b h.regions
  pub held : AreHeld b new
  pub keyed : AreKeyed new
  pub still : AllByRecursion (λ e. Still h.regions new e.1.endpoint) h.ends
  pub lists : (list : ℕ) → Contains (map (λ r. r.list) new) list → Contains (map (λ r. r.list) h.regions) list ⊎ (bytes_of a list ≡ None)
  pub free : free_pages b + region_pages new ≡ free_pages a + region_pages h.regions

ends-still : (old new : List RegisteredRegion) → AreKeyed old → AreKeyed new → (pool : Pool) (es : List (Name × EndSlot)) → AllByRecursion (λ e. Still old new e.1.endpoint) es → AllByRecursion (λ e. IsEnd pool old e.1.endpoint) es → AllByRecursion (λ e. IsEnd pool new e.1.endpoint) es
ends-still old new keyed keyed' pool [] s h = tt
ends-still old new keyed keyed' pool (e ∷ es) s h = (end-still old new keyed keyed' pool e.1.endpoint s.0 h.0, ends-still old new keyed keyed' pool es s.1 h.1)

all-paged-still : (old new : List RegisteredRegion) (pool : Pool) (es : List (Name × EndSlot)) → AllByRecursion (λ e. Still old new e.1.endpoint) es → AllByRecursion (λ e. IsEnd pool old e.1.endpoint) es → AllByRecursion (λ e. All (IsPaged pool old) (untold_at e)) es → AllByRecursion (λ e. All (IsPaged pool new) (untold_at e)) es
all-paged-still old new pool [] s h p = tt
all-paged-still old new pool (e ∷ es) s h p = (
  All-from_recursion (IsPaged pool new) (untold_at e) (paged-still old new pool e.1.endpoint.domain (untold_at e) (each-posted pool old e.1.endpoint e.1.endpoint.link h.0.state) s.0.requests (recursion_from_All (IsPaged pool old) (untold_at e) p.0)),
  all-paged-still old new pool es s.1 h.1 p.1,
)

module _ {a b : Pool} {h : Holding} {new : List RegisteredRegion} (r : Rearranges a b h new) where
  same : EndsSame a b h.ends
  same = kept-payloads a b h.regions r.others h.ends (recursion_from_All (λ e. IsEnd a h.regions e.1.endpoint) h.ends r.is.is.ends)

  sound : AllByRecursion (λ e. IsEnd b h.regions e.1.endpoint) h.ends
  sound = ends-sound a b h.regions h.ends same (recursion_from_All (λ e. IsEnd a h.regions e.1.endpoint) h.ends r.is.is.ends)

  pub re-is : IsContext b (record h { regions = new })
  re-is = record {
    is = record {
      held = r.held;
      keyed = r.keyed;
      ends = All-from_recursion (λ e. IsEnd b new e.1.endpoint) h.ends (ends-still h.regions new r.is.is.keyed r.keyed b h.ends r.still sound);
      placed = r.is.is.placed;
      apart = r.is.is.apart;
      paged = All-from_recursion (λ e. All (IsPaged b new) (untold_at e)) h.ends (all-paged-still h.regions new b h.ends r.still sound (ends-paged a b h.regions h.ends same (recursion_from_All (λ e. All (IsPaged a h.regions) (untold_at e)) h.ends r.is.is.paged)));
      reserved = r.is.is.reserved;
      queue_names = r.is.is.queue_names;
      end_names = r.is.is.end_names;
      few_queues = r.is.is.few_queues;
    };
  }

  fresh : (list : ℕ) → Contains (lists_of (record h { regions = new })) list → Contains (lists_of h) list ⊎ (bytes_of a list ≡ None)
  unfolding lists_of
  fresh list c = by (Contains-append_cases (map (λ x. x.list) new) (payloads_of h.ends) list c)
    where
      by_region : Contains (map (λ x. x.list) h.regions) list ⊎ (bytes_of a list ≡ None) → Contains (map (λ x. x.list) h.regions ++ payloads_of h.ends) list ⊎ (bytes_of a list ≡ None)
      by_region (inl k) = inl (Contains-append_left (map (λ x. x.list) h.regions) (payloads_of h.ends) list k)
      by_region (inr k) = inr k

      by : Contains (map (λ x. x.list) new) list ⊎ Contains (payloads_of h.ends) list → Contains (map (λ x. x.list) h.regions ++ payloads_of h.ends) list ⊎ (bytes_of a list ≡ None)
      by (inl k) = by_region (r.lists list k)
      by (inr k) = inl (Contains-append_right (map (λ x. x.list) h.regions) (payloads_of h.ends) list k)

  heads : (list : ℕ) → All (λ y. y ≢ list) (map (λ x. x.list) h.regions) → All (λ x. x.list ≢ list) h.regions
  heads list all = All-from_recursion (λ x. x.list ≢ list) h.regions (each-unmap (λ y. y ≢ list) (λ x. x.list) h.regions (recursion_from_All (λ y. y ≢ list) (map (λ x. x.list) h.regions) all))

  pub re-moves : Moves a b h (record h { regions = new })
  re-moves = record {
    pages = r.others.pages;
    others = λ list live not. r.others.others list live (heads list (lacks-all list (map (λ x. x.list) h.regions) (region-front h list (lacks-not list (lists_of h) not))));
    fresh = fresh;
    free = λ n. counted (free_pages b) (free_pages a) (region_pages new) (region_pages h.regions) (end_pages b h.ends) (end_pages a h.ends) _ _ r.free (end_pages-same a b h.ends same) (pages-are b (record h { regions = new }) nothing n re-is.is) (pages-are a h nothing n r.is.is);
  }
    where
      counted : (fb fa rb ra eb ea cb ca : ℕ) → fb + rb ≡ fa + ra → eb ≡ ea → cb ≡ rb + eb → ca ≡ ra + ea → fb + cb ≡ fa + ca
      counted fb fa rb ra eb ea cb ca one two three four = omega arith

  -- the protocol sees other regions
  pub re-shown : (n : Name) → context_in b n (record h { regions = new }) ≡ record (context_in a n h) { regions = regions_of b new }
  unfolding context_in
  re-shown n = ap {A = List End} (λ es. record (context_in a n h) { regions = regions_of b new; ends = es }) (shown-same a b h.queues h.queues refl h.ends same)

-- ---- one region more

finds-more : (old : List RegisteredRegion) (v : RegisteredRegion) (key : ℕ) → Finds old (old ++ v ∷ []) key
unfolding first_that
finds-more [] v key w e = absurd (cc)
finds-more (x ∷ xs) v key w e = by (x.head.keys.local == key) refl (finds-more xs v key w)
  where
    by : (t : Bool) → (x.head.keys.local == key) ≡ t → (held_at key xs ≡ Some w → held_at key (xs ++ v ∷ []) ≡ Some w) → held_at key (x ∷ (xs ++ v ∷ [])) ≡ Some w
    by true t rest = grind (arith, t, e)
    by false t rest = let found : held_at key xs ≡ Some w = grind (arith, t, e) in let later = rest found in grind (arith, t, later)

requests-more : (a : Pool) (old : List RegisteredRegion) (v : RegisteredRegion) (domain : Name) (ps : List QueuedRequest) → bytes_of a v.list ≡ None → AllByRecursion (IsPosted a old domain) ps → AllByRecursion (λ p. Reaches old (old ++ v ∷ []) p.request.lkey p.request.shape.length) ps × AllByRecursion (λ p. All (λ h. h.list ≢ p.payload.list) (old ++ v ∷ [])) ps
requests-more a old v domain [] none h = (tt, tt)
requests-more a old v domain (p ∷ ps) none h =
    let rest = requests-more a old v domain ps none h.1 in (
      (λ some. finds-more old v p.request.lkey, rest.0),
      (All-push (λ x. x.list ≢ p.payload.list) old v h.0.payload.apart other, rest.1),
    )
  where
    other : v.list ≢ p.payload.list
    other same = let none' : bytes_of a p.payload.list ≡ None = ap (bytes_of a) (sym same) ∙ none in cc (h.0.payload.holds.lives, none')

receives-more : (old : List RegisteredRegion) (v : RegisteredRegion) (rs : List Receive) → AllByRecursion (λ r. Reaches old (old ++ v ∷ []) r.lkey r.length) rs
receives-more old v [] = tt
receives-more old v (r ∷ rs) = (λ some. finds-more old v r.lkey, receives-more old v rs)

link-more : (old : List RegisteredRegion) (v : RegisteredRegion) (l : Option EndLink) → LinkStays old (old ++ v ∷ []) l
link-more old v None = tt
link-more old v (Some l) = by l.responder.receiver.progress
  where
    by : (p : Progress) → MessageStays old (old ++ v ∷ []) p
    by NoMessage = tt
    by (InSend done receive) = tt
    by (InWrite region off count done) = finds-more old v region

pub still-more : (a : Pool) (old : List RegisteredRegion) (v : RegisteredRegion) (es : List (Name × EndSlot)) → bytes_of a v.list ≡ None → AllByRecursion (λ e. IsEnd a old e.1.endpoint) es → AllByRecursion (λ e. Still old (old ++ v ∷ []) e.1.endpoint) es
still-more a old v [] none h = tt
still-more a old v (e ∷ es) none h =
    let requests = requests-more a old v e.1.endpoint.domain (untold_at e) none (each-posted a old e.1.endpoint e.1.endpoint.link h.0.state) in (
      record {
        requests = requests.0;
        unused = receives-more old v e.1.endpoint.recvs.items;
        used = receives-more old v (used_by e.1.endpoint.link);
        message = link-more old v e.1.endpoint.link;
        apart = requests.1;
      },
      still-more a old v es none h.1,
    )

-- ---- one region less

pub finds-less : (old : List RegisteredRegion) (i : ℕ) (d : RegisteredRegion) (key : ℕ) → slice_get old i ≡ Some d → d.head.keys.local ≢ key → Finds old (remove old i) key
unfolding first_that
finds-less [] i d key at other w e = absurd (cc)
finds-less (x ∷ xs) zero d key at other w e =
    let here : x ≡ d = cc in
    let no : (x.head.keys.local == key) ≡ false = differs (x.head.keys.local == key) refl here in
    grind (arith, no, e)
  where
    differs : (t : Bool) → (x.head.keys.local == key) ≡ t → x ≡ d → (x.head.keys.local == key) ≡ false
    differs false t same = t
    differs true t same = absurd (other (ap (λ y. y.head.keys.local) (sym same) ∙ grind (arith, nat_tests, t)))
finds-less (x ∷ xs) (suc i) d key at other w e = by (x.head.keys.local == key) refl (finds-less xs i d key at other w)
  where
    by : (t : Bool) → (x.head.keys.local == key) ≡ t → (held_at key xs ≡ Some w → held_at key (remove xs i) ≡ Some w) → held_at key (x ∷ remove xs i) ≡ Some w
    by true t rest = grind (arith, t, e)
    by false t rest = let found : held_at key xs ≡ Some w = grind (arith, t, e) in let later = rest found in grind (arith, t, later)

neither : (p q : Bool) → (p || q) ≡ false → (p ≡ false) × (q ≡ false)
neither true q e = absurd (cc)
neither false q e = (refl, e)

-- what does not name a key names another, or no bytes
elsewhere : (k key count : ℕ) → (key == k && not (count == 0)) ≡ false → 0 < count → k ≢ key
elsewhere k key count e l same =
    let t : (key == k) ≡ true = grind (arith, nat_tests, same) in
    let some : (count == 0) ≡ false = grind (arith, nat_tests, l) in
    absurd (grind (arith, t, some, e))

module _ (old new : List RegisteredRegion) (k : ℕ) (finds : (key : ℕ) → k ≢ key → Finds old new key) where
  requests-less : (pool : Pool) (ps : List QueuedRequest) → some (λ p. p.request.lkey == k && not (p.request.shape.length == 0)) (untold_in pool ps) ≡ false → AllByRecursion (λ p. Reaches old new p.request.lkey p.request.shape.length) ps
  unfolding some
  requests-less pool [] e = tt
  requests-less pool (p ∷ ps) e =
      let both = neither (p.request.lkey == k && not (p.request.shape.length == 0)) (some (λ x. x.request.lkey == k && not (x.request.shape.length == 0)) (untold_in pool ps)) e in
      (λ l. finds p.request.lkey (elsewhere k p.request.lkey p.request.shape.length both.0 l), requests-less pool ps both.1)

  receives-less : (rs : List Receive) → some (λ r. r.lkey == k && not (r.length == 0)) rs ≡ false → AllByRecursion (λ r. Reaches old new r.lkey r.length) rs
  unfolding some
  receives-less [] e = tt
  receives-less (r ∷ rs) e =
      let both = neither (r.lkey == k && not (r.length == 0)) (some (λ x. x.lkey == k && not (x.length == 0)) rs) e in
      (λ l. finds r.lkey (elsewhere k r.lkey r.length both.0 l), receives-less rs both.1)

  linked-less : (pool : Pool) (l : Option EndLink) → some (λ p. p.request.lkey == k && not (p.request.shape.length == 0)) (untold_of (option_map (link_in pool) l)) ≡ false → AllByRecursion (λ p. Reaches old new p.request.lkey p.request.shape.length) (untold_by l)
  linked-less pool None e = tt
  linked-less pool (Some l) e = requests-less pool l.requester.items e

  apart-key : (key : ℕ) → (key == k) ≡ false → k ≢ key
  apart-key key e same = absurd (let t : (key == k) ≡ true = grind (arith, nat_tests, same) in cc)

  used-less : (pool : Pool) (l : Option EndLink) → message_names k (option_map (link_in pool) l) ≡ false → AllByRecursion (λ r. Reaches old new r.lkey r.length) (used_by l) × LinkStays old new l
  used-less pool None e = (tt, tt)
  used-less pool (Some l) e = by l.responder.receiver.progress e
    where
      by : (p : Progress) → progress_names k p ≡ false → AllByRecursion (λ r. Reaches old new r.lkey r.length) (in_use_by p) × MessageStays old new p
      by NoMessage n = (tt, tt)
      by (InSend done receive) n = ((λ l. finds receive.lkey (apart-key receive.lkey n), tt), tt)
      by (InWrite region off count done) n = (tt, finds region (apart-key region n))

  apart-less : (a : Pool) (domain : Name) (ps : List QueuedRequest) → ((list : ℕ) → All (λ h. h.list ≢ list) old → All (λ h. h.list ≢ list) new) → AllByRecursion (IsPosted a old domain) ps → AllByRecursion (λ p. All (λ h. h.list ≢ p.payload.list) new) ps
  apart-less a domain [] fewer h = tt
  apart-less a domain (p ∷ ps) fewer h = (fewer p.payload.list h.0.payload.apart, apart-less a domain ps fewer h.1)

  pub still-less : (a : Pool) (queues : List (Name × Queue)) (es : List (Name × EndSlot)) → ((list : ℕ) → All (λ h. h.list ≢ list) old → All (λ h. h.list ≢ list) new) → AllByRecursion (λ e. IsEnd a old e.1.endpoint) es → some (names_key k) (map (end_of a queues) es) ≡ false → AllByRecursion (λ e. Still old new e.1.endpoint) es
  unfolding some names_key
  still-less a queues [] fewer h e = tt
  still-less a queues (x ∷ xs) fewer h e =
      let both = neither (names_key k (end_of a queues x)) (some (names_key k) (map (end_of a queues) xs)) e in
      let one = neither (some (λ p. p.request.lkey == k && not (p.request.shape.length == 0)) (untold_of (option_map (link_in a) x.1.endpoint.link))) (some (λ r. r.lkey == k && not (r.length == 0)) x.1.endpoint.recvs.items || message_names k (option_map (link_in a) x.1.endpoint.link)) both.0 in
      let two = neither (some (λ r. r.lkey == k && not (r.length == 0)) x.1.endpoint.recvs.items) (message_names k (option_map (link_in a) x.1.endpoint.link)) one.1 in
      let used = used-less a x.1.endpoint.link two.1 in (
        record {
          requests = linked-less a x.1.endpoint.link one.0;
          unused = receives-less x.1.endpoint.recvs.items two.0;
          used = used.0;
          message = used.1;
          apart = apart-less a x.1.endpoint.domain (untold_at x) fewer (each-posted a old x.1.endpoint x.1.endpoint.link h.0.state);
        },
        still-less a queues xs fewer h.1 both.1,
      )
