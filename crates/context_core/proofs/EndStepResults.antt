-- What a step of one end makes of its context.
use Rattle.std.proofs.Common.{◌≡◌, ℕ, zero, suc, ◌+◌, ◌<◌, ◌≤◌, ◌≢◌, false, List, [], ◌∷◌, ◌++◌, length, refl, ap, sym, ◌∙◌, subst, arith, drop, get_or, inl, inr}
use Rattle.std.specs.Prelude.{◌⊎◌, Some, map, All, Contains, nat_eq, bytes_eq, slice_get, sum_by}
use Rattle.std.specs.List.{AllByRecursion, IsDistinct}
use Rattle.std.specs.Map.{keys_of}
use Rattle.std.proofs.lemmas.List.Elements.{All-from_recursion, recursion_from_All, Contains-append_left, Contains-append_right, Contains-append_cases}
use Rattle.std.proofs.lemmas.List.Sums.{sum_by-append, sum_by-cons}
use Rattle.std.proofs.lemmas.Grind.{flat_map-append}
use Rattle.indexmap.specs.IndexMap.{set_value_at}
use Rattle.rdma_types.specs.declared.names.Name.{Name}
use Rattle.page_pool.specs.Pool.{Pool, IsIn, bytes_of, free_pages}
use Rattle.end_queues.specs.Completions.{Queue}
use Rattle.memory_keys.specs.declared.RegisteredRegion.{RegisteredRegion}
use Rattle.memory_keys.specs.Regions.{AreKeyed, regions_of}
use Rattle.end_queues.specs.declared.work_queues.posted.QueuedRequest.{QueuedRequest}
use Rattle.protocol.specs.EndWords.{with_end}
use Rattle.protocol.specs.State.{Context, End}
use Rattle.endpoint_core.specs.declared.end.Endpoint.{Endpoint}
use Rattle.endpoint_core.specs.Ends.{end_in, untold_by}
use Rattle.endpoint_core.specs.Queues.{nothing, promised, queues_of, reserved_in}
use Rattle.endpoint_core.specs.Sites.{IsSound, Keeps, home}
use Rattle.endpoint_core.specs.Sound.{IsEnd, payload_lists, payload_pages}
use Rattle.context_core.specs.declared.state.EndSlot.{EndSlot}
use Rattle.context_core.specs.Context.{HasQueues, Holding, IsHolding, IsPaged, context_in, end_of, lists_of, names_in, payloads_of, site_in, untold_at}
use Rattle.context_core.proofs.DisjointLists.{AreApart, Lacks, apart-both, apart-drop, apart-left, apart-right, apart-swap, distinct-apart, distinct-back, distinct-both, distinct-front, each-append, each-back, each-drop, each-front, each-unmap, each-weaker, lacks-all}
use Rattle.protocol.specs.Memory.{pages_of_context}
use Rattle.context_core.proofs.ContextPages.{end_pages, end_pages-same, pages-are, payloads-append, region_pages}
use Rattle.context_core.proofs.SamePayloads.{AreSame, all-paged}
use Rattle.context_core.proofs.SplitEntries.{IsSplit, map-append, split-at}
use Rattle.context_core.proofs.EndSteps.{AreNew, EndsSame, after, ends-paged, ends-sound, kept-ends, own-distinct, shown-same, site_after, with-end}

module _ (a b : Pool) (h : Holding) (more : ℕ → ℕ) (i : ℕ) (e : Name × EndSlot) (held : List RegisteredRegion) (queues : List (Name × Queue)) (x : Endpoint) (posted : List QueuedRequest) where
  -- what is known of a step of the end at a place
  pub record IsStep : Type 0 where
    pub is : IsHolding a h more
    pub there : slice_get h.ends i ≡ Some e
    pub keeps : Keeps (site_in a h e) (site_after b e held queues x) posted more
    pub sound : IsSound (site_after b e held queues x) nothing
    pub new : AreNew a h posted

-- the payload lists of ends, before and behind one of them
pub payloads-split : (front back : List (Name × EndSlot)) (e : Name × EndSlot) → payloads_of (front ++ e ∷ back) ≡ payloads_of front ++ (payload_lists (untold_at e) ++ payloads_of back)
payloads-split front back e = flat_map-append (λ y. payload_lists (untold_at y)) front (e ∷ back)

lists-drop : (k : ℕ) (ps : List QueuedRequest) → payload_lists (drop k ps) ≡ drop k (payload_lists ps)
lists-drop zero ps = refl
lists-drop (suc k) [] = refl
lists-drop (suc k) (p ∷ ps) = lists-drop k ps

contains-drop : (k : ℕ) (xs : List ℕ) (y : ℕ) → Contains (drop k xs) y → Contains xs y
contains-drop zero xs y c = c
contains-drop (suc k) [] y c = c
contains-drop (suc k) (x ∷ xs) y c = Contains-append_right (x ∷ []) xs y (contains-drop k xs y c)

-- the lists of the end that steps are others than those of the ends before and behind it
record ArePieces (h : Holding) (i : ℕ) (e : Name × EndSlot) (own posted : List ℕ) : Type 0 where
  pub split : IsSplit h.ends i e
  pub front_own : AreApart (payloads_of split.front) (own ++ posted)
  pub back_own : AreApart (payloads_of split.back) (own ++ posted)
  pub front_back : AreApart (payloads_of split.front) (payloads_of split.back)
  pub front : IsDistinct nat_eq (payloads_of split.front)
  pub back : IsDistinct nat_eq (payloads_of split.back)

pieces : (a : Pool) (h : Holding) (more : ℕ → ℕ) (i : ℕ) (e : Name × EndSlot) (posted : List QueuedRequest) → IsHolding a h more → slice_get h.ends i ≡ Some e → AreNew a h posted → ArePieces h i e (payload_lists (untold_at e)) (payload_lists posted)
pieces a h more i e posted is there new =
    let s = split-at h.ends i e there in
    let whole : payloads_of h.ends ≡ payloads_of s.front ++ (payload_lists (untold_at e) ++ payloads_of s.back) = ap payloads_of s.whole ∙ payloads-split s.front s.back e in
    let d : IsDistinct nat_eq (payloads_of s.front ++ (payload_lists (untold_at e) ++ payloads_of s.back)) = subst (IsDistinct nat_eq) whole is.apart in
    let later : IsDistinct nat_eq (payload_lists (untold_at e) ++ payloads_of s.back) = distinct-back (payloads_of s.front) (payload_lists (untold_at e) ++ payloads_of s.back) d in
    let cross : AreApart (payloads_of s.front) (payload_lists (untold_at e) ++ payloads_of s.back) = distinct-apart (payloads_of s.front) (payload_lists (untold_at e) ++ payloads_of s.back) d in
    let others : AreApart (payloads_of s.front ++ (payload_lists (untold_at e) ++ payloads_of s.back)) (payload_lists posted) = subst (λ ls. AreApart ls (payload_lists posted)) whole new.others in
    let behind : AreApart (payload_lists (untold_at e) ++ payloads_of s.back) (payload_lists posted) = each-back (Lacks (payload_lists posted)) (payloads_of s.front) (payload_lists (untold_at e) ++ payloads_of s.back) others in
    record {
      split = s;
      front_own = apart-both (payloads_of s.front) (payload_lists (untold_at e)) (payload_lists posted) (apart-left (payloads_of s.front) (payload_lists (untold_at e)) (payloads_of s.back) cross) (each-front (Lacks (payload_lists posted)) (payloads_of s.front) (payload_lists (untold_at e) ++ payloads_of s.back) others);
      back_own = apart-both (payloads_of s.back) (payload_lists (untold_at e)) (payload_lists posted) (apart-swap (payload_lists (untold_at e)) (payloads_of s.back) (distinct-apart (payload_lists (untold_at e)) (payloads_of s.back) later)) (each-back (Lacks (payload_lists posted)) (payload_lists (untold_at e)) (payloads_of s.back) behind);
      front_back = apart-right (payloads_of s.front) (payload_lists (untold_at e)) (payloads_of s.back) cross;
      front = distinct-front (payloads_of s.front) (payload_lists (untold_at e) ++ payloads_of s.back) d;
      back = distinct-back (payload_lists (untold_at e)) (payloads_of s.back) later;
    }

module _ {a b : Pool} {h : Holding} {more : ℕ → ℕ} {i : ℕ} {e : Name × EndSlot} {held : List RegisteredRegion} {queues : List (Name × Queue)} {x : Endpoint} {posted : List QueuedRequest} (step : IsStep a b h more i e held queues x posted) where
  parts : ArePieces h i e (payload_lists (untold_at e)) (payload_lists posted)
  parts = pieces a h more i e posted step.is step.there step.new

  -- the end after the step, under its name
  abbrev changed : Name × EndSlot
  changed = (e.0, record { send = e.1.send; recv = e.1.recv; endpoint = x })

  own-lists : payload_lists (untold_at e ++ posted) ≡ payload_lists (untold_at e) ++ payload_lists posted
  own-lists = map-append (λ p. p.payload.list) (untold_at e) posted

  keys-same : keys_of queues ≡ keys_of h.queues
  keys-same = step.keeps.queues.names

  each-sound : AllByRecursion (λ y. IsEnd a h.regions y.1.endpoint) (parts.split.front ++ e ∷ parts.split.back)
  each-sound = subst (AllByRecursion (λ y. IsEnd a h.regions y.1.endpoint)) parts.split.whole (recursion_from_All (λ y. IsEnd a h.regions y.1.endpoint) h.ends step.is.ends)

  -- the other ends' payloads stay
  front-same : EndsSame a b parts.split.front
  front-same = kept-ends a b h.regions (payload_lists (untold_at e ++ posted)) step.keeps.lists parts.split.front (each-front (λ y. IsEnd a h.regions y.1.endpoint) parts.split.front (e ∷ parts.split.back) each-sound) (subst (AreApart (payloads_of parts.split.front)) (sym own-lists) parts.front_own)

  back-same : EndsSame a b parts.split.back
  back-same = kept-ends a b h.regions (payload_lists (untold_at e ++ posted)) step.keeps.lists parts.split.back (each-back (λ y. IsEnd a h.regions y.1.endpoint) parts.split.front (e ∷ parts.split.back) each-sound).1 (subst (AreApart (payloads_of parts.split.back)) (sym own-lists) parts.back_own)

  -- the context after it
  pub view : (n : Name) → home (context_in a n h) (names_in h.queues e) (site_after b e held queues x) ≡ context_in b n (after h i e held queues x)
  unfolding context_in with_end
  view n =
      let stored = with-end a n h i e parts.split (end_in b (names_in h.queues e) x) refl step.is.end_names in
      let names : names_in queues changed ≡ names_in h.queues e = ap (λ ks. record { name = e.0; send_cq = get_or ks e.1.send []; recv_cq = get_or ks e.1.recv [] }) keys-same in
      let here : end_of b queues changed ≡ end_in b (names_in h.queues e) x = ap (λ ns. end_in b ns x) names in
      let front : map (end_of b queues) parts.split.front ≡ map (end_of a h.queues) parts.split.front = shown-same a b h.queues queues keys-same parts.split.front front-same in
      let back : map (end_of b queues) parts.split.back ≡ map (end_of a h.queues) parts.split.back = shown-same a b h.queues queues keys-same parts.split.back back-same in
      let shown : map (end_of b queues) (parts.split.front ++ changed ∷ parts.split.back) ≡ map (end_of a h.queues) parts.split.front ++ end_in b (names_in h.queues e) x ∷ map (end_of a h.queues) parts.split.back =
      map-append (end_of b queues) parts.split.front (changed ∷ parts.split.back) ∙ (ap (λ es. es ++ map (end_of b queues) (changed ∷ parts.split.back)) front ∙ (ap (λ y. map (end_of a h.queues) parts.split.front ++ y ∷ map (end_of b queues) parts.split.back) here ∙ ap (λ es. map (end_of a h.queues) parts.split.front ++ end_in b (names_in h.queues e) x ∷ es) back)) in
      let ends : map (end_of b queues) (set_value_at h.ends i changed.1) ≡ map (end_of a h.queues) parts.split.front ++ end_in b (names_in h.queues e) x ∷ map (end_of a h.queues) parts.split.back = ap (map (end_of b queues)) (parts.split.changed changed.1) ∙ shown in
      ap {A = Context} (λ c. record c { regions = regions_of b held; queues = queues_of queues }) stored ∙ ap {A = List End} (λ es. record { name = n; domains = h.domains; regions = regions_of b held; queues = queues_of queues; ends = es }) (sym ends)

  -- ---- soundness

  same-held : held ≡ h.regions
  same-held = step.keeps.regions

  own-lists-left : payload_lists (untold_by x.link) ≡ drop step.keeps.untold.gone (payload_lists (untold_at e) ++ payload_lists posted)
  own-lists-left = ap payload_lists step.keeps.untold.left ∙ (lists-drop step.keeps.untold.gone (untold_at e ++ posted) ∙ ap (drop step.keeps.untold.gone) own-lists)

  new-payloads : payloads_of (parts.split.front ++ changed ∷ parts.split.back) ≡ payloads_of parts.split.front ++ (payload_lists (untold_by x.link) ++ payloads_of parts.split.back)
  new-payloads = payloads-split parts.split.front parts.split.back changed

  new-apart : IsDistinct nat_eq (payloads_of (set_value_at h.ends i changed.1))
  new-apart =
      let own : IsDistinct nat_eq (payload_lists (untold_by x.link)) = own-distinct b held x x.link step.sound.end.state in
      let front : AreApart (payloads_of parts.split.front) (payload_lists (untold_by x.link)) = subst (AreApart (payloads_of parts.split.front)) (sym own-lists-left) (apart-drop step.keeps.untold.gone (payloads_of parts.split.front) (payload_lists (untold_at e) ++ payload_lists posted) parts.front_own) in
      let back : AreApart (payloads_of parts.split.back) (payload_lists (untold_by x.link)) = subst (AreApart (payloads_of parts.split.back)) (sym own-lists-left) (apart-drop step.keeps.untold.gone (payloads_of parts.split.back) (payload_lists (untold_at e) ++ payload_lists posted) parts.back_own) in
      let later : IsDistinct nat_eq (payload_lists (untold_by x.link) ++ payloads_of parts.split.back) = distinct-both (payload_lists (untold_by x.link)) (payloads_of parts.split.back) own parts.back (apart-swap (payloads_of parts.split.back) (payload_lists (untold_by x.link)) back) in
      let all : IsDistinct nat_eq (payloads_of parts.split.front ++ (payload_lists (untold_by x.link) ++ payloads_of parts.split.back)) = distinct-both (payloads_of parts.split.front) (payload_lists (untold_by x.link) ++ payloads_of parts.split.back) parts.front later (apart-both (payloads_of parts.split.front) (payload_lists (untold_by x.link)) (payloads_of parts.split.back) front parts.front_back) in
      subst (IsDistinct nat_eq) (sym (ap payloads_of (parts.split.changed changed.1) ∙ new-payloads)) all

  -- what holds of each end
  each-after : (P : Name × EndSlot → Type 0) → AllByRecursion P parts.split.front → P changed → AllByRecursion P parts.split.back → All P (set_value_at h.ends i changed.1)
  each-after P front here back = subst (All P) (sym (parts.split.changed changed.1)) (All-from_recursion P (parts.split.front ++ changed ∷ parts.split.back) (each-append P parts.split.front (changed ∷ parts.split.back) front (here, back)))

  each-of : (P : Name × EndSlot → Type 0) → All P h.ends → AllByRecursion P (parts.split.front ++ e ∷ parts.split.back)
  each-of P all = subst (AllByRecursion P) parts.split.whole (recursion_from_All P h.ends all)

  new-sound : All (λ y. IsEnd b held y.1.endpoint) (set_value_at h.ends i changed.1)
  new-sound =
      let front : AllByRecursion (λ y. IsEnd b h.regions y.1.endpoint) parts.split.front = ends-sound a b h.regions parts.split.front front-same (each-front (λ y. IsEnd a h.regions y.1.endpoint) parts.split.front (e ∷ parts.split.back) each-sound) in
      let back : AllByRecursion (λ y. IsEnd b h.regions y.1.endpoint) parts.split.back = ends-sound a b h.regions parts.split.back back-same (each-back (λ y. IsEnd a h.regions y.1.endpoint) parts.split.front (e ∷ parts.split.back) each-sound).1 in
      each-after (λ y. IsEnd b held y.1.endpoint) (subst (λ r. AllByRecursion (λ y. IsEnd b r y.1.endpoint) parts.split.front) (sym same-held) front) step.sound.end (subst (λ r. AllByRecursion (λ y. IsEnd b r y.1.endpoint) parts.split.back) (sym same-held) back)

  new-paged : All (λ y. All (IsPaged b held) (untold_at y)) (set_value_at h.ends i changed.1)
  new-paged =
      let paged = each-of (λ y. All (IsPaged a h.regions) (untold_at y)) step.is.paged in
      let front : AllByRecursion (λ y. All (IsPaged b h.regions) (untold_at y)) parts.split.front = ends-paged a b h.regions parts.split.front front-same (each-front (λ y. All (IsPaged a h.regions) (untold_at y)) parts.split.front (e ∷ parts.split.back) paged) in
      let back : AllByRecursion (λ y. All (IsPaged b h.regions) (untold_at y)) parts.split.back = ends-paged a b h.regions parts.split.back back-same (each-back (λ y. All (IsPaged a h.regions) (untold_at y)) parts.split.front (e ∷ parts.split.back) paged).1 in
      let old : AllByRecursion (IsPaged a h.regions) (untold_at e) = recursion_from_All (IsPaged a h.regions) (untold_at e) (each-back (λ y. All (IsPaged a h.regions) (untold_at y)) parts.split.front (e ∷ parts.split.back) paged).0 in
      let left : AllByRecursion (IsPaged a h.regions) (untold_by x.link) = subst (AllByRecursion (IsPaged a h.regions)) (sym step.keeps.untold.left) (each-drop (IsPaged a h.regions) step.keeps.untold.gone (untold_at e ++ posted) (each-append (IsPaged a h.regions) (untold_at e) posted old step.new.paged)) in
      let kept : AreSame a b (untold_by x.link) = recursion_from_All (λ p. bytes_of b p.payload.list ≡ bytes_of a p.payload.list) (untold_by x.link) step.keeps.kept in
      let here : All (IsPaged b h.regions) (untold_by x.link) = All-from_recursion (IsPaged b h.regions) (untold_by x.link) (all-paged a b h.regions (untold_by x.link) kept left) in
      subst (λ r. All (λ y. All (IsPaged b r) (untold_at y)) (set_value_at h.ends i changed.1)) (sym same-held) (each-after (λ y. All (IsPaged b h.regions) (untold_at y)) front here back)

  same-length : length queues ≡ length h.queues
  same-length = sym (count queues) ∙ (ap length keys-same ∙ count h.queues)
    where
      count : (qs : List (Name × Queue)) → length (keys_of qs) ≡ length qs
      count [] = refl
      count (q ∷ qs) = ap suc (count qs)

  new-placed : All (HasQueues queues) (set_value_at h.ends i changed.1)
  new-placed =
      let placed = each-of (HasQueues h.queues) step.is.placed in
      let move : (y : Name × EndSlot) → HasQueues h.queues y → HasQueues queues y = λ y k. (subst (λ n. y.1.send < n) (sym same-length) k.0, subst (λ n. y.1.recv < n) (sym same-length) k.1) in
      each-after (HasQueues queues)
      (each-weaker (HasQueues h.queues) (HasQueues queues) move parts.split.front (each-front (HasQueues h.queues) parts.split.front (e ∷ parts.split.back) placed))
      (move e (each-back (HasQueues h.queues) parts.split.front (e ∷ parts.split.back) placed).0)
      (each-weaker (HasQueues h.queues) (HasQueues queues) move parts.split.back (each-back (HasQueues h.queues) parts.split.front (e ∷ parts.split.back) placed).1)

  new-reserved : (place : ℕ) → reserved_in queues place ≡ sum_by (λ y. promised y.1.send y.1.recv y.1.endpoint place) (set_value_at h.ends i changed.1) + 0
  new-reserved place =
      let f : Name × EndSlot → ℕ = λ y. promised y.1.send y.1.recv y.1.endpoint place in
      let old : sum_by f h.ends ≡ sum_by f parts.split.front + (f e + sum_by f parts.split.back) = ap (sum_by f) parts.split.whole ∙ (sum_by-append f parts.split.front (e ∷ parts.split.back) ∙ ap (λ n. sum_by f parts.split.front + n) (sum_by-cons f e parts.split.back)) in
      let new : sum_by f (set_value_at h.ends i changed.1) ≡ sum_by f parts.split.front + (f changed + sum_by f parts.split.back) = ap (sum_by f) (parts.split.changed changed.1) ∙ (sum_by-append f parts.split.front (changed ∷ parts.split.back) ∙ ap (λ n. sum_by f parts.split.front + n) (sum_by-cons f changed parts.split.back)) in
      sum-up (reserved_in queues place) (reserved_in h.queues place) (f e) (f changed) (more place) (sum_by f parts.split.front) (sum_by f parts.split.back) (sum_by f h.ends) (sum_by f (set_value_at h.ends i changed.1)) (step.keeps.queues.balance place) (step.is.reserved place) old new
    where
      sum-up : (r r' p p' m f g s s' : ℕ) → r + (p + m) ≡ r' + p' → r' ≡ s + m → s ≡ f + (p + g) → s' ≡ f + (p' + g) → r ≡ s' + 0
      sum-up r r' p p' m f g s s' one two three four = omega arith

  new-end-names : IsDistinct bytes_eq (keys_of (set_value_at h.ends i changed.1))
  new-end-names =
      let old : keys_of h.ends ≡ keys_of parts.split.front ++ keys_of (e ∷ parts.split.back) = ap keys_of parts.split.whole ∙ map-append (λ y. y.0) parts.split.front (e ∷ parts.split.back) in
      let new : keys_of (set_value_at h.ends i changed.1) ≡ keys_of parts.split.front ++ keys_of (e ∷ parts.split.back) = ap keys_of (parts.split.changed changed.1) ∙ map-append (λ y. y.0) parts.split.front (changed ∷ parts.split.back) in
      subst (IsDistinct bytes_eq) (old ∙ sym new) step.is.end_names

  pub is-holding : IsHolding b (after h i e held queues x) nothing
  is-holding = record {
    held = step.sound.regions;
    keyed = subst AreKeyed (sym same-held) step.is.keyed;
    ends = new-sound;
    placed = new-placed;
    apart = new-apart;
    paged = new-paged;
    reserved = new-reserved;
    queue_names = subst (IsDistinct bytes_eq) (sym keys-same) step.is.queue_names;
    end_names = new-end-names;
    few_queues = subst (λ k. k ≤ 64) (sym same-length) step.is.few_queues;
  }

  -- ---- what moved

  -- another list is as it was
  pub other-lists : (list : ℕ) → IsIn a list → Lacks (lists_of h) list → Lacks (payload_lists posted) list → bytes_of b list ≡ bytes_of a list
  unfolding lists_of
  other-lists list live l p =
      let regions : Lacks (map (λ r. r.list) h.regions) list = each-front (λ y. nat_eq list y ≡ false) (map (λ r. r.list) h.regions) (payloads_of h.ends) l in
      let payloads : Lacks (payloads_of h.ends) list = each-back (λ y. nat_eq list y ≡ false) (map (λ r. r.list) h.regions) (payloads_of h.ends) l in
      let whole : payloads_of h.ends ≡ payloads_of parts.split.front ++ (payload_lists (untold_at e) ++ payloads_of parts.split.back) = ap payloads_of parts.split.whole ∙ payloads-split parts.split.front parts.split.back e in
      let own : Lacks (payload_lists (untold_at e)) list = each-front (λ y. nat_eq list y ≡ false) (payload_lists (untold_at e)) (payloads_of parts.split.back) (each-back (λ y. nat_eq list y ≡ false) (payloads_of parts.split.front) (payload_lists (untold_at e) ++ payloads_of parts.split.back) (subst (λ ls. Lacks ls list) whole payloads)) in
      step.keeps.lists.others list live (heads (lacks-all list (map (λ r. r.list) h.regions) regions)) (lacks-all list (payload_lists (untold_at e ++ posted)) (subst (λ ls. Lacks ls list) (sym own-lists) (each-append (λ y. nat_eq list y ≡ false) (payload_lists (untold_at e)) (payload_lists posted) own p)))
    where
      heads : All (λ y. y ≢ list) (map (λ r. r.list) h.regions) → All (λ r. r.list ≢ list) h.regions
      heads all = All-from_recursion (λ r. r.list ≢ list) h.regions (each-unmap (λ y. y ≢ list) (λ r. r.list) h.regions (recursion_from_All (λ y. y ≢ list) (map (λ r. r.list) h.regions) all))

  -- a list after the step was one before it, or is that of a posted request
  pub old-or-posted : (list : ℕ) → Contains (lists_of (after h i e held queues x)) list → Contains (lists_of h) list ⊎ Contains (payload_lists posted) list
  unfolding lists_of
  old-or-posted list c = by_region (Contains-append_cases (map (λ r. r.list) held) (payloads_of (set_value_at h.ends i changed.1)) list c)
    where
      F : List ℕ
      F = payloads_of parts.split.front

      O : List ℕ
      O = payload_lists (untold_at e)

      B : List ℕ
      B = payloads_of parts.split.back

      whole : payloads_of h.ends ≡ F ++ (O ++ B)
      whole = ap payloads_of parts.split.whole ∙ payloads-split parts.split.front parts.split.back e

      old : Contains (F ++ (O ++ B)) list → Contains (lists_of h) list ⊎ Contains (payload_lists posted) list
      old k = inl (Contains-append_right (map (λ r. r.list) h.regions) (payloads_of h.ends) list (subst (λ ls. Contains ls list) (sym whole) k))

      by_own : Contains O list ⊎ Contains (payload_lists posted) list → Contains (lists_of h) list ⊎ Contains (payload_lists posted) list
      by_own (inl k) = old (Contains-append_right F (O ++ B) list (Contains-append_left O B list k))
      by_own (inr k) = inr k

      by_back : Contains (payload_lists (untold_by x.link)) list ⊎ Contains B list → Contains (lists_of h) list ⊎ Contains (payload_lists posted) list
      by_back (inl k) = by_own (Contains-append_cases O (payload_lists posted) list (contains-drop step.keeps.untold.gone (O ++ payload_lists posted) list (subst (λ ls. Contains ls list) own-lists-left k)))
      by_back (inr k) = old (Contains-append_right F (O ++ B) list (Contains-append_right O B list k))

      by_front : Contains F list ⊎ Contains (payload_lists (untold_by x.link) ++ B) list → Contains (lists_of h) list ⊎ Contains (payload_lists posted) list
      by_front (inl k) = old (Contains-append_left F (O ++ B) list k)
      by_front (inr k) = by_back (Contains-append_cases (payload_lists (untold_by x.link)) B list k)

      by_region : Contains (map (λ r. r.list) held) list ⊎ Contains (payloads_of (set_value_at h.ends i changed.1)) list → Contains (lists_of h) list ⊎ Contains (payload_lists posted) list
      by_region (inl k) = inl (Contains-append_left (map (λ r. r.list) h.regions) (payloads_of h.ends) list (subst (λ hs. Contains (map (λ r. r.list) hs) list) same-held k))
      by_region (inr k) = by_front (Contains-append_cases F (payload_lists (untold_by x.link) ++ B) list (subst (λ ls. Contains ls list) (ap payloads_of (parts.split.changed changed.1) ∙ new-payloads) k))

  -- the pages that the payloads of told or flushed requests had are free, and those of posted ones are taken
  pub pages-counted : (n : Name) → free_pages b + pages_of_context (context_in b n (after h i e held queues x)) ≡ (free_pages a + pages_of_context (context_in a n h)) + payload_pages a posted
  pages-counted n =
      let old : end_pages a h.ends ≡ end_pages a parts.split.front + (payload_pages a (untold_at e) + end_pages a parts.split.back) = ap (end_pages a) parts.split.whole ∙ (sum_by-append (λ y. payload_pages a (untold_at y)) parts.split.front (e ∷ parts.split.back) ∙ ap (λ k. end_pages a parts.split.front + k) (sum_by-cons (λ y. payload_pages a (untold_at y)) e parts.split.back)) in
      let new : end_pages b (set_value_at h.ends i changed.1) ≡ end_pages b parts.split.front + (payload_pages b (untold_by x.link) + end_pages b parts.split.back) = ap (end_pages b) (parts.split.changed changed.1) ∙ (sum_by-append (λ y. payload_pages b (untold_at y)) parts.split.front (changed ∷ parts.split.back) ∙ ap (λ k. end_pages b parts.split.front + k) (sum_by-cons (λ y. payload_pages b (untold_at y)) changed parts.split.back)) in
      sum-up (free_pages b) (free_pages a) (payload_pages b (untold_by x.link)) (payload_pages a (untold_at e)) (payload_pages a posted) (end_pages b parts.split.front) (end_pages a parts.split.front) (end_pages b parts.split.back) (end_pages a parts.split.back) (region_pages h.regions) (end_pages b (set_value_at h.ends i changed.1)) (end_pages a h.ends) _ _
      (step.keeps.free ∙ ap (λ k. free_pages a + k) (payloads-append a (untold_at e) posted)) (end_pages-same a b parts.split.front front-same) (end_pages-same a b parts.split.back back-same) new old
      (pages-are b (after h i e held queues x) nothing n is-holding ∙ ap (λ hs. region_pages hs + end_pages b (set_value_at h.ends i changed.1)) same-held) (pages-are a h more n step.is)
    where
      sum-up : (fb fa pb pa q sf sf' sb sb' r eb ea cb ca : ℕ) → fb + pb ≡ fa + (pa + q) → sf ≡ sf' → sb ≡ sb' → eb ≡ sf + (pb + sb) → ea ≡ sf' + (pa + sb') → cb ≡ r + eb → ca ≡ r + ea → fb + cb ≡ (fa + ca) + q
      sum-up fb fa pb pa q sf sf' sb sb' r eb ea cb ca one two three four five six seven = omega arith
