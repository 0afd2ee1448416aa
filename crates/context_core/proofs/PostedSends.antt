-- What the posting of a request leaves.
use Rattle.std.proofs.Common.{◌≡◌, ◌≢◌, ℕ, zero, suc, ◌+◌, ◌<◌, Bool, true, false, List, [], ◌∷◌, ◌++◌, length, refl, ap, sym, ◌∙◌, subst, arith, inl, inr}
use Rattle.std.specs.Prelude.{◌⊎◌, All, Contains, Option, Some, None, IfSome, IsSome, is_some, map, option_map, nat_eq, nat_lt, bytes_eq, position, slice_get, if◌then◌else◌}
use Rattle.std.specs.Map.{keys_of, values_of}
use Rattle.std.proofs.lemmas.List.{append-nil}
use Rattle.std.proofs.lemmas.List.Elements.{All-nil, recursion_from_All, Contains-append_left, Contains-append_right}
use Rattle.std.proofs.lemmas.List.Sums.{sum_by-cons}
use Rattle.std.proofs.lemmas.Bool.Decides.{nat_tests}
use Rattle.indexmap.specs.IndexMap.{set_value_at}
use Rattle.rdma_types.specs.Causes.{Cause, cause, first_cause}
use Rattle.rdma_types.specs.declared.answers.Answer.TheVariants as answer
use Rattle.rdma_types.specs.declared.answers.Refusal.{Refusal}
use Rattle.rdma_types.specs.declared.answers.Refusal.TheVariants.{NoPage}
use Rattle.rdma_types.specs.declared.names.Name.{Name}
use Rattle.rdma_types.specs.declared.requests.Request.{Request}
use Rattle.rdma_types.specs.Kinds.{request_done, takes_bytes}
use Rattle.rdma_types.specs.Shapes.{IsLawfulShape}
use Rattle.page_pool.specs.Pool.{Pool, IsIn, bytes_of, free_pages, pages_of}
use Rattle.page_pool.specs.Held.{payload_bytes}
use Rattle.page_pool.specs.declared.Payload.{Payload}
use Rattle.end_queues.specs.Completions.{Queue, reserving}
use Rattle.memory_keys.specs.declared.RegisteredRegion.{RegisteredRegion}
use Rattle.memory_keys.specs.declared.RegionRange.{RegionRange}
use Rattle.memory_keys.specs.Regions.{pages_touched, regions_of}
use Rattle.end_queues.specs.declared.work_queues.posted.QueuedRequest.{QueuedRequest}
use Rattle.end_queues.specs.Untold.{posted_in}
use Rattle.end_completions.specs.Payloads.{payload_lists, payload_pages}
use Rattle.protocol.specs.DeviceStep.{answers, posted_at, posts, posts_at, taken_bytes, with_context}
use Rattle.protocol.specs.EndWords.{is_in_error}
use Rattle.protocol.specs.Memory as rule
use Rattle.protocol.specs.Memory.{pages_of_context, pages_of_request}
use Rattle.protocol.specs.Refusals.{end_causes, lacks_pages, send_causes}
use Rattle.protocol.specs.State.{Context, Device, End, Link, end_at, no_context}
use Rattle.endpoint_core.specs.declared.end.Endpoint.{Endpoint}
use Rattle.endpoint_core.specs.declared.end.EndLink.{EndLink}
use Rattle.endpoint_core.specs.Answers.{posted_by}
use Rattle.endpoint_core.specs.Ends.{Names, end_in, is_ended_link, link_in, untold_by}
use Rattle.endpoint_core.specs.Queues.{count_at, nothing}
use Rattle.endpoint_core.specs.Sites.{IsHome, IsSound, Keeps, home}
use Rattle.endpoint_core.specs.Sound.{IsEnd, IsInState, IsNew}
use Rattle.context_core.specs.declared.state.EndSlot.{EndSlot}
use Rattle.context_core.specs.Context.{HasQueues, Holding, IsContext, Moves, context_in, end_of, lists_of, names_in, payloads_of, site_in}
use Rattle.context_core.specs.Requests.{IsSource, IsTaken, TakesRequest, post_causes, taken_length}
use Rattle.context_core.proofs.PoolAgreement.{Agree, context-same, holding-same, list-lives}
use Rattle.context_core.proofs.EndsByName.{end-found}
use Rattle.context_core.proofs.DisjointLists.{AreApart, Lacks, all-lacks, each-append, each-weaker, either-way, lacks-all, lacks-not}
use Rattle.context_core.proofs.ReservedSteps.{Reserves, posts-moves, posts-step, reserves, with_queues}
use Rattle.context_core.proofs.SendRefusals.{bytes-asked, none-asked, none-there, pages-asked}
use Rattle.context_core.proofs.SplitEntries.{map-append, split-at}
use Rattle.context_core.proofs.EndSteps.{AreNew, after, is-home, site_after}
use Rattle.context_core.proofs.EndStepResults.{payloads-split}
use Rattle.context_core.proofs.EndStepCalls.{each-at, end-sound, entry, entry-there, none-new}

-- ---- before the posting

-- the bytes of a request were taken, and a place of the queue is reserved
pub record IsAsked (a m : Pool) (h : Holding) (qs : List (Name × Queue)) (i : ℕ) (v : EndSlot) (r : Request) (spot : RegionRange) (p : Payload) : Type 0 where
  pub is : IsContext a h
  pub value : slice_get (values_of h.ends) i ≡ Some v
  pub shape : IsLawfulShape r.shape
  pub takes : TakesRequest h.regions h.queues v r spot
  pub taken : IsTaken a m h.regions spot p
  pub reserved : IfSome (slice_get (values_of h.queues) v.send) (λ q. qs ≡ set_value_at h.queues v.send (reserving q))

ended-none : (pool : Pool) (held : List RegisteredRegion) (e : Endpoint) (o : Option EndLink) → IsInState pool held e o → is_ended_link o ≡ true → untold_by o ≡ []
ended-none pool held e None s t = refl
ended-none pool held e (Some l) s t = s.none_untold t

not-same : (x y : ℕ) → x ≢ y → nat_eq x y ≡ false
not-same x y n = by (nat_eq x y) refl
  where
    by : (b : Bool) → nat_eq x y ≡ b → nat_eq x y ≡ false
    by false e = e
    by true e = let same : x ≡ y = grind (arith, nat_tests, e) in absurd (n same)

of-payloads : (h : Holding) (list : ℕ) → Contains (payloads_of h.ends) list → Contains (lists_of h) list
unfolding lists_of
of-payloads h list c = Contains-append_right (map (λ r. r.list) h.regions) (payloads_of h.ends) list c

module _ {a m : Pool} {h : Holding} {qs : List (Name × Queue)} {i : ℕ} {v : EndSlot} {r : Request} {spot : RegionRange} {p : Payload} (g : IsAsked a m h qs i v r spot p) where
  abbrev pub posted : QueuedRequest
  posted = record { request = r; payload = p }

  there : slice_get h.ends i ≡ Some (entry h.ends i v)
  there = entry-there h.ends i v g.value

  sound : IsEnd a h.regions v.endpoint
  sound = each-at (λ y. IsEnd a h.regions y.1.endpoint) h.ends i (entry h.ends i v) (recursion_from_All (λ y. IsEnd a h.regions y.1.endpoint) h.ends g.is.is.ends) there

  placed : HasQueues h.queues (entry h.ends i v)
  placed = each-at (HasQueues h.queues) h.ends i (entry h.ends i v) (recursion_from_All (HasQueues h.queues) h.ends g.is.is.placed) there

  -- lists that lived are others than the new one
  lived : (list : ℕ) → IsIn a list → list ≢ p.list
  lived list l e =
      let odd : is_some (bytes_of a p.list) ≡ true = subst (IsIn a) e l in
      let no : is_some (bytes_of a p.list) ≡ false = ap is_some g.taken.new in
      absurd (cc)

  own-lived : (list : ℕ) → Contains (lists_of h) list → list ≢ p.list
  own-lived list c = lived list (list-lives a h nothing list g.is.is c)

  agree : Agree a m (lists_of h)
  agree list c = g.taken.others list (own-lived list c)

  is-m : IsContext m h
  is-m = record { is = holding-same a m h nothing agree g.is.is }

  pub same-m : (n : Name) → context_in m n h ≡ context_in a n h
  same-m n = context-same a m h n agree

  res-m : Reserves m h v.send qs
  res-m = reserves m h v.send qs is-m placed.0 g.reserved

  res-a : Reserves a h v.send qs
  res-a = reserves a h v.send qs g.is placed.0 g.reserved

  payloads-lack : Lacks (payloads_of h.ends) p.list
  payloads-lack = lacks-not p.list (payloads_of h.ends) (λ c. own-lived p.list (of-payloads h p.list c) refl)

  others-new : AreApart (payloads_of h.ends) (p.list ∷ [])
  others-new = each-weaker (λ y. nat_eq p.list y ≡ false) (Lacks (p.list ∷ [])) (λ y e. (either-way p.list y e, tt)) (payloads_of h.ends) payloads-lack

  own-in : (list : ℕ) → Contains (payload_lists (untold_by v.endpoint.link)) list → Contains (payloads_of h.ends) list
  own-in list c =
      let s = split-at h.ends i (entry h.ends i v) there in
      let whole : payloads_of h.ends ≡ payloads_of s.front ++ (payload_lists (untold_by v.endpoint.link) ++ payloads_of s.back) = ap payloads_of s.whole ∙ payloads-split s.front s.back (entry h.ends i v) in
      subst (λ ls. Contains ls list) (sym whole) (Contains-append_right (payloads_of s.front) (payload_lists (untold_by v.endpoint.link) ++ payloads_of s.back) list (Contains-append_left (payload_lists (untold_by v.endpoint.link)) (payloads_of s.back) list c))

  own-others : All (λ list. list ≢ p.list) (payload_lists (untold_by v.endpoint.link))
  own-others = lacks-all p.list (payload_lists (untold_by v.endpoint.link)) (lacks-not p.list (payload_lists (untold_by v.endpoint.link)) (λ c. own-lived p.list (of-payloads h p.list (own-in p.list c)) refl))

  -- what the posting needs
  pub asked-sound : (held : List RegisteredRegion) → held ≡ h.regions → IsSound (record { pool = m; held = held; queues = qs; send = v.send; recv = v.recv; end = v.endpoint }) (count_at v.send 1)
  asked-sound held same = subst (λ rs. IsSound (record { pool = m; held = rs; queues = qs; send = v.send; recv = v.recv; end = v.endpoint }) (count_at v.send 1)) (sym same) (end-sound m (with_queues h qs) (count_at v.send 1) i (entry h.ends i v) res-m.is there)

  new-size : is_ended_link v.endpoint.link ≡ false → p.length ≡ (if takes_bytes r.shape.kind then r.shape.length else 0)
  new-size running = g.taken.size ∙ (g.takes.source.size ∙ by (takes_bytes r.shape.kind) refl)
    where
      by : (b : Bool) → takes_bytes r.shape.kind ≡ b → taken_length v.endpoint.link r ≡ (if takes_bytes r.shape.kind then r.shape.length else 0)
      by true t = rw t (rw running refl)
      by false t = rw t refl

  pub asked-new : (held : List RegisteredRegion) → held ≡ h.regions → IsNew m held v.endpoint posted
  asked-new held same = subst (λ rs. IsNew m rs v.endpoint posted) (sym same) (record {
    shape = g.shape;
    holds = g.taken.holds;
    whole = new-size;
    apart = g.taken.apart;
    own = own-others;
    placed = g.takes.granted m;
    limit = g.takes.limit;
  })

  new-m : is_ended_link v.endpoint.link ≡ false → AreNew m h (posted ∷ [])
  new-m running = record {
    others = others-new;
    paged = (g.taken.pages ∙ sym (pages-asked (record no_context { regions = regions_of m h.regions }) m h.regions v.endpoint r spot refl g.is.is.keyed g.takes.source running), tt);
  }

  pub stands : (n : Name) → IsHome (context_in m n (with_queues h qs)) (names_in qs (entry h.ends i v)) (site_in m (with_queues h qs) (entry h.ends i v))
  stands n = is-home m n (with_queues h qs) (count_at v.send 1) i (entry h.ends i v) res-m.is there (each-at (HasQueues qs) h.ends i (entry h.ends i v) (recursion_from_All (HasQueues qs) h.ends res-m.is.placed) there)

  -- the context, as it is asked
  pub same-asked : (n : Name) → context_in m n (with_queues h qs) ≡ context_in a n h
  same-asked n = res-m.same n ∙ same-m n

  one-paid : (k : Pool) → payload_pages k (posted ∷ []) ≡ pages_of (bytes_of k p.list)
  unfolding payload_pages
  one-paid k = sum_by-cons (λ q. pages_of (bytes_of k q.payload.list)) posted [] ∙ plain (pages_of (bytes_of k p.list))
    where
      plain : (x : ℕ) → x + 0 ≡ x
      plain x = omega arith

  none-paid : (k : Pool) → payload_pages k [] ≡ 0
  unfolding payload_pages
  none-paid k = refl

  -- ---- after it

  module _ (b : Pool) (held : List RegisteredRegion) (queues : List (Name × Queue)) (x : Endpoint) where
    -- what the posting leaves
    pub record Sends : Type 0 where
      pub is : IsContext b (after h i (entry h.ends i v) held queues x)
      pub moves : Moves a b h (after h i (entry h.ends i v) held queues x)
      pub numbers : (n : Name) → map (λ e. e.number) (context_in b n (after h i (entry h.ends i v) held queues x)).ends ≡ map (λ e. e.number) (context_in a n h).ends
      pub shown : (n : Name) → home (context_in m n (with_queues h qs)) (names_in qs (entry h.ends i v)) (site_after b (entry h.ends i v) held queues x) ≡ context_in b n (after h i (entry h.ends i v) held queues x)

    running-sends : is_ended_link v.endpoint.link ≡ false → Keeps (site_in m (with_queues h qs) (entry h.ends i v)) (site_after b (entry h.ends i v) held queues x) (posted ∷ []) (count_at v.send 1) → IsSound (site_after b (entry h.ends i v) held queues x) nothing → Sends
    running-sends running keeps after-sound =
        let s = posts-step m b h v.send qs i v held queues x (posted ∷ []) res-m g.value (new-m running) keeps after-sound in
        record {
          is = s.is;
          moves = record {
            pages = keeps.lists.pages ∙ g.taken.same_pages;
            others = λ list live not.
                let ne : list ≢ p.list = lived list live in
                s.others list (ap is_some (g.taken.others list ne) ∙ live) not (not-same list p.list ne, tt) ∙ g.taken.others list ne;
            fresh = λ list c. fresh list (s.fresh list c);
            free = λ n. sum-up _ _ _ _ _ _ _ _ _ (s.free n) (one-paid m) g.taken.pages g.taken.free (ap pages_of_context (same-m n));
          };
          numbers = λ n. s.numbers n ∙ ap (λ k. map (λ e. e.number) k.ends) (same-m n);
          shown = s.shown;
        }
      where
        fresh : (list : ℕ) → Contains (lists_of h) list ⊎ Contains (p.list ∷ []) list → Contains (lists_of h) list ⊎ (bytes_of a list ≡ None)
        fresh list (inl c) = inl c
        fresh list (inr (zero, k, e)) = inr (subst (λ y. bytes_of a y ≡ None) e g.taken.new)
        fresh list (inr (suc j, k, e)) = absurd (omega (arith, k))

        sum-up : (fb cb fm cm pm k t fa ca : ℕ) → fb + cb ≡ (fm + cm) + pm → pm ≡ k → k ≡ t → fm + t ≡ fa → cm ≡ ca → fb + cb ≡ fa + ca
        sum-up fb cb fm cm pm k t fa ca one two three four five = omega arith

    -- in Error the end stays, and its list is gone again
    ended-keeps : is_ended_link v.endpoint.link ≡ true → x ≡ v.endpoint → Keeps (site_in m (with_queues h qs) (entry h.ends i v)) (site_after b (entry h.ends i v) held queues x) (posted ∷ []) (count_at v.send 1)
        → Keeps (site_in a (with_queues h qs) (entry h.ends i v)) (site_after b (entry h.ends i v) held queues x) [] (count_at v.send 1)
    ended-keeps ended same keeps =
        let none : untold_by v.endpoint.link ≡ [] = ended-none a h.regions v.endpoint v.endpoint.link sound.state ended in
        let left : untold_by x.link ≡ [] = ap (λ y. untold_by y.link) same ∙ none in
        record {
          end = keeps.end;
          untold = record { gone = 0; left = ap (λ y. untold_by y.link) same ∙ sym (append-nil (untold_by v.endpoint.link)) };
          regions = keeps.regions;
          lists = record {
            pages = keeps.lists.pages ∙ g.taken.same_pages;
            others = λ list live rs own.
                let ne : list ≢ p.list = lived list live in
                keeps.lists.others list (ap is_some (g.taken.others list ne) ∙ live) rs (others list ne own) ∙ g.taken.others list ne;
          };
          kept = subst (λ ps. All (λ q. bytes_of b q.payload.list ≡ bytes_of a q.payload.list) ps) (sym left) (All-nil (λ q. bytes_of b q.payload.list ≡ bytes_of a q.payload.list));
          free = sum-up _ _ _ _ _ _ _ _ keeps.free (ap (payload_pages b) left ∙ none-paid b) (ap (λ ps. payload_pages m (ps ++ posted ∷ [])) none ∙ one-paid m) g.taken.pages g.taken.free (ap (λ ps. payload_pages a (ps ++ [])) none ∙ none-paid a);
          queues = keeps.queues;
        }
      where
        others : (list : ℕ) → list ≢ p.list → All (λ y. y ≢ list) (payload_lists (untold_by v.endpoint.link ++ [])) → All (λ y. y ≢ list) (payload_lists (untold_by v.endpoint.link ++ posted ∷ []))
        others list ne own =
            let lacks : Lacks (payload_lists (untold_by v.endpoint.link)) list = all-lacks list (payload_lists (untold_by v.endpoint.link)) (subst (λ ps. All (λ y. y ≢ list) (payload_lists ps)) (append-nil (untold_by v.endpoint.link)) own) in
            lacks-all list (payload_lists (untold_by v.endpoint.link ++ posted ∷ []))
            (subst (λ ls. Lacks ls list) (sym (map-append (λ q. q.payload.list) (untold_by v.endpoint.link) (posted ∷ []))) (each-append (λ y. nat_eq list y ≡ false) (payload_lists (untold_by v.endpoint.link)) (p.list ∷ []) lacks (not-same list p.list ne, tt)))

        sum-up : (fb ub fm um k t fa ua : ℕ) → fb + ub ≡ fm + um → ub ≡ 0 → um ≡ k → k ≡ t → fm + t ≡ fa → ua ≡ 0 → fb + ub ≡ fa + ua
        sum-up fb ub fm um k t fa ua one two three four five six = omega arith

    ended-sends : is_ended_link v.endpoint.link ≡ true → x ≡ v.endpoint → Keeps (site_in m (with_queues h qs) (entry h.ends i v)) (site_after b (entry h.ends i v) held queues x) (posted ∷ []) (count_at v.send 1) → IsSound (site_after b (entry h.ends i v) held queues x) nothing → Sends
    ended-sends ended same keeps after-sound =
        let keeps' = ended-keeps ended same keeps in
        let s = posts-step a b h v.send qs i v held queues x [] res-a g.value (none-new a h) keeps' after-sound in
        record {
          is = s.is;
          moves = posts-moves a b h qs i v held queues x keeps'.lists.pages s;
          numbers = s.numbers;
          shown = λ n. ap (λ k. home k (names_in qs (entry h.ends i v)) (site_after b (entry h.ends i v) held queues x)) (same-asked n ∙ sym (res-a.same n)) ∙ s.shown n;
        }

    pub sends : (held0 : List RegisteredRegion) → held0 ≡ h.regions → (is_ended_link v.endpoint.link ≡ true → x ≡ v.endpoint)
        → Keeps (record { pool = m; held = held0; queues = qs; send = v.send; recv = v.recv; end = v.endpoint }) (site_after b (entry h.ends i v) held queues x) (posted ∷ []) (count_at v.send 1)
        → IsSound (site_after b (entry h.ends i v) held queues x) nothing → Sends
    sends held0 same still keeps after-sound = by (is_ended_link v.endpoint.link) refl (subst (λ rs. Keeps (record { pool = m; held = rs; queues = qs; send = v.send; recv = v.recv; end = v.endpoint }) (site_after b (entry h.ends i v) held queues x) (posted ∷ []) (count_at v.send 1)) same keeps)
      where
        by : (t : Bool) → is_ended_link v.endpoint.link ≡ t → Keeps (site_in m (with_queues h qs) (entry h.ends i v)) (site_after b (entry h.ends i v) held queues x) (posted ∷ []) (count_at v.send 1) → Sends
        by true t k = ended-sends t (still t) k after-sound
        by false t k = running-sends t k after-sound

-- ---- in the protocol's words

posted-same : (c : Context) (e : End) (l : Link) (r : Request) (old new : List ℕ) → (l.ended ≡ false → new ≡ old) → posted_at c e l (record { request = r; payload = old }) ≡ posted_at c e l (record { request = r; payload = new })
unfolding posted_at request_done
posted-same c e l r old new h = by l.ended refl
  where
    by : (b : Bool) → l.ended ≡ b → posted_at c e l (record { request = r; payload = old }) ≡ posted_at c e l (record { request = r; payload = new })
    by true t = rw t refl
    by false t = ap (λ bytes. posted_at c e l (record { request = r; payload = bytes })) (sym (h t))

posts-are : (d : Device) (c : Context) (e : End) (r : Request) (bytes : List ℕ) → IsSome e.link → (is_in_error e.link ≡ false → bytes ≡ taken_bytes c r) → posts d c e r ≡ answers (with_context d (posted_by c e e.link (record { request = r; payload = bytes }))) answer.Done
unfolding posts
posts-are d c e r bytes some h = by e.link some h
  where
    by : (l : Option Link) → IsSome l → (is_in_error l ≡ false → bytes ≡ taken_bytes c r) → posts_at d c e l r ≡ answers (with_context d (posted_by c e l (record { request = r; payload = bytes }))) answer.Done
    by None s k = absurd (cc)
    by (Some l) s k = ap (λ x. answers (with_context d x) answer.Done) (posted-same c e l r (taken_bytes c r) bytes k)

error-shown : (pool : Pool) (l : Option EndLink) → is_in_error (option_map (link_in pool) l) ≡ is_ended_link l
error-shown pool None = refl
error-shown pool (Some l) = refl

some-link : (pool : Pool) (l : Option EndLink) → IsSome l → IsSome (option_map (link_in pool) l)
some-link pool None s = s
some-link pool (Some l) s = refl

pub sent-is : {a m : Pool} {h : Holding} {qs : List (Name × Queue)} {i : ℕ} {v : EndSlot} {r : Request} {spot : RegionRange} {p : Payload} (g : IsAsked a m h qs i v r spot p) (b : Pool) (held : List RegisteredRegion) (queues : List (Name × Queue)) (x : Endpoint) (held0 : List RegisteredRegion) (name : Name) → held0 ≡ h.regions → Sends g b held queues x → position (bytes_eq name) (keys_of h.ends) ≡ Some i
    → ((k : Context) (names : Names) → IsHome k names (record { pool = m; held = held0; queues = qs; send = v.send; recv = v.recv; end = v.endpoint }) → posted_by k (end_in m names v.endpoint) (option_map (link_in m) v.endpoint.link) (posted_in m (record { request = r; payload = p })) ≡ home k names (site_after b (entry h.ends i v) held queues x))
    → (n : Name) (d : Device) → posts d (context_in a n h) (end_at (context_in a n h) name) r ≡ answers (with_context d (context_in b n (after h i (entry h.ends i v) held queues x))) answer.Done
unfolding context_in
sent-is {a = a} {m = m} {h = h} {qs = qs} {i = i} {v = v} {r = r} {spot = spot} {p = p} g b held queues x held0 name same s found step n d =
    let c : Context = context_in m n (with_queues h qs) in
    let e : End = end_of m qs (entry h.ends i v) in
    let f = end-found m qs h.ends name i (entry h.ends i v) g.is.is.end_names found (entry-there h.ends i v g.value) in
    let bytes : is_in_error e.link ≡ false → payload_bytes m p ≡ taken_bytes c r = λ running. bytes-asked c a m h.regions v.endpoint r spot p (ap (λ k. k.regions) (same-asked g n)) g.is.is.keyed g.takes.source g.taken (sym (error-shown m v.endpoint.link) ∙ running) in
    ap {A = Context} (λ k. posts d k (end_at k name) r) (sym (same-asked g n))
    ∙ (ap (λ y. posts d c y r) f.end
    ∙ (posts-are d c e r (payload_bytes m p) (some-link m v.endpoint.link g.takes.linked) bytes
    ∙ ap (λ k. answers (with_context d k) answer.Done) (step c (names_in qs (entry h.ends i v)) (subst (λ rs. IsHome c (names_in qs (entry h.ends i v)) (record { pool = m; held = rs; queues = qs; send = v.send; recv = v.recv; end = v.endpoint })) (sym same) (stands g n)) ∙ s.shown n)))

-- ---- refusals

-- a cause behind others
pub more-causes : (cs : List Cause) (more : Cause) (r : Refusal) → Some r ≡ first_cause cs → Some r ≡ first_cause (cs ++ more ∷ [])
unfolding first_cause
more-causes [] more r e = absurd (cc)
more-causes (x ∷ xs) more r e = by x.holds refl (more-causes xs more r)
  where
    by : (b : Bool) → x.holds ≡ b → (Some r ≡ first_cause xs → Some r ≡ first_cause (xs ++ more ∷ [])) → Some r ≡ first_cause ((x ∷ xs) ++ more ∷ [])
    by true t later = rw t (rw t at e)
    by false t later = rw t (later (rw t at e))

last-of : (cs : List Cause) (r : Refusal) (b : Bool) → None ≡ first_cause cs → (if b then Some r else None) ≡ first_cause (cs ++ cause r b ∷ [])
unfolding first_cause
last-of [] r b e = refl
last-of (x ∷ xs) r b e = by x.holds refl (last-of xs r b)
  where
    by : (t : Bool) → x.holds ≡ t → (None ≡ first_cause xs → (if b then Some r else None) ≡ first_cause (xs ++ cause r b ∷ [])) → (if b then Some r else None) ≡ first_cause ((x ∷ xs) ++ cause r b ∷ [])
    by true t later = absurd (let odd : None ≡ Some x.refusal = rw t at e in cc)
    by false t later = rw t (later (rw t at e))

lack-is : (d : Device) (c : Context) (e : End) (pool : Pool) (held : List RegisteredRegion) (v : Endpoint) (r : Request) (spot : RegionRange) → c.regions ≡ regions_of pool held → is_in_error e.link ≡ is_ended_link v.link → rule.free_pages d ≡ free_pages pool
    → ((c' : Context) → c'.regions ≡ regions_of pool held → is_ended_link v.link ≡ false → pages_of_request c' r ≡ pages_touched spot) → (is_ended_link v.link ≡ true → pages_touched spot ≡ 0) → lacks_pages d c e r ≡ nat_lt (free_pages pool) (pages_touched spot)
lack-is d c e pool held v r spot regions error free asked none = by (is_ended_link v.link) refl
  where
    by : (b : Bool) → is_ended_link v.link ≡ b → lacks_pages d c e r ≡ nat_lt (free_pages pool) (pages_touched spot)
    by true t =
        let no : nat_lt (free_pages pool) (pages_touched spot) ≡ false = grind (arith, nat_tests, none t) in
        let here : lacks_pages d c e r ≡ false = rw (error ∙ t) refl in
        here ∙ sym no
    by false t =
        let here : lacks_pages d c e r ≡ nat_lt (rule.free_pages d) (pages_of_request c r) = rw (error ∙ t) refl in
        here ∙ (ap (λ k. nat_lt k (pages_of_request c r)) free ∙ ap (λ k. nat_lt (free_pages pool) k) (asked c regions t))

pub send-refused : (pool : Pool) (n : Name) (d : Device) (h : Holding) (name : Name) (i : ℕ) (e : Name × EndSlot) (r : Request) (spot : RegionRange) → IsContext pool h → position (bytes_eq name) (keys_of h.ends) ≡ Some i → slice_get h.ends i ≡ Some e → IsSource h.regions e.1.endpoint r spot → rule.free_pages d ≡ free_pages pool
    → None ≡ first_cause (end_causes (context_in pool n h) name (post_causes (context_in pool n h) (end_at (context_in pool n h) name) r))
    → (if nat_lt (free_pages pool) (pages_touched spot) then Some NoPage else None) ≡ first_cause (end_causes (context_in pool n h) name (send_causes d (context_in pool n h) (end_at (context_in pool n h) name) r))
unfolding context_in
send-refused pool n d h name i e r spot is found there source free early =
    let f = end-found pool h.queues h.ends name i e is.is.end_names found there in
    let error : is_in_error (end_at (context_in pool n h) name).link ≡ is_ended_link e.1.endpoint.link = ap (λ y. is_in_error y.link) f.end ∙ error-shown pool e.1.endpoint.link in
    let lack : lacks_pages d (context_in pool n h) (end_at (context_in pool n h) name) r ≡ nat_lt (free_pages pool) (pages_touched spot) =
    lack-is d (context_in pool n h) (end_at (context_in pool n h) name) pool h.regions e.1.endpoint r spot refl error free (λ c' regions running. pages-asked c' pool h.regions e.1.endpoint r spot regions is.is.keyed source running) (none-asked h.regions e.1.endpoint r spot source) in
    ap {A = Bool} (λ b. if b then Some NoPage else None) (sym lack)
    ∙ last-of (end_causes (context_in pool n h) name (post_causes (context_in pool n h) (end_at (context_in pool n h) name) r)) NoPage (lacks_pages d (context_in pool n h) (end_at (context_in pool n h) name) r) early

-- .. at the queue pair that was found, of a context that is this holding
pub found-refused : (pool : Pool) (n : Name) (d : Device) (h : Holding) (name : Name) (i : ℕ) (r : Request) (spot : RegionRange) → IsContext pool h → position (bytes_eq name) (keys_of h.ends) ≡ Some i → i < length h.ends → IfSome (slice_get h.ends i) (λ e. TakesRequest h.regions h.queues e.1 r spot) → rule.free_pages d ≡ free_pages pool
    → None ≡ first_cause (end_causes (context_in pool n h) name (post_causes (context_in pool n h) (end_at (context_in pool n h) name) r))
    → (if nat_lt (free_pages pool) (pages_touched spot) then Some NoPage else None) ≡ first_cause (end_causes (context_in pool n h) name (send_causes d (context_in pool n h) (end_at (context_in pool n h) name) r))
found-refused pool n d h name i r spot is found inside takes free early = by (slice_get h.ends i) refl takes
  where
    by : (o : Option (Name × EndSlot)) → slice_get h.ends i ≡ o → IfSome o (λ e. TakesRequest h.regions h.queues e.1 r spot) → (if nat_lt (free_pages pool) (pages_touched spot) then Some NoPage else None) ≡ first_cause (end_causes (context_in pool n h) name (send_causes d (context_in pool n h) (end_at (context_in pool n h) name) r))
    by None e t = absurd (none-there h.ends i inside e)
    by (Some x) e t = send-refused pool n d h name i x r spot is found e t.source free early
