-- The image of a sound context keeps the rules.
use Rattle.std.proofs.Common.{arith, ◌≡◌, ◌≢◌, ◌⊎◌, ◌≤◌, ◌<◌, ◌+◌, ◌-◌, ℕ, zero, suc, List, [], ◌∷◌, ◌++◌, map, length, get_or, true, false, Bool, refl, sym, ap, ◌∙◌, inl, inr, subst}
use Rattle.std.specs.Prelude.{All, AllPairs, bytes_eq, Option, Some, None, option_map, if◌then◌else◌, not, ◌==◌, ◌&&◌, ◌||◌, slice_get, sum_by}
use Rattle.std.proofs.lemmas.Bool.{cases_lt}
use Rattle.std.proofs.lemmas.Bool.Decides.{eqb_tells, nat_tests}
use Rattle.std.proofs.lemmas.List.{length-map}
use Rattle.std.proofs.lemmas.List.Elements.{All-cons, All-head, All-nil, All-tail}
use Rattle.std.proofs.lemmas.List.Sums.{sum_by-cons}
use Rattle.rdma_types.specs.declared.names.Name.{Name}
use Rattle.rdma_types.specs.declared.requests.Receive.{Receive}
use Rattle.rdma_types.specs.Kinds.{is_read, lands}
use Rattle.rdma_types.specs.Limits.{most_domains, most_ends, most_queues, most_regions}
use Rattle.rdma_types.specs.Lists.{has_name, has_word, named}
use Rattle.rdma_types.specs.Memory.{LocalWrite, RemoteWrite, Right, allows, is_granted, landing_right, local_key}
use Rattle.rdma_types.specs.Objects.{CompletionQueue, Posted, Region, no_queue}
use Rattle.rdma_types.specs.Spans.{Piece, first_number, piece_at, span_of}
use Rattle.rdma_types.proofs.Places.{first-one, first-suc, piece_here}
use Rattle.protocol.specs.Requester.{is_inside_read}
use Rattle.protocol.specs.declared.images.ContextImage.{ContextImage}
use Rattle.protocol.specs.declared.images.CqImage.{CqImage}
use Rattle.protocol.specs.declared.images.EndImage.{EndImage}
use Rattle.protocol.specs.declared.images.LinkImage.{LinkImage}
use Rattle.protocol.specs.declared.images.PostedImage.{PostedImage}
use Rattle.protocol.specs.declared.images.RegionImage.{RegionImage}
use Rattle.protocol.specs.declared.images.Progress.TheVariants as image
use Rattle.protocol.specs.EndWords.{in_use, in_use_by, is_resuming}
use Rattle.protocol.specs.Images.{context_of, end_image, end_of_image, image_of, link_image, link_of_image, name_at, place_of_key, place_of_name, posted_image, posted_of_image, progress_image, progress_of_image, queue_image, queue_of_image, queue_names, region_image, region_of_image, untold_images}
use Rattle.protocol.specs.Lawful.{AreLawfulNumbers, AreNames, HasLandingBefore, IsLawful, IsLawfulEnd, IsLawfulLink, IsLawfulProgress, IsLawfulQueue, IsLawfulReceive, IsLawfulRegion, IsLawfulRequest, IsLawfulState, IsPlaceGranted, first_of}
use Rattle.protocol.specs.Memory.{untold_of}
use Rattle.protocol.specs.Refusals.{count_if, reserved, reserved_by}
use Rattle.protocol.specs.State.{Context, Device, End, InSend, InWrite, Link, NoMessage, Progress, queue_at}
use Rattle.law_devices.specs.Sound.{AreLawfulContexts, AreSoundNumbers, HasNoneInError, IsGrantedTo, IsInFirst, IsSoundContext, IsSoundDevice, IsSoundEnd, IsSoundLink, IsSoundProgress, IsSoundQueue, IsSoundReceive, IsSoundRegion, IsSoundRequest, IsSoundState, LandsBefore, load_of, names_of_queues, plan_of, plans}
use Rattle.law_devices.proofs.Ends.{All-map}
use Rattle.law_devices.proofs.Founds.{all-at, map_at, named-at}
use Rattle.law_devices.proofs.Pairs.{AllPairs-cons, AllPairs-first, AllPairs-tail}
use Rattle.law_devices.proofs.Regions.{All-at, granted-plans, region_at}
use Rattle.law_devices.proofs.Restoring.{all-mapped, map-map}
use Rattle.law_devices.proofs.Tables.{name_tells, word-there}

-- ---- places

place-within : (n : Name) (ns : List Name) → has_word n ns ≡ true → place_of_name n ns < length ns
unfolding has_name place_of_name
place-within n [] h = absurd (cc)
place-within n (x ∷ xs) h = elim (name_tells x n) [
  | inl t ↦ subst (λ b. (if b then 0 else suc (place_of_name n xs)) < suc (length xs)) (sym t.0) (omega arith)
  | inr t ↦ subst (λ b. (if b then 0 else suc (place_of_name n xs)) < suc (length xs)) (sym t.0) (omega (arith, place-within n xs (ap (λ b. b || has_word n xs) (sym t.0) ∙ h)))
]

name-back : (n : Name) (ns : List Name) → has_word n ns ≡ true → name_at ns (place_of_name n ns) ≡ n
unfolding has_name place_of_name
name-back n [] h = absurd (cc)
name-back n (x ∷ xs) h = elim (name_tells x n) [
  | inl t ↦ ap (λ b. get_or (x ∷ xs) (if b then 0 else suc (place_of_name n xs)) []) t.0 ∙ t.1
  | inr t ↦ ap (λ b. get_or (x ∷ xs) (if b then 0 else suc (place_of_name n xs)) []) t.0 ∙ name-back n xs (ap (λ b. b || has_word n xs) (sym t.0) ∙ h)
]

-- a region stands at the place of its key
key-place : (rs : List Region) (i : ℕ) (r : Region) → AllPairs (λ a b. a ≢ b) (map local_key rs) → slice_get rs i ≡ Some r → slice_get rs (place_of_key r.keys.local rs) ≡ Some r
unfolding place_of_key
key-place [] i r apart h = absurd (cc)
key-place (q ∷ rs) zero r apart h =
    let same : q ≡ r = cc in
    let here : (q.keys.local == r.keys.local) ≡ true = ap (λ (z : Region). z.keys.local == r.keys.local) same ∙ self r.keys.local in
    ap (λ b. slice_get (q ∷ rs) (if b then 0 else suc (place_of_key r.keys.local rs))) here ∙ ap Some same
  where
    self : (n : ℕ) → (n == n) ≡ true
    self n = grind (arith, nat_tests)
key-place (q ∷ rs) (suc i) r apart h = elim (eqb_tells q.keys.local r.keys.local) [
  | inl t ↦ absurd (All-at (λ b. q.keys.local ≢ b) (map local_key rs) i r.keys.local (AllPairs-first (λ a b. a ≢ b) q.keys.local (map local_key rs) apart) (map_at local_key rs i r h) t.1)
  | inr t ↦ ap (λ b. slice_get (q ∷ rs) (if b then 0 else suc (place_of_key r.keys.local rs))) t.0 ∙ key-place rs i r (AllPairs-tail (λ a b. a ≢ b) q.keys.local (map local_key rs) apart) h
]

pairs-unmapped : {A B : Type 0} (R : B → B → Type 0) (f : A → B) (xs : List A) → AllPairs R (map f xs) → AllPairs (λ a b. R (f a) (f b)) xs
pairs-unmapped R f [] h = λ i j d lt below. absurd (omega (arith, below))
pairs-unmapped {A} R f (x ∷ xs) h = AllPairs-cons (λ (a b : A). R (f a) (f b)) x xs (All-map (R (f x)) f xs (AllPairs-first R (f x) (map f xs) h)) (pairs-unmapped R f xs (AllPairs-tail R (f x) (map f xs) h))

pairs-again : {A C B : Type 0} (R : B → B → Type 0) (f : A → B) (g : A → C) (k : C → B) (xs : List A) → ((x : A) → k (g x) ≡ f x) → AllPairs R (map f xs) → AllPairs (λ a b. R (k a) (k b)) (map g xs)
pairs-again R f g k xs same h = pairs-unmapped R k (map g xs) (subst (AllPairs R) (sym (map-map k g f xs same)) h)

-- ---- numbers

fenced-image : (ps : List PostedImage) (k : ℕ) → HasLandingBefore ps k → LandsBefore (map posted_of_image ps) k
fenced-image ps k l = record { j = l.j; posted = posted_of_image l.posted; before = l.before; there = map_at posted_of_image ps l.j l.posted l.there; landing = l.landing }

some-inside : (b : Bool) (n : ℕ) → b ≡ true → 0 < n → (b && not (n == 0)) ≡ true
some-inside true n t l = grind (arith, nat_tests, l)
some-inside false n t l = absurd (cc)

numbers-lawful : (l : LinkImage) (ps : List PostedImage) → AreSoundNumbers l.terms.mtu (map posted_of_image ps) l.first l.una l.next l.top → IsInFirst l.terms.mtu (map posted_of_image ps) l.first l.una → AreLawfulNumbers l ps
numbers-lawful l ps h first = record {
  una = h.first_una;
  next = h.una_next;
  top = h.next_top;
  all = h.top_end;
  limit = h.limit;
  in_first = λ p there. let q = map_at posted_of_image ps 0 p there in omega (arith, first (posted_of_image p) q, first-one (map posted_of_image ps) l.terms.mtu (posted_of_image p) q);
  no_read_inside = λ i p there read. by_place i p (map_at posted_of_image ps i p there) read (cases_lt l.una l.next) (cases_lt (first_of l ps i) l.next) (cases_lt l.next (first_of l ps (suc i)));
  fenced = λ i p there fence before. h.fenced i (posted_of_image p) (map_at posted_of_image ps i p there) fence (fenced-image ps i before);
}
  where
    by_place : (i : ℕ) (p : PostedImage) → slice_get (map posted_of_image ps) i ≡ Some (posted_of_image p) → is_read p.request.shape.kind ≡ true → (l.una < l.next) ⊎ (l.next ≤ l.una) → (first_of l ps i < l.next) ⊎ (l.next ≤ first_of l ps i) → (l.next < first_of l ps (suc i)) ⊎ (first_of l ps (suc i) ≤ l.next)
        → (l.next ≤ first_of l ps i) ⊎ ((first_of l ps (suc i) ≤ l.next) ⊎ (l.next ≡ l.una))
    by_place i p there read (inr le) a b = inr (inr (omega (arith, le, h.una_next)))
    by_place i p there read (inl lt) (inr le) b = inl le
    by_place i p there read (inl lt) (inl gt) (inr ge) = inr (inl ge)
    by_place i p there read (inl lt) (inl gt) (inl below) =
        let more = first-suc (map posted_of_image ps) l.terms.mtu i (posted_of_image p) there in
        let at = piece_here (map posted_of_image ps) l.terms.mtu i (l.next - l.first) (posted_of_image p) there (omega (arith, gt)) (omega (arith, below, more, gt)) in
        let inside = some-inside (is_read p.request.shape.kind) (l.next - l.first - first_number (map posted_of_image ps) l.terms.mtu i) read (omega (arith, gt)) in
        let whole = h.whole_reads lt in
        absurd (cc (sym (ap is_inside_read at ∙ inside) ∙ whole))

posted-back : (ps : List Posted) → map posted_of_image (map posted_image ps) ≡ ps
posted-back [] = refl
posted-back (p ∷ ps) = ap (λ xs. p ∷ xs) (posted-back ps)

-- ---- the image of a context

regions-back : (domains : List Name) (rs : List Region) → All (IsSoundRegion domains) rs → map (region_of_image domains) (map (region_image domains) rs) ≡ rs
regions-back domains [] all = refl
regions-back domains (r ∷ rs) all =
    ap (λ n. (record { name = r.name; domain = n; base = r.base; length = r.length; rights = r.rights; keys = r.keys; bytes = r.bytes }) ∷ map (region_of_image domains) (map (region_image domains) rs)) (name-back r.domain domains (All-head (IsSoundRegion domains) r rs all).domain)
    ∙ ap (λ xs. r ∷ xs) (regions-back domains rs (All-tail (IsSoundRegion domains) r rs all))

queue-names-back : (qs : List CompletionQueue) → map (λ q. q.name) (map queue_image qs) ≡ names_of_queues qs
queue-names-back qs = map-map (λ (q : CqImage). q.name) queue_image (λ (q : CompletionQueue). q.name) qs (λ q. refl)

module _ (c : Context) (s : IsSoundContext c) where
  regions-same : (context_of (image_of c)).regions ≡ c.regions
  unfolding context_of image_of
  regions-same = regions-back c.domains c.regions s.parts.regions

  domains-same : (image_of c).domains ≡ c.domains
  unfolding image_of
  domains-same = refl

  -- what is granted in the context is granted in its image
  granted-image : (domain : Name) (lkey at' count : ℕ) (right : Right) → has_word domain c.domains ≡ true → IsGrantedTo (plans c.regions) domain lkey at' count right → IsPlaceGranted (image_of c) (place_of_name domain c.domains) lkey at' count right
  unfolding image_of
  granted-image domain lkey at' count right there h =
      subst (λ rs. is_granted local_key rs (name_at c.domains (place_of_name domain c.domains)) lkey at' count right ≡ true) (sym regions-same)
      (subst (λ n. is_granted local_key c.regions n lkey at' count right ≡ true) (sym (name-back domain c.domains there)) (sym (granted-plans c.regions domain lkey at' count right) ∙ h))

  receive-lawful : (domain : Name) (r : Receive) → has_word domain c.domains ≡ true → IsSoundReceive (plans c.regions) domain r → IsLawfulReceive (image_of c) (place_of_name domain c.domains) r
  receive-lawful domain r there h = record { length' = h.length'; granted = granted-image domain r.lkey r.local r.length LocalWrite there h.granted }

  receives-lawful : (domain : Name) (rs : List Receive) → has_word domain c.domains ≡ true → All (IsSoundReceive (plans c.regions) domain) rs → All (IsLawfulReceive (image_of c) (place_of_name domain c.domains)) rs
  receives-lawful domain [] there all = All-nil (IsLawfulReceive (image_of c) (place_of_name domain c.domains))
  receives-lawful domain (r ∷ rs) there all = All-cons (IsLawfulReceive (image_of c) (place_of_name domain c.domains)) r rs (receive-lawful domain r there (All-head (IsSoundReceive (plans c.regions) domain) r rs all)) (receives-lawful domain rs there (All-tail (IsSoundReceive (plans c.regions) domain) r rs all))

  request-lawful : (domain : Name) (p : Posted) → has_word domain c.domains ≡ true → IsSoundRequest (plans c.regions) domain p → IsLawfulRequest (image_of c) (place_of_name domain c.domains) (posted_image p)
  request-lawful domain p there h = record { length' = h.length'; shape = h.shape; granted = granted-image domain p.request.lkey p.request.local p.request.shape.length _ there h.granted; payload = h.payload }

  progress-lawful : (domain : Name) (mtu : ℕ) (p : Progress) → has_word domain c.domains ≡ true → IsSoundProgress (plans c.regions) domain mtu p → IsLawfulProgress (image_of c) (place_of_name domain c.domains) mtu (progress_image c.regions p)
  unfolding image_of
  progress-lawful domain mtu NoMessage there h = tt
  progress-lawful domain mtu (InSend done r) there h = record { pieces = h.pieces; fits = h.fits; receive = receive-lawful domain r there h.receive }
  progress-lawful domain mtu (InWrite region off count done) there h =
      let mine = region_at c.regions h.place h.written h.there in
      let key : mine.0.keys.local ≡ region = ap (λ (z : Region). z.keys.local) mine.2 ∙ h.local in
      let stands = ap (λ k. slice_get c.regions (place_of_key k c.regions)) (sym key) ∙ key-place c.regions h.place mine.0 s.parts.keys mine.1 in
      let same_domain : mine.0.domain ≡ domain = ap (λ (z : Region). z.domain) mine.2 ∙ h.domain' in
      record {
        written = region_image c.domains mine.0;
        there = map_at (region_image c.domains) c.regions (place_of_key region c.regions) mine.0 stands;
        domain' = ap (λ n. place_of_name n c.domains) same_domain;
        right = ap (λ (z : Region). allows z.rights RemoteWrite) mine.2 ∙ h.right;
        inside = omega (arith, h.inside, ap (λ (z : Region). z.length) mine.2);
        few = h.few;
        pieces = h.pieces;
        unfinished = h.unfinished;
      }

  region-lawful : (r : Region) → IsSoundRegion c.domains r → IsLawfulRegion (length c.domains) (region_image c.domains r)
  region-lawful r h = record { domain = place-within r.domain c.domains h.domain; base = h.base; some_bytes = h.some_bytes; few_bytes = h.few_bytes; rights = h.rights; local = h.local; remote = h.remote; whole = h.whole }

  -- ---- ends

  numbers-image : (l : Link) → AreSoundNumbers l.terms.mtu l.sender.untold l.sender.first l.sender.una l.sender.next l.sender.top → IsInFirst l.terms.mtu l.sender.untold l.sender.first l.sender.una → AreLawfulNumbers (link_image c.regions l) (map posted_image l.sender.untold)
  unfolding link_image
  numbers-image l h first =
      numbers-lawful (link_image c.regions l) (map posted_image l.sender.untold)
      (subst (λ us. AreSoundNumbers l.terms.mtu us l.sender.first l.sender.una l.sender.next l.sender.top) (sym (posted-back l.sender.untold)) h)
      (subst (λ us. IsInFirst l.terms.mtu us l.sender.first l.sender.una) (sym (posted-back l.sender.untold)) first)

  link-lawful : (e : End) (l : Link) → e.link ≡ Some l → has_word e.domain c.domains ≡ true → IsSoundLink (plans c.regions) e.domain e.send_depth l → (l.ended ≡ true → e.unused ≡ []) → IsLawfulLink (image_of c) (end_image c (record e { link = Some l })) (link_image c.regions l)
  unfolding link_image end_image
  link-lawful e l is there h none = record {
    peer = h.peer;
    terms = h.terms;
    numbers = numbers-image l h.sender.numbers h.oldest;
    spent = h.sender.spent;
    waits = h.sender.waits;
    expected = h.receiver.expected;
    msn = h.receiver.msn;
    in_progress = progress-lawful e.domain l.terms.mtu l.receiver.progress there h.receiver.in_progress;
    few_kept = h.receiver.few_kept;
    kept_rise = h.receiver.kept_rise;
    kept_before = h.receiver.kept_before;
    no_untold = λ t. ap (map posted_image) (h.no_untold t);
    no_unused = none;
    no_message = λ t. ap (progress_image c.regions) (h.no_message t);
    not_resuming = λ t. h.not_resuming t;
  }

  place-queue : (n : Name) → has_word n (names_of_queues c.queues) ≡ true → place_of_name n (queue_names c) < length (image_of c).queues
  unfolding image_of
  place-queue n h = omega (arith, place-within n (queue_names c) h, length-map c.queues (λ (q : CompletionQueue). q.name), length-map c.queues queue_image)

  end-lawful : (e : End) → IsSoundEnd c.domains (names_of_queues c.queues) (plans c.regions) e → IsLawfulEnd (image_of c) (end_image c e)
  unfolding end_image image_of
  end-lawful e h = record {
    number = h.number;
    domain = within h.domain;
    send_cq = place-queue e.send_cq h.send_cq;
    recv_cq = place-queue e.recv_cq h.recv_cq;
    some_sends = h.some_sends;
    few_sends = h.few_sends;
    some_receives = h.some_receives;
    few_receives = h.few_receives;
    untold_fit = untold_fit e.link h.state;
    unused_fit = h.unused_fit;
    requests = requests e.link h.state;
    receives = receives-lawful e.domain e.unused h.domain h.receives;
    state = state e.link refl h.state h.no_unused;
  }
    where
      within : has_word e.domain c.domains ≡ true → place_of_name e.domain c.domains < length (image_of c).domains
      within g = place-within e.domain c.domains g

      untold_fit : (o : Option Link) → IsSoundState (plans c.regions) e.domain e.send_depth o → length (untold_images o) ≤ e.send_depth
      untold_fit None g = omega arith
      untold_fit (Some l) g = omega (arith, length-map l.sender.untold posted_image, g.sender.fits)

      requests : (o : Option Link) → IsSoundState (plans c.regions) e.domain e.send_depth o → All (IsLawfulRequest (image_of c) (place_of_name e.domain c.domains)) (untold_images o)
      requests None g = All-nil (IsLawfulRequest (image_of c) (place_of_name e.domain c.domains))
      requests (Some l) g = all-mapped (IsSoundRequest (plans c.regions) e.domain) (IsLawfulRequest (image_of c) (place_of_name e.domain c.domains)) posted_image l.sender.untold (λ p k. request-lawful e.domain p h.domain k) g.sender.requests

      state : (o : Option Link) → e.link ≡ o → IsSoundState (plans c.regions) e.domain e.send_depth o → HasNoneInError o e.unused → IsLawfulState (image_of c) (end_image c (record e { link = o })) (option_map (link_image c.regions) o)
      state None is g none = refl
      state (Some l) is g none = link-lawful e l is h.domain g none

  -- ---- what is reserved

  queue-back : (n : Name) → has_word n (names_of_queues c.queues) ≡ true → name_at (map (λ q. q.name) (map queue_image c.queues)) (place_of_name n (queue_names c)) ≡ n
  queue-back n h = ap (λ ns. name_at ns (place_of_name n (queue_names c))) (queue-names-back c.queues) ∙ name-back n (queue_names c) h

  untold-back : (o : Option Link) → untold_of (option_map (link_of_image (map (region_image c.domains) c.regions) (untold_images o)) (option_map (link_image c.regions) o)) ≡ untold_of o
  unfolding link_of_image
  untold-back None = refl
  untold-back (Some l) = posted-back l.sender.untold

  use-back : (p : Progress) → in_use_by (progress_of_image (map (region_image c.domains) c.regions) (progress_image c.regions p)) ≡ in_use_by p
  use-back NoMessage = refl
  use-back (InSend done r) = refl
  use-back (InWrite region off count done) = refl

  used-back : (o : Option Link) → in_use (option_map (link_of_image (map (region_image c.domains) c.regions) (untold_images o)) (option_map (link_image c.regions) o)) ≡ in_use o
  unfolding link_of_image link_image
  used-back None = refl
  used-back (Some l) = use-back l.receiver.progress

  reserves-back : (n : Name) (e : End) → IsSoundEnd c.domains (names_of_queues c.queues) (plans c.regions) e → reserved_by n (end_of_image (image_of c) (end_image c e)) ≡ reserved_by n e
  unfolding reserved_by end_of_image end_image image_of
  reserves-back n e h = λ k. count_if (bytes_eq (queue-back e.send_cq h.send_cq k) n) (length (untold-back e.link k)) + count_if (bytes_eq (queue-back e.recv_cq h.recv_cq k) n) (length e.unused + length (used-back e.link k))

  sums-back : (n : Name) (es : List End) → All (IsSoundEnd c.domains (names_of_queues c.queues) (plans c.regions)) es → sum_by (reserved_by n) (map (end_of_image (image_of c)) (map (end_image c) es)) ≡ sum_by (reserved_by n) es
  sums-back n [] all = refl
  sums-back n (e ∷ es) all =
      let one = reserves-back n e (All-head (IsSoundEnd c.domains (names_of_queues c.queues) (plans c.regions)) e es all) in
      let more = sums-back n es (All-tail (IsSoundEnd c.domains (names_of_queues c.queues) (plans c.regions)) e es all) in
      omega (arith, sum_by-cons (reserved_by n) (end_of_image (image_of c) (end_image c e)) (map (end_of_image (image_of c)) (map (end_image c) es)), sum_by-cons (reserved_by n) e es, one, more)

  reserved-back : (n : Name) → reserved (context_of (image_of c)) n ≡ reserved c n
  unfolding reserved context_of image_of
  reserved-back n = sums-back n c.ends s.parts.ends

  queue-lawful : (k : ℕ) (q : CompletionQueue) → slice_get c.queues k ≡ Some q → IsLawfulQueue (image_of c) (queue_image q)
  queue-lawful k q there =
      let old = All-at IsSoundQueue c.queues k q s.parts.queues there in
      let found = named-at (λ (x : CompletionQueue). x.name) no_queue c.queues k q s.parts.queue_names.distinct there in
      let room = s.room q.name found.0 in
      record {
        some_room = old.some_room;
        little_room = old.little_room;
        entries = old.entries;
        fits = omega (arith, room, reserved-back q.name, ap (λ (z : CompletionQueue). length z.entries) found.1, ap (λ (z : CompletionQueue). z.capacity) found.1);
      }

  pub image-lawful : IsLawful (image_of c)
  unfolding image_of end_image
  image-lawful = record {
    name = s.parts.name;
    domains = s.parts.domains;
    region_names = subst (λ ns. AreNames ns most_regions) (sym (map-map (λ (r : RegionImage). r.name) (region_image c.domains) (λ (r : Region). r.name) c.regions (λ r. refl))) s.parts.region_names;
    regions = all-mapped (IsSoundRegion c.domains) (IsLawfulRegion (length c.domains)) (region_image c.domains) c.regions region-lawful s.parts.regions;
    keys = pairs-again (λ a b. a ≢ b) local_key (region_image c.domains) (λ (r : RegionImage). r.keys.local) c.regions (λ r. refl) s.parts.keys;
    queue_names = subst (λ ns. AreNames ns most_queues) (sym (queue-names-back c.queues)) s.parts.queue_names;
    queues = all-mapped (λ q. IsLawfulQueue (image_of c) (queue_image q)) (IsLawfulQueue (image_of c)) queue_image c.queues (λ q h. h) (all-at (λ q. IsLawfulQueue (image_of c) (queue_image q)) c.queues queue-lawful);
    end_names = subst (λ ns. AreNames ns most_ends) (sym (map-map (λ (e : EndImage). e.name) (end_image c) (λ (e : End). e.name) c.ends (λ e. refl))) s.parts.end_names;
    numbers = pairs-again (λ a b. a ≢ b) (λ (e : End). e.number) (end_image c) (λ (e : EndImage). e.number) c.ends (λ e. refl) s.parts.numbers;
    ends = all-mapped (IsSoundEnd c.domains (names_of_queues c.queues) (plans c.regions)) (IsLawfulEnd (image_of c)) (end_image c) c.ends end-lawful s.parts.ends;
  }

all-lawful : (cs : List Context) → All IsSoundContext cs → All (λ c. IsLawful (image_of c)) cs
all-lawful [] all = All-nil (λ c. IsLawful (image_of c))
all-lawful (c ∷ cs) all = All-cons (λ x. IsLawful (image_of x)) c cs (image-lawful c (All-head IsSoundContext c cs all)) (all-lawful cs (All-tail IsSoundContext c cs all))

pub contexts-lawful : (d : Device) → IsSoundDevice d → AreLawfulContexts d
contexts-lawful d s = all-lawful d.contexts s.contexts
