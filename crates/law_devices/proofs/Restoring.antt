-- The context of an image that keeps the rules is sound, and so is the moved one.
use Rattle.std.proofs.Common.{arith, ◌≡◌, ◌≢◌, ◌⊎◌, ◌≤◌, ◌<◌, ◌+◌, ◌-◌, ◌/◌, ◌%◌, ℕ, zero, suc, List, [], ◌∷◌, ◌++◌, map, length, get_or, true, false, Bool, refl, sym, ap, ◌∙◌, inl, inr, subst}
use Rattle.std.specs.Prelude.{All, AllPairs, bytes_eq, Option, Some, None, option_map, if◌then◌else◌, max, not, ◌==◌, ◌&&◌, ◌||◌, slice_get, sum_by}
use Rattle.std.proofs.lemmas.Bool.Decides.{eqb_tells, nat_tests}
use Rattle.std.proofs.lemmas.List.{length-map}
use Rattle.std.proofs.lemmas.List.Elements.{All-append, All-cons, All-head, All-nil, All-tail}
use Rattle.std.proofs.lemmas.List.Sums.{sum_by-cons}
use Rattle.rdma_types.specs.declared.names.Name.{Name}
use Rattle.rdma_types.specs.declared.requests.Receive.{Receive}
use Rattle.rdma_types.specs.Kinds.{is_read, lands}
use Rattle.rdma_types.specs.Limits.{most_domains, most_ends, most_keys, most_numbers, most_queues, most_regions}
use Rattle.rdma_types.specs.Lists.{has_name, has_word}
use Rattle.rdma_types.specs.Memory.{LocalWrite, Right, is_granted, landing_right, local_key}
use Rattle.rdma_types.specs.Objects.{CompletionQueue, Posted, Region, no_queue}
use Rattle.rdma_types.specs.Spans.{Piece, first_number, piece_at, span_of}
use Rattle.rdma_types.proofs.Tables.{same_name}
use Rattle.rdma_types.proofs.Places.{first-one}
use Rattle.protocol.specs.Requester.{is_inside_read}
use Rattle.protocol.specs.declared.images.ContextImage.{ContextImage}
use Rattle.protocol.specs.declared.images.CqImage.{CqImage}
use Rattle.protocol.specs.declared.images.EndImage.{EndImage}
use Rattle.protocol.specs.declared.images.LinkImage.{LinkImage}
use Rattle.protocol.specs.declared.images.PostedImage.{PostedImage}
use Rattle.protocol.specs.declared.images.RegionImage.{RegionImage}
use Rattle.protocol.specs.declared.images.Progress as images
use Rattle.protocol.specs.declared.images.Progress.TheVariants as image
use Rattle.protocol.specs.DeviceStep.{highest, restored}
use Rattle.protocol.specs.EndWords.{in_use, in_use_by, is_resuming}
use Rattle.protocol.specs.Images.{context_of, end_of_image, link_of_image, local_key_at, moved, moved_end, moved_link, name_at, posted_of_image, progress_of_image, queue_of_image, region_of_image}
use Rattle.protocol.specs.Lawful.{AreLawfulNumbers, AreNames, HasLandingBefore, IsLawful, IsLawfulEnd, IsLawfulLink, IsLawfulProgress, IsLawfulQueue, IsLawfulReceive, IsLawfulRegion, IsLawfulRequest, IsLawfulState, IsPlaceGranted}
use Rattle.protocol.specs.Memory.{untold_of}
use Rattle.protocol.specs.Refusals.{count_if, reserved, reserved_by}
use Rattle.protocol.specs.State.{Context, Device, End, Link, Receiver, Resuming, Running, queue_at}
use Rattle.law_devices.specs.Sound.{AreCounted, AreSoundNumbers, AreSoundParts, HasNoneInError, IsCounted, IsGrantedTo, IsInFirst, IsSoundContext, IsSoundDevice, IsSoundEnd, IsSoundLink, IsSoundProgress, IsSoundQueue, IsSoundReceive, IsSoundRegion, IsSoundRequest, IsSoundState, LandsBefore, load_of, names_of_queues, plan_of, plans}
use Rattle.law_devices.proofs.Ends.{All-map, all-counted}
use Rattle.law_devices.proofs.Founds.{map_at}
use Rattle.law_devices.proofs.Pairs.{AllPairs-cons, AllPairs-first, AllPairs-tail}
use Rattle.law_devices.proofs.Regions.{granted-plans, plan_at}
use Rattle.law_devices.proofs.Rooms.{parts-kept}
use Rattle.law_devices.proofs.Senders.{piece_of_request, rewinds}
use Rattle.law_devices.proofs.Tables.{All-named, name-named_there}

-- ---- lists

pub map-map : {A B C : Type 0} (g : B → C) (f : A → B) (h : A → C) (xs : List A) → ((x : A) → g (f x) ≡ h x) → map g (map f xs) ≡ map h xs
map-map g f h [] same = refl
map-map {A} {B} {C} g f h (x ∷ xs) same = ap (λ (y : C). y ∷ map g (map f xs)) (same x) ∙ ap (λ ys. h x ∷ ys) (map-map g f h xs same)

-- what stands in a list of images stood for a thing
pub unmap_at : {A B : Type 0} (f : A → B) (xs : List A) (i : ℕ) (y : B) → slice_get (map f xs) i ≡ Some y → (x : A) × (slice_get xs i ≡ Some x) × (f x ≡ y)
unmap_at f [] i y h = absurd (cc)
unmap_at f (x ∷ xs) zero y h = (x, refl, cc)
unmap_at f (x ∷ xs) (suc i) y h = unmap_at f xs i y h

pub all-mapped : {A B : Type 0} (P : A → Type 0) (Q : B → Type 0) (f : A → B) (xs : List A) → ((x : A) → P x → Q (f x)) → All P xs → All Q (map f xs)
all-mapped P Q f [] h all = All-nil Q
all-mapped P Q f (x ∷ xs) h all = All-cons Q (f x) (map f xs) (h x (All-head P x xs all)) (all-mapped P Q f xs h (All-tail P x xs all))

pub pairs-mapped : {A B : Type 0} (R : B → B → Type 0) (f : A → B) (xs : List A) → AllPairs (λ a b. R (f a) (f b)) xs → AllPairs R (map f xs)
pairs-mapped R f [] h = λ i j d lt below. absurd (omega (arith, below))
pairs-mapped {A} R f (x ∷ xs) h = AllPairs-cons R (f x) (map f xs) (all-mapped (λ y. R (f x) (f y)) (R (f x)) f xs (λ y g. g) (AllPairs-first (λ (a b : A). R (f a) (f b)) x xs h)) (pairs-mapped R f xs (AllPairs-tail (λ (a b : A). R (f a) (f b)) x xs h))

-- a name that stands in a list is there
pub word-at : (ns : List Name) (k : ℕ) → k < length ns → has_word (name_at ns k) ns ≡ true
unfolding has_name
word-at [] k below = absurd (omega (arith, below))
word-at (n ∷ ns) zero below = ap (λ b. b || has_word n ns) (same_name n)
word-at (n ∷ ns) (suc k) below = later (bytes_eq n (name_at ns k)) (word-at ns k (omega (arith, below)))
  where
    later : (b : Bool) → has_word (name_at ns k) ns ≡ true → (b || has_word (name_at ns k) ns) ≡ true
    later true h = refl
    later false h = h

-- ---- the context of an image

key-at : (rs : List RegionImage) (i : ℕ) (r : RegionImage) → slice_get rs i ≡ Some r → local_key_at rs i ≡ r.keys.local
key-at [] i r h = absurd (cc)
key-at (q ∷ rs) zero r h = let same : q ≡ r = cc in ap (λ (z : RegionImage). z.keys.local) same
key-at (q ∷ rs) (suc i) r h = key-at rs i r h

module _ (i : ContextImage) (law : IsLawful i) where
  granted-so : (domain : ℕ) (lkey at' count : ℕ) (right : Right) → IsPlaceGranted i domain lkey at' count right → IsGrantedTo (plans (map (region_of_image i.domains) i.regions)) (name_at i.domains domain) lkey at' count right
  unfolding context_of
  granted-so domain lkey at' count right h = granted-plans (map (region_of_image i.domains) i.regions) (name_at i.domains domain) lkey at' count right ∙ h

  region-sound : (r : RegionImage) → IsLawfulRegion (length i.domains) r → IsSoundRegion i.domains (region_of_image i.domains r)
  region-sound r h = record { domain = word-at i.domains r.domain h.domain; base = h.base; some_bytes = h.some_bytes; few_bytes = h.few_bytes; rights = h.rights; local = h.local; remote = h.remote; whole = h.whole }

  receive-sound : (domain : ℕ) (r : Receive) → IsLawfulReceive i domain r → IsSoundReceive (plans (map (region_of_image i.domains) i.regions)) (name_at i.domains domain) r
  receive-sound domain r h = record { length' = h.length'; granted = granted-so domain r.lkey r.local r.length LocalWrite h.granted }

  receives-sound : (domain : ℕ) (rs : List Receive) → All (IsLawfulReceive i domain) rs → All (IsSoundReceive (plans (map (region_of_image i.domains) i.regions)) (name_at i.domains domain)) rs
  receives-sound domain [] all = All-nil (IsSoundReceive (plans (map (region_of_image i.domains) i.regions)) (name_at i.domains domain))
  receives-sound domain (r ∷ rs) all = All-cons (IsSoundReceive (plans (map (region_of_image i.domains) i.regions)) (name_at i.domains domain)) r rs (receive-sound domain r (All-head (IsLawfulReceive i domain) r rs all)) (receives-sound domain rs (All-tail (IsLawfulReceive i domain) r rs all))

  request-sound : (domain : ℕ) (p : PostedImage) → IsLawfulRequest i domain p → IsSoundRequest (plans (map (region_of_image i.domains) i.regions)) (name_at i.domains domain) (posted_of_image p)
  request-sound domain p h = record { length' = h.length'; shape = h.shape; granted = granted-so domain p.request.lkey p.request.local p.request.shape.length _ h.granted; payload = h.payload }

  progress-sound : (domain mtu : ℕ) (p : images.Progress) → IsLawfulProgress i domain mtu p → IsSoundProgress (plans (map (region_of_image i.domains) i.regions)) (name_at i.domains domain) mtu (progress_of_image i.regions p)
  progress-sound domain mtu image.Idle h = tt
  progress-sound domain mtu (image.Send done r) h = record { pieces = h.pieces; fits = h.fits; receive = receive-sound domain r h.receive }
  progress-sound domain mtu (image.Write region off count done) h = record {
    place = region;
    written = plan_of (region_of_image i.domains h.written);
    there = plan_at (map (region_of_image i.domains) i.regions) region (region_of_image i.domains h.written) (map_at (region_of_image i.domains) i.regions region h.written h.there);
    local = sym (key-at i.regions region h.written h.there);
    domain' = ap (name_at i.domains) h.domain';
    right = h.right;
    inside = h.inside;
    few = h.few;
    pieces = h.pieces;
    unfinished = h.unfinished;
  }

-- ---- numbers

lands-image : (ps : List PostedImage) (k : ℕ) → LandsBefore (map posted_of_image ps) k → HasLandingBefore ps k
lands-image ps k l =
    let p = unmap_at posted_of_image ps l.j l.posted l.there in
    record { j = l.j; posted = p.0; before = l.before; there = p.1; landing = ap (λ (z : Posted). lands z.request.shape.kind) p.2 ∙ l.landing }

not-inside : (b : Bool) (n : ℕ) → (b ≡ true → n ≡ 0) → (b && not (n == 0)) ≡ false
not-inside false n h = refl
not-inside true n h = let z = h refl in grind (arith, nat_tests, z)

pub numbers-sound : (l : LinkImage) (ps : List PostedImage) → AreLawfulNumbers l ps → AreSoundNumbers l.terms.mtu (map posted_of_image ps) l.first l.una l.next l.top
numbers-sound l ps h = record {
  first_una = h.una;
  una_next = h.next;
  next_top = h.top;
  top_end = h.all;
  limit = h.limit;
  whole_reads = λ lt. by_piece (piece_at (map posted_of_image ps) l.terms.mtu (l.next - l.first)) refl lt;
  fenced = λ k q there fence before. let p = unmap_at posted_of_image ps k q there in h.fenced k p.0 p.1 (ap (λ (z : Posted). z.request.fence) p.2 ∙ fence) (lands-image ps k before);
}
  where
    by_piece : (o : Option Piece) → piece_at (map posted_of_image ps) l.terms.mtu (l.next - l.first) ≡ o → l.una < l.next → is_inside_read o ≡ false
    by_piece None t lt = refl
    by_piece (Some x) t lt =
        let at = piece_of_request (map posted_of_image ps) l.terms.mtu (l.next - l.first) x t in
        let p = unmap_at posted_of_image ps at.i x.posted at.there in
        not-inside (is_read x.posted.request.shape.kind) x.k (λ read. elim (h.no_read_inside at.i p.0 p.1 (ap (λ (z : Posted). is_read z.request.shape.kind) p.2 ∙ read)) [
          | inl low ↦ omega (arith, low, at.number, h.una, lt)
          | inr more ↦ elim more [
            | inl high ↦ absurd (omega (arith, high, at.number, at.more, at.below, h.una, lt))
            | inr same ↦ absurd (omega (arith, same, lt))
          ]
        ])

pub first-sound : (l : LinkImage) (ps : List PostedImage) → AreLawfulNumbers l ps → IsInFirst l.terms.mtu (map posted_of_image ps) l.first l.una
first-sound l ps h q there =
    let p = unmap_at posted_of_image ps 0 q there in
    let one = first-one (map posted_of_image ps) l.terms.mtu q there in
    let in_first = h.in_first p.0 p.1 in
    omega (arith, one, in_first)

-- ---- ends

not-resuming-image : (b : Bool) → b ≡ false → is_resuming (if b then Resuming else Running) ≡ false
not-resuming-image true h = absurd (cc)
not-resuming-image false h = refl

link-sound : (i : ContextImage) (law : IsLawful i) (e : EndImage) (l : LinkImage) → length e.untold ≤ e.send_depth → All (IsLawfulRequest i e.domain) e.untold → IsLawfulLink i e l → IsSoundLink (plans (map (region_of_image i.domains) i.regions)) (name_at i.domains e.domain) e.send_depth (link_of_image i.regions e.untold l)
unfolding link_of_image
link-sound i law e l fits requests h = record {
  peer = h.peer;
  terms = h.terms;
  sender = record {
    fits = omega (arith, length-map e.untold posted_of_image, fits);
    requests = all-mapped (IsLawfulRequest i e.domain) (IsSoundRequest (plans (map (region_of_image i.domains) i.regions)) (name_at i.domains e.domain)) posted_of_image e.untold (request-sound i law e.domain) requests;
    numbers = numbers-sound l e.untold h.numbers;
    spent = h.spent;
    waits = h.waits;
  };
  oldest = first-sound l e.untold h.numbers;
  receiver = record { expected = h.expected; msn = h.msn; in_progress = progress-sound i law e.domain l.terms.mtu l.progress h.in_progress; few_kept = h.few_kept; kept_rise = h.kept_rise; kept_before = h.kept_before };
  no_untold = λ t. ap (map posted_of_image) (h.no_untold t);
  no_message = λ t. ap (progress_of_image i.regions) (h.no_message t);
  not_resuming = λ t. not-resuming-image l.resuming (h.not_resuming t);
}

image-unused : (i : ContextImage) (e : EndImage) (l : LinkImage) → IsLawfulLink i e l → (link_of_image i.regions e.untold l).ended ≡ true → e.unused ≡ []
unfolding link_of_image
image-unused i e l h t = h.no_unused t

queue-names : (qs : List CqImage) → names_of_queues (map queue_of_image qs) ≡ map (λ q. q.name) qs
queue-names qs = map-map (λ (q : CompletionQueue). q.name) queue_of_image (λ (q : CqImage). q.name) qs (λ q. refl)

queue-word : (qs : List CqImage) (k : ℕ) → k < length qs → has_word (name_at (map (λ q. q.name) qs) k) (names_of_queues (map queue_of_image qs)) ≡ true
queue-word qs k below = ap (has_word (name_at (map (λ (q : CqImage). q.name) qs) k)) (queue-names qs) ∙ word-at (map (λ (q : CqImage). q.name) qs) k (omega (arith, length-map qs (λ (q : CqImage). q.name), below))

end-sound-of : (i : ContextImage) (law : IsLawful i) (e : EndImage) → IsLawfulEnd i e → IsSoundEnd i.domains (names_of_queues (map queue_of_image i.queues)) (plans (map (region_of_image i.domains) i.regions)) (end_of_image i e)
unfolding end_of_image
end-sound-of i law e h = record {
  number = h.number;
  domain = word-at i.domains e.domain h.domain;
  send_cq = queue-word i.queues e.send_cq h.send_cq;
  recv_cq = queue-word i.queues e.recv_cq h.recv_cq;
  some_sends = h.some_sends;
  few_sends = h.few_sends;
  some_receives = h.some_receives;
  few_receives = h.few_receives;
  unused_fit = h.unused_fit;
  receives = receives-sound i law e.domain e.unused h.receives;
  state = by_link e.linked h.state;
  no_unused = none_unused e.linked h.state;
}
  where
    by_link : (o : Option LinkImage) → IsLawfulState i e o → IsSoundState (plans (map (region_of_image i.domains) i.regions)) (name_at i.domains e.domain) e.send_depth (option_map (link_of_image i.regions e.untold) o)
    by_link None g = tt
    by_link (Some l) g = link-sound i law e l h.untold_fit h.requests g

    none_unused : (o : Option LinkImage) → IsLawfulState i e o → HasNoneInError (option_map (link_of_image i.regions e.untold) o) e.unused
    none_unused None g = tt
    none_unused (Some l) g = image-unused i e l g

-- ---- the context

restored-parts : (i : ContextImage) → IsLawful i → AreSoundParts (context_of i)
unfolding context_of end_of_image
restored-parts i law = record {
  name = law.name;
  domains = law.domains;
  region_names = subst (λ ns. AreNames ns most_regions) (sym (map-map (λ (r : Region). r.name) (region_of_image i.domains) (λ (r : RegionImage). r.name) i.regions (λ r. refl))) law.region_names;
  regions = all-mapped (IsLawfulRegion (length i.domains)) (IsSoundRegion i.domains) (region_of_image i.domains) i.regions (region-sound i law) law.regions;
  keys = subst (AllPairs (λ a b. a ≢ b)) (sym (map-map local_key (region_of_image i.domains) (λ (r : RegionImage). r.keys.local) i.regions (λ r. refl))) (pairs-mapped (λ a b. a ≢ b) (λ (r : RegionImage). r.keys.local) i.regions law.keys);
  queue_names = subst (λ ns. AreNames ns most_queues) (sym (queue-names i.queues)) law.queue_names;
  queues = all-mapped (IsLawfulQueue i) IsSoundQueue queue_of_image i.queues (λ q h. record { some_room = h.some_room; little_room = h.little_room; entries = h.entries }) law.queues;
  end_names = subst (λ ns. AreNames ns most_ends) (sym (map-map (λ (e : End). e.name) (end_of_image i) (λ (e : EndImage). e.name) i.ends (λ e. refl))) law.end_names;
  numbers = subst (AllPairs (λ a b. a ≢ b)) (sym (map-map (λ (e : End). e.number) (end_of_image i) (λ (e : EndImage). e.number) i.ends (λ e. refl))) (pairs-mapped (λ a b. a ≢ b) (λ (e : EndImage). e.number) i.ends law.numbers);
  ends = all-mapped (IsLawfulEnd i) (IsSoundEnd i.domains (names_of_queues (map queue_of_image i.queues)) (plans (map (region_of_image i.domains) i.regions))) (end_of_image i) i.ends (end-sound-of i law) law.ends;
}

abbrev all_fit : Context → CompletionQueue → Type 0
all_fit c q = length q.entries + reserved c q.name ≤ q.capacity

restored-fit : (i : ContextImage) → IsLawful i → All (all_fit (context_of i)) (context_of i).queues
unfolding context_of
restored-fit i law = all-mapped (IsLawfulQueue i) (all_fit (context_of i)) queue_of_image i.queues (λ q h. h.fits) law.queues

pub restored-sound : (i : ContextImage) → IsLawful i → IsSoundContext (context_of i)
restored-sound i law = record {
  parts = parts-of;
  room = λ n has.
      let name = name-named_there (λ (q : CompletionQueue). q.name) no_queue n (context_of i).queues has in
      let fits = All-named (all_fit (context_of i)) (λ q. q.name) no_queue n (context_of i).queues queues-fit has in
      let same = ap (reserved (context_of i)) name in
      omega (arith, fits, same);
}
  where
    parts-of : AreSoundParts (context_of i)
    parts-of = restored-parts i law

    queues-fit : All (all_fit (context_of i)) (context_of i).queues
    queues-fit = restored-fit i law

-- ---- the moved one

moved-numbers : (l : Link) → (moved_link l).ended ≡ l.ended
unfolding moved_link
moved-numbers l = by_test l.ended refl
  where
    by_test : (b : Bool) → l.ended ≡ b → (if b then l else record l { moving = record l.moving { phase = Resuming; own = l.moving.own + 1 }; sender = record l.sender { next = l.sender.una; rnr_wait = false } }).ended ≡ l.ended
    by_test true t = refl
    by_test false t = refl

moved-link-sound : (regions : List Region) (domain : Name) (depth : ℕ) (l : Link) → IsSoundLink regions domain depth l → IsSoundLink regions domain depth (moved_link l)
unfolding moved_link
moved-link-sound regions domain depth l h = by_test l.ended refl
  where
    by_test : (b : Bool) → l.ended ≡ b → IsSoundLink regions domain depth (if b then l else record l { moving = record l.moving { phase = Resuming; own = l.moving.own + 1 }; sender = record l.sender { next = l.sender.una; rnr_wait = false } })
    by_test true t = h
    by_test false t = record {
      peer = h.peer;
      terms = h.terms;
      sender = record { fits = h.sender.fits; requests = h.sender.requests; numbers = rewinds l.terms.mtu l.sender.untold l.sender.first l.sender.una l.sender.next l.sender.top h.sender.numbers; spent = h.sender.spent; waits = h.sender.waits };
      oldest = h.oldest;
      receiver = h.receiver;
      no_untold = λ k. absurd (cc);
      no_message = λ k. absurd (cc);
      not_resuming = λ k. absurd (cc);
    }

moved-end-sound : (ds qs : List Name) (rs : List Region) (e : End) → IsSoundEnd ds qs rs e → IsSoundEnd ds qs rs (moved_end e)
unfolding moved_end
moved-end-sound ds qs rs e h = record {
  number = h.number;
  domain = h.domain;
  send_cq = h.send_cq;
  recv_cq = h.recv_cq;
  some_sends = h.some_sends;
  few_sends = h.few_sends;
  some_receives = h.some_receives;
  few_receives = h.few_receives;
  unused_fit = h.unused_fit;
  receives = h.receives;
  state = by_link e.link h.state;
  no_unused = none_unused e.link h.no_unused;
}
  where
    by_link : (o : Option Link) → IsSoundState rs e.domain e.send_depth o → IsSoundState rs e.domain e.send_depth (option_map moved_link o)
    by_link None g = tt
    by_link (Some l) g = moved-link-sound rs e.domain e.send_depth l g

    none_unused : (o : Option Link) → HasNoneInError o e.unused → HasNoneInError (option_map moved_link o) e.unused
    none_unused None g = tt
    none_unused (Some l) g = λ t. g (sym (moved-numbers l) ∙ t)

moved-same : (l : Link) → ((moved_link l).sender.untold ≡ l.sender.untold) × ((moved_link l).receiver ≡ l.receiver)
unfolding moved_link
moved-same l = by_test l.ended
  where
    by_test : (b : Bool) → ((if b then l else record l { moving = record l.moving { phase = Resuming; own = l.moving.own + 1 }; sender = record l.sender { next = l.sender.una; rnr_wait = false } }).sender.untold ≡ l.sender.untold) × ((if b then l else record l { moving = record l.moving { phase = Resuming; own = l.moving.own + 1 }; sender = record l.sender { next = l.sender.una; rnr_wait = false } }).receiver ≡ l.receiver)
    by_test true = (refl, refl)
    by_test false = (refl, refl)

moved-reserves : (n : Name) (e : End) → reserved_by n (moved_end e) ≡ reserved_by n e
unfolding reserved_by moved_end
moved-reserves n e = λ k. count_if (bytes_eq e.send_cq n) (length (untold e.link k)) + count_if (bytes_eq e.recv_cq n) (length e.unused + length (used e.link k))
  where
    untold : (o : Option Link) → untold_of (option_map moved_link o) ≡ untold_of o
    untold None = refl
    untold (Some l) = (moved-same l).0

    used : (o : Option Link) → in_use (option_map moved_link o) ≡ in_use o
    used None = refl
    used (Some l) = ap (λ (r : Receiver). in_use_by r.progress) (moved-same l).1

moved-sum : (n : Name) (es : List End) → sum_by (reserved_by n) (map moved_end es) ≡ sum_by (reserved_by n) es
moved-sum n [] = refl
moved-sum n (e ∷ es) = omega (arith, sum_by-cons (reserved_by n) (moved_end e) (map moved_end es), sum_by-cons (reserved_by n) e es, moved-reserves n e, moved-sum n es)

moved-names : (es : List End) → map (λ x. x.name) (map moved_end es) ≡ map (λ x. x.name) es
unfolding moved_end
moved-names es = map-map (λ (x : End). x.name) moved_end (λ (x : End). x.name) es (λ x. refl)

pub moved-end-numbers : (es : List End) → map (λ x. x.number) (map moved_end es) ≡ map (λ x. x.number) es
unfolding moved_end
moved-end-numbers es = map-map (λ (x : End). x.number) moved_end (λ (x : End). x.number) es (λ x. refl)

pub moved-sound : (c : Context) → IsSoundContext c → IsSoundContext (moved c)
unfolding moved reserved
moved-sound c s = record {
  parts = parts-kept c (record c { ends = map moved_end c.ends }) s.parts (record {
    name = refl;
    domains = refl;
    same_plans = refl;
    regions = s.parts.regions;
    queue_names = refl;
    queues = s.parts.queues;
    end_names = moved-names c.ends;
    numbers = moved-end-numbers c.ends;
    ends = all-mapped (IsSoundEnd c.domains (names_of_queues c.queues) (plans c.regions)) (IsSoundEnd c.domains (names_of_queues c.queues) (plans c.regions)) moved_end c.ends (moved-end-sound c.domains (names_of_queues c.queues) (plans c.regions)) s.parts.ends;
  });
  room = λ n has. let r = s.room n has in omega (arith, r, moved-sum n c.ends);
}

-- ---- counts go on past the restored numbers

highest-above : (id size : ℕ) (xs : List ℕ) (n : ℕ) → n ≤ highest id size xs n
unfolding highest
highest-above id size [] n = omega arith
highest-above id size (x ∷ xs) n = by_test (x / size == id) (λ m. highest-above id size xs m)
  where
    by_test : (b : Bool) → ((m : ℕ) → m ≤ highest id size xs m) → n ≤ highest id size xs (if b then max n (x % size) else n)
    by_test true later = omega (arith, later (max n (x % size)))
    by_test false later = later n

highest-covers : (id size : ℕ) (xs : List ℕ) (n : ℕ) → All (IsCounted id size (highest id size xs n)) xs
unfolding highest
highest-covers id size [] n = All-nil (IsCounted id size n)
highest-covers id size (x ∷ xs) n = by_tells (eqb_tells (x / size) id) (λ m. highest-covers id size xs m)
  where
    by_tells : (((x / size == id) ≡ true) × (x / size ≡ id)) ⊎ (((x / size == id) ≡ false) × (x / size ≢ id)) → ((m : ℕ) → All (IsCounted id size (highest id size xs m)) xs) → All (IsCounted id size (highest id size xs (if x / size == id then max n (x % size) else n))) (x ∷ xs)
    by_tells (inl t) later = subst (λ b. All (IsCounted id size (highest id size xs (if b then max n (x % size) else n))) (x ∷ xs)) (sym t.0) (All-cons (IsCounted id size (highest id size xs (max n (x % size)))) x xs (λ is. omega (arith, highest-above id size xs (max n (x % size)))) (later (max n (x % size))))
    by_tells (inr t) later = subst (λ b. All (IsCounted id size (highest id size xs (if b then max n (x % size) else n))) (x ∷ xs)) (sym t.0) (All-cons (IsCounted id size (highest id size xs n)) x xs (λ is. absurd (t.1 is)) (later n))

highest-few : (id size most : ℕ) (xs : List ℕ) (n : ℕ) → n ≤ most → size ≡ most + 1 → highest id size xs n ≤ most
unfolding highest
highest-few id size most [] n few is = few
highest-few id size most (x ∷ xs) n few is = by_test (x / size == id) (λ m h. highest-few id size most xs m h is)
  where
    small : x % size ≤ most
    small = omega (arith, is)

    by_test : (b : Bool) → ((m : ℕ) → m ≤ most → highest id size xs m ≤ most) → highest id size xs (if b then max n (x % size) else n) ≤ most
    by_test true later = later (max n (x % size)) (omega (arith, few, small))
    by_test false later = later n few

pub restoring : (d : Device) (c : Context) → IsSoundDevice d → IsSoundContext c → IsSoundDevice (restored d c)
unfolding moved
restoring d c s h = record {
  some_id = s.some_id;
  few_ids = s.few_ids;
  few_numbers = highest-few d.id 65536 most_numbers (map (λ e. e.number) c.ends) d.qp_count s.few_numbers refl;
  few_keys = highest-few d.id 8388608 most_keys (map (λ r. r.keys.local / 2) c.regions) d.key_count s.few_keys refl;
  contexts = All-append IsSoundContext d.contexts (moved c ∷ []) s.contexts (All-cons IsSoundContext (moved c) [] (moved-sound c h) (All-nil IsSoundContext));
  counted = All-append (AreCounted (restored d c)) d.contexts (moved c ∷ [])
      (all-counted d (restored d c) d.contexts refl (highest-above d.id 65536 (map (λ e. e.number) c.ends) d.qp_count) (highest-above d.id 8388608 (map (λ r. r.keys.local / 2) c.regions) d.key_count) s.counted)
      (All-cons (AreCounted (restored d c)) (moved c) [] (record {
        ends = All-map (IsCounted d.id 65536 (highest d.id 65536 (map (λ e. e.number) c.ends) d.qp_count)) (λ (e : End). e.number) (map moved_end c.ends) (subst (All (IsCounted d.id 65536 (highest d.id 65536 (map (λ e. e.number) c.ends) d.qp_count))) (sym (moved-end-numbers c.ends)) (highest-covers d.id 65536 (map (λ e. e.number) c.ends) d.qp_count));
        regions = All-map (IsCounted d.id 8388608 (highest d.id 8388608 (map (λ r. r.keys.local / 2) c.regions) d.key_count)) (λ (r : Region). r.keys.local / 2) c.regions (highest-covers d.id 8388608 (map (λ r. r.keys.local / 2) c.regions) d.key_count);
      }) (All-nil (AreCounted (restored d c))));
}
