-- An end that comes of an image: what it keeps, and what it is in the protocol's words.
use Rattle.std.proofs.Common.{◌≡◌, ℕ, zero, suc, Bool, true, false, List, [], ◌∷◌, ◌++◌, length, refl, ap, sym, ◌∙◌, subst, arith}
use Rattle.std.specs.Prelude.{◌==◌, Option, Some, None, map, option_map, All, nat_eq, slice_get, if◌then◌else◌}
use Rattle.std.specs.List.{AllByRecursion, IsDistinct}
use Rattle.std.proofs.lemmas.Bool.Decides.{nat_tests}
use Rattle.std.proofs.lemmas.List.{length-map}
use Rattle.std.proofs.lemmas.List.Elements.{All-cons}
use Rattle.rdma_types.specs.declared.names.Name.{Name}
use Rattle.rdma_types.specs.declared.requests.Receive.{Receive}
use Rattle.rdma_types.specs.Lists.{first_that}
use Rattle.rdma_types.specs.Memory.{LocalWrite, Right, RemoteWrite, allows, granted, grants, holds, is_granted, local_key}
use Rattle.rdma_types.specs.Objects.{Region}
use Rattle.page_pool.specs.Pool.{Pool}
use Rattle.memory_keys.specs.declared.RegisteredRegion.{RegisteredRegion}
use Rattle.memory_keys.specs.Regions.{AreKeyed, held_at, region_of, regions_of}
use Rattle.end_queues.specs.declared.work_queues.posted.QueuedRequest.{QueuedRequest}
use Rattle.end_queues.specs.Postings.{Queue, empty_queue}
use Rattle.end_queues.specs.Untold.{untold_in}
use Rattle.protocol.specs.declared.images.ContextImage.{ContextImage}
use Rattle.protocol.specs.declared.images.EndImage.{EndImage}
use Rattle.protocol.specs.declared.images.LinkImage.{LinkImage}
use Rattle.protocol.specs.declared.images.PostedImage.{PostedImage}
use Rattle.protocol.specs.declared.images.Progress as images
use Rattle.protocol.specs.declared.images.Progress.TheVariants as image
use Rattle.protocol.specs.declared.images.RegionImage.{RegionImage}
use Rattle.protocol.specs.Images.{context_of, end_of_image, link_of_image, local_key_at, moved_end, moved_link, name_at, posted_of_image, progress_of_image, region_of_image}
use Rattle.protocol.specs.Lawful.{IsLawfulEnd, IsLawfulLink, IsLawfulProgress, IsLawfulReceive, IsLawfulRequest, IsLawfulState}
use Rattle.protocol.specs.EndWords.{in_use_by}
use Rattle.protocol.specs.State.{Link}
use Rattle.responder.specs.Sound.{IsPlace, IsUnderWay}
use Rattle.transport.specs.declared.move_core.Phase.TheVariants as phase
use Rattle.endpoint_core.specs.declared.end.Endpoint.{Endpoint}
use Rattle.endpoint_core.specs.Ends.{Names, end_in, link_in, untold_by, used_by}
use Rattle.endpoint_core.specs.Sound.{HoldsQueue, IsEnd, IsInState, IsLinked}
use Rattle.context_core.specs.Coming.{Come, IsEndAfter, MayCome, end_after, link_after, unlinked_after, used_of_image, used_of_progress}

-- ---- places, whatever bytes lie there

granted-any : (a b : Pool) (domain : Name) (key at count : ℕ) (right : Right) (hs : List RegisteredRegion) → is_granted local_key (regions_of a hs) domain key at count right ≡ is_granted local_key (regions_of b hs) domain key at count right
unfolding is_granted granted first_that grants holds
granted-any a b domain key at count right [] = refl
granted-any a b domain key at count right (h ∷ hs) = by_test (grants local_key domain key at count right (region_of a h)) refl (granted-any a b domain key at count right hs)
  where
    by_test : (t : Bool) → grants local_key domain key at count right (region_of a h) ≡ t → is_granted local_key (regions_of a hs) domain key at count right ≡ is_granted local_key (regions_of b hs) domain key at count right
        → is_granted local_key (regions_of a (h ∷ hs)) domain key at count right ≡ is_granted local_key (regions_of b (h ∷ hs)) domain key at count right
    by_test true t rest = rw t refl
    by_test false t rest = rw t rest

-- what an image grants is granted by the regions that come of it
granted-here : (pool other : Pool) (c : ContextImage) (hs : List RegisteredRegion) (domain : Name) (key at count : ℕ) (right : Right) → regions_of pool hs ≡ (context_of c).regions → is_granted local_key (context_of c).regions domain key at count right ≡ true → is_granted local_key (regions_of other hs) domain key at count right ≡ true
granted-here pool other c hs domain key at count right same g = granted-any other pool domain key at count right hs ∙ (ap (λ rs. is_granted local_key rs domain key at count right) same ∙ g)

module _ (pool : Pool) (c : ContextImage) (hs : List RegisteredRegion) (same : regions_of pool hs ≡ (context_of c).regions) where
  place-of : (domain : ℕ) (r : Receive) → IsLawfulReceive c domain r → IsPlace hs (name_at c.domains domain) r
  place-of domain r h = record { few = h.length'; granted = λ other. granted-here pool other c hs (name_at c.domains domain) r.lkey r.local r.length LocalWrite same h.granted }

  places-of : (domain : ℕ) (rs : List Receive) → All (IsLawfulReceive c domain) rs → All (IsPlace hs (name_at c.domains domain)) rs
  places-of domain rs h = λ k d below. place-of domain _ (h k d below)

  may-come : (domain : ℕ) (p : PostedImage) → IsLawfulRequest c domain p → MayCome hs (name_at c.domains domain) p
  may-come domain p h = record {
    few = h.length';
    shape = h.shape;
    whole = h.payload;
    placed = λ other. granted-here pool other c hs (name_at c.domains domain) p.request.lkey p.request.local p.request.shape.length _ same h.granted;
  }

  pub all-may : (domain : ℕ) (ps : List PostedImage) → All (IsLawfulRequest c domain) ps → All (MayCome hs (name_at c.domains domain)) ps
  all-may domain ps h = λ k d below. may-come domain _ (h k d below)

-- ---- the region of a message in progress

-- a thing that is shown at a place stands there
pub shown-at : {A B : Type 0} (f : A → B) (xs : List A) (i : ℕ) (y : B) → slice_get (map f xs) i ≡ Some y → (x : A) × (slice_get xs i ≡ Some x) × (f x ≡ y)
shown-at f [] i y e = absurd (cc)
shown-at f (x ∷ xs) zero y e = (x, refl, cc)
shown-at f (x ∷ xs) (suc i) y e = shown-at f xs i y e

pub at-map : {A B : Type 0} (f : A → B) (xs : List A) (i : ℕ) (x : A) → slice_get xs i ≡ Some x → slice_get (map f xs) i ≡ Some (f x)
at-map f [] i x e = absurd (cc)
at-map f (y ∷ ys) zero x e = let same : y ≡ x = cc in ap (λ z. Some (f z)) same
at-map f (y ∷ ys) (suc i) x e = at-map f ys i x e

key-there : (rs : List RegionImage) (i : ℕ) (r : RegionImage) → slice_get rs i ≡ Some r → local_key_at rs i ≡ r.keys.local
key-there [] i r e = absurd (cc)
key-there (x ∷ xs) zero r e = let same : x ≡ r = cc in ap (λ (y : RegionImage). y.keys.local) same
key-there (x ∷ xs) (suc i) r e = key-there xs i r e

-- a key among keys that differ from one is another
other-key : (key : ℕ) (hs : List RegisteredRegion) (i : ℕ) (h : RegisteredRegion) → AllByRecursion (λ y. nat_eq key y ≡ false) (map (λ x. x.head.keys.local) hs) → slice_get hs i ≡ Some h → (key == h.head.keys.local) ≡ false
other-key key [] i h d e = absurd (cc)
other-key key (x ∷ xs) zero h d e = let same : x ≡ h = cc in subst (λ (y : RegisteredRegion). (key == y.head.keys.local) ≡ false) same d.0
other-key key (x ∷ xs) (suc i) h d e = other-key key xs i h d.1 e

-- the region at a place is found under its key
found-there : (hs : List RegisteredRegion) (i : ℕ) (h : RegisteredRegion) → IsDistinct nat_eq (map (λ x. x.head.keys.local) hs) → slice_get hs i ≡ Some h → held_at h.head.keys.local hs ≡ Some h
unfolding first_that IsDistinct
found-there [] i h d e = absurd (cc)
found-there (x ∷ xs) zero h d e =
    let same : x ≡ h = cc in
    let yes : (x.head.keys.local == h.head.keys.local) ≡ true = subst (λ (y : RegisteredRegion). (x.head.keys.local == y.head.keys.local) ≡ true) same (self x.head.keys.local) in
    rw yes (ap Some same)
  where
    self : (n : ℕ) → (n == n) ≡ true
    self n = grind (arith, nat_tests)
found-there (x ∷ xs) (suc i) h d e = rw (other-key x.head.keys.local xs i h d.0 e) (found-there xs i h d.1 e)

module _ (pool : Pool) (c : ContextImage) (hs : List RegisteredRegion) (same : regions_of pool hs ≡ (context_of c).regions) (keyed : AreKeyed hs) where
  image-there : (i : ℕ) (r : RegionImage) → slice_get c.regions i ≡ Some r → slice_get (regions_of pool hs) i ≡ Some (region_of_image c.domains r)
  unfolding context_of
  image-there i r e = ap (λ rs. slice_get rs i) same ∙ at-map (region_of_image c.domains) c.regions i r e

  progress-of : (domain mtu : ℕ) (p : images.Progress) → IsLawfulProgress c domain mtu p → IsUnderWay hs (name_at c.domains domain) mtu (progress_of_image c.regions p)
  progress-of domain mtu image.Idle h = tt
  progress-of domain mtu (image.Send done r) h = record { pieces = h.pieces; fits = h.fits }
  progress-of domain mtu (image.Write region off count done) h =
      let there = shown-at (region_of pool) hs region (region_of_image c.domains h.written) (image-there region h.written h.there) in
      let is : region_of pool there.0 ≡ region_of_image c.domains h.written = there.2 in
      let key : local_key_at c.regions region ≡ there.0.head.keys.local = key-there c.regions region h.written h.there ∙ sym (ap (λ (x : Region). x.keys.local) is) in
      record {
        written = there.0;
        there = ap (λ k. held_at k hs) key ∙ found-there hs region there.0 keyed.distinct there.1;
        same_domain = ap (λ (x : Region). x.domain) is ∙ ap (name_at c.domains) h.domain';
        right = ap (λ (x : Region). allows x.rights RemoteWrite) is ∙ h.right;
        inside = let long = ap (λ (x : Region). x.length) is in let fits = h.inside in omega (arith, long, fits);
        few = h.few;
        pieces = h.pieces;
        unfinished = h.unfinished;
      }

  used-places : (domain mtu : ℕ) (p : images.Progress) (unused : List Receive) → IsLawfulProgress c domain mtu p → All (IsPlace hs (name_at c.domains domain)) unused → All (IsPlace hs (name_at c.domains domain)) (in_use_by (progress_of_image c.regions p) ++ unused)
  used-places domain mtu image.Idle unused h all = all
  used-places domain mtu (image.Send done r) unused h all = All-cons (IsPlace hs (name_at c.domains domain)) r unused (place-of pool c hs same domain r h.receive) all
  used-places domain mtu (image.Write region off count done) unused h all = all

-- ---- its requests

shown-empty : (pool : Pool) (ps : List QueuedRequest) (images' : List PostedImage) → untold_in pool ps ≡ map posted_of_image images' → images' ≡ [] → ps ≡ []
shown-empty pool [] images' e none = refl
shown-empty pool (p ∷ ps) images' e none = absurd (let no = e ∙ ap (map posted_of_image) none in cc)

pub shown-count : (pool : Pool) (ps : List QueuedRequest) (images' : List PostedImage) → untold_in pool ps ≡ map posted_of_image images' → length ps ≡ length images'
shown-count pool ps images' e = sym (length-map ps _) ∙ (ap length e ∙ length-map images' posted_of_image)

untold-after : (pool : Pool) (c : ContextImage) (e : EndImage) (queue : Queue QueuedRequest) → untold_in pool queue.items ≡ map posted_of_image e.untold → (o : Option LinkImage) → IsLawfulState c e o → untold_by (option_map (λ l. link_after c.regions l queue) o) ≡ queue.items
untold-after pool c e queue shown None h = sym (shown-empty pool queue.items e.untold shown h)
untold-after pool c e queue shown (Some l) h = refl

-- the untold requests are those that came
pub untold-is : (old new : Pool) (hs : List RegisteredRegion) (c : ContextImage) (e : EndImage) (x : Endpoint) → IsLawfulEnd c e → (after : IsEndAfter old new hs c e x) → untold_by x.link ≡ after.queue.items
untold-is old new hs c e x law after = ap (λ (y : Endpoint). untold_by y.link) after.is ∙ untold-after new c e after.queue after.come.shown e.linked law.state

-- ---- it is sound

ended-phase : (b : Bool) → b ≡ true → (if b then phase.Running else phase.Resuming) ≡ phase.Running
ended-phase true e = refl
ended-phase false e = absurd (cc)

module _ (old new : Pool) (c : ContextImage) (e : EndImage) (hs : List RegisteredRegion) (same : regions_of new hs ≡ (context_of c).regions) (keyed : AreKeyed hs) (law : IsLawfulEnd c e) (queue : Queue QueuedRequest) (depth : queue.depth ≡ e.send_depth) (come : Come old new hs (name_at c.domains e.domain) e.untold queue.items) where
  linked-sound : (l : LinkImage) → IsLawfulLink c e l → IsLinked new hs (end_after c e queue) (link_after c.regions l queue)
  linked-sound l h = record {
    terms = h.terms;
    sending_terms = refl;
    serving_terms = refl;
    depth = depth;
    fit = let n = shown-count new queue.items e.untold come.shown in let m = law.untold_fit in omega (arith, n, m);
    posted = come.posted;
    apart = come.taken.apart;
    serving = record {
      receives = used-places new c hs same keyed e.domain l.terms.mtu l.progress e.unused h.in_progress (places-of new c hs same e.domain e.unused law.receives);
      message = progress-of new c hs same keyed e.domain l.terms.mtu l.progress h.in_progress;
    };
    none_untold = λ t. shown-empty new queue.items e.untold come.shown (h.no_untold t);
    none_unused = λ t. h.no_unused t;
    no_message = λ t. ap (progress_of_image c.regions) (h.no_message t);
    running = λ t. ended-phase l.ended t;
  }

  state-sound : (o : Option LinkImage) → IsLawfulState c e o → IsInState new hs (end_after c e queue) (option_map (λ l. link_after c.regions l queue) o)
  state-sound None h = places-of new c hs same e.domain e.unused law.receives
  state-sound (Some l) h = linked-sound l h

  queue-held : (o : Option LinkImage) → IsLawfulState c e o → HoldsQueue e.send_depth (unlinked_after o queue) (option_map (λ l. link_after c.regions l queue) o)
  queue-held None h = ap {A = Queue QueuedRequest} Some (ap {A = List QueuedRequest} (λ items. record queue { items = items }) (shown-empty new queue.items e.untold come.shown h) ∙ ap {A = ℕ} (λ n. empty_queue n) depth)
  queue-held (Some l) h = refl

  pub after-sound : IsEnd new hs (end_after c e queue)
  after-sound = record { queue = queue-held e.linked law.state; depth = refl; state = state-sound e.linked law.state }

pub end-sound : (old new : Pool) (c : ContextImage) (e : EndImage) (hs : List RegisteredRegion) (x : Endpoint) → regions_of new hs ≡ (context_of c).regions → AreKeyed hs → IsLawfulEnd c e → IsEndAfter old new hs c e x → IsEnd new hs x
end-sound old new c e hs x same keyed law after = subst (IsEnd new hs) (sym after.is) (after-sound old new c e hs same keyed law after.queue after.depth after.come)

-- ---- what it is

link-shown : (new : Pool) (c : ContextImage) (e : EndImage) (l : LinkImage) (queue : Queue QueuedRequest) → IsLawfulLink c e l → untold_in new queue.items ≡ map posted_of_image e.untold → link_in new (link_after c.regions l queue) ≡ moved_link (link_of_image c.regions e.untold l)
unfolding moved_link link_of_image
link-shown new c e l queue law shown = by_test l.ended refl ∙ ap (λ ps. moved_link (record (link_of_image c.regions e.untold l) { sender = record (link_of_image c.regions e.untold l).sender { untold = ps } })) shown
  where
    by_test : (b : Bool) → l.ended ≡ b → link_in new (link_after c.regions l queue) ≡ moved_link (record (link_of_image c.regions e.untold l) { sender = record (link_of_image c.regions e.untold l).sender { untold = untold_in new queue.items } })
    by_test true t = let still : l.resuming ≡ false = law.not_resuming t in rw (t, still) refl
    by_test false t = rw t refl

links-shown : (new : Pool) (c : ContextImage) (e : EndImage) (queue : Queue QueuedRequest) → untold_in new queue.items ≡ map posted_of_image e.untold → (o : Option LinkImage) → IsLawfulState c e o → option_map (link_in new) (option_map (λ l. link_after c.regions l queue) o) ≡ option_map moved_link (option_map (link_of_image c.regions e.untold) o)
links-shown new c e queue shown None h = refl
links-shown new c e queue shown (Some l) h = ap Some (link-shown new c e l queue h shown)

pub end-shown : (old new : Pool) (c : ContextImage) (e : EndImage) (hs : List RegisteredRegion) (x : Endpoint) (names : Names) → IsLawfulEnd c e → IsEndAfter old new hs c e x → names.name ≡ e.name → names.send_cq ≡ name_at (map (λ q. q.name) c.queues) e.send_cq → names.recv_cq ≡ name_at (map (λ q. q.name) c.queues) e.recv_cq
    → end_in new names x ≡ moved_end (end_of_image c e)
unfolding moved_end end_of_image
end-shown old new c e hs x names law after one two three =
    ap (end_in new names) after.is
    ∙ (ap {A = Option Link} (λ l. record (end_in new names (end_after c e after.queue)) { link = l }) (links-shown new c e after.queue after.come.shown e.linked law.state)
    ∙ (ap {A = Name} (λ n. record (moved_end (end_of_image c e)) { name = n; send_cq = names.send_cq; recv_cq = names.recv_cq }) one
    ∙ (ap {A = Name} (λ n. record (moved_end (end_of_image c e)) { send_cq = n; recv_cq = names.recv_cq }) two
    ∙ ap {A = Name} (λ n. record (moved_end (end_of_image c e)) { recv_cq = n }) three)))

-- ---- how many completions it waits for

used-count : (rs : List RegionImage) (p : images.Progress) → length (in_use_by (progress_of_image rs p)) ≡ used_of_progress p
used-count rs image.Idle = refl
used-count rs (image.Send done r) = refl
used-count rs (image.Write region off count done) = refl

used-by : (c : ContextImage) (queue : Queue QueuedRequest) (o : Option LinkImage) → length (used_by (option_map (λ l. link_after c.regions l queue) o)) ≡ used_of_image o
used-by c queue None = refl
used-by c queue (Some l) = used-count c.regions l.progress

pub used-is : (old new : Pool) (hs : List RegisteredRegion) (c : ContextImage) (e : EndImage) (x : Endpoint) → IsEndAfter old new hs c e x → length (used_by x.link) ≡ used_of_image e.linked
used-is old new hs c e x after = ap (λ (y : Endpoint). length (used_by y.link)) after.is ∙ used-by c after.queue e.linked
