-- What is granted where regions are made or dropped.
use Rattle.std.proofs.Common.{◌≡◌, ◌≢◌, ℕ, ◌-◌, ◌<◌, Bool, true, false, List, [], ◌∷◌, ◌++◌, refl, ap, sym, ◌∙◌, subst, arith}
use Rattle.std.specs.Prelude.{◌==◌, ◌||◌, Option, Some, None, is_some, All, if◌then◌else◌}
use Rattle.std.specs.List.{AllByRecursion}
use Rattle.std.proofs.lemmas.List.Elements.{All-from_recursion, recursion_from_All}
use Rattle.std.proofs.lemmas.Bool.Decides.{nat_tests}
use Rattle.rdma_types.specs.declared.names.Name.{Name}
use Rattle.rdma_types.specs.declared.requests.Receive.{Receive}
use Rattle.rdma_types.specs.declared.requests.Request.{Request}
use Rattle.rdma_types.specs.Kinds.{takes_bytes}
use Rattle.rdma_types.specs.Lists.{at}
use Rattle.rdma_types.specs.Memory.{LocalWrite, Right, granted, is_granted, landing_right, local_key}
use Rattle.rdma_types.specs.Objects.{no_region}
use Rattle.page_pool.specs.Pool.{Pool}
use Rattle.memory_keys.specs.declared.RegisteredRegion.{RegisteredRegion}
use Rattle.memory_keys.specs.Regions.{AreKeyed, held_at, regions_of}
use Rattle.memory_keys.proofs.Found.{none_with, one_with}
use Rattle.memory_keys.proofs.Protocol.{found-region}
use Rattle.end_queues.specs.declared.work_queues.posted.QueuedRequest.{QueuedRequest}
use Rattle.responder.specs.Sound.{IsPlace, IsUnderWay}
use Rattle.protocol.specs.EndWords.{in_use_by}
use Rattle.protocol.specs.Memory.{pages_of_range, pages_of_request, region_of_key}
use Rattle.protocol.specs.State.{Progress, NoMessage, InSend, InWrite, no_context}
use Rattle.endpoint_core.specs.declared.end.Endpoint.{Endpoint}
use Rattle.endpoint_core.specs.declared.end.EndLink.{EndLink}
use Rattle.endpoint_core.specs.Ends.{untold_by, used_by}
use Rattle.endpoint_core.specs.Sound.{IsEnd, IsInState, IsPlaced, IsPosted}
use Rattle.context_core.specs.Context.{IsPaged}
use Rattle.context_core.proofs.DisjointLists.{each-append}

-- what a key finds among the regions, it finds among the others
abbrev pub Finds : List RegisteredRegion → List RegisteredRegion → ℕ → Type 0
Finds old new key = (w : RegisteredRegion) → held_at key old ≡ Some w → held_at key new ≡ Some w

-- .. where bytes are named
abbrev pub Reaches : List RegisteredRegion → List RegisteredRegion → ℕ → ℕ → Type 0
Reaches old new key count = 0 < count → Finds old new key

-- the message in progress of a responder names a region that stays
abbrev pub MessageStays : List RegisteredRegion → List RegisteredRegion → Progress → Type 0
MessageStays old new NoMessage = Unit {0}
MessageStays old new (InSend done receive) = Unit {0}
MessageStays old new (InWrite region off count done) = Finds old new region

-- .. of a connection
abbrev pub LinkStays : List RegisteredRegion → List RegisteredRegion → Option EndLink → Type 0
LinkStays old new None = Unit {0}
LinkStays old new (Some l) = MessageStays old new l.responder.receiver.progress

-- what an end names among the regions stays, and its payloads are apart from the new ones
pub record Still (old new : List RegisteredRegion) (e : Endpoint) : Type 0 where
  pub requests : AllByRecursion (λ p. Reaches old new p.request.lkey p.request.shape.length) (untold_by e.link)
  pub unused : AllByRecursion (λ r. Reaches old new r.lkey r.length) e.recvs.items
  pub used : AllByRecursion (λ r. Reaches old new r.lkey r.length) (used_by e.link)
  pub message : LinkStays old new e.link
  pub apart : AllByRecursion (λ p. All (λ h. h.list ≢ p.payload.list) new) (untold_by e.link)

module _ (old new : List RegisteredRegion) (keyed : AreKeyed old) (keyed' : AreKeyed new) where
  granted-by : (pool : Pool) (domain : Name) (key from count : ℕ) (right : Right) → Finds old new key → (o : Option RegisteredRegion) → held_at key old ≡ o
      → is_some (granted local_key (regions_of pool old) domain key from count right) ≡ true → is_some (granted local_key (regions_of pool new) domain key from count right) ≡ true
  granted-by pool domain key from count right finds None e g =
      let none : granted local_key (regions_of pool old) domain key from count right ≡ None = none_with pool domain key from count right old e in
      absurd (let no : is_some (granted local_key (regions_of pool old) domain key from count right) ≡ false = ap is_some none in cc)
  granted-by pool domain key from count right finds (Some w) e g =
      ap is_some (one_with pool domain key from count right new w keyed'.distinct (finds w e) ∙ sym (one_with pool domain key from count right old w keyed.distinct e)) ∙ g

  granted-still : (key count : ℕ) → Reaches old new key count → (pool : Pool) (domain : Name) (from : ℕ) (right : Right)
      → is_granted local_key (regions_of pool old) domain key from count right ≡ true → is_granted local_key (regions_of pool new) domain key from count right ≡ true
  unfolding is_granted
  granted-still key count reaches pool domain from right g = by (count == 0) refl g
    where
      by : (b : Bool) → (count == 0) ≡ b → (b || is_some (granted local_key (regions_of pool old) domain key from count right)) ≡ true → (b || is_some (granted local_key (regions_of pool new) domain key from count right)) ≡ true
      by true t q = refl
      by false t q = granted-by pool domain key from count right (reaches (grind (arith, nat_tests, t))) (held_at key old) refl q

  place-still : (domain : Name) (r : Receive) → Reaches old new r.lkey r.length → IsPlace old domain r → IsPlace new domain r
  place-still domain r reaches p = record { few = p.few; granted = λ pool. granted-still r.lkey r.length reaches pool domain r.local LocalWrite (p.granted pool) }

  places-still : (domain : Name) (rs : List Receive) → AllByRecursion (λ r. Reaches old new r.lkey r.length) rs → AllByRecursion (IsPlace old domain) rs → AllByRecursion (IsPlace new domain) rs
  places-still domain [] s h = tt
  places-still domain (r ∷ rs) s h = (place-still domain r s.0 h.0, places-still domain rs s.1 h.1)

  posted-still : (pool : Pool) (domain : Name) (ps : List QueuedRequest) → AllByRecursion (λ p. Reaches old new p.request.lkey p.request.shape.length) ps → AllByRecursion (λ p. All (λ h. h.list ≢ p.payload.list) new) ps → AllByRecursion (IsPosted pool old domain) ps → AllByRecursion (IsPosted pool new domain) ps
  posted-still pool domain [] s a h = tt
  posted-still pool domain (p ∷ ps) s a h = (
    record {
      shape = h.0.shape;
      payload = record { holds = h.0.payload.holds; whole = h.0.payload.whole; apart = a.0 };
      placed = λ any. granted-still p.request.lkey p.request.shape.length s.0 any domain p.request.local (landing_right p.request.shape.kind) (h.0.placed any);
    },
    posted-still pool domain ps s.1 a.1 h.1,
  )

  message-still : (domain : Name) (mtu : ℕ) (p : Progress) → MessageStays old new p → IsUnderWay old domain mtu p → IsUnderWay new domain mtu p
  message-still domain mtu NoMessage s h = h
  message-still domain mtu (InSend done receive) s h = h
  message-still domain mtu (InWrite region off count done) s h = record {
    written = h.written;
    there = s h.written h.there;
    same_domain = h.same_domain;
    right = h.right;
    inside = h.inside;
    few = h.few;
    pieces = h.pieces;
    unfinished = h.unfinished;
  }

  state-still : (pool : Pool) (e : Endpoint) (l : Option EndLink)
      → AllByRecursion (λ p. Reaches old new p.request.lkey p.request.shape.length) (untold_by l)
      → AllByRecursion (λ r. Reaches old new r.lkey r.length) e.recvs.items
      → AllByRecursion (λ r. Reaches old new r.lkey r.length) (used_by l)
      → LinkStays old new l
      → AllByRecursion (λ p. All (λ h. h.list ≢ p.payload.list) new) (untold_by l)
      → IsInState pool old e l → IsInState pool new e l
  state-still pool e None requests unused used message apart h = All-from_recursion (IsPlace new e.domain) e.recvs.items (places-still e.domain e.recvs.items unused (recursion_from_All (IsPlace old e.domain) e.recvs.items h))
  state-still pool e (Some l) requests unused used message apart h =
      let waiting : List Receive = in_use_by l.responder.receiver.progress ++ e.recvs.items in
      let stay : AllByRecursion (λ r. Reaches old new r.lkey r.length) waiting = each-append (λ r. Reaches old new r.lkey r.length) (in_use_by l.responder.receiver.progress) e.recvs.items used unused in
      record {
        terms = h.terms;
        sending_terms = h.sending_terms;
        serving_terms = h.serving_terms;
        depth = h.depth;
        fit = h.fit;
        posted = All-from_recursion (IsPosted pool new e.domain) l.requester.items (posted-still pool e.domain l.requester.items requests apart (recursion_from_All (IsPosted pool old e.domain) l.requester.items h.posted));
        apart = h.apart;
        serving = record {
          receives = All-from_recursion (IsPlace new e.domain) waiting (places-still e.domain waiting stay (recursion_from_All (IsPlace old e.domain) waiting h.serving.receives));
          message = message-still e.domain l.responder.terms.mtu l.responder.receiver.progress message h.serving.message;
        };
        none_untold = h.none_untold;
        none_unused = h.none_unused;
        no_message = h.no_message;
        running = h.running;
      }

  -- an end stays sound
  pub end-still : (pool : Pool) (e : Endpoint) → Still old new e → IsEnd pool old e → IsEnd pool new e
  end-still pool e s h = record { queue = h.queue; depth = h.depth; state = state-still pool e e.link s.requests s.unused s.used s.message s.apart h.state }

-- ---- pages

-- a granted place of some bytes has its region
granted-found : (old : List RegisteredRegion) (pool : Pool) (domain : Name) (key from count : ℕ) (right : Right) → 0 < count → is_granted local_key (regions_of pool old) domain key from count right ≡ true → held_at key old ≡ None → ⊥
unfolding is_granted
granted-found old pool domain key from count right some g e =
    let no : (count == 0) ≡ false = grind (arith, nat_tests) in
    let none : granted local_key (regions_of pool old) domain key from count right ≡ None = none_with pool domain key from count right old e in
    let g' : (false || is_some (granted local_key (regions_of pool old) domain key from count right)) ≡ true = subst (λ b. (b || is_some (granted local_key (regions_of pool old) domain key from count right)) ≡ true) no g in
    absurd (let is : is_some (granted local_key (regions_of pool old) domain key from count right) ≡ false = ap is_some none in cc)

module _ (old new : List RegisteredRegion) (pool : Pool) where
  base-still : (domain : Name) (r : Request) → IsPlaced old domain r → Reaches old new r.lkey r.shape.length → 0 < r.shape.length → at local_key no_region r.lkey (regions_of pool new) ≡ at local_key no_region r.lkey (regions_of pool old)
  base-still domain r placed reaches some = by (held_at r.lkey old) refl
    where
      by : (o : Option RegisteredRegion) → held_at r.lkey old ≡ o → at local_key no_region r.lkey (regions_of pool new) ≡ at local_key no_region r.lkey (regions_of pool old)
      by None e = absurd (granted-found old pool domain r.lkey r.local r.shape.length (landing_right r.shape.kind) some (placed pool) e)
      by (Some w) e = found-region pool r.lkey new w (reaches some w e) ∙ sym (found-region pool r.lkey old w e)

  pages-still : (domain : Name) (r : Request) → IsPlaced old domain r → Reaches old new r.lkey r.shape.length → pages_of_request (record no_context { regions = regions_of pool new }) r ≡ pages_of_request (record no_context { regions = regions_of pool old }) r
  unfolding pages_of_request region_of_key
  pages-still domain r placed reaches = by (r.shape.length == 0) refl
    where
      by : (b : Bool) → (r.shape.length == 0) ≡ b
          → (if takes_bytes r.shape.kind then pages_of_range (r.local - (at local_key no_region r.lkey (regions_of pool new)).base) r.shape.length else 0)
          ≡ (if takes_bytes r.shape.kind then pages_of_range (r.local - (at local_key no_region r.lkey (regions_of pool old)).base) r.shape.length else 0)
      by true t = rw t refl
      by false t = ap (λ x. if takes_bytes r.shape.kind then pages_of_range (r.local - x.base) r.shape.length else 0) (base-still domain r placed reaches (grind (arith, nat_tests, t)))

  -- payloads have the pages that their requests take
  pub paged-still : (domain : Name) (ps : List QueuedRequest) → AllByRecursion (IsPosted pool old domain) ps → AllByRecursion (λ p. Reaches old new p.request.lkey p.request.shape.length) ps → AllByRecursion (IsPaged pool old) ps → AllByRecursion (IsPaged pool new) ps
  paged-still domain [] h s p = tt
  paged-still domain (x ∷ xs) h s p = (p.0 ∙ sym (pages-still domain x.request h.0.placed s.0), paged-still domain xs h.1 s.1 p.1)
