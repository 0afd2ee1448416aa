-- An end whose parts are changed, or beside whose parts a pool is changed.
use Rattle.std.proofs.Common.{◌≡◌, ◌≢◌, ℕ, zero, suc, ◌+◌, ◌<◌, ◌++◌, ◌≤◌, List, [], ◌∷◌, length, refl, ap, sym, ◌∙◌, arith, subst}
use Rattle.std.specs.Prelude.{◌↔◌, IsErr, OnOk, Result, Ok, Err, All, Option, Some, None, is_some, nat_eq, option_map, slice_get, unwrap_or}
use Rattle.std.specs.List.{IsDistinct}
use Rattle.std.proofs.lemmas.List.Elements.{All-head, All-tail}
use Rattle.indexmap.specs.IndexMap.{IndexMap}
use Rattle.rdma_types.specs.declared.names.Name.{Name}
use Rattle.rdma_types.specs.Limits.{AreTerms}
use Rattle.rdma_types.specs.Memory.{cut}
use Rattle.page_pool.specs.Pool.{Pool, bytes_of, free_pages}
use Rattle.page_pool.specs.Held.{payload_bytes}
use Rattle.end_queues.specs.Completions.{Queue}
use Rattle.memory_keys.specs.declared.RegisteredRegion.{RegisteredRegion}
use Rattle.memory_keys.specs.Regions.{regions_of}
use Rattle.end_queues.specs.declared.work_queues.posted.QueuedRequest.{QueuedRequest}
use Rattle.end_queues.specs.Untold.{posted_in, untold_in}
use Rattle.responder.specs.Sound.{IsSound as IsServing}
use Rattle.protocol.specs.State.{Context, Link}
use Rattle.protocol.specs.EndWords.{linked, with_end, with_link}
use Rattle.end_completions.proofs.Given.{AreKept}
use Rattle.endpoint_core.specs.declared.memory.EndMemory.{EndMemory}
use Rattle.endpoint_core.specs.declared.end.Endpoint.{Endpoint}
use Rattle.endpoint_core.specs.declared.end.EndLink.{EndLink}
use Rattle.endpoint_core.specs.Ends.{KeepsLink, Names, end_in, link_in, untold_by}
use Rattle.endpoint_core.specs.Queues.{nothing, promised, queues_of}
use Rattle.endpoint_core.specs.Sites.{IsHome, IsSound, Keeps, EndWithMemory, end_at, home}
use Rattle.endpoint_core.specs.Sound.{HoldsQueue, IsEnd, IsInState, IsLinked, IsPosted, payload_lists, payload_pages}
use Rattle.endpoint_core.proofs.Settled.{keeps-settled, reserved-after, settles-none}

-- ---- lists

append-none : {A : Type 0} (xs : List A) → xs ++ [] ≡ xs
append-none [] = refl
append-none (x ∷ xs) = ap (λ l. x ∷ l) (append-none xs)

pub all-at : {A : Type 0} (P : A → Type 0) (xs : List A) (i : ℕ) (x : A) → All P xs → slice_get xs i ≡ Some x → P x
all-at P [] i x all e = absurd (cc)
all-at P (y ∷ ys) zero x all e = let same : y ≡ x = cc in subst P same (All-head P y ys all)
all-at P (y ∷ ys) (suc i) x all e = all-at P ys i x (All-tail P y ys all) e

-- ---- requests over a pool in which their lists are as they were

pub bytes-kept : (a b : Pool) (p : QueuedRequest) → bytes_of b p.payload.list ≡ bytes_of a p.payload.list → posted_in b p ≡ posted_in a p
unfolding payload_bytes
bytes-kept a b p same = ap (λ o. record { request = p.request; payload = cut p.payload.first p.payload.length (unwrap_or o []) }) same

pub untold-kept : (a b : Pool) (ps : List QueuedRequest) → AreKept a b ps → untold_in b ps ≡ untold_in a ps
untold-kept a b [] kept = refl
untold-kept a b (p ∷ ps) kept =
    let here : posted_in b p ≡ posted_in a p = bytes-kept a b p (All-head (λ p. bytes_of b p.payload.list ≡ bytes_of a p.payload.list) p ps kept) in
    let rest : untold_in b ps ≡ untold_in a ps = untold-kept a b ps (All-tail (λ p. bytes_of b p.payload.list ≡ bytes_of a p.payload.list) p ps kept) in
    ap (λ x. x ∷ untold_in b ps) here ∙ ap (λ l. posted_in a p ∷ l) rest

pub posted-kept : (a b : Pool) (held : List RegisteredRegion) (domain : Name) (p : QueuedRequest) → bytes_of b p.payload.list ≡ bytes_of a p.payload.list → IsPosted a held domain p → IsPosted b held domain p
posted-kept a b held domain p same h = record {
  shape = h.shape;
  payload = record {
    holds = record {
      lives = ap is_some same ∙ h.payload.holds.lives;
      inside = subst (λ o. p.payload.first + p.payload.length ≤ length (unwrap_or o [])) (sym same) h.payload.holds.inside;
    };
    whole = h.payload.whole;
    apart = h.payload.apart;
  };
  placed = h.placed;
}

pub all-posted-kept : (a b : Pool) (held : List RegisteredRegion) (domain : Name) (ps : List QueuedRequest) → AreKept a b ps → All (IsPosted a held domain) ps → All (IsPosted b held domain) ps
all-posted-kept a b held domain ps kept all = λ k d within. posted-kept a b held domain _ (kept k d within) (all k d within)

-- ---- ends with another connection

pub link-of : (pool : Pool) (held : List RegisteredRegion) (e : Endpoint) (l : EndLink) → IsEnd pool held e → e.link ≡ Some l → IsLinked pool held e l
link-of pool held e l h is = subst (λ o. IsInState pool held e o) is h.state

pub none-of : (pool : Pool) (held : List RegisteredRegion) (e : Endpoint) (l : EndLink) → IsEnd pool held e → e.link ≡ Some l → e.unlinked ≡ None
none-of pool held e l h is = subst (λ o. HoldsQueue e.send_depth e.unlinked o) is h.queue

pub linked-kept : (pool : Pool) (held : List RegisteredRegion) (e : Endpoint) (o : Option EndLink) (l l' : EndLink) → KeepsLink l l' → IsLinked pool held e l → IsLinked pool held (record e { link = o }) l'
linked-kept pool held e o l l' k h =
    let terms : l'.terms ≡ l.terms = ap (λ (x : EndLink). x.terms) k.same in
    let ended : l'.ended ≡ l.ended = ap (λ (x : EndLink). x.ended) k.same in
    let responder : l'.responder ≡ l.responder = ap (λ (x : EndLink). x.responder) k.same in
    record {
      terms = subst AreTerms (sym terms) h.terms;
      sending_terms = k.terms ∙ (h.sending_terms ∙ sym terms);
      serving_terms = ap (λ r. r.terms) responder ∙ (h.serving_terms ∙ sym terms);
      depth = k.depth ∙ h.depth;
      fit = subst (λ ps. length ps ≤ e.send_depth) (sym k.items) h.fit;
      posted = subst (λ ps. All (IsPosted pool held e.domain) ps) (sym k.items) h.posted;
      apart = subst (λ ps. IsDistinct nat_eq (payload_lists ps)) (sym k.items) h.apart;
      serving = subst (λ r. IsServing held e.domain r e.recvs.items) (sym responder) h.serving;
      none_untold = λ is. k.items ∙ h.none_untold (sym ended ∙ is);
      none_unused = λ is. h.none_unused (sym ended ∙ is);
      no_message = λ is. ap (λ r. r.receiver.progress) responder ∙ h.no_message (sym ended ∙ is);
      running = λ is. ap (λ m. m.phase) (k.moves (sym ended ∙ is)) ∙ h.running (sym ended ∙ is);
    }

pub end-linked : (pool : Pool) (held : List RegisteredRegion) (e : Endpoint) (l l' : EndLink) → IsEnd pool held e → e.link ≡ Some l → KeepsLink l l' → IsEnd pool held (record e { link = Some l' })
end-linked pool held e l l' h is k = record {
  queue = none-of pool held e l h is;
  depth = h.depth;
  state = linked-kept pool held e (Some l') l l' k (link-of pool held e l h is);
}

pub promised-linked : (e : Endpoint) (l l' : EndLink) (send recv place : ℕ) → e.link ≡ Some l → KeepsLink l l' → promised send recv (record e { link = Some l' }) place ≡ promised send recv e place
promised-linked e l l' send recv place is k =
    let items : l'.requester.items ≡ l.requester.items = k.items in
    let responder : l'.responder ≡ l.responder = ap (λ (x : EndLink). x.responder) k.same in
    (ap (λ ps. promised send recv (record e { link = Some (record l' { requester = record l'.requester { items = ps } }) }) place) items
    ∙ ap (λ r. promised send recv (record e { link = Some (record l { responder = r }) }) place) responder)
    ∙ sym (ap (λ o. promised send recv (record e { link = o }) place) is)

-- ---- the protocol's contexts

-- the context is as a site says
pub as-home : (c : Context) (names : Names) (s : EndWithMemory) → IsHome c names s → record c { regions = regions_of s.pool s.held; queues = queues_of s.queues } ≡ c
as-home c names s h = sym (ap (λ rs. record c { regions = rs }) h.regions ∙ ap (λ qs. record c { regions = regions_of s.pool s.held; queues = qs }) h.queues)

pub home-same : (c : Context) (names : Names) (s : EndWithMemory) → IsHome c names s → home c names s ≡ c
home-same c names s h = ap (λ x. with_end x (end_at names s)) (as-home c names s h) ∙ h.there

-- the end has another connection, and all else is as it was
pub home-linked : (c : Context) (names : Names) (s : EndWithMemory) (l : EndLink) (new : Link) → IsHome c names s → new ≡ link_in s.pool l → linked c (end_at names s) new ≡ home c names (record s { end = record s.end { link = Some l } })
unfolding with_link
home-linked c names s l new h is =
    ap (λ x. with_end c (record (end_at names s) { link = Some x })) is
    ∙ ap (λ x. with_end x (end_at names (record s { end = record s.end { link = Some l } }))) (sym (as-home c names s h))

-- ---- ends over a pool in which their payloads are as they were

pub end-kept : (a b : Pool) (names : Names) (e : Endpoint) → AreKept a b (untold_by e.link) → end_in b names e ≡ end_in a names e
end-kept a b names e kept = ap (λ o. record { name = names.name; number = e.number; domain = e.domain; send_cq = names.send_cq; recv_cq = names.recv_cq; send_depth = e.send_depth; recv_depth = e.recv_depth; unused = e.recvs.items; link = o }) (by_link e.link kept)
  where
    by_link : (o : Option EndLink) → AreKept a b (untold_by o) → option_map (link_in b) o ≡ option_map (link_in a) o
    by_link None k = refl
    by_link (Some l) k = ap (λ us. Some (record (link_in a l) { sender = record (link_in a l).sender { untold = us } })) (untold-kept a b l.requester.items k)

pub sound-kept : (a b : Pool) (held : List RegisteredRegion) (e : Endpoint) → AreKept a b (untold_by e.link) → IsEnd a held e → IsEnd b held e
sound-kept a b held e kept h = record { queue = h.queue; depth = h.depth; state = by_link e.link kept h.state }
  where
    by_link : (o : Option EndLink) → AreKept a b (untold_by o) → IsInState a held e o → IsInState b held e o
    by_link None k h = h
    by_link (Some l) k h = record {
      terms = h.terms;
      sending_terms = h.sending_terms;
      serving_terms = h.serving_terms;
      depth = h.depth;
      fit = h.fit;
      posted = all-posted-kept a b held e.domain l.requester.items k h.posted;
      apart = h.apart;
      serving = h.serving;
      none_untold = h.none_untold;
      none_unused = h.none_unused;
      no_message = h.no_message;
      running = h.running;
    }

-- ---- an end with what it was lent, after a call that lent the memory on

abbrev pub site_after : {Hasher : Type 0} → EndMemory → Pool × (List RegisteredRegion × (IndexMap Name Queue Hasher × Unit {0})) → Endpoint → EndWithMemory
site_after m (pool, (regions, (queues, rest))) e = record { pool = pool; held = regions; queues = queues.entries; send = m.send; recv = m.recv; end = e }

-- ---- a connection with other numbers, at a site

-- the site with another connection
abbrev pub with_link' : EndWithMemory → EndLink → EndWithMemory
with_link' s l = record s { end = record s.end { link = Some l } }

pub same-site : (s : EndWithMemory) (l l' : EndLink) → s.end.link ≡ Some l → l' ≡ l → s ≡ with_link' s l'
same-site s l l' is same = ap (λ o. record s { end = record s.end { link = o } }) (is ∙ ap (λ x. Some x) (sym same))

pub linked-same : (c : Context) (names : Names) (s : EndWithMemory) (l : EndLink) → IsHome c names s → s.end.link ≡ Some l → linked c (end_at names s) (link_in s.pool l) ≡ c
linked-same c names s l at is =
    home-linked c names s l (link_in s.pool l) at refl
    ∙ (ap (λ x. home c names x) (sym (same-site s l l is refl)) ∙ home-same c names s at)

link-work : (s : EndWithMemory) (l l' : EndLink) → s.end.link ≡ Some l → KeepsLink l l'
    → (place : ℕ) → promised s.send s.recv s.end place + nothing place ≡ promised s.send s.recv (with_link' s l').end place + nothing place
link-work s l l' is k place = ap (λ n. n + nothing place) (sym (promised-linked s.end l l' s.send s.recv place is k))

pub link-sound : (s : EndWithMemory) (l l' : EndLink) → IsSound s nothing → s.end.link ≡ Some l → KeepsLink l l' → IsSound (with_link' s l') nothing
link-sound s l l' sound is k = record {
  end = end-linked s.pool s.held s.end l l' sound.end is k;
  regions = sound.regions;
  reserved = reserved-after s.queues s.queues s.send s.recv s.end (with_link' s l').end nothing nothing (settles-none s.queues) (link-work s l l' is k) sound.reserved;
}

pub link-keeps : (s : EndWithMemory) (l l' : EndLink) → s.end.link ≡ Some l → KeepsLink l l' → Keeps s (with_link' s l') [] nothing
link-keeps s l l' is k =
    let whole : untold_by s.end.link ++ [] ≡ l'.requester.items = append-none (untold_by s.end.link) ∙ (ap untold_by is ∙ sym k.items) in
    record {
      end = record { number = refl; domain = refl; send_depth = refl; recv_depth = refl };
      untold = record { gone = 0; left = sym whole };
      regions = refl;
      lists = record { pages = refl; others = λ list lives regions own. refl };
      kept = λ i x within. refl;
      free = ap (λ ps. free_pages s.pool + payload_pages s.pool ps) (sym whole);
      queues = keeps-settled s.queues s.queues s.send s.recv s.end (with_link' s l').end nothing nothing (settles-none s.queues) (link-work s l l' is k);
    }

-- ---- answers

pub on-ok : {T E : Type 0} (r : Result T E) (P Q : Type 0) → OnOk r P → (P → Q) → OnOk r Q
on-ok (Ok x) P Q p f = f p
on-ok (Err x) P Q p f = tt

pub on-both : {T E : Type 0} (r : Result T E) (P Q R : Type 0) → OnOk r P → OnOk r Q → (P → Q → R) → OnOk r R
on-both (Ok x) P Q R p q f = f p q
on-both (Err x) P Q R p q f = tt

pub room-of : {T E : Type 0} (r : Result T E) (n d : ℕ) → IsErr r ↔ (n ≡ d) → n ≤ d → OnOk r (n < d)
room-of (Ok x) n d full fit =
    let differs : n ≢ d = λ e. cc (full.1 e) in omega (arith, fit, differs)
room-of (Err x) n d full fit = tt
