-- Ends whose payloads have the same bytes in two pools.
use Rattle.std.proofs.Common.{◌≡◌, ℕ, Bool, true, false, List, [], ◌∷◌, length, refl, ap, sym, ◌∙◌, ◌≤◌, subst}
use Rattle.std.specs.Prelude.{◌==◌, ◌-◌, ◌+◌, Option, Some, None, is_some, option_map, unwrap_or, if◌then◌else◌}
use Rattle.std.specs.List.{AllByRecursion}
use Rattle.std.proofs.lemmas.List.Elements.{All-from_recursion, recursion_from_All}
use Rattle.rdma_types.specs.declared.names.Name.{Name}
use Rattle.rdma_types.specs.declared.requests.Request.{Request}
use Rattle.rdma_types.specs.Kinds.{takes_bytes}
use Rattle.rdma_types.specs.Lists.{at}
use Rattle.rdma_types.specs.Memory.{cut}
use Rattle.rdma_types.specs.Objects.{no_region}
use Rattle.page_pool.specs.Pool.{Pool, bytes_of, pages_of}
use Rattle.page_pool.specs.Held.{HoldsPayload, payload_bytes}
use Rattle.memory_keys.specs.declared.RegisteredRegion.{RegisteredRegion}
use Rattle.memory_keys.specs.Regions.{region_of, regions_of}
use Rattle.end_queues.specs.declared.work_queues.posted.QueuedRequest.{QueuedRequest}
use Rattle.end_queues.specs.Untold.{posted_in, untold_in}
use Rattle.requester.specs.Sending.{sender_with}
use Rattle.protocol.specs.Memory.{pages_of_range, pages_of_request, region_of_key}
use Rattle.protocol.specs.State.{no_context}
use Rattle.endpoint_core.specs.declared.end.Endpoint.{Endpoint}
use Rattle.endpoint_core.specs.declared.end.EndLink.{EndLink}
use Rattle.endpoint_core.specs.Ends.{Names, end_in, link_in, untold_by}
use Rattle.endpoint_core.specs.Sound.{IsEnd, IsInState, IsLinked, IsPosted}
use Rattle.context_core.specs.Context.{IsPaged}

-- the list of a request's payload has the same bytes
abbrev pub IsSame : Pool → Pool → QueuedRequest → Type 0
IsSame a b p = bytes_of b p.payload.list ≡ bytes_of a p.payload.list

-- .. of each of some requests
abbrev pub AreSame : Pool → Pool → List QueuedRequest → Type 0
AreSame a b ps = AllByRecursion (IsSame a b) ps

pub posted-same : (a b : Pool) (p : QueuedRequest) → IsSame a b p → posted_in b p ≡ posted_in a p
unfolding payload_bytes
posted-same a b p e = ap (λ o. record { request = p.request; payload = cut p.payload.first p.payload.length (unwrap_or o []) }) e

pub untold-same : (a b : Pool) (ps : List QueuedRequest) → AreSame a b ps → untold_in b ps ≡ untold_in a ps
untold-same a b [] s = refl
untold-same a b (p ∷ ps) s = let here = posted-same a b p s.0 in let rest = untold-same a b ps s.1 in cc

link-same : (a b : Pool) (l : EndLink) → AreSame a b l.requester.items → link_in b l ≡ link_in a l
link-same a b l s = ap (λ ps. record (link_in a l) { sender = sender_with ps l.requester.numbers }) (untold-same a b l.requester.items s)

links-same : (a b : Pool) (l : Option EndLink) → AreSame a b (untold_by l) → option_map (link_in b) l ≡ option_map (link_in a) l
links-same a b None s = refl
links-same a b (Some l) s = ap Some (link-same a b l s)

pub end-same : (a b : Pool) (names : Names) (e : Endpoint) → AreSame a b (untold_by e.link) → end_in b names e ≡ end_in a names e
end-same a b names e s = ap (λ l. record (end_in a names e) { link = l }) (links-same a b e.link s)

-- ---- soundness

holds-same : (a b : Pool) (p : QueuedRequest) → IsSame a b p → HoldsPayload a p.payload → HoldsPayload b p.payload
holds-same a b p e h = record { lives = ap is_some e ∙ h.lives; inside = subst (λ o. p.payload.first + p.payload.length ≤ length (unwrap_or o [])) (sym e) h.inside }

pub posted-sound : (a b : Pool) (held : List RegisteredRegion) (domain : Name) (ps : List QueuedRequest) → AreSame a b ps → AllByRecursion (IsPosted a held domain) ps → AllByRecursion (IsPosted b held domain) ps
posted-sound a b held domain [] s h = tt
posted-sound a b held domain (p ∷ ps) s h = (
  record {
    shape = h.0.shape;
    payload = record { holds = holds-same a b p s.0 h.0.payload.holds; whole = h.0.payload.whole; apart = h.0.payload.apart };
    placed = h.0.placed;
  },
  posted-sound a b held domain ps s.1 h.1,
)

linked-same : (a b : Pool) (held : List RegisteredRegion) (e : Endpoint) (l : EndLink) → AreSame a b l.requester.items → IsLinked a held e l → IsLinked b held e l
linked-same a b held e l s h = record {
  terms = h.terms;
  sending_terms = h.sending_terms;
  serving_terms = h.serving_terms;
  depth = h.depth;
  fit = h.fit;
  posted = All-from_recursion (IsPosted b held e.domain) l.requester.items (posted-sound a b held e.domain l.requester.items s (recursion_from_All (IsPosted a held e.domain) l.requester.items h.posted));
  apart = h.apart;
  serving = h.serving;
  none_untold = h.none_untold;
  none_unused = h.none_unused;
  no_message = h.no_message;
  running = h.running;
}

state-same : (a b : Pool) (held : List RegisteredRegion) (e : Endpoint) (l : Option EndLink) → AreSame a b (untold_by l) → IsInState a held e l → IsInState b held e l
state-same a b held e None s h = h
state-same a b held e (Some l) s h = linked-same a b held e l s h

pub sound-same : (a b : Pool) (held : List RegisteredRegion) (e : Endpoint) → AreSame a b (untold_by e.link) → IsEnd a held e → IsEnd b held e
sound-same a b held e s h = record { queue = h.queue; depth = h.depth; state = state-same a b held e e.link s h.state }

-- ---- pages

-- where a region begins is no matter of its bytes
base-same : (a b : Pool) (held : List RegisteredRegion) (key : ℕ) → (at (λ r. r.keys.local) no_region key (regions_of b held)).base ≡ (at (λ r. r.keys.local) no_region key (regions_of a held)).base
unfolding at
base-same a b [] key = refl
base-same a b (h ∷ hs) key = by (h.head.keys.local == key) (base-same a b hs key)
  where
    by : (t : Bool) → (at (λ r. r.keys.local) no_region key (regions_of b hs)).base ≡ (at (λ r. r.keys.local) no_region key (regions_of a hs)).base
        → (if t then region_of b h else at (λ r. r.keys.local) no_region key (regions_of b hs)).base ≡ (if t then region_of a h else at (λ r. r.keys.local) no_region key (regions_of a hs)).base
    by true rest = refl
    by false rest = rest

pub taken-same : (a b : Pool) (held : List RegisteredRegion) (r : Request) → pages_of_request (record no_context { regions = regions_of b held }) r ≡ pages_of_request (record no_context { regions = regions_of a held }) r
unfolding pages_of_request region_of_key
taken-same a b held r = ap (λ base. if takes_bytes r.shape.kind then pages_of_range (r.local - base) r.shape.length else 0) (base-same a b held r.lkey)

pub paged-same : (a b : Pool) (held : List RegisteredRegion) (p : QueuedRequest) → IsSame a b p → IsPaged a held p → IsPaged b held p
paged-same a b held p e h = ap pages_of e ∙ (h ∙ sym (taken-same a b held p.request))

pub all-paged : (a b : Pool) (held : List RegisteredRegion) (ps : List QueuedRequest) → AreSame a b ps → AllByRecursion (IsPaged a held) ps → AllByRecursion (IsPaged b held) ps
all-paged a b held [] s h = tt
all-paged a b held (p ∷ ps) s h = (paged-same a b held p s.0 h.0, all-paged a b held ps s.1 h.1)
