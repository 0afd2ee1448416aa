-- Images put together of their parts.
use Rattle.std.proofs.Common.{◌≡◌, ℕ, Bool, List, [], ◌∷◌, length, refl, ap, sym, ◌∙◌, subst, arith}
use Rattle.std.specs.Prelude.{Option, Some, None, All, IfSome, bytes_eq, map, slice_get}
use Rattle.std.specs.List.{AllByRecursion, IsDistinct}
use Rattle.std.specs.Map.{keys_of}
use Rattle.std.specs.Option.{option_map}
use Rattle.std.proofs.lemmas.List.{length-map}
use Rattle.std.proofs.lemmas.List.Elements.{All-from_recursion, recursion_from_All}
use Rattle.rdma_types.specs.declared.names.Name.{Name}
use Rattle.rdma_types.specs.declared.requests.Receive.{Receive}
use Rattle.page_pool.specs.Pool.{Pool}
use Rattle.page_pool.specs.Held.{HoldsPayload}
use Rattle.end_queues.specs.Completions.{Queue}
use Rattle.memory_keys.specs.declared.RegisteredRegion.{RegisteredRegion}
use Rattle.memory_keys.specs.declared.RegionHead.{RegionHead}
use Rattle.memory_keys.specs.Regions.{region_of, regions_of}
use Rattle.transport.specs.Table.{phase_of}
use Rattle.protocol.specs.declared.images.ContextImage.{ContextImage}
use Rattle.protocol.specs.declared.images.CqImage.{CqImage}
use Rattle.protocol.specs.declared.images.EndImage.{EndImage}
use Rattle.protocol.specs.declared.images.KeptReply.{KeptReply}
use Rattle.protocol.specs.declared.images.LinkImage.{LinkImage}
use Rattle.protocol.specs.declared.images.PostedImage.{PostedImage}
use Rattle.protocol.specs.declared.images.Progress as images
use Rattle.protocol.specs.declared.images.RegionImage.{RegionImage}
use Rattle.protocol.specs.EndWords.{is_resuming}
use Rattle.protocol.specs.Images.{end_image, image_of, link_image, place_of_name, progress_image, queue_image, region_image, untold_images}
use Rattle.protocol.specs.State.{Progress, NoMessage, InSend, InWrite}
use Rattle.requester.specs.declared.answers.RequesterParts.{RequesterParts}
use Rattle.responder.specs.declared.answers.ResponderParts.{ResponderParts}
use Rattle.responder.specs.Receiving.{flow_of, parts_of, progress_of}
use Rattle.endpoint_core.specs.declared.end.Endpoint.{Endpoint}
use Rattle.endpoint_core.specs.declared.end.EndLink.{EndLink}
use Rattle.endpoint_core.specs.Ends.{link_in, untold_by}
use Rattle.endpoint_core.specs.Queues.{queues_of}
use Rattle.endpoint_core.specs.Sound.{IsInState}
use Rattle.context_core.specs.declared.state.EndSlot.{EndSlot}
use Rattle.context_core.specs.Context.{HasQueues, Holding, context_in, end_of}
use Rattle.context_core.specs.Fits.{FitsImage, HasNarrowDepths, IsNarrow, IsNarrowEnd}
use Rattle.context_core.proofs.ImagePositions.{queue-place}

-- ---- regions

abbrev pub region_with : RegionHead → ℕ → List ℕ → RegionImage
region_with head domain bytes = record { name = head.name; domain = domain; base = head.base; length = head.length; rights = head.rights; keys = head.keys; bytes = bytes }

-- the region at a place
pub region-is : (pool : Pool) (domains : List Name) (o : Option RegisteredRegion) (head : RegionHead) (domain : ℕ) (bytes : List ℕ) → option_map (λ h. h.head) o ≡ Some head → domain ≡ place_of_name head.domain domains → IfSome o (λ h. bytes ≡ (region_of pool h).bytes) → IfSome o (λ h. region_with head domain bytes ≡ region_image domains (region_of pool h))
region-is pool domains None head domain bytes e d b = absurd (cc)
region-is pool domains (Some h) head domain bytes e d b =
    let same : h.head ≡ head = cc in
    ap (λ k. region_with head k bytes) d
    ∙ (ap (λ bs. region_with head (place_of_name head.domain domains) bs) b
    ∙ ap (λ (x : RegionHead). region_with x (place_of_name x.domain domains) (region_of pool h).bytes) (sym same))

-- ---- connections

flow-back : (p : Progress) → progress_of (flow_of p) ≡ p
flow-back NoMessage = refl
flow-back (InSend done receive) = refl
flow-back (InWrite region off count done) = refl

abbrev pub link_with : EndLink → RequesterParts → ResponderParts → Bool → images.Progress → List KeptReply → LinkImage
link_with l n p resuming progress kept = record {
  ended = l.ended;
  peer = l.peer;
  partner = l.moves.partner;
  moves = l.moves.own;
  partner_moves = l.moves.recorded;
  resuming = resuming;
  terms = l.terms;
  first = n.first;
  una = n.una;
  next = n.next;
  top = n.top;
  spent = n.spent;
  waits = n.waits;
  rnr_wait = n.rnr_wait;
  expected = p.expected;
  nak_sent = p.nak_sent;
  msn = p.msn;
  progress = progress;
  kept = kept;
}

pub link-is : (pool : Pool) (held : List RegisteredRegion) (l : EndLink) (n : RequesterParts) (p : ResponderParts) (resuming : Bool) (progress : images.Progress) (kept : List KeptReply) → n ≡ l.requester.numbers → p ≡ parts_of l.responder.receiver → resuming ≡ is_resuming (phase_of l.moves.phase) → progress ≡ progress_image (regions_of pool held) (progress_of p.flow) → kept ≡ l.responder.receiver.kept → link_with l n p resuming progress kept ≡ link_image (regions_of pool held) (link_in pool l)
unfolding link_image
link-is pool held l n p resuming progress kept en ep er eg ek =
    let flow : progress ≡ progress_image (regions_of pool held) l.responder.receiver.progress = eg ∙ (ap (λ (x : ResponderParts). progress_image (regions_of pool held) (progress_of x.flow)) ep ∙ ap (progress_image (regions_of pool held)) (flow-back l.responder.receiver.progress)) in
    ap (λ x. link_with l x p resuming progress kept) en
    ∙ (ap (λ x. link_with l l.requester.numbers x resuming progress kept) ep
    ∙ (ap (λ x. link_with l l.requester.numbers (parts_of l.responder.receiver) x progress kept) er
    ∙ (ap (λ x. link_with l l.requester.numbers (parts_of l.responder.receiver) (is_resuming (phase_of l.moves.phase)) x kept) flow
    ∙ ap (λ x. link_with l l.requester.numbers (parts_of l.responder.receiver) (is_resuming (phase_of l.moves.phase)) (progress_image (regions_of pool held) l.responder.receiver.progress) x) ek)))

-- ---- queue pairs

-- the payloads of untold requests lie in the pool
pub payloads-held : (pool : Pool) (held : List RegisteredRegion) (e : Endpoint) (l : Option EndLink) → IsInState pool held e l → All (λ p. HoldsPayload pool p.payload) (untold_by l)
payloads-held pool held e None s = λ k d i. absurd (omega arith)
payloads-held pool held e (Some l) s = λ k d i. (s.posted k d i).payload.holds

abbrev pub end_with : Name × EndSlot → ℕ → Option LinkImage → List PostedImage → List Receive → EndImage
end_with e domain linked untold unused = record {
  name = e.0;
  number = e.1.endpoint.number;
  domain = domain;
  send_cq = e.1.send;
  recv_cq = e.1.recv;
  send_depth = e.1.endpoint.send_depth;
  recv_depth = e.1.endpoint.recv_depth;
  linked = linked;
  untold = untold;
  unused = unused;
}

end-is : (pool : Pool) (n : Name) (h : Holding) (e : Name × EndSlot) (domain : ℕ) (linked : Option LinkImage) (untold : List PostedImage) (unused : List Receive) → IsDistinct bytes_eq (keys_of h.queues) → HasQueues h.queues e → domain ≡ place_of_name e.1.endpoint.domain h.domains → linked ≡ option_map (link_image (regions_of pool h.regions)) (option_map (link_in pool) e.1.endpoint.link) → untold ≡ untold_images (option_map (link_in pool) e.1.endpoint.link) → unused ≡ e.1.endpoint.recvs.items → end_with e domain linked untold unused ≡ end_image (context_in pool n h) (end_of pool h.queues e)
unfolding end_image context_in
end-is pool n h e domain linked untold unused distinct has d l u r =
    let send = queue-place h.queues e.1.send distinct has.0 in
    let recv = queue-place h.queues e.1.recv distinct has.1 in
    let made : ℕ → ℕ → ℕ → Option LinkImage → List PostedImage → List Receive → EndImage = λ k s v o us rs. record { name = e.0; number = e.1.endpoint.number; domain = k; send_cq = s; recv_cq = v; send_depth = e.1.endpoint.send_depth; recv_depth = e.1.endpoint.recv_depth; linked = o; untold = us; unused = rs } in
    ap (λ k. made k e.1.send e.1.recv linked untold unused) d
    ∙ (ap (λ k. made (place_of_name e.1.endpoint.domain h.domains) k e.1.recv linked untold unused) send
    ∙ (ap (λ k. made (place_of_name e.1.endpoint.domain h.domains) (end_image (context_in pool n h) (end_of pool h.queues e)).send_cq k linked untold unused) recv
    ∙ (ap (λ o. made (place_of_name e.1.endpoint.domain h.domains) (end_image (context_in pool n h) (end_of pool h.queues e)).send_cq (end_image (context_in pool n h) (end_of pool h.queues e)).recv_cq o untold unused) l
    ∙ (ap (λ us. made (place_of_name e.1.endpoint.domain h.domains) (end_image (context_in pool n h) (end_of pool h.queues e)).send_cq (end_image (context_in pool n h) (end_of pool h.queues e)).recv_cq (end_image (context_in pool n h) (end_of pool h.queues e)).linked us unused) u
    ∙ ap (λ rs. made (place_of_name e.1.endpoint.domain h.domains) (end_image (context_in pool n h) (end_of pool h.queues e)).send_cq (end_image (context_in pool n h) (end_of pool h.queues e)).recv_cq (end_image (context_in pool n h) (end_of pool h.queues e)).linked (end_image (context_in pool n h) (end_of pool h.queues e)).untold rs) r))))

-- the queue pair at a place
pub end-at-is : (pool : Pool) (h : Holding) (place : ℕ) (e : Name × EndSlot) (domain : ℕ) (linked : Option LinkImage) (untold : List PostedImage) (unused : List Receive) → slice_get h.ends place ≡ Some e → IsDistinct bytes_eq (keys_of h.queues) → HasQueues h.queues e → domain ≡ place_of_name e.1.endpoint.domain h.domains → linked ≡ option_map (link_image (regions_of pool h.regions)) (option_map (link_in pool) e.1.endpoint.link) → untold ≡ untold_images (option_map (link_in pool) e.1.endpoint.link) → unused ≡ e.1.endpoint.recvs.items → IfSome (slice_get h.ends place) (λ x. (n : Name) → end_with e domain linked untold unused ≡ end_image (context_in pool n h) (end_of pool h.queues x))
end-at-is pool h place e domain linked untold unused there distinct has d l u r = subst (λ o. IfSome o (λ x. (n : Name) → end_with e domain linked untold unused ≡ end_image (context_in pool n h) (end_of pool h.queues x))) (sym there) (λ n. end-is pool n h e domain linked untold unused distinct has d l u r)

-- all queue pairs
pub ends-shown : (pool : Pool) (n : Name) (h : Holding) → map (end_image (context_in pool n h)) (map (end_of pool h.queues) h.ends) ≡ map (end_image (context_in pool n h)) (context_in pool n h).ends
unfolding context_in
ends-shown pool n h = refl

-- ---- contexts

each-end : (pool : Pool) (qs : List (Name × Queue)) (es : List (Name × EndSlot)) → AllByRecursion HasNarrowDepths (map (end_of pool qs) es) → AllByRecursion IsNarrowEnd es
each-end pool qs [] a = tt
each-end pool qs (e ∷ es) a = (record { send = a.0.send; recv = a.0.recv }, each-end pool qs es a.1)

each-narrow : (pool : Pool) (qs : List (Name × Queue)) (es : List (Name × EndSlot)) → All HasNarrowDepths (map (end_of pool qs) es) → All IsNarrowEnd es
each-narrow pool qs es a = All-from_recursion IsNarrowEnd es (each-end pool qs es (recursion_from_All HasNarrowDepths (map (end_of pool qs) es) a))

-- positions and depths are narrow, as the protocol's context says
pub narrow-held : (pool : Pool) (n : Name) (h : Holding) → FitsImage (context_in pool n h) → IsNarrow h
unfolding context_in
narrow-held pool n h f =
    let count : length (regions_of pool h.regions) ≡ length h.regions = length-map h.regions (region_of pool) in
    let regions = f.regions in
    record { domains = f.domains; regions = rw (← count) regions; ends = each-narrow pool h.queues h.ends f.ends }

abbrev pub context_with : Name → List Name → List RegionImage → List CqImage → List EndImage → ContextImage
context_with n domains regions queues ends = record { name = n; domains = domains; regions = regions; queues = queues; ends = ends }

pub context-is : (pool : Pool) (n : Name) (h : Holding) (domains : List Name) (regions : List RegionImage) (queues : List CqImage) (ends : List EndImage) → domains ≡ h.domains → regions ≡ map (region_image h.domains) (regions_of pool h.regions) → queues ≡ map queue_image (queues_of h.queues) → ends ≡ map (end_image (context_in pool n h)) (context_in pool n h).ends → context_with n domains regions queues ends ≡ image_of (context_in pool n h)
unfolding image_of context_in
context-is pool n h domains regions queues ends d r q e =
    ap (λ x. context_with n x regions queues ends) d
    ∙ (ap (λ x. context_with n h.domains x queues ends) r
    ∙ (ap (λ x. context_with n h.domains (map (region_image h.domains) (regions_of pool h.regions)) x ends) q
    ∙ ap (λ x. context_with n h.domains (map (region_image h.domains) (regions_of pool h.regions)) (map queue_image (queues_of h.queues)) x) e))
