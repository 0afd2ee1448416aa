-- An end that is connected.
use Rattle.std.proofs.Common.{arith, length, ◌≤◌, ◌≡◌, ℕ, false, List, [], refl, ap, sym, ◌∙◌, subst}
use Rattle.std.specs.Prelude.{All, Option, Some, None, nat_eq}
use Rattle.std.specs.List.{IsDistinct}
use Rattle.std.proofs.lemmas.List.Elements.{All-nil}
use Rattle.rdma_types.specs.declared.requests.Address.{Address}
use Rattle.rdma_types.specs.declared.requests.Terms.{Terms}
use Rattle.rdma_types.specs.Limits.{AreTerms}
use Rattle.page_pool.specs.Pool.{Pool}
use Rattle.memory_keys.specs.declared.RegisteredRegion.{RegisteredRegion}
use Rattle.end_queues.specs.Postings.{Queue, empty_queue}
use Rattle.end_queues.specs.declared.work_queues.posted.QueuedRequest.{QueuedRequest}
use Rattle.transport.specs.declared.move_core.MoveState.{MoveState}
use Rattle.transport.specs.declared.move_core.Phase.TheVariants as phase
use Rattle.requester.specs.Sending.{Sending, no_numbers}
use Rattle.responder.specs.Receiving.{Receiving}
use Rattle.responder.specs.Sound.{IsPlace, IsSound as IsServing}
use Rattle.protocol.specs.State.{fresh_link, fresh_receiver}
use Rattle.endpoint_core.specs.declared.end.Endpoint.{Endpoint}
use Rattle.endpoint_core.specs.declared.end.EndLink.{EndLink}
use Rattle.endpoint_core.specs.Ends.{link_in}
use Rattle.endpoint_core.specs.Sound.{HoldsQueue, IsEnd, IsInState, IsPosted, payload_lists}

-- the send queue of an end in Init
pub record Fresh (e : Endpoint) (q : Queue QueuedRequest) : Type 0 where
  pub queue : q ≡ empty_queue e.send_depth
  pub link : e.link ≡ None

pub fresh-queue : (e : Endpoint) (q : Queue QueuedRequest) → HoldsQueue e.send_depth e.unlinked e.link → e.unlinked ≡ Some q → Fresh e q
fresh-queue e q holds is = by_link e.link refl holds
  where
    by_link : (o : Option EndLink) → e.link ≡ o → HoldsQueue e.send_depth e.unlinked o → Fresh e q
    by_link None link h = let same : q ≡ empty_queue e.send_depth = cc in record { queue = same; link = link }
    by_link (Some l) link h = absurd (let none : e.unlinked ≡ None = h in cc)

pub distinct-none : IsDistinct nat_eq []
unfolding IsDistinct
distinct-none = tt

-- the new connection in the protocol's words
pub fresh-link : (pool : Pool) (peer : ℕ) (partner : Address) (t : Terms) (r : Sending) (v : Receiving) (m : MoveState) (depth : ℕ)
    → r ≡ record { terms = t; depth = depth; items = []; numbers = no_numbers } → v ≡ record { terms = t; receiver = fresh_receiver }
    → m ≡ record { phase = phase.Running; own = 0; recorded = 0; partner = partner }
    → fresh_link peer partner t ≡ link_in pool (record { peer = peer; terms = t; ended = false; requester = r; responder = v; moves = m })
fresh-link pool peer partner t r v m depth requester responder moves =
    sym (ap (λ x. link_in pool (record { peer = peer; terms = t; ended = false; requester = x; responder = v; moves = m })) requester
    ∙ (ap (λ x. link_in pool (record { peer = peer; terms = t; ended = false; requester = record { terms = t; depth = depth; items = []; numbers = no_numbers }; responder = x; moves = m })) responder
    ∙ ap (λ x. link_in pool (record { peer = peer; terms = t; ended = false; requester = record { terms = t; depth = depth; items = []; numbers = no_numbers }; responder = record { terms = t; receiver = fresh_receiver }; moves = x })) moves))

pub connected : (pool : Pool) (held : List RegisteredRegion) (e : Endpoint) (q : Queue QueuedRequest) (gone' : Option (Queue QueuedRequest)) (peer : ℕ) (t : Terms) (r : Sending) (v : Receiving) (m : MoveState)
    → IsEnd pool held e → Fresh e q → gone' ≡ None → AreTerms t
    → r ≡ record { terms = t; depth = q.depth; items = []; numbers = no_numbers } → v ≡ record { terms = t; receiver = fresh_receiver }
    → (All (IsPlace held e.domain) e.recvs.items → IsServing held e.domain (record { terms = t; receiver = fresh_receiver }) e.recvs.items)
    → IsEnd pool held (record e { unlinked = gone'; link = Some (record { peer = peer; terms = t; ended = false; requester = r; responder = v; moves = m }) })
connected pool held e q gone' peer t r v m end fresh gone terms requester responder serves =
    let items : r.items ≡ [] = ap (λ x. x.items) requester in
    let places : All (IsPlace held e.domain) e.recvs.items = subst (λ o. IsInState pool held e o) fresh.link end.state in
    record {
      queue = gone;
      depth = end.depth;
      state = record {
        terms = terms;
        sending_terms = ap (λ x. x.terms) requester;
        serving_terms = ap (λ x. x.terms) responder;
        depth = ap (λ x. x.depth) requester ∙ ap (λ x. x.depth) fresh.queue;
        fit = subst (λ ps. length ps ≤ e.send_depth) (sym items) (omega arith);
        posted = subst (λ ps. All (IsPosted pool held e.domain) ps) (sym items) (All-nil (IsPosted pool held e.domain));
        apart = subst (λ ps. IsDistinct nat_eq (payload_lists ps)) (sym items) distinct-none;
        serving = subst (λ x. IsServing held e.domain x e.recvs.items) (sym responder) (serves places);
        none_untold = λ is. items;
        none_unused = λ is. absurd (cc);
        no_message = λ is. absurd (cc);
        running = λ is. absurd (cc);
      };
    }
