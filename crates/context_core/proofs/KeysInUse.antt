-- Keys that the work of an end names.
use Rattle.std.proofs.Common.{◌≡◌, ℕ, Bool, true, false, List, [], ◌∷◌, refl, ap, sym, subst}
use Rattle.std.specs.Prelude.{◌==◌, ◌||◌, ◌&&◌, not, Some, None, option_map}
use Rattle.rdma_types.specs.Lists.{some}
use Rattle.page_pool.specs.Pool.{Pool}
use Rattle.end_queues.specs.declared.work_queues.posted.QueuedRequest.{QueuedRequest}
use Rattle.end_queues.specs.Untold.{untold_in}
use Rattle.protocol.specs.Memory.{untold_of}
use Rattle.protocol.specs.Refusals.{message_names, names_key, progress_names}
use Rattle.endpoint_core.specs.declared.end.Endpoint.{Endpoint}
use Rattle.endpoint_core.specs.declared.end.EndLink.{EndLink}
use Rattle.endpoint_core.specs.Ends.{Names, end_in, link_in}

requests-alike : (pool : Pool) (k : ℕ) (ps : List QueuedRequest) → some (λ p. p.request.lkey == k && not (p.request.shape.length == 0)) ps ≡ some (λ p. p.request.lkey == k && not (p.request.shape.length == 0)) (untold_in pool ps)
unfolding some
requests-alike pool k [] = refl
requests-alike pool k (p ∷ ps) = ap (λ b. (p.request.lkey == k && not (p.request.shape.length == 0)) || b) (requests-alike pool k ps)

or-none : (b : Bool) → b ≡ (b || false)
or-none true = refl
or-none false = refl

-- an end in Init
pub names-unlinked : (pool : Pool) (names : Names) (k : ℕ) (e : Endpoint) → e.link ≡ None → some (λ r. r.lkey == k && not (r.length == 0)) e.recvs.items ≡ names_key k (end_in pool names e)
unfolding names_key some
names-unlinked pool names k e init =
    subst (λ o. some (λ r. r.lkey == k && not (r.length == 0)) e.recvs.items ≡ (some (λ p. p.request.lkey == k && not (p.request.shape.length == 0)) (untold_of (option_map (link_in pool) o)) || (some (λ r. r.lkey == k && not (r.length == 0)) e.recvs.items || message_names k (option_map (link_in pool) o))))
    (sym init) (or-none (some (λ r. r.lkey == k && not (r.length == 0)) e.recvs.items))

-- a connected one
pub names-linked : (pool : Pool) (names : Names) (k : ℕ) (e : Endpoint) (l : EndLink) → e.link ≡ Some l
    → (some (λ p. p.request.lkey == k && not (p.request.shape.length == 0)) l.requester.items || (some (λ r. r.lkey == k && not (r.length == 0)) e.recvs.items || progress_names k l.responder.receiver.progress)) ≡ names_key k (end_in pool names e)
unfolding names_key
names-linked pool names k e l there =
    let rest : Bool = some (λ r. r.lkey == k && not (r.length == 0)) e.recvs.items || progress_names k l.responder.receiver.progress in
    subst (λ o. (some (λ p. p.request.lkey == k && not (p.request.shape.length == 0)) l.requester.items || rest) ≡ (some (λ p. p.request.lkey == k && not (p.request.shape.length == 0)) (untold_of (option_map (link_in pool) o)) || (some (λ r. r.lkey == k && not (r.length == 0)) e.recvs.items || message_names k (option_map (link_in pool) o))))
    (sym there) (ap (λ b. b || rest) (requests-alike pool k l.requester.items))
