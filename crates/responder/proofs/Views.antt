-- A responder whose parts change.
use Rattle.std.proofs.Common.{◌≡◌, ℕ, ◌-◌, ◌<◌, List, [], ◌∷◌, ◌++◌, ap, ◌∙◌, sym, arith}
use Rattle.std.specs.Prelude.{All}
use Rattle.std.proofs.lemmas.List.{append-nil}
use Rattle.std.proofs.lemmas.List.Elements.{All-append, All-drop, All-cons, All-nil}
use Rattle.rdma_types.specs.declared.requests.Terms.{Terms}
use Rattle.protocol.specs.declared.images.KeptReply.{KeptReply}
use Rattle.protocol.specs.Responder.{keeping}
use Rattle.protocol.specs.State.{Receiver}
use Rattle.end_queues.specs.Completions as completions
use Rattle.responder.specs.Taking.{with_done}
use Rattle.responder.specs.Receiving.{Receiving, receiver_of}
use Rattle.responder.specs.declared.answers.ResponderParts.{ResponderParts}

-- a responder of these
abbrev pub the_view : Terms → Receiver → Receiving
the_view terms r = record { terms = terms; receiver = r }

-- the same terms, and the parts of that responder
pub seen : (terms : Terms) (parts : ResponderParts) (kept : List KeptReply) (r : Receiver) (v : Receiving) → terms ≡ v.terms → receiver_of parts kept ≡ r → the_view terms (receiver_of parts kept) ≡ record v { receiver = r }
seen terms parts kept r v e f = cc

-- one reply more is kept
pub kept-more : (bound : ℕ) (ks : List KeptReply) (k : KeptReply) → All (λ x. x.number < bound) ks → k.number < bound → All (λ x. x.number < bound) (keeping ks k)
unfolding keeping
kept-more bound ks k all new = All-drop (λ x. x.number < bound) _ (ks ++ k ∷ []) (All-append (λ x. x.number < bound) ks (k ∷ []) all (All-cons (λ x. x.number < bound) k [] new (All-nil (λ x. x.number < bound))))

-- a queue in which nothing more is completed
pub nothing-done : (q : completions.Queue) → q ≡ with_done q []
nothing-done q =
    let less : q.reserved ≡ q.reserved - 0 = omega arith in
    ap (λ (n : ℕ). record q { reserved = n }) less ∙ ap (λ es. record q { reserved = q.reserved - 0; entries = es }) (sym (append-nil q.entries))
