-- Offers of the pieces of a Read, one after another.
use Rattle.std.proofs.Common.{arith, ◌≡◌, ◌<◌, ◌≤◌, ◌+◌, ◌-◌, ◌*◌, ℕ, zero, suc, List, [], ◌∷◌, ◌++◌, refl, sym, ap, ◌∙◌, append_assoc, append-nil}
use Rattle.std.specs.Prelude.{min}
use Rattle.rdma_types.specs.declared.names.ObjName.{ObjName}
use Rattle.rdma_types.specs.Kinds.{size_of}
use Rattle.rdma_types.specs.Spans.{span_of}
use Rattle.packetless_machine.specs.declared.steps.MachineStep.{MachineStep}
use Rattle.packetless_machine.specs.declared.steps.MachineStep.TheVariants as steps
use Rattle.packetless_machine.specs.Machine.{End, posted_at}
use Rattle.law_simulation.specs.Carries.{offers_from, offers_of}

-- the offer of piece j
abbrev pub piece_of_read : ObjName → End → ℕ → ℕ → MachineStep
piece_of_read q e i j = steps.Offer q i (j * e.mtu) (min e.mtu (size_of (posted_at e.posted i) - j * e.mtu))

offers_more : (q : ObjName) (e : End) (i k n j : ℕ) → j ≡ k + n → offers_from q e i k (suc n) ≡ offers_from q e i k n ++ piece_of_read q e i j ∷ []
unfolding offers_from
offers_more q e i k zero j h = let is : k ≡ j = omega arith in ap (λ z. piece_of_read q e i z ∷ []) is
offers_more q e i k (suc n) j h = ap (λ z. piece_of_read q e i k ∷ z) (offers_more q e i (suc k) n j (omega arith))

-- one more is offered
pub offer_added : (q : ObjName) (e : End) (i from j : ℕ) (s : MachineStep) (old mid new : List MachineStep) → from ≤ j → mid ≡ old ++ offers_from q e i from (j - from) → s ≡ piece_of_read q e i j → new ≡ mid ++ s ∷ [] → new ≡ old ++ offers_from q e i from (j + 1 - from)
offer_added q e i from j s old mid new h m is n =
    let next : j + 1 - from ≡ suc (j - from) = omega arith in
    n ∙ (ap (λ z. mid ++ z ∷ []) is ∙ (ap (λ z. z ++ piece_of_read q e i j ∷ []) m ∙ (append_assoc old (offers_from q e i from (j - from)) (piece_of_read q e i j ∷ [])
    ∙ (ap (λ z. old ++ z) (sym (offers_more q e i from (j - from) j (omega arith))) ∙ ap (λ z. old ++ offers_from q e i from z) (sym next)))))

-- none is offered yet
pub offers_none : (q : ObjName) (e : End) (i from : ℕ) (old : List MachineStep) → old ≡ old ++ offers_from q e i from (from - from)
unfolding offers_from
offers_none q e i from old = let no : from - from ≡ 0 = omega arith in sym (append-nil old) ∙ ap (λ z. old ++ offers_from q e i from z) (sym no)

-- all are
pub offers_all : (q : ObjName) (e : End) (i from j : ℕ) (old new : List MachineStep) → j - from ≡ span_of (posted_at e.posted i) e.mtu - from → new ≡ old ++ offers_from q e i from (j - from) → new ≡ old ++ offers_of q e i from
unfolding offers_of
offers_all q e i from j old new h n = n ∙ ap (λ z. old ++ offers_from q e i from z) h
