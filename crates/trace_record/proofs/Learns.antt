-- What the owner of an end learns, step by step.
use Rattle.std.proofs.Common.{arith, ◌≡◌, ◌<◌, ◌≤◌, ◌+◌, ◌-◌, ◌*◌, ◌==◌, ℕ, zero, suc, Bool, true, false, List, [], ◌∷◌, ◌++◌, nat_lt, refl, sym, ap, ◌∙◌, if◌then◌else◌, append-nil, append_assoc}
use Rattle.std.specs.Prelude.{OnOk, Result, Ok, Err}
use Rattle.std.proofs.lemmas.Bool.Decides.{nat_tests, eqb_tells}
use Rattle.rdma_types.specs.declared.names.ObjName.{ObjName}
use Rattle.rdma_types.specs.Spans.{span_of}
use Rattle.packetless_machine.specs.declared.steps.MachineStep.{MachineStep}
use Rattle.packetless_machine.specs.declared.steps.MachineStep.TheVariants as steps
use Rattle.packetless_machine.specs.Machine.{End, posted_at}
use Rattle.packetless_machine.specs.Numbers.{oldest}
use Rattle.law_simulation.specs.Carries.{piece_at, request_at, tell_steps}
use Rattle.law_simulation.specs.Named.{known_bytes, learning, tells}

-- one more request is told
pub tells_more : (q : ObjName) (k : ℕ) → tells q (suc k) ≡ tells q k ++ steps.Tell q ∷ []
unfolding tells
tells_more q zero = refl
tells_more q (suc k) = ap (λ z. steps.Tell q ∷ z) (tells_more q k)

pub tell_added : (q : ObjName) (k : ℕ) (old mid new : List MachineStep) → mid ≡ old ++ tells q k → new ≡ mid ++ steps.Tell q ∷ [] → new ≡ old ++ tells q (k + 1)
tell_added q k old mid new e n =
    let next : k + 1 ≡ suc k = omega arith in
    n ∙ (ap (λ z. z ++ steps.Tell q ∷ []) e ∙ (append_assoc old (tells q k) (steps.Tell q ∷ []) ∙ (ap (λ z. old ++ z) (sym (tells_more q k)) ∙ ap (λ z. old ++ tells q z) (sym next))))

pub tells_none : (q : ObjName) (old : List MachineStep) → old ≡ old ++ tells q 0
unfolding tells
tells_none q old = sym (append-nil old)

-- bytes that are known
pub known_none : (q : ObjName) (m : ℕ) → m ≡ 0 → known_bytes q m ≡ []
unfolding known_bytes
known_none q m e = ap (known_bytes q) e

pub known_some : (q : ObjName) (m : ℕ) → (m ≡ 0 → ⊥) → known_bytes q m ≡ steps.Known q m ∷ []
unfolding known_bytes
known_some q zero e = absurd (e refl)
known_some q (suc m) e = refl

-- nothing is learned
pub learns_nothing : (q : ObjName) (e : End) (n : ℕ) → n ≤ oldest e → learning q e n ≡ []
unfolding learning
learns_nothing q e n h = let t : nat_lt (oldest e) n ≡ false = grind (arith, nat_tests) in rw t refl

pub learns_all : (q : ObjName) (e : End) (n : ℕ) → oldest e < n → learning q e n ≡ tells q (request_at e n - e.told) ++ known_bytes q (piece_at e n * e.mtu)
unfolding learning
learns_all q e n h = let t : nat_lt (oldest e) n ≡ true = grind (arith, nat_tests) in rw t refl

-- the last response of a Read, or another
pub tells_not_yet : (q : ObjName) (e : End) (n s p : ℕ) → p ≡ piece_at e n → s ≡ span_of (posted_at e.posted (request_at e n)) e.mtu → (s - p ≡ 1 → ⊥) → tell_steps q e n ≡ []
unfolding tell_steps
tells_not_yet q e n s p is span h = by_test (suc (piece_at e n) == span_of (posted_at e.posted (request_at e n)) e.mtu) refl
  where
    by_test : (b : Bool) → (suc (piece_at e n) == span_of (posted_at e.posted (request_at e n)) e.mtu) ≡ b → (if b then steps.Tell q ∷ [] else []) ≡ []
    by_test false t = refl
    by_test true t =
        let same : suc (piece_at e n) ≡ span_of (posted_at e.posted (request_at e n)) e.mtu = grind (arith, nat_tests, eqb_tells (suc (piece_at e n)) (span_of (posted_at e.posted (request_at e n)) e.mtu), t) in
        absurd (h (omega (arith, same, is, span)))

pub tells_at_last : (q : ObjName) (e : End) (n s p : ℕ) → p ≡ piece_at e n → s ≡ span_of (posted_at e.posted (request_at e n)) e.mtu → s - p ≡ 1 → tell_steps q e n ≡ steps.Tell q ∷ []
unfolding tell_steps
tells_at_last q e n s p is span h =
    let same : suc (piece_at e n) ≡ span_of (posted_at e.posted (request_at e n)) e.mtu = omega (arith, h, is, span) in
    let t : (suc (piece_at e n) == span_of (posted_at e.posted (request_at e n)) e.mtu) ≡ true = grind (arith, nat_tests, same) in
    rw t refl

-- what is added in two parts, or not at all
pub added_two : {T E : Type 0} (r : Result T E) (old a b all mid new : List MachineStep) → all ≡ a ++ b → mid ≡ old ++ a → OnOk r (new ≡ mid ++ b) → OnOk r (new ≡ old ++ all)
added_two (Ok x) old a b all mid new e f h = h ∙ (ap (λ z. z ++ b) f ∙ (append_assoc old a b ∙ ap (λ z. old ++ z) (sym e)))
added_two (Err x) old a b all mid new e f h = tt

pub added_none : (old all : List MachineStep) → all ≡ [] → old ≡ old ++ all
added_none old all e = sym (append-nil old) ∙ ap (λ z. old ++ z) (sym e)

pub added_one : (old all new : List MachineStep) (s : MachineStep) → all ≡ s ∷ [] → new ≡ old ++ s ∷ [] → new ≡ old ++ all
added_one old all new s e n = n ∙ ap (λ z. old ++ z) (sym e)
