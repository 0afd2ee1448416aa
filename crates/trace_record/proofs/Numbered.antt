-- A request by its number: it is expected, comes again, or is ahead.
use Rattle.std.proofs.Common.{arith, ◌≡◌, ◌<◌, ◌≤◌, ◌==◌, ℕ, Bool, true, false, List, [], ◌++◌, nat_lt, refl, sym, ◌∙◌, subst, if◌then◌else◌}
use Rattle.std.specs.Prelude.{OnOk, Option, Some, None, Result}
use Rattle.std.proofs.lemmas.Bool.Decides.{nat_tests}
use Rattle.rdma_types.specs.declared.names.ObjName.{ObjName}
use Rattle.packetless_machine.specs.declared.steps.MachineStep.{MachineStep}
use Rattle.packetless_machine.specs.Machine.{Machine, end_of}
use Rattle.packetless_machine.specs.Numbers.{due}
use Rattle.law_simulation.specs.Carries.{due_steps, piece_at, repeat_steps, request_at, request_steps}

pub request_due : (m : Machine) (q : ObjName) (n bytes : ℕ) → n ≡ due (end_of m q) → request_steps m q n bytes ≡ due_steps m q bytes
unfolding request_steps
request_due m q n bytes h = let t : (n == due (end_of m q)) ≡ true = grind (arith, nat_tests) in rw t refl

pub request_again : (m : Machine) (q : ObjName) (n bytes : ℕ) → n < due (end_of m q) → request_steps m q n bytes ≡ repeat_steps m q (request_at (end_of m q) n) (piece_at (end_of m q) n)
unfolding request_steps
request_again m q n bytes h =
    let t : (n == due (end_of m q)) ≡ false = grind (arith, nat_tests) in
    let u : nat_lt n (due (end_of m q)) ≡ true = grind (arith, nat_tests) in
    rw (t, u) refl

pub request_ahead : (m : Machine) (q : ObjName) (n bytes : ℕ) → due (end_of m q) < n → request_steps m q n bytes ≡ []
unfolding request_steps
request_ahead m q n bytes h =
    let t : (n == due (end_of m q)) ≡ false = grind (arith, nat_tests) in
    let u : nat_lt n (due (end_of m q)) ≡ false = grind (arith, nat_tests) in
    rw (t, u) refl

-- the number that is told of a connected end
pub told_due : (b : Bool) (x d : ℕ) → b ≡ true → Some d ≡ (if b then Some x else None) → d ≡ x
told_due true x d h e = cc
told_due false x d h e = absurd (cc)

pub told_none : (b : Bool) (x : ℕ) → b ≡ true → None ≡ (if b then Some x else None) → ⊥
told_none true x h e = absurd (cc)
told_none false x h e = absurd (cc)

-- the same steps are added
pub added_as : {T E : Type 0} (r : Result T E) (old a b new : List MachineStep) → a ≡ b → OnOk r (new ≡ old ++ b) → OnOk r (new ≡ old ++ a)
added_as r old a b new e h = subst (λ z. OnOk r (new ≡ old ++ z)) (sym e) h
