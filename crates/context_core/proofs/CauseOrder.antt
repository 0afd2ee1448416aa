-- Causes in their order.
use Rattle.std.proofs.Common.{◌≡◌, Bool, true, false, List, ◌∷◌, ◌∙◌}
use Rattle.std.specs.Prelude.{Some}
use Rattle.rdma_types.specs.Causes.{Cause, cause, first_cause}
use Rattle.rdma_types.specs.declared.answers.Refusal.{Refusal}
use Rattle.context_core.proofs.FirstCause.{first-holds, first-passed}

-- the second holds, the third, the fourth
pub second-holds : (a b : Refusal) (p q : Bool) (more : List Cause) → p ≡ false → q ≡ true → first_cause (cause a p ∷ cause b q ∷ more) ≡ Some b
second-holds a b p q more e f = first-passed a p (cause b q ∷ more) e ∙ first-holds b q more f

pub third-holds : (a b c : Refusal) (p q r : Bool) (more : List Cause) → p ≡ false → q ≡ false → r ≡ true → first_cause (cause a p ∷ cause b q ∷ cause c r ∷ more) ≡ Some c
third-holds a b c p q r more e f g = first-passed a p (cause b q ∷ cause c r ∷ more) e ∙ second-holds b c q r more f g

pub after-two : (a b : Refusal) (p q : Bool) (more : List Cause) → p ≡ false → q ≡ false → first_cause (cause a p ∷ cause b q ∷ more) ≡ first_cause more
after-two a b p q more e f = first-passed a p (cause b q ∷ more) e ∙ first-passed b q more f

pub after-three : (a b c : Refusal) (p q r : Bool) (more : List Cause) → p ≡ false → q ≡ false → r ≡ false → first_cause (cause a p ∷ cause b q ∷ cause c r ∷ more) ≡ first_cause more
after-three a b c p q r more e f g = after-two a b p q (cause c r ∷ more) e f ∙ first-passed c r more g
