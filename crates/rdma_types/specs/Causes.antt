-- Refusals with their causes: a list in its order; the first cause that holds is answered (this project's choice).
use Rattle.std.specs.Prelude.{Bool, List, [], ◌∷◌, Option, Some, None, if◌then◌else◌}
use Rattle.rdma_types.specs.declared.answers.Refusal.{Refusal}

-- a refusal, and whether its cause holds
pub record Cause : Type 0 where
  pub refusal : Refusal
  pub holds : Bool

-- a refusal and a test
abbrev pub cause : Refusal → Bool → Cause
cause r b = record { refusal = r; holds = b }

-- the refusal of the first cause that holds
unfoldable pub first_cause : List Cause → Option Refusal
first_cause [] = None
first_cause (x ∷ xs) = if x.holds then Some x.refusal else first_cause xs
