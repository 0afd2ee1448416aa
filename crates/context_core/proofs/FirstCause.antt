-- The first cause of a list.
use Rattle.std.proofs.Common.{◌≡◌, Bool, true, false, List, [], ◌∷◌, refl}
use Rattle.std.specs.Bool.{then_some}
use Rattle.std.specs.Prelude.{Some, None}
use Rattle.rdma_types.specs.Causes.{Cause, cause, first_cause}
use Rattle.rdma_types.specs.declared.answers.Refusal.{Refusal}

-- the first one holds
pub first-holds : (r : Refusal) (b : Bool) (more : List Cause) → b ≡ true → first_cause (cause r b ∷ more) ≡ Some r
unfolding first_cause
first-holds r b more e = rw e refl

-- it does not
pub first-passed : (r : Refusal) (b : Bool) (more : List Cause) → b ≡ false → first_cause (cause r b ∷ more) ≡ first_cause more
unfolding first_cause
first-passed r b more e = rw e refl

-- none holds
pub none-holds : first_cause [] ≡ None
unfolding first_cause
none-holds = refl

-- where none holds, the first does not
pub none-here : (r : Refusal) (b : Bool) (more : List Cause) → first_cause (cause r b ∷ more) ≡ None → b ≡ false
unfolding first_cause
none-here r true more e = absurd (cc)
none-here r false more e = refl

pub none-later : (r : Refusal) (b : Bool) (more : List Cause) → first_cause (cause r b ∷ more) ≡ None → first_cause more ≡ None
unfolding first_cause
none-later r true more e = absurd (cc)
none-later r false more e = e

-- the only one
pub last-cause : (r : Refusal) (b : Bool) → then_some b r ≡ first_cause (cause r b ∷ [])
unfolding first_cause
last-cause r true = refl
last-cause r false = refl
