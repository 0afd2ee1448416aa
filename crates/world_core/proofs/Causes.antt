-- Why an event of a world is refused: the first cause, over what is tested.
use Rattle.std.proofs.Common.{◌≡◌, ◌||◌, List, [], ◌∷◌, Bool, true, false, Some, None, refl, ap}
use Rattle.std.specs.Prelude.{◌&&◌, not}
use Rattle.rdma_types.specs.declared.answers.Refusal.{Refusal}
use Rattle.rdma_types.specs.declared.answers.Refusal.TheVariants as refusal
use Rattle.rdma_types.specs.Causes.{Cause, cause, first_cause}

-- ---- causes, over what they test

pub unknown : (live carried : Bool) (more : List Cause) → live ≡ false → carried ≡ false → first_cause (cause refusal.NoSuch (not live && not carried) ∷ cause refusal.Stopped (not live) ∷ more) ≡ Some refusal.NoSuch
unfolding first_cause
unknown true carried more h k = absurd (cc)
unknown false true more h k = absurd (cc)
unknown false false more h k = refl

pub away : (live carried : Bool) (more : List Cause) → live ≡ false → carried ≡ true → first_cause (cause refusal.NoSuch (not live && not carried) ∷ cause refusal.Stopped (not live) ∷ more) ≡ Some refusal.Stopped
unfolding first_cause
away true carried more h k = absurd (cc)
away false false more h k = absurd (cc)
away false true more h k = refl

pub at_home : (live carried : Bool) (more : List Cause) → live ≡ true → first_cause (cause refusal.NoSuch (not live && not carried) ∷ cause refusal.Stopped (not live) ∷ more) ≡ first_cause more
unfolding first_cause
at_home true carried more h = refl
at_home false carried more h = absurd (cc)

pub holds_first : (r : Refusal) (b : Bool) (more : List Cause) → b ≡ true → first_cause (cause r b ∷ more) ≡ Some r
unfolding first_cause
holds_first r true more h = refl
holds_first r false more h = absurd (cc)

pub holds_not : (r : Refusal) (b : Bool) (more : List Cause) → b ≡ false → first_cause (cause r b ∷ more) ≡ first_cause more
unfolding first_cause
holds_not r true more h = absurd (cc)
holds_not r false more h = refl

pub no_cause : first_cause [] ≡ None
unfolding first_cause
no_cause = refl

-- why a device is not added
pub not_taken : (a b c : Bool) → first_cause (cause refusal.NumberTaken (a || b) ∷ cause refusal.TooMany c ∷ []) ≡ None → a ≡ false
unfolding first_cause
not_taken true b c h = absurd (cc)
not_taken false b c h = refl

pub free_address : (a b c : Bool) → first_cause (cause refusal.NumberTaken (a || b) ∷ cause refusal.TooMany c ∷ []) ≡ None → b ≡ false
unfolding first_cause
free_address true b c h = absurd (cc)
free_address false true c h = absurd (cc)
free_address false false c h = refl

-- ---- tests joined

pub or_left : (a b : Bool) → a ≡ true → (a || b) ≡ true
or_left true b h = refl
or_left false b h = absurd (cc)

pub or_right : (a b : Bool) → b ≡ true → (a || b) ≡ true
or_right true b h = refl
or_right false b h = h

pub or_neither : (a b : Bool) → a ≡ false → b ≡ false → (a || b) ≡ false
or_neither true b h k = absurd (cc)
or_neither false b h k = k

pub known_no : (l c : Bool) → (l || c) ≡ true → (not l && not c) ≡ false
known_no true c h = refl
known_no false true h = refl
known_no false false h = absurd (cc)

pub unknown_yes : (l c : Bool) → (l || c) ≡ false → (not l && not c) ≡ true
unknown_yes true c h = absurd (cc)
unknown_yes false true h = absurd (cc)
unknown_yes false false h = refl

pub not_false : (b : Bool) → b ≡ false → not b ≡ true
not_false b h = ap (λ x. not x) h

pub not_true : (b : Bool) → b ≡ true → not b ≡ false
not_true b h = ap (λ x. not x) h
