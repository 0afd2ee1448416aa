-- The machine refuses what the protocol refuses, but for the reasons that it does not know.
use Rattle.std.proofs.Common.{◌≡◌, List, [], ◌∷◌, true, false, Bool, refl, sym, ap, ◌∙◌}
use Rattle.std.specs.Prelude.{Option, Some, None, not, ◌||◌, ◌&&◌, if◌then◌else◌}
use Rattle.rdma_types.specs.declared.answers.Refusal.{Refusal}
use Rattle.rdma_types.specs.declared.answers.Refusal.TheVariants as refusal
use Rattle.rdma_types.specs.declared.names.Name.{Name}
use Rattle.rdma_types.specs.Causes.{Cause, cause, first_cause}
use Rattle.protocol.specs.Refusals.{has_context, has_husk, within}
use Rattle.protocol.specs.State.{Device, context_at, no_context}
use Rattle.law_simulation.specs.Kept.{is_unmade_by}
use Rattle.law_simulation.proofs.relation.Tables.{name-named_there}

-- a refusal that the machine knows, or none
unfoldable pub is_known : Option Refusal → Bool
is_known None = true
is_known (Some r) = not (is_unmade_by r)

-- where the protocol's refusal is one that the machine knows, it is the machine's
abbrev pub Matches : Option Refusal → Option Refusal → Type 0
Matches r r' = is_known r ≡ true → r ≡ r'

-- the same cause on both sides
pub matches_cause : (r : Refusal) (b b' : Bool) (xs ys : List Cause) → b ≡ b' → (b' ≡ false → Matches (first_cause xs) (first_cause ys)) → Matches (first_cause (cause r b ∷ xs)) (first_cause (cause r b' ∷ ys))
unfolding first_cause
matches_cause r b true xs ys same later known = ap (λ t. if t then Some r else first_cause xs) same
matches_cause r b false xs ys same later known = ap (λ t. if t then Some r else first_cause xs) same ∙ later refl (ap (λ t. is_known (if t then Some r else first_cause xs)) (sym same) ∙ known)

-- the first of two causes of one refusal
pub matches_either : (r : Refusal) (b c b' : Bool) (xs ys : List Cause) → b ≡ b' → (b' ≡ false → Matches (first_cause (cause r c ∷ xs)) (first_cause ys)) → Matches (first_cause (cause r (b || c) ∷ xs)) (first_cause (cause r b' ∷ ys))
unfolding first_cause
matches_either r b c true xs ys same later known = ap (λ t. if t || c then Some r else first_cause xs) same
matches_either r b c false xs ys same later known = ap (λ t. if t || c then Some r else first_cause xs) same ∙ later refl (ap (λ t. is_known (if t || c then Some r else first_cause xs)) (sym same) ∙ known)

-- a cause that the machine does not know
pub matches_unknown : (r : Refusal) (b : Bool) (xs : List Cause) (r' : Option Refusal) → is_unmade_by r ≡ true → (b ≡ false → Matches (first_cause xs) r') → Matches (first_cause (cause r b ∷ xs)) r'
unfolding first_cause is_known
matches_unknown r true xs r' unknown later known = absurd (cc)
matches_unknown r false xs r' unknown later known = later refl known

-- a cause that does not hold
pub matches_not : (r : Refusal) (b : Bool) (xs : List Cause) (r' : Option Refusal) → b ≡ false → Matches (first_cause xs) r' → Matches (first_cause (cause r b ∷ xs)) r'
unfolding first_cause
matches_not r b xs r' holds_not later = rw holds_not later

pub matches_not_there : (r : Option Refusal) (q : Refusal) (b : Bool) (ys : List Cause) → b ≡ false → Matches r (first_cause ys) → Matches r (first_cause (cause q b ∷ ys))
unfolding first_cause
matches_not_there r q b ys holds_not later = rw holds_not later

pub matches_none : Matches (first_cause []) (first_cause [])
matches_none known = refl

-- where there is no refusal, no cause holds
pub first_no : (r : Refusal) (b : Bool) (xs : List Cause) → first_cause (cause r b ∷ xs) ≡ None → (b ≡ false)
unfolding first_cause
first_no r true xs h = absurd (cc)
first_no r false xs h = refl

pub later_no : (r : Refusal) (b : Bool) (xs : List Cause) → first_cause (cause r b ∷ xs) ≡ None → first_cause xs ≡ None
unfolding first_cause
later_no r true xs h = absurd (cc)
later_no r false xs h = h

-- the first cause holds
pub first_yes : (r : Refusal) (b : Bool) (xs : List Cause) → b ≡ true → first_cause (cause r b ∷ xs) ≡ Some r
unfolding first_cause
first_yes r b xs h = rw h refl

-- a thing is there whose lack would be a cause
pub not_lacking : (b : Bool) → not b ≡ false → b ≡ true
not_lacking true h = refl
not_lacking false h = absurd (cc)

-- a context that an event names is there, where nothing refuses it
pub context_is_there : (d : Device) (n : Name) (more : List Cause) → first_cause (within d n (λ c. more)) ≡ None → has_context d n ≡ true
unfolding first_cause
context_is_there d n more h = by (has_context d n) (has_husk d n) h
  where
    by : (a b : Bool) → first_cause (cause refusal.NoSuch (not a && not b) ∷ cause refusal.Stopped (not a) ∷ more) ≡ None → a ≡ true
    by true b h = refl
    by false true h = absurd (cc)
    by false false h = absurd (cc)

pub name_at : (d : Device) (n : Name) → has_context d n ≡ true → (context_at d n).name ≡ n
name_at d n is = name-named_there (λ x. x.name) no_context n d.contexts is
