-- One connection of the list is changed.
use Rattle.std.proofs.Common.{◌≡◌, ◌<◌, ◌≤◌, ◌-◌, ℕ, zero, suc, List, [], ◌∷◌, ◌++◌, replicate, arith, length, refl, sym, ap, ◌∙◌, get_or, None, slice_get}
use Rattle.std.specs.Prelude.{slice_set}
use Rattle.std.proofs.lemmas.Option.{slice_get-get_or}
use Rattle.mailbox_rules.specs.State.{Channel, with_there}

pub there : (cs : List Channel) (i k : ℕ) (f : Channel → Channel) (d : Channel) → k ≡ i - 1 → k < length cs → with_there (slice_get cs (i - 1)) cs i f ≡ slice_set cs k (f (get_or cs k d))
there cs i k f d is less =
    ap (λ j. with_there (slice_get cs j) cs i f) (sym is) ∙ (ap (λ o. with_there o cs i f) (slice_get-get_or cs k d less) ∙ ap (λ j. slice_set cs j (f (get_or cs k d))) (sym is))

past : {A : Type 0} (xs : List A) (k : ℕ) → length xs ≤ k → slice_get xs k ≡ None
past [] k most = refl
past (x ∷ xs) zero most = absurd (omega arith)
past (x ∷ xs) (suc k) most = past xs k (omega arith)

pub nowhere : (cs : List Channel) (i k : ℕ) (f : Channel → Channel) → k ≡ i - 1 → length cs ≤ k → with_there (slice_get cs (i - 1)) cs i f ≡ cs
nowhere cs i k f is most = ap (λ j. with_there (slice_get cs j) cs i f) (sym is) ∙ ap (λ o. with_there o cs i f) (past cs k most)

-- one more at the end of equal ones
pub replicate_more : {A : Type 0} (n : ℕ) (x : A) → replicate n x ++ x ∷ [] ≡ replicate (suc n) x
replicate_more zero x = refl
replicate_more (suc n) x = ap (λ xs. x ∷ xs) (replicate_more n x)
