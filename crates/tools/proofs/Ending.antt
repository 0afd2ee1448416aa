-- How a command ends, by what became of its text.
use Rattle.std.proofs.Common.{◌≡◌, ◌≢◌, inl, inr, ℕ, List, subst, sym, ◌∙◌}
use Rattle.std.specs.Prelude.{Option}
use Rattle.tools.specs.Endings.{EndsBy, IsWritten, unwritten}

module _ (IsTextOf : ℕ → List ℕ → Type 0) (held held_after : Option (List ℕ)) (faults faults_after : ℕ) where
  pub ended : (text : List ℕ) (meant status : ℕ) → meant ≢ unwritten → IsTextOf meant text → IsWritten held held_after faults faults_after text meant status → EndsBy IsTextOf held held_after faults faults_after status
  ended text meant status other says (inl all) = inl (
    (λ five. other (sym all.0 ∙ five)),
    record { text = text; says = subst (λ n. IsTextOf n text) (sym all.0) says; writes = all.1 },
  )
  ended text meant status other says (inr cut) = inr (cut.0, record { meant = meant; text = text; says = says; writes = cut.1 })
