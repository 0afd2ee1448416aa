-- The opening of a book among those of all books.
use Rattle.std.proofs.Common.{arith, ◌≡◌, ℕ, zero, suc, ◌==◌, Bool, true, false, if◌then◌else◌, List, [], ◌∷◌, slice_get, Some, refl, ap, sym, subst, ◌∙◌}
use Rattle.std.specs.Prelude.{◌||◌}
use Rattle.std.proofs.lemmas.Bool.Decides.{nat_tests, eqb_tells}
use Rattle.rdma_types.specs.Lists.{at, has}
use Rattle.protocol.specs.State.{Device, no_device}
use Rattle.order_rules.specs.Lines.{opening_of}
use Rattle.shared_device.specs.Books.{AreApart, BookView, openings_of}

first_is : (d : Device) (os : List Device) (id : ℕ) (t : Bool) → (d.id == id) ≡ t → opening_of (d ∷ os) id ≡ (if t then d else opening_of os id)
unfolding at
first_is d os id t e = ap (λ u. if u then d else at (λ x. x.id) no_device id os) e

known_is : (d : Device) (os : List Device) (id : ℕ) (t : Bool) → (d.id == id) ≡ t → has (λ x. x.id) id (d ∷ os) ≡ (t || has (λ x. x.id) id os)
unfolding has
known_is d os id t e = ap (λ u. u || has (λ x. x.id) id os) e

-- the opening of this book's device is found
abbrev pub IsFound : List BookView → BookView → Type 0
IsFound books b = (opening_of (openings_of books) b.opening.id ≡ b.opening) × (has (λ x. x.id) b.opening.id (openings_of books) ≡ true)

found_first : (b : BookView) (books : List BookView) → IsFound (b ∷ books) b
found_first b books =
    let same : (b.opening.id == b.opening.id) ≡ true = grind (arith, nat_tests, eqb_tells b.opening.id b.opening.id) in
    (first_is b.opening (openings_of books) b.opening.id true same, known_is b.opening (openings_of books) b.opening.id true same)

found_later : (x : BookView) (books : List BookView) (b : BookView) (t : Bool) → (x.opening.id == b.opening.id) ≡ t → (t ≡ true → ⊥) → IsFound books b → IsFound (x ∷ books) b
found_later x books b true e other found = absurd (other refl)
found_later x books b false e other found = (first_is x.opening (openings_of books) b.opening.id false e ∙ found.0, known_is x.opening (openings_of books) b.opening.id false e ∙ found.1)

pub found_at : (books : List BookView) (i : ℕ) (b : BookView) → AreApart books → slice_get books i ≡ Some b → IsFound books b
found_at [] i b apart h = absurd cc
found_at (x ∷ books) zero b apart h = let same : x ≡ b = cc in subst (λ y. IsFound (y ∷ books) b) (sym same) (found_first b books)
found_at (x ∷ books) (suc i) b apart h =
    let other : (x.opening.id == b.opening.id) ≡ true → ⊥ = λ e. (
    let same : x.opening.id ≡ b.opening.id = grind (arith, nat_tests, eqb_tells x.opening.id b.opening.id, e) in
    let places : 0 ≡ suc i = apart 0 (suc i) x b refl h same in
    absurd (omega (arith, places))) in
    found_later x books b (x.opening.id == b.opening.id) refl other (found_at books i b (λ j k a c p q same. let e : suc j ≡ suc k = apart (suc j) (suc k) a c p q same in omega (arith, e)) h)
