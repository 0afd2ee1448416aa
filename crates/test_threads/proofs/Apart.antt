-- One book is apart from all others.
use Rattle.std.proofs.Common.{◌≡◌, ℕ, zero, suc, List, [], ◌∷◌, refl, sym, subst}
use Rattle.shared_device.specs.Books.{AreApart, BookView}

one_is_apart : (b : BookView) → AreApart (b ∷ [])
one_is_apart b zero zero x y at_i at_j same = refl
one_is_apart b zero (suc j) x y at_i at_j same = absurd cc
one_is_apart b (suc i) j x y at_i at_j same = absurd cc

pub are_apart : (books : List BookView) (b : BookView) → books ≡ b ∷ [] → AreApart books
are_apart books b one = subst AreApart (sym one) (one_is_apart b)
