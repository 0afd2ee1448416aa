-- Where two values differ: two numbers that tell them apart. This project's choice.
use Rattle.std.specs.Prelude.{ℕ, ◌==◌, List, [], ◌∷◌, Option, Some, None, length, if◌then◌else◌}
use Rattle.std.specs.Option.{option_or}

-- the first difference that is there
unfoldable pub first_of : List (Option (ℕ × ℕ)) → Option (ℕ × ℕ)
first_of [] = None
first_of (o ∷ os) = option_or o (first_of os)

-- two numbers, where they differ
unfoldable pub apart : ℕ → ℕ → Option (ℕ × ℕ)
apart m n = if m == n then None else Some (m, n)

-- the first difference of two things at one place
unfoldable pub pairwise : {A : Type 0} → (A → A → Option (ℕ × ℕ)) → List A → List A → Option (ℕ × ℕ)
pairwise f [] ys = None
pairwise f (x ∷ xs) [] = None
pairwise f (x ∷ xs) (y ∷ ys) = option_or (f x y) (pairwise f xs ys)

-- .. or else of the lengths
unfoldable pub across : {A : Type 0} → (A → A → Option (ℕ × ℕ)) → List A → List A → Option (ℕ × ℕ)
across f xs ys = option_or (pairwise f xs ys) (apart (length xs) (length ys))

-- the first two numbers that differ, or else the lengths
unfoldable pub between : List ℕ → List ℕ → Option (ℕ × ℕ)
between xs ys = across apart xs ys

-- the difference of two things that may be there: 0 stands for none, and 1 for one
unfoldable pub maybe : {A : Type 0} → (A → A → Option (ℕ × ℕ)) → Option A → Option A → Option (ℕ × ℕ)
maybe f None None = None
maybe f None (Some y) = Some (0, 1)
maybe f (Some x) None = Some (1, 0)
maybe f (Some x) (Some y) = f x y
