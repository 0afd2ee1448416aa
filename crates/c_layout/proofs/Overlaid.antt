-- A list that is written to a buffer, one item after the other.
use Rattle.std.proofs.Common.{◌≡◌, ℕ, zero, suc, ◌+◌, ◌<◌, List, [], ◌∷◌, ◌++◌, length, map, take, drop, set, get_or, refl, ap, sym, min, arith, add-one}
use Rattle.std.proofs.lemmas.List.{take-map, length-map}
use Rattle.c_layout.specs.Given.{overlaid}

step_written : {A B : Type 0} (f : A → B) (i : ℕ) (xs : List A) (ys : List B) (d : A) → i < length xs → i < length ys → set (map f (take i xs) ++ drop i ys) i (f (get_or xs i d)) ≡ map f (take (suc i) xs) ++ drop (suc i) ys
step_written f zero [] ys d hx hy = absurd (omega arith)
step_written f zero (a ∷ xs) [] d hx hy = absurd (omega arith)
step_written f zero (a ∷ xs) (b ∷ ys) d hx hy = refl
step_written f (suc i) [] ys d hx hy = absurd (omega arith)
step_written f (suc i) (a ∷ xs) [] d hx hy = absurd (omega arith)
step_written f (suc i) (a ∷ xs) (b ∷ ys) d hx hy = ap (λ zs. f a ∷ zs) (step_written f i xs ys d (omega arith) (omega arith))

-- the next item takes the next place
pub next_written : {A B : Type 0} (f : A → B) (i : ℕ) (xs : List A) (ys : List B) (d : A) → i < length xs → i < length ys → set (map f (take i xs) ++ drop i ys) i (f (get_or xs i d)) ≡ map f (take (i + 1) xs) ++ drop (i + 1) ys
next_written f i xs ys d hx hy = rw (add-one i) (step_written f i xs ys d hx hy)

-- all items that there is room for were written
pub all_written : {A B : Type 0} (f : A → B) (n : ℕ) (xs : List A) (ys : List B) → n ≡ min (length ys) (length xs) → map f (take n xs) ++ drop n ys ≡ overlaid (map f xs) ys
all_written f n xs ys e =
    let same : min (length ys) (length (map f xs)) ≡ n = rw (length-map xs f) (sym e) in
    rw (same, take-map f n xs) refl
