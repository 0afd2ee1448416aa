use Rattle.std.proofs.Common.{◌≡◌, ℕ, zero, suc, ◌+◌, ◌<◌, List, [], ◌∷◌, ◌++◌, length, get_or, slice_set, take, drop, ap, sym, ◌∙◌, arith, add-one, add-zero}
use Rattle.std.proofs.lemmas.List.{take_more, get_or-drop}

copied_at : {X : Type 0} (xs ys : List X) (n : ℕ) (x : X) → n < length xs → n < length ys → x ≡ get_or xs n x → slice_set (take n xs ++ drop n ys) n x ≡ take (suc n) xs ++ drop (suc n) ys
copied_at [] ys n x h k e = absurd (omega arith)
copied_at (a ∷ xs) [] n x h k e = absurd (omega arith)
copied_at (a ∷ xs) (b ∷ ys) zero x h k e = ap (λ v. v ∷ ys) e
copied_at (a ∷ xs) (b ∷ ys) (suc n) x h k e = ap (λ l. a ∷ l) (copied_at xs ys n x (omega arith) (omega arith) e)

-- one more element copied over the front of a list
pub copied_more : {X : Type 0} (xs ys : List X) (n : ℕ) (x : X) → n < length xs → n < length ys → x ≡ get_or xs n x → slice_set (take n xs ++ drop n ys) n x ≡ take (n + 1) xs ++ drop (n + 1) ys
copied_more xs ys n x h k e = rw add-one (copied_at xs ys n x h k e)

-- one more element taken off the front
pub taken_more : {X : Type 0} (xs : List X) (n : ℕ) (x : X) → n < length xs → x ≡ get_or (drop n xs) 0 x → take n xs ++ x ∷ [] ≡ take (n + 1) xs
taken_more xs n x h e = let at : x ≡ get_or xs n x = e ∙ get_or-drop n xs 0 x ∙ ap (λ k. get_or xs k x) (add-zero n) in sym (take_more xs n x h ∙ ap (λ y. take n xs ++ y ∷ []) (sym at))

-- one more element of the front
pub taken_at : {X : Type 0} (xs : List X) (n : ℕ) (x : X) → n < length xs → x ≡ get_or xs n x → take n xs ++ x ∷ [] ≡ take (n + 1) xs
taken_at xs n x h e = sym (take_more xs n x h ∙ ap (λ y. take n xs ++ y ∷ []) (sym e))
