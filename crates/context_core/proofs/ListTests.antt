-- Tests of some things of a list.
use Rattle.std.proofs.Common.{◌≡◌, ℕ, zero, suc, ◌+◌, ◌≤◌, Bool, true, false, List, [], ◌∷◌, length, take, refl, ap, ◌∙◌, arith, add-one}
use Rattle.std.specs.Prelude.{◌||◌, Some, None, map, slice_get}
use Rattle.rdma_types.specs.Lists.{some}

module _ {A : Type 0} where
  -- one of two tests
  pub some-or : (f g : A → Bool) (xs : List A) → (some f xs || some g xs) ≡ some (λ x. f x || g x) xs
  unfolding some
  some-or f g [] = refl
  some-or f g (x ∷ xs) = regroup (f x) (g x) (some f xs) (some g xs) ∙ ap (λ b. (f x || g x) || b) (some-or f g xs)
    where
      regroup : (a b c d : Bool) → ((a || c) || (b || d)) ≡ ((a || b) || (c || d))
      regroup true b c d = refl
      regroup false true true d = refl
      regroup false true false d = refl
      regroup false false true d = refl
      regroup false false false d = refl

  -- one that passes
  pub some-at : (test : A → Bool) (xs : List A) (i : ℕ) (x : A) → slice_get xs i ≡ Some x → test x ≡ true → some test xs ≡ true
  unfolding some
  some-at test [] i x e t = absurd (cc)
  some-at test (y ∷ ys) zero x e t = let same : y ≡ x = cc in let t' : test y ≡ true = ap test same ∙ t in rw t' refl
  some-at test (y ∷ ys) (suc i) x e t = by (test y) (some-at test ys i x e t)
    where
      by : (b : Bool) → some test ys ≡ true → (b || some test ys) ≡ true
      by true r = refl
      by false r = r

  none-suc : (test : A → Bool) (xs : List A) (i : ℕ) (x : A) → slice_get xs i ≡ Some x → some test (take i xs) ≡ false → test x ≡ false → some test (take (suc i) xs) ≡ false
  unfolding some
  none-suc test [] i x e n t = absurd (cc)
  none-suc test (y ∷ ys) zero x e n t = let same : y ≡ x = cc in let t' : test y ≡ false = ap test same ∙ t in rw t' refl
  none-suc test (y ∷ ys) (suc i) x e n t = by (test y) refl n (λ m. none-suc test ys i x e m t)
    where
      by : (b : Bool) → test y ≡ b → (b || some test (take i ys)) ≡ false → (some test (take i ys) ≡ false → some test (take (suc i) ys) ≡ false) → (test y || some test (take (suc i) ys)) ≡ false
      by true s m later = absurd (cc)
      by false s m later = rw s (later m)

  -- none so far, nor here
  pub none-more : (test : A → Bool) (xs : List A) (i : ℕ) (x : A) → slice_get xs i ≡ Some x → some test (take i xs) ≡ false → test x ≡ false → some test (take (i + 1) xs) ≡ false
  none-more test xs i x e n t = rw add-one (none-suc test xs i x e n t)

  -- none of all
  none-all : (test : A → Bool) (xs : List A) (n : ℕ) → length xs ≤ n → some test (take n xs) ≡ false → false ≡ some test xs
  unfolding some
  none-all test [] n l e = refl
  none-all test (x ∷ xs) zero l e = absurd (omega arith)
  none-all test (x ∷ xs) (suc n) l e = by (test x) refl e (none-all test xs n (omega arith))
    where
      by : (b : Bool) → test x ≡ b → (b || some test (take n xs)) ≡ false → (some test (take n xs) ≡ false → false ≡ some test xs) → false ≡ (test x || some test xs)
      by true s m later = absurd (cc)
      by false s m later = rw s (later m)

  -- none before the end
  pub none-past : (test : A → Bool) (xs : List A) (i : ℕ) → slice_get xs i ≡ None → some test (take i xs) ≡ false → false ≡ some test xs
  none-past test xs i e n = none-all test xs i (past xs i e) n
    where
      past : (ys : List A) (j : ℕ) → slice_get ys j ≡ None → length ys ≤ j
      past [] j s = omega arith
      past (y ∷ ys) zero s = absurd (cc)
      past (y ∷ ys) (suc j) s = let l = past ys j s in omega arith

-- what is made of the thing at a place
pub mapped-at : {A B : Type 0} (f : A → B) (xs : List A) (i : ℕ) (x : A) → slice_get xs i ≡ Some x → slice_get (map f xs) i ≡ Some (f x)
mapped-at f [] i x e = absurd (cc)
mapped-at f (y ∷ ys) zero x e = let same : y ≡ x = cc in ap (λ z. Some (f z)) same
mapped-at f (y ∷ ys) (suc i) x e = mapped-at f ys i x e
