-- Numbers that lists do not have, and lists of numbers that are apart from each other.
use Rattle.std.proofs.Common.{◌≡◌, ◌≢◌, ℕ, zero, suc, Bool, true, false, List, [], ◌∷◌, ◌++◌, refl, arith, drop, inl, inr}
use Rattle.std.specs.Prelude.{◌⊎◌, All, Contains, nat_eq, map}
use Rattle.std.specs.List.{AllByRecursion, IsDistinct}
use Rattle.std.proofs.lemmas.List.Elements.{All-from_recursion, recursion_from_All, Contains-append_right, Contains-append_cases}
use Rattle.std.proofs.lemmas.Bool.Decides.{nat_tests}

-- a list does not have a number
abbrev pub Lacks : List ℕ → ℕ → Type 0
Lacks ys x = AllByRecursion (λ y. nat_eq x y ≡ false) ys

-- two lists have no number in common
abbrev pub AreApart : List ℕ → List ℕ → Type 0
AreApart xs ys = AllByRecursion (Lacks ys) xs

module _ {A : Type 0} (P : A → Type 0) where
  pub each-append : (xs ys : List A) → AllByRecursion P xs → AllByRecursion P ys → AllByRecursion P (xs ++ ys)
  each-append [] ys h k = k
  each-append (x ∷ xs) ys h k = (h.0, each-append xs ys h.1 k)

  pub each-front : (xs ys : List A) → AllByRecursion P (xs ++ ys) → AllByRecursion P xs
  each-front [] ys h = tt
  each-front (x ∷ xs) ys h = (h.0, each-front xs ys h.1)

  pub each-back : (xs ys : List A) → AllByRecursion P (xs ++ ys) → AllByRecursion P ys
  each-back [] ys h = h
  each-back (x ∷ xs) ys h = each-back xs ys h.1

  pub each-drop : (k : ℕ) (xs : List A) → AllByRecursion P xs → AllByRecursion P (drop k xs)
  each-drop zero xs h = h
  each-drop (suc k) [] h = tt
  each-drop (suc k) (x ∷ xs) h = each-drop k xs h.1

  pub each-weaker : (Q : A → Type 0) → ((x : A) → P x → Q x) → (xs : List A) → AllByRecursion P xs → AllByRecursion Q xs
  each-weaker Q f [] h = tt
  each-weaker Q f (x ∷ xs) h = (f x h.0, each-weaker Q f xs h.1)

  pub each-map : {B : Type 0} (f : B → A) (xs : List B) → AllByRecursion (λ x. P (f x)) xs → AllByRecursion P (map f xs)
  each-map f [] h = tt
  each-map f (x ∷ xs) h = (h.0, each-map f xs h.1)

  pub each-unmap : {B : Type 0} (f : B → A) (xs : List B) → AllByRecursion P (map f xs) → AllByRecursion (λ x. P (f x)) xs
  each-unmap f [] h = tt
  each-unmap f (x ∷ xs) h = (h.0, each-unmap f xs h.1)

pub either-way : (x y : ℕ) → nat_eq x y ≡ false → nat_eq y x ≡ false
either-way x y h = grind (arith, nat_tests, h)

-- ---- apart

pub apart-left : (xs ys zs : List ℕ) → AreApart xs (ys ++ zs) → AreApart xs ys
apart-left xs ys zs h = each-weaker (Lacks (ys ++ zs)) (Lacks ys) (λ x. each-front (λ y. nat_eq x y ≡ false) ys zs) xs h

pub apart-right : (xs ys zs : List ℕ) → AreApart xs (ys ++ zs) → AreApart xs zs
apart-right xs ys zs h = each-weaker (Lacks (ys ++ zs)) (Lacks zs) (λ x. each-back (λ y. nat_eq x y ≡ false) ys zs) xs h

pub apart-both : (xs ys zs : List ℕ) → AreApart xs ys → AreApart xs zs → AreApart xs (ys ++ zs)
apart-both [] ys zs h k = tt
apart-both (x ∷ xs) ys zs h k = (each-append (λ y. nat_eq x y ≡ false) ys zs h.0 k.0, apart-both xs ys zs h.1 k.1)

pub apart-drop : (k : ℕ) (xs ys : List ℕ) → AreApart xs ys → AreApart xs (drop k ys)
apart-drop k xs ys h = each-weaker (Lacks ys) (Lacks (drop k ys)) (λ x. each-drop (λ y. nat_eq x y ≡ false) k ys) xs h

pub apart-swap : (xs ys : List ℕ) → AreApart xs ys → AreApart ys xs
apart-swap xs [] h = tt
apart-swap xs (y ∷ ys) h = (first xs h, apart-swap xs ys (rest xs h))
  where
    first : (zs : List ℕ) → AreApart zs (y ∷ ys) → Lacks zs y
    first [] k = tt
    first (z ∷ zs) k = (either-way z y k.0.0, first zs k.1)

    rest : (zs : List ℕ) → AreApart zs (y ∷ ys) → AreApart zs ys
    rest [] k = tt
    rest (z ∷ zs) k = (k.0.1, rest zs k.1)

-- ---- distinct

pub distinct-front : (xs ys : List ℕ) → IsDistinct nat_eq (xs ++ ys) → IsDistinct nat_eq xs
unfolding IsDistinct
distinct-front [] ys d = tt
distinct-front (x ∷ xs) ys d = (each-front (λ y. nat_eq x y ≡ false) xs ys d.0, distinct-front xs ys d.1)

pub distinct-back : (xs ys : List ℕ) → IsDistinct nat_eq (xs ++ ys) → IsDistinct nat_eq ys
unfolding IsDistinct
distinct-back [] ys d = d
distinct-back (x ∷ xs) ys d = distinct-back xs ys d.1

pub distinct-apart : (xs ys : List ℕ) → IsDistinct nat_eq (xs ++ ys) → AreApart xs ys
unfolding IsDistinct
distinct-apart [] ys d = tt
distinct-apart (x ∷ xs) ys d = (each-back (λ y. nat_eq x y ≡ false) xs ys d.0, distinct-apart xs ys d.1)

pub distinct-both : (xs ys : List ℕ) → IsDistinct nat_eq xs → IsDistinct nat_eq ys → AreApart xs ys → IsDistinct nat_eq (xs ++ ys)
unfolding IsDistinct
distinct-both [] ys d e a = e
distinct-both (x ∷ xs) ys d e a = (each-append (λ y. nat_eq x y ≡ false) xs ys d.0 a.0, distinct-both xs ys d.1 e a.1)

pub distinct-none : IsDistinct nat_eq []
unfolding IsDistinct
distinct-none = tt

-- ---- as other words say it

pub lacks-all : (x : ℕ) (ys : List ℕ) → Lacks ys x → All (λ y. y ≢ x) ys
lacks-all x ys h = All-from_recursion (λ y. y ≢ x) ys (each-weaker (λ y. nat_eq x y ≡ false) (λ y. y ≢ x) (λ y e same. grind (arith, nat_tests, e, same)) ys h)

pub all-lacks : (x : ℕ) (ys : List ℕ) → All (λ y. y ≢ x) ys → Lacks ys x
all-lacks x ys h = each-weaker (λ y. y ≢ x) (λ y. nat_eq x y ≡ false) (λ y n. differs y n (nat_eq x y) refl) ys (recursion_from_All (λ y. y ≢ x) ys h)
  where
    differs : (y : ℕ) → y ≢ x → (b : Bool) → nat_eq x y ≡ b → nat_eq x y ≡ false
    differs y n false e = e
    differs y n true e = let same : y ≡ x = grind (arith, nat_tests, e) in absurd (n same)

pub lacks-not : (x : ℕ) (ys : List ℕ) → (Contains ys x → ⊥) → Lacks ys x
lacks-not x [] n = tt
lacks-not x (y ∷ ys) n = (differs (nat_eq x y) refl, lacks-not x ys (λ c. n (Contains-append_right (y ∷ []) ys x c)))
  where
    differs : (b : Bool) → nat_eq x y ≡ b → nat_eq x y ≡ false
    differs false e = e
    differs true e = let same : y ≡ x = grind (arith, nat_tests, e) in absurd (n (0, omega arith, same))

pub has-not : (x : ℕ) (ys : List ℕ) → Lacks ys x → Contains ys x → ⊥
has-not x [] l c = omega (arith, c.1)
has-not x (y ∷ ys) l c = by (has-not x ys l.1) (Contains-append_cases (y ∷ []) ys x c)
  where
    by : (Contains ys x → ⊥) → Contains (y ∷ []) x ⊎ Contains ys x → ⊥
    by later (inl (zero, k, e)) = let same : y ≡ x = e in grind (arith, nat_tests, l.0, same)
    by later (inl (suc j, k, e)) = omega (arith, k)
    by later (inr c') = later c'
