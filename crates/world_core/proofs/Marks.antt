-- Which names are marked where one is stopped more, and where an image is carried no more.
use Rattle.std.proofs.Common.{◌≡◌, ℕ, ◌||◌, List, [], ◌∷◌, ◌++◌, Bool, true, false, cond, Some, refl, sym, ap, ◌∙◌, bytes_eq, slice_get, zero, suc}
use Rattle.std.specs.List.{remove}
use Rattle.rdma_types.specs.Lists.{has_name}
use Rattle.rdma_types.specs.declared.names.Name.{Name}
use Rattle.rdma_types.proofs.Tables.{name_is, same_name}
use Rattle.law_simulation.proofs.relation.Tables.{has_name-push}

-- a test is true of what was put in
cond_or : (a b : Bool) → cond a true b ≡ (a || b)
cond_or true b = refl
cond_or false b = refl

or_turned : (a b : Bool) → (a || b) ≡ (b || a)
or_turned true true = refl
or_turned true false = refl
or_turned false true = refl
or_turned false false = refl

-- ---- one more

module _ {A : Type 0} (name : A → Name) where
  -- behind others
  pub behind : (told told' : Name → Bool) (xs : List A) (x : A) → ((n : Name) → told n ≡ has_name name n xs) → ((n : Name) → told' n ≡ cond (bytes_eq (name x) n) true (told n)) → (n : Name) → told' n ≡ has_name name n (xs ++ x ∷ [])
  behind told told' xs x was put n =
      put n ∙ (cond_or (bytes_eq (name x) n) (told n)
      ∙ (ap (λ b. bytes_eq (name x) n || b) (was n)
      ∙ (or_turned (bytes_eq (name x) n) (has_name name n xs)
      ∙ sym (has_name-push name n xs x))))

  -- before others
  pub before : (told told' : Name → Bool) (xs : List A) (x : A) → ((n : Name) → told n ≡ has_name name n xs) → ((n : Name) → told' n ≡ cond (bytes_eq (name x) n) true (told n)) → (n : Name) → told' n ≡ has_name name n (x ∷ xs)
  unfolding has_name
  before told told' xs x was put n = put n ∙ (cond_or (bytes_eq (name x) n) (told n) ∙ ap (λ b. bytes_eq (name x) n || b) (was n))

  -- ---- one less

  has-there : (xs : List A) (k : ℕ) (x : A) → slice_get xs k ≡ Some x → has_name name (name x) xs ≡ true
  unfolding has_name
  has-there [] k x h = absurd (cc)
  has-there (y ∷ ys) zero x h = ap (λ (z : A). bytes_eq (name z) (name x) || has_name name (name x) ys) (let q : y ≡ x = cc in q) ∙ ap (λ b. b || has_name name (name x) ys) (same_name (name x))
  has-there (y ∷ ys) (suc k) x h = ap (λ b. bytes_eq (name y) (name x) || b) (has-there ys k x h) ∙ or_turned (bytes_eq (name y) (name x)) true

  has-less : (n : Name) (xs : List A) (k : ℕ) (x : A) → slice_get xs k ≡ Some x → bytes_eq (name x) n ≡ false → has_name name n (remove xs k) ≡ has_name name n xs
  unfolding has_name
  has-less n [] k x h other = absurd (cc)
  has-less n (y ∷ ys) zero x h other = sym (ap (λ (z : A). bytes_eq (name z) n || has_name name n ys) (let q : y ≡ x = cc in q) ∙ ap (λ b. b || has_name name n ys) other)
  has-less n (y ∷ ys) (suc k) x h other = ap (λ b. bytes_eq (name y) n || b) (has-less n ys k x h other)

  -- the name stays, where another thing has it
  pub still : (told : Name → Bool) (xs : List A) (k : ℕ) (x : A) → ((n : Name) → told n ≡ has_name name n xs) → slice_get xs k ≡ Some x → has_name name (name x) (remove xs k) ≡ true → (n : Name) → told n ≡ has_name name n (remove xs k)
  still told xs k x was there other n = was n ∙ by (bytes_eq (name x) n) refl
    where
      by : (b : Bool) → bytes_eq (name x) n ≡ b → has_name name n xs ≡ has_name name n (remove xs k)
      by true e =
          let same : name x ≡ n = name_is (name x) n e in
          ap (λ m. has_name name m xs) (sym same) ∙ (has-there xs k x there ∙ (sym other ∙ ap (λ m. has_name name m (remove xs k)) same))
      by false e = sym (has-less n xs k x there e)

  -- .. and goes, where none has it
  pub gone : (told told' : Name → Bool) (xs : List A) (k : ℕ) (x : A) → ((n : Name) → told n ≡ has_name name n xs) → slice_get xs k ≡ Some x → has_name name (name x) (remove xs k) ≡ false → ((n : Name) → told' n ≡ cond (bytes_eq (name x) n) false (told n)) → (n : Name) → told' n ≡ has_name name n (remove xs k)
  gone told told' xs k x was there none put n = put n ∙ by (bytes_eq (name x) n) refl
    where
      by : (b : Bool) → bytes_eq (name x) n ≡ b → cond b false (told n) ≡ has_name name n (remove xs k)
      by true e =
          let same : name x ≡ n = name_is (name x) n e in
          sym none ∙ ap (λ m. has_name name m (remove xs k)) same
      by false e = was n ∙ sym (has-less n xs k x there e)
