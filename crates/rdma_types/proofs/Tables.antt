-- What is found in a list of named things after something is stored.
use Rattle.std.proofs.Common.{arith, ◌≡◌, ℕ, List, [], ◌∷◌, true, false}
use Rattle.std.specs.Prelude.{bytes_eq, ◌||◌}
use Rattle.std.proofs.lemmas.Slice.Eq.{bytes_eq-Decides}
use Rattle.rdma_types.specs.Lists.{named, store_named, has_name}

-- a name equals itself
pub same_name : (n : List ℕ) → bytes_eq n n ≡ true
same_name n = grind (arith, bytes_eq-Decides n n)

-- names that pass the test are equal
pub name_is : (m n : List ℕ) → bytes_eq m n ≡ true → m ≡ n
name_is m n h = grind (arith, bytes_eq-Decides m n)

-- the stored thing is found under its name
pub named-store_same : {A : Type 0} (name : A → List ℕ) (none : A) (k : List ℕ) (x : A) (xs : List A) → name x ≡ k → named name none k (store_named name k x xs) ≡ x
unfolding named store_named
named-store_same name none k x [] h = grind (arith, same_name k)
named-store_same name none k x (y ∷ ys) h = grind (arith, same_name k, named-store_same name none k x ys h)

-- what is found under another name stays
pub named-store_other : {A : Type 0} (name : A → List ℕ) (none : A) (k j : List ℕ) (x : A) (xs : List A) → name x ≡ k → bytes_eq k j ≡ false → named name none j (store_named name k x xs) ≡ named name none j xs
unfolding named store_named
named-store_other name none k j x [] h other = grind (arith, other)
named-store_other name none k j x (y ∷ ys) h other = grind (arith, other, name_is (name y) k, named-store_other name none k j x ys h other)

-- a name is there after a storing where it is that of the stored thing, or was there
pub has_name-store : {A : Type 0} (name : A → List ℕ) (k j : List ℕ) (x : A) (xs : List A) → name x ≡ k → has_name name j (store_named name k x xs) ≡ (bytes_eq k j || has_name name j xs)
unfolding has_name store_named
has_name-store name k j x [] h = grind (arith)
has_name-store name k j x (y ∷ ys) h = grind (arith, name_is (name y) k, has_name-store name k j x ys h)
