-- Lists of devices and of things with names.
use Rattle.std.proofs.Common.{arith, ◌≡◌, ◌≢◌, ◌+◌, ℕ, List, [], ◌∷◌, ◌++◌, map, true, false, Bool, refl, ap}
use Rattle.std.specs.Prelude.{bytes_eq, ◌||◌, if◌then◌else◌, Some}
use Rattle.std.proofs.lemmas.Bool.Decides.{nat_tests, eqb_tells}
use Rattle.std.proofs.lemmas.List.Sums.{sum_by-append}
use Rattle.std.specs.List.{count_by}
use Rattle.rdma_types.specs.declared.names.Name.{Name}
use Rattle.rdma_types.specs.Lists.{at, first_that, has, has_name, has_word, some, store}

-- the other things stay where one is stored
pub at-store_other : {A : Type 0} (number : A → ℕ) (none : A) (j k : ℕ) (e : A) (xs : List A) → number e ≡ j → k ≢ j → at number none k (store number j e xs) ≡ at number none k xs
unfolding at store
at-store_other number none j k e [] same ne = grind (arith, nat_tests, eqb_tells (number e) k)
at-store_other number none j k e (x ∷ xs) same ne = grind (arith, nat_tests, eqb_tells (number x) j, eqb_tells (number e) k, eqb_tells (number x) k, at-store_other number none j k e xs same ne)

pub has-store : {A : Type 0} (number : A → ℕ) (j k : ℕ) (e : A) (xs : List A) → number e ≡ j → has number j xs ≡ true → has number k (store number j e xs) ≡ has number k xs
unfolding has store
has-store number j k e [] same there = absurd (cc)
has-store number j k e (x ∷ xs) same there = grind (arith, nat_tests, eqb_tells (number x) j, eqb_tells (number e) k, has-store number j k e xs same)

-- nothing stands where a number is not
pub at-absent : {A : Type 0} (number : A → ℕ) (none : A) (k : ℕ) (xs : List A) → has number k xs ≡ false → at number none k xs ≡ none
unfolding has at
at-absent number none k [] h = refl
at-absent number none k (x ∷ xs) h = grind (arith, nat_tests, at-absent number none k xs)

-- names of things
pub has_word-names : {A : Type 0} (name : A → Name) (n : Name) (xs : List A) → has_word n (map name xs) ≡ has_name name n xs
unfolding has_name
has_word-names name n [] = refl
has_word-names name n (x ∷ xs) = ap (λ b. bytes_eq (name x) n || b) (has_word-names name n xs)

pub found_some : {A : Type 0} (test : A → Bool) (d : A) (xs : List A) → first_that test xs ≡ Some d → some test xs ≡ true
unfolding first_that some
found_some test d [] h = absurd (cc)
found_some test d (x ∷ xs) h = grind (arith, found_some test d xs)

count_both : (p : Name → Bool) (xs ys : List Name) → count_by p (xs ++ ys) ≡ count_by p xs + count_by p ys
count_both p xs ys = sum_by-append (λ x. if p x then 1 else 0) xs ys
