-- Lists without the first thing of a name.
use Rattle.std.proofs.Common.{arith, ◌≡◌, ◌≢◌, ◌+◌, ℕ, List, [], ◌∷◌, ◌++◌, map, true, false, Bool, refl, sym, ap, ◌∙◌, inl, inr, subst}
use Rattle.std.specs.Prelude.{All, AllPairs, bytes_eq, ◌⊎◌, ◌||◌, if◌then◌else◌}
use Rattle.std.specs.List.{sum_by}
use Rattle.std.proofs.lemmas.List.Elements.{All-cons, All-head, All-tail}
use Rattle.std.proofs.lemmas.List.Sums.{sum_by-cons}
use Rattle.rdma_types.specs.declared.names.Name.{Name}
use Rattle.rdma_types.specs.Lists.{has_name, named, without}
use Rattle.law_devices.proofs.Tables.{name_tells}
use Rattle.device_core.proofs.Pairs.{pairs-head, pairs-tail, pairs-cons}

module _ {A : Type 0} (name : A → Name) where
  -- another name is found as before
  pub has-without_other : (n m : Name) (hs : List A) → n ≢ m → has_name name m (without name n hs) ≡ has_name name m hs
  unfolding has_name without
  has-without_other n m [] other = refl
  has-without_other n m (h ∷ hs) other = by_test (name_tells (name h) n) (name_tells (name h) m) (has-without_other n m hs other)
    where
      by_test : ((bytes_eq (name h) n ≡ true) × (name h ≡ n)) ⊎ ((bytes_eq (name h) n ≡ false) × (name h ≢ n)) → ((bytes_eq (name h) m ≡ true) × (name h ≡ m)) ⊎ ((bytes_eq (name h) m ≡ false) × (name h ≢ m))
          → has_name name m (without name n hs) ≡ has_name name m hs → has_name name m (if bytes_eq (name h) n then hs else h ∷ without name n hs) ≡ (bytes_eq (name h) m || has_name name m hs)
      by_test (inl t) (inl u) later = absurd (other (sym t.1 ∙ u.1))
      by_test (inl t) (inr u) later = ap (λ b. has_name name m (if b then hs else h ∷ without name n hs)) t.0 ∙ ap (λ b. b || has_name name m hs) (sym u.0)
      by_test (inr t) u later = ap (λ b. has_name name m (if b then hs else h ∷ without name n hs)) t.0 ∙ ap (λ b. bytes_eq (name h) m || b) later

  pub named-without_other : (none : A) (n m : Name) (hs : List A) → n ≢ m → named name none m (without name n hs) ≡ named name none m hs
  unfolding named without
  named-without_other none n m [] other = refl
  named-without_other none n m (h ∷ hs) other = by_test (name_tells (name h) n) (name_tells (name h) m) (named-without_other none n m hs other)
    where
      by_test : ((bytes_eq (name h) n ≡ true) × (name h ≡ n)) ⊎ ((bytes_eq (name h) n ≡ false) × (name h ≢ n)) → ((bytes_eq (name h) m ≡ true) × (name h ≡ m)) ⊎ ((bytes_eq (name h) m ≡ false) × (name h ≢ m))
          → named name none m (without name n hs) ≡ named name none m hs → named name none m (if bytes_eq (name h) n then hs else h ∷ without name n hs) ≡ (if bytes_eq (name h) m then h else named name none m hs)
      by_test (inl t) (inl u) later = absurd (other (sym t.1 ∙ u.1))
      by_test (inl t) (inr u) later = ap (λ b. named name none m (if b then hs else h ∷ without name n hs)) t.0 ∙ ap (λ b. if b then h else named name none m hs) (sym u.0)
      by_test (inr t) u later = ap (λ b. named name none m (if b then hs else h ∷ without name n hs)) t.0 ∙ ap (λ b. if bytes_eq (name h) m then h else b) later

  -- names stand once, so this name is gone
  apart-lacks : (n : Name) (hs : List A) → All (λ m. n ≢ m) (map name hs) → has_name name n hs ≡ false
  unfolding has_name
  apart-lacks n [] all = refl
  apart-lacks n (h ∷ hs) all = elim (name_tells (name h) n) [
    | inl t ↦ absurd (All-head (λ m. n ≢ m) (name h) (map name hs) all (sym t.1))
    | inr t ↦ ap (λ b. b || has_name name n hs) t.0 ∙ apart-lacks n hs (All-tail (λ m. n ≢ m) (name h) (map name hs) all)
  ]

  pub without-lacks : (n : Name) (hs : List A) → AllPairs (λ a b. a ≢ b) (map name hs) → has_name name n (without name n hs) ≡ false
  unfolding has_name without
  without-lacks n [] pairs = refl
  without-lacks n (h ∷ hs) pairs = by_test (name_tells (name h) n) (without-lacks n hs (pairs-tail (λ a b. a ≢ b) (name h) (map name hs) pairs))
    where
      by_test : ((bytes_eq (name h) n ≡ true) × (name h ≡ n)) ⊎ ((bytes_eq (name h) n ≡ false) × (name h ≢ n)) → has_name name n (without name n hs) ≡ false → has_name name n (if bytes_eq (name h) n then hs else h ∷ without name n hs) ≡ false
      by_test (inl t) later =
          ap (λ b. has_name name n (if b then hs else h ∷ without name n hs)) t.0
          ∙ apart-lacks n hs (subst (λ k. All (λ m. k ≢ m) (map name hs)) t.1 (pairs-head (λ a b. a ≢ b) (name h) (map name hs) pairs))
      by_test (inr t) later =
          ap (λ b. has_name name n (if b then hs else h ∷ without name n hs)) t.0
          ∙ (ap (λ b. b || has_name name n (without name n hs)) t.0 ∙ later)

  -- what all names keep the others keep
  All-names : (P : Name → Type 0) (n : Name) (hs : List A) → All P (map name hs) → All P (map name (without name n hs))
  unfolding without
  All-names P n [] all = all
  All-names P n (h ∷ hs) all = by_test (bytes_eq (name h) n) (All-names P n hs (All-tail P (name h) (map name hs) all))
    where
      by_test : (b : Bool) → All P (map name (without name n hs)) → All P (map name (if b then hs else h ∷ without name n hs))
      by_test true later = All-tail P (name h) (map name hs) all
      by_test false later = All-cons P (name h) (map name (without name n hs)) (All-head P (name h) (map name hs) all) later

  pub pairs-without : (n : Name) (hs : List A) → AllPairs (λ a b. a ≢ b) (map name hs) → AllPairs (λ a b. a ≢ b) (map name (without name n hs))
  unfolding without
  pairs-without n [] pairs = pairs
  pairs-without n (h ∷ hs) pairs = by_test (bytes_eq (name h) n) (pairs-without n hs (pairs-tail (λ a b. a ≢ b) (name h) (map name hs) pairs)) (All-names (λ m. (name h) ≢ m) n hs (pairs-head (λ a b. a ≢ b) (name h) (map name hs) pairs))
    where
      by_test : (b : Bool) → AllPairs (λ a b. a ≢ b) (map name (without name n hs)) → All (λ m. (name h) ≢ m) (map name (without name n hs)) → AllPairs (λ a b. a ≢ b) (map name (if b then hs else h ∷ without name n hs))
      by_test true later head = pairs-tail (λ a b. a ≢ b) (name h) (map name hs) pairs
      by_test false later head = pairs-cons (λ a b. a ≢ b) (name h) (map name (without name n hs)) head later

  pub sum-without : (f : A → ℕ) (none : A) (n : Name) (hs : List A) → has_name name n hs ≡ true → sum_by f (without name n hs) + f (named name none n hs) ≡ sum_by f hs
  unfolding has_name without named
  sum-without f none n [] there = absurd (cc)
  sum-without f none n (h ∷ hs) there = elim (name_tells (name h) n) [
    | inl t ↦ grind (arith, t.0, sum_by-cons f h hs)
    | inr t ↦
        let rest : has_name name n hs ≡ true = subst (λ b. (b || has_name name n hs) ≡ true) t.0 there in
        grind (arith, t.0, sum_by-cons f h hs, sum_by-cons f h (without name n hs), sum-without f none n hs rest)
  ]

-- where nothing has a name, nothing is found
pub named-absent : {A : Type 0} (name : A → List ℕ) (none : A) (n : List ℕ) (xs : List A) → has_name name n xs ≡ false → named name none n xs ≡ none
unfolding has_name named
named-absent name none n [] h = refl
named-absent name none n (x ∷ xs) h = grind (arith, named-absent name none n xs)

-- a thing of another name at the end changes nothing
pub named-push_other : {A : Type 0} (name : A → List ℕ) (none : A) (n : List ℕ) (xs : List A) (e : A) → has_name name n xs ≡ false → name e ≢ n → named name none n (xs ++ e ∷ []) ≡ none
unfolding has_name named
named-push_other name none n [] e h other = elim (name_tells (name e) n) [ inl t ↦ absurd (other t.1) | inr t ↦ ap (λ b. if b then e else none) t.0 ]
named-push_other name none n (x ∷ xs) e h other = grind (arith, named-push_other name none n xs e)
