-- Things in lists with names: what is true of each by its name is true of all, and lists whose names are known.
use Rattle.std.proofs.Common.{arith, ◌≡◌, ◌≢◌, ℕ, zero, suc, ◌+◌, ◌<◌, ◌≤◌, List, [], ◌∷◌, ◌++◌, length, map, true, false, Bool, refl, sym, subst, ap, ◌∙◌, ◌⊎◌, inl, inr, length-append}
use Rattle.std.specs.Prelude.{All, bytes_eq, count_by, if◌then◌else◌, ◌||◌}
use Rattle.std.proofs.lemmas.List.{map-append}
use Rattle.std.proofs.lemmas.List.Elements.{All-cons, All-head, All-nil, All-push, All-tail}
use Rattle.rdma_types.specs.declared.names.Name.{Name}
use Rattle.rdma_types.specs.Lists.{has_name, has_word, named}
use Rattle.law_simulation.proofs.relation.Tables.{has_name-append, name-named_there, name_tells, same_name}
use Rattle.law_mailbox.specs.Answered.{for_each}
use Rattle.law_mailbox.proofs.queue_room.Counts.{count_both, count_cons, one_if}

-- ---- by the name

counted_there : {A : Type 0} (name : A → Name) (n : Name) (xs : List A) → has_name name n xs ≡ true → 1 ≤ count_by (λ x. bytes_eq (name x) n) xs
unfolding has_name
counted_there name n [] h = absurd (cc)
counted_there name n (x ∷ xs) h = by (bytes_eq (name x) n) refl (counted_there name n xs) h
  where
    by : (b : Bool) → bytes_eq (name x) n ≡ b → (has_name name n xs ≡ true → 1 ≤ count_by (λ y. bytes_eq (name y) n) xs) → (b || has_name name n xs) ≡ true → 1 ≤ count_by (λ y. bytes_eq (name y) n) (x ∷ xs)
    by true e rest f = let one : one_if (bytes_eq (name x) n) ≡ 1 = ap one_if e in omega (arith, one, count_cons (λ y. bytes_eq (name y) n) x xs)
    by false e rest f = let more = rest f in omega (arith, more, count_cons (λ y. bytes_eq (name y) n) x xs)

-- where no two have one name, what is true of each that is found by a name is true of all
pub all_by_name : {A : Type 0} (P : A → Type 0) (name : A → Name) (none : Name → A) (xs : List A) → ((n : Name) → count_by (λ x. bytes_eq (name x) n) xs ≤ 1) → ((n : Name) → has_name name n xs ≡ true → P (named name (none n) n xs)) → All P xs
unfolding has_name named
all_by_name P name none [] once each = All-nil P
all_by_name P name none (x ∷ xs) once each =
    let same : bytes_eq (name x) (name x) ≡ true = same_name (name x) in
    let first : P x = subst P (ap (λ (b : Bool). if b then x else named name (none (name x)) (name x) xs) same) (each (name x) (ap (λ (b : Bool). b || has_name name (name x) xs) same)) in
    All-cons P x xs first (all_by_name P name none xs (λ n. omega (arith, once n, count_cons (λ y. bytes_eq (name y) n) x xs)) (λ n there. later n there (bytes_eq (name x) n) refl))
  where
    later : (n : Name) → has_name name n xs ≡ true → (b : Bool) → bytes_eq (name x) n ≡ b → P (named name (none n) n xs)
    later n there true e =
        let one : one_if (bytes_eq (name x) n) ≡ 1 = ap one_if e in
        absurd (omega (arith, one, once n, counted_there name n xs there, count_cons (λ y. bytes_eq (name y) n) x xs))
    later n there false e =
        let here : (bytes_eq (name x) n || has_name name n xs) ≡ true = ap (λ (b : Bool). b || has_name name n xs) e ∙ there in
        subst P (ap (λ (b : Bool). if b then x else named name (none n) n xs) e) (each n here)

-- the only one
pub one_listed : {A : Type 0} (name : A → Name) (none : A) (n : Name) (xs : List A) → map name xs ≡ n ∷ [] → xs ≡ named name none n xs ∷ []
unfolding named
one_listed name none n [] e = cc
one_listed name none n (x ∷ y ∷ ys) e = cc
one_listed name none n (x ∷ []) e =
    let same : name x ≡ n = cc in
    let here : bytes_eq (name x) n ≡ true = ap (λ (k : Name). bytes_eq k n) same ∙ same_name n in
    ap (λ (b : Bool). (if b then x else none) ∷ []) (sym here)

-- ---- one for each connection

pub for_each_long : {A : Type 0} (f : ℕ → A) (n : ℕ) → length (for_each f n) ≡ n
for_each_long f zero = refl
for_each_long f (suc n) = let e = for_each_long f n in omega (arith, e, length-append (for_each f n) (f (suc n) ∷ []))

pub for_each_same : {A : Type 0} (x : A) (n : ℕ) → All (λ y. y ≡ x) (for_each (λ i. x) n)
for_each_same x zero = All-nil (λ y. y ≡ x)
for_each_same x (suc n) = All-push (λ y. y ≡ x) (for_each (λ i. x) n) x (for_each_same x n) refl

-- a name among those of connections
pub record IsOfOne (f : ℕ → Name) (n : ℕ) (c : Name) : Type 0 where
  pub i : ℕ
  pub low : 1 ≤ i
  pub high : i ≤ n
  pub same : c ≡ f i

pub of_one : (f : ℕ → Name) (n : ℕ) (c : Name) → has_word c (for_each f n) ≡ true → IsOfOne f n c
unfolding has_name
of_one f zero c h = absurd (cc)
of_one f (suc n) c h = by (has_word c (for_each f n)) refl (bytes_eq (f (suc n)) c) refl (sym (has_name-append (λ x. x) c (for_each f n) (f (suc n) ∷ [])) ∙ h) (of_one f n c)
  where
    by : (a : Bool) → has_word c (for_each f n) ≡ a → (b : Bool) → bytes_eq (f (suc n)) c ≡ b → (has_word c (for_each f n) || (bytes_eq (f (suc n)) c || false)) ≡ true → (has_word c (for_each f n) ≡ true → IsOfOne f n c) → IsOfOne f (suc n) c
    by true e b g t rest = let x = rest e in record { i = x.i; low = x.low; high = let high = x.high in omega (arith, high); same = x.same }
    by false e true g t rest = record { i = suc n; low = omega arith; high = omega arith; same = elim (name_tells (f (suc n)) c) [ inl x ↦ sym x.1 | inr x ↦ let no : true ≡ false = sym g ∙ x.0 in cc ] }
    by false e false g t rest = let no : false ≡ true = sym (ap (λ (a : Bool). a || (bytes_eq (f (suc n)) c || false)) e ∙ ap (λ (b : Bool). b || false) g) ∙ t in cc

-- ---- by the names alone

pub counted_names : {A : Type 0} (name : A → Name) (n : Name) (xs : List A) → count_by (λ x. bytes_eq (name x) n) xs ≡ count_by (λ k. bytes_eq k n) (map name xs)
counted_names name n [] = refl
counted_names name n (x ∷ xs) = let rest = counted_names name n xs in omega (arith, rest, count_cons (λ y. bytes_eq (name y) n) x xs, count_cons (λ k. bytes_eq k n) (name x) (map name xs))

-- ---- a list of which the names are known

-- no two connections have one name
module _ (f : ℕ → Name) where
  none_so : (n : ℕ) (c : Name) → ((i : ℕ) → 1 ≤ i → i ≤ n → f i ≢ c) → count_by (λ k. bytes_eq k c) (for_each f n) ≡ 0
  none_so zero c apart = refl
  none_so (suc n) c apart = by (none_so n c (λ i low high. apart i low (omega (arith, high)))) (name_tells (f (suc n)) c)
    where
      by : count_by (λ k. bytes_eq k c) (for_each f n) ≡ 0 → ((bytes_eq (f (suc n)) c ≡ true) × (f (suc n) ≡ c)) ⊎ ((bytes_eq (f (suc n)) c ≡ false) × (f (suc n) ≢ c)) → count_by (λ k. bytes_eq k c) (for_each f (suc n)) ≡ 0
      by front (inl t) = absurd (apart (suc n) (omega arith) (omega arith) t.1)
      by front (inr t) =
          let last : one_if (bytes_eq (f (suc n)) c) ≡ 0 = ap one_if t.0 in
          omega (arith, front, last, count_both (λ k. bytes_eq k c) (for_each f n) (f (suc n) ∷ []), count_cons (λ k. bytes_eq k c) (f (suc n)) [])

  each_once : (n : ℕ) → ((i k : ℕ) → i < k → k ≤ n → f i ≢ f k) → (c : Name) → count_by (λ k. bytes_eq k c) (for_each f n) ≤ 1
  each_once zero apart c = omega arith
  each_once (suc n) apart c = by (each_once n (λ i k less within. apart i k less (omega (arith, within))) c) (name_tells (f (suc n)) c)
    where
      both : count_by (λ k. bytes_eq k c) (for_each f (suc n)) ≡ count_by (λ k. bytes_eq k c) (for_each f n) + one_if (bytes_eq (f (suc n)) c)
      both = omega (arith, count_both (λ k. bytes_eq k c) (for_each f n) (f (suc n) ∷ []), count_cons (λ k. bytes_eq k c) (f (suc n)) [])

      by : count_by (λ k. bytes_eq k c) (for_each f n) ≤ 1 → ((bytes_eq (f (suc n)) c ≡ true) × (f (suc n) ≡ c)) ⊎ ((bytes_eq (f (suc n)) c ≡ false) × (f (suc n) ≢ c)) → count_by (λ k. bytes_eq k c) (for_each f (suc n)) ≤ 1
      by front (inl t) =
          let one : one_if (bytes_eq (f (suc n)) c) ≡ 1 = ap one_if t.0 in
          let none = none_so n c (λ i low high same. apart i (suc n) (omega (arith, high)) (omega arith) (same ∙ sym t.1)) in
          omega (arith, both, one, none)
      by front (inr t) = let none : one_if (bytes_eq (f (suc n)) c) ≡ 0 = ap one_if t.0 in omega (arith, both, none, front)

each_mapped : {A : Type 0} (h : Name → A) (f : ℕ → Name) (n : ℕ) → map h (for_each f n) ≡ for_each (λ i. h (f i)) n
each_mapped h f zero = refl
each_mapped h f (suc n) = map-append h (for_each f n) (f (suc n) ∷ []) ∙ ap (λ (xs : List _). xs ++ h (f (suc n)) ∷ []) (each_mapped h f n)

by_their_names : {A : Type 0} (name : A → Name) (h : Name → A) (xs : List A) → All (λ x. x ≡ h (name x)) xs → xs ≡ map h (map name xs)
by_their_names name h [] all = refl
by_their_names name h (x ∷ xs) all = λ k. All-head (λ y. y ≡ h (name y)) x xs all k ∷ by_their_names name h xs (All-tail (λ y. y ≡ h (name y)) x xs all) k

-- where the names are those of the connections, and no two are one, each thing is found by the name of its connection
pub all_listed : {A : Type 0} (name : A → Name) (none : Name → A) (f : ℕ → Name) (n : ℕ) (xs : List A) → ((i k : ℕ) → i < k → k ≤ n → f i ≢ f k) → map name xs ≡ for_each f n → xs ≡ for_each (λ i. named name (none (f i)) (f i) xs) n
all_listed name none f n xs apart names =
    let once : (c : Name) → count_by (λ x. bytes_eq (name x) c) xs ≤ 1 =
    λ c. subst (λ (k : ℕ). k ≤ 1) (sym (counted_names name c xs ∙ ap (count_by (λ k. bytes_eq k c)) names)) (each_once f n apart c) in
    let found : All (λ x. x ≡ named name (none (name x)) (name x) xs) xs =
    all_by_name (λ x. x ≡ named name (none (name x)) (name x) xs) name none xs once (λ c there. subst (λ (k : Name). named name (none c) c xs ≡ named name (none k) k xs) (sym (name-named_there name (none c) c xs there)) refl) in
    by_their_names name (λ c. named name (none c) c xs) xs found ∙ (ap (map (λ c. named name (none c) c xs)) names ∙ each_mapped (λ c. named name (none c) c xs) f n)
