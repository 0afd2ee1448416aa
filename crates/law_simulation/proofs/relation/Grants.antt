-- Grants, and messages in progress, where the regions of a context change.
use Rattle.std.proofs.Common.{arith, ◌≡◌, ◌≢◌, ◌<◌, ◌≤◌, ◌+◌, ◌⊎◌, ℕ, zero, suc, List, [], ◌∷◌, ◌++◌, length, get_or, true, false, Bool, refl, sym, ap, ◌∙◌, subst, inl, inr}
use Rattle.std.specs.Prelude.{is_some, ◌||◌, ◌&&◌, ◌==◌, bytes_eq, if◌then◌else◌, All, Contains}
use Rattle.std.specs.List.{count_by}
use Rattle.std.proofs.lemmas.Bool.Decides.{nat_tests, eqb_tells}
use Rattle.std.proofs.lemmas.List.Sums.{sum_by_push}
use Rattle.std.proofs.lemmas.List.Elements.{All-head, All-tail, Contains-append_left}
use Rattle.rdma_types.specs.declared.names.Name.{Name}
use Rattle.rdma_types.specs.Lists.{has_name, named, store_named, store, without, first_that}
use Rattle.rdma_types.specs.Memory.{Right, grants, granted, is_granted, local_key, remote_key, allows, holds}
use Rattle.rdma_types.specs.Objects.{Region, no_region}
use Rattle.protocol.specs.State.{Progress, NoMessage, InSend, InWrite}
use Rattle.packetless_machine.specs.Machine.{End}
use Rattle.law_simulation.specs.Joined.{IsProgress, is_granted_in}
use Rattle.law_simulation.proofs.relation.Tables.{name_tells, count_by-cons, once_later}

-- ---- things in lists

contains_by : {A : Type 0} (x y : A) (xs : List A) (k : ℕ) → k < length (y ∷ xs) → get_or (y ∷ xs) k x ≡ x → (y ≡ x) ⊎ Contains xs x
contains_by x y xs zero l e = inl e
contains_by x y xs (suc k) l e = inr (k, omega (arith, l), e)

pub contains_cases : {A : Type 0} (x y : A) (xs : List A) → Contains (y ∷ xs) x → (y ≡ x) ⊎ Contains xs x
contains_cases x y xs h = contains_by x y xs h.0 h.1 h.2

pub contains_here : {A : Type 0} (x : A) (xs : List A) → Contains (x ∷ xs) x
contains_here x xs = (0, omega arith, refl)

pub contains_later : {A : Type 0} (x y : A) (xs : List A) → Contains xs x → Contains (y ∷ xs) x
contains_later x y xs h = (suc h.0, omega (arith, h.1), h.2)

pub contains_last : {A : Type 0} (x : A) (xs : List A) → Contains (xs ++ x ∷ []) x
contains_last x [] = contains_here x []
contains_last x (y ∷ ys) = contains_later x y (ys ++ x ∷ []) (contains_last x ys)

contains_if : {A : Type 0} (x : A) (b : Bool) (xs ys : List A) → (b ≡ true → Contains xs x) → (b ≡ false → Contains ys x) → Contains (if b then xs else ys) x
contains_if x true xs ys h k = h refl
contains_if x false xs ys h k = k refl

-- a thing that is not taken out is still there
pub contains_without : {A : Type 0} (name : A → Name) (n : Name) (none x : A) (xs : List A) → (named name none n xs ≡ x → ⊥) → Contains xs x → Contains (without name n xs) x
unfolding without named
contains_without name n none x [] other h = h
contains_without name n none x (y ∷ xs) other h =
    contains_if x (bytes_eq (name y) n) xs (y ∷ without name n xs)
    (λ t. elim (contains_cases x y xs h) [ inl e ↦ absurd (other (ap (λ b. if b then y else named name none n xs) t ∙ e)) | inr l ↦ l ])
    (λ t. elim (contains_cases x y xs h) [
      | inl e ↦ subst (λ z. Contains (z ∷ without name n xs) x) (sym e) (contains_here x (without name n xs))
      | inr l ↦ contains_later x y (without name n xs) (contains_without name n none x xs (λ e. other (ap (λ b. if b then y else named name none n xs) t ∙ e)) l)
    ])

-- ---- the first that passes a test

pub first-push : {A : Type 0} (test : A → Bool) (xs ys : List A) → is_some (first_that test xs) ≡ true → is_some (first_that test (xs ++ ys)) ≡ true
unfolding first_that
first-push test [] ys h = absurd (cc)
first-push test (x ∷ xs) ys h = grind (arith, first-push test xs ys)

pub first-store : {A : Type 0} (test : A → Bool) (name : A → Name) (none : A) (n : Name) (e : A) (xs : List A) → has_name name n xs ≡ true → test e ≡ test (named name none n xs) → is_some (first_that test (store_named name n e xs)) ≡ is_some (first_that test xs)
unfolding first_that has_name named store_named
first-store test name none n e [] there h = absurd (cc)
first-store test name none n e (x ∷ xs) there h = grind (arith, name_tells (name x) n, first-store test name none n e xs)

pub first-without : {A : Type 0} (test : A → Bool) (name : A → Name) (none : A) (n : Name) (xs : List A) → test (named name none n xs) ≡ false → is_some (first_that test xs) ≡ true → is_some (first_that test (without name n xs)) ≡ true
unfolding first_that named without
first-without test name none n [] out h = absurd (cc)
first-without test name none n (x ∷ xs) out h = grind (arith, name_tells (name x) n, first-without test name none n xs)

-- ---- grants

or_cases : (a b c : Bool) → (a || b) ≡ true → (b ≡ true → c ≡ true) → (a || c) ≡ true
or_cases true b c h k = refl
or_cases false b c h k = k h

-- one more region
pub granted_push : (key_of : Region → ℕ) (regions more : List Region) (domain : Name) (key place count : ℕ) (right : Right) → is_granted key_of regions domain key place count right ≡ true → is_granted key_of (regions ++ more) domain key place count right ≡ true
unfolding is_granted granted
granted_push key_of regions more domain key place count right h = or_cases (count == 0) _ _ h (first-push (grants key_of domain key place count right) regions more)

-- other bytes in a region
pub granted_store : (key_of : Region → ℕ) (n : Name) (r : Region) (regions : List Region) (domain : Name) (key place count : ℕ) (right : Right) → has_name (λ x. x.name) n regions ≡ true → grants key_of domain key place count right r ≡ grants key_of domain key place count right (named (λ x. x.name) no_region n regions) → is_granted key_of (store_named (λ x. x.name) n r regions) domain key place count right ≡ is_granted key_of regions domain key place count right
unfolding is_granted granted
granted_store key_of n r regions domain key place count right there same = ap (λ b. (count == 0) || b) (first-store (grants key_of domain key place count right) (λ x. x.name) no_region n r regions there same)

-- a region less that has another key
pub granted_without : (key_of : Region → ℕ) (n : Name) (regions : List Region) (domain : Name) (key place count : ℕ) (right : Right) → (count == 0 ≡ false → (key_of (named (λ x. x.name) no_region n regions) == key) ≡ false) → is_granted key_of regions domain key place count right ≡ true → is_granted key_of (without (λ x. x.name) n regions) domain key place count right ≡ true
unfolding is_granted granted grants
granted_without key_of n regions domain key place count right other h = by_count (count == 0) refl h
  where
    test : Region → Bool
    test r = bytes_eq r.domain domain && ((key_of r == key) && (allows r.rights right && holds r place count))

    passes_not : (r : Region) → (key_of r == key) ≡ false → test r ≡ false
    passes_not r e = grind (arith, e)

    by_count : (b : Bool) → (count == 0) ≡ b → (b || is_some (first_that test regions)) ≡ true → (b || is_some (first_that test (without (λ x. x.name) n regions))) ≡ true
    by_count true e g = refl
    by_count false e g = first-without test (λ x. x.name) no_region n regions (passes_not (named (λ x. x.name) no_region n regions) (other e)) g

-- ---- keys

-- a key that no region has
count_none : (k : ℕ) (regions : List Region) → All (λ r. r.keys.local ≢ k) regions → count_by (λ r. r.keys.local == k) regions ≡ 0
count_none k [] all = refl
count_none k (r ∷ rs) all = grind (arith, nat_tests, count_by-cons (λ x. x.keys.local == k) r rs, All-head (λ x. x.keys.local ≢ k) r rs all, count_none k rs (All-tail (λ x. x.keys.local ≢ k) r rs all))

pub keyed_push : (r : Region) (regions : List Region) → ((k : ℕ) → count_by (λ x. x.keys.local == k) regions ≤ 1) → All (λ x. x.keys.local ≢ r.keys.local) regions → (k : ℕ) → count_by (λ x. x.keys.local == k) (regions ++ r ∷ []) ≤ 1
keyed_push r regions once fresh k = grind (arith, nat_tests, sum_by_push (λ x. if x.keys.local == k then 1 else 0) regions r, once k, eqb_tells r.keys.local k, count_none r.keys.local regions fresh)

pub keyed_store : (n : Name) (r : Region) (regions : List Region) (k : ℕ) → has_name (λ x. x.name) n regions ≡ true → r.keys.local ≡ (named (λ x. x.name) no_region n regions).keys.local → count_by (λ x. x.keys.local == k) (store_named (λ x. x.name) n r regions) ≡ count_by (λ x. x.keys.local == k) regions
unfolding has_name named store_named
keyed_store n r [] k there same = absurd (cc)
keyed_store n r (x ∷ xs) k there same = grind (arith, nat_tests, name_tells x.name n, count_by-cons (λ y. y.keys.local == k) x xs, count_by-cons (λ y. y.keys.local == k) r xs, count_by-cons (λ y. y.keys.local == k) x (store_named (λ y. y.name) n r xs), keyed_store n r xs k)

pub keyed_without : (n : Name) (regions : List Region) (k : ℕ) → count_by (λ x. x.keys.local == k) (without (λ x. x.name) n regions) ≤ count_by (λ x. x.keys.local == k) regions
unfolding without
keyed_without n [] k = omega arith
keyed_without n (x ∷ xs) k = grind (arith, nat_tests, name_tells x.name n, count_by-cons (λ y. y.keys.local == k) x xs, count_by-cons (λ y. y.keys.local == k) x (without (λ y. y.name) n xs), keyed_without n xs k)

-- a region is found by its name where it is stored by its key
pub found_counted : (n : Name) (regions : List Region) (k : ℕ) → has_name (λ x. x.name) n regions ≡ true → k ≡ (named (λ y. y.name) no_region n regions).keys.local → 1 ≤ count_by (λ x. x.keys.local == k) regions
unfolding has_name named
found_counted n [] k there same = absurd (cc)
found_counted n (x ∷ xs) k there same = grind (arith, nat_tests, name_tells x.name n, count_by-cons (λ y. y.keys.local == k) x xs, found_counted n xs k)

pub store_by_key : (n : Name) (r : Region) (regions : List Region) → ((k : ℕ) → count_by (λ x. x.keys.local == k) regions ≤ 1) → has_name (λ x. x.name) n regions ≡ true → r.keys.local ≡ (named (λ x. x.name) no_region n regions).keys.local → store (λ x. x.keys.local) r.keys.local r regions ≡ store_named (λ x. x.name) n r regions
unfolding has_name named store_named store
store_by_key n r [] once there same = absurd (cc)
store_by_key n r (x ∷ xs) once there same =
    let later : (k : ℕ) → count_by (λ y. y.keys.local == k) xs ≤ 1 = λ k. once_later (λ y. y.keys.local) k x xs (once k) in
    grind (arith, nat_tests, name_tells x.name n, once r.keys.local, count_by-cons (λ y. y.keys.local == r.keys.local) x xs, found_counted n xs r.keys.local, store_by_key n r xs later)

-- ---- messages in progress

-- one more region
pub progress_push : (q : End) (domain : Name) (regions more : List Region) (p : Progress) → IsProgress q domain regions p → IsProgress q domain (regions ++ more) p
unfolding is_granted_in
progress_push q domain regions more NoMessage h = h
progress_push q domain regions more (InSend bytes receive) h = h
progress_push q domain regions more (InWrite region off count bytes) h =
    (h.0, h.1, h.2, h.3, granted_push remote_key regions more domain _ _ _ _ h.4, record { region = h.5.region; there = Contains-append_left regions more h.5.region h.5.there; local = h.5.local; remote = h.5.remote; place = h.5.place })

-- regions that differ in their bytes alone
pub record SamePlace (r r' : Region) : Type 0 where
  pub name : r'.name ≡ r.name
  pub domain : r'.domain ≡ r.domain
  pub base : r'.base ≡ r.base
  pub length : r'.length ≡ r.length
  pub rights : r'.rights ≡ r.rights
  pub keys : r'.keys ≡ r.keys

same_grants : (key_of : Region → ℕ) (domain : Name) (key place count : ℕ) (right : Right) (r r' : Region) → SamePlace r r' → key_of r' ≡ key_of r → grants key_of domain key place count right r' ≡ grants key_of domain key place count right r
unfolding grants holds
same_grants key_of domain key place count right r r' s k = rw (k, s.domain, s.rights, s.base, s.length) refl

pub local_granted_store : (n : Name) (r : Region) (regions : List Region) (domain : Name) (key place count : ℕ) (right : Right) → has_name (λ x. x.name) n regions ≡ true → SamePlace (named (λ x. x.name) no_region n regions) r → is_granted local_key regions domain key place count right ≡ true → is_granted local_key (store_named (λ x. x.name) n r regions) domain key place count right ≡ true
local_granted_store n r regions domain key place count right there s h = granted_store local_key n r regions domain key place count right there (same_grants local_key domain key place count right _ r s (ap (λ k. k.local) s.keys)) ∙ h

remote_granted_store : (n : Name) (r : Region) (regions : List Region) (domain : Name) (key place count : ℕ) (right : Right) → has_name (λ x. x.name) n regions ≡ true → SamePlace (named (λ x. x.name) no_region n regions) r → is_granted remote_key regions domain key place count right ≡ true → is_granted remote_key (store_named (λ x. x.name) n r regions) domain key place count right ≡ true
remote_granted_store n r regions domain key place count right there s h = granted_store remote_key n r regions domain key place count right there (same_grants remote_key domain key place count right _ r s (ap (λ k. k.remote) s.keys)) ∙ h

-- a region of the list is there, or the new one stands in its place
pub contains_store : {A : Type 0} (name : A → Name) (n : Name) (none e x : A) (xs : List A) → has_name name n xs ≡ true → Contains xs x → Contains (store_named name n e xs) x ⊎ ((named name none n xs ≡ x) × Contains (store_named name n e xs) e)
unfolding has_name named store_named
contains_store name n none e x [] there h = absurd (cc)
contains_store name n none e x (y ∷ xs) there h = by_name (bytes_eq (name y) n) there (contains_cases x y xs h) (λ t c. contains_store name n none e x xs t c)
  where
    by_name : (b : Bool) → (b || has_name name n xs) ≡ true → (y ≡ x) ⊎ Contains xs x → (has_name name n xs ≡ true → Contains xs x → Contains (store_named name n e xs) x ⊎ ((named name none n xs ≡ x) × Contains (store_named name n e xs) e)) →
        Contains (if b then e ∷ xs else y ∷ store_named name n e xs) x ⊎ (((if b then y else named name none n xs) ≡ x) × Contains (if b then e ∷ xs else y ∷ store_named name n e xs) e)
    by_name true t (inl a) later = inr (a, contains_here e xs)
    by_name true t (inr l) later = inl (contains_later x e xs l)
    by_name false t (inl a) later = inl (subst (λ z. Contains (z ∷ store_named name n e xs) x) (sym a) (contains_here x (store_named name n e xs)))
    by_name false t (inr l) later = elim (later t l) [
      | inl c ↦ inl (contains_later x y (store_named name n e xs) c)
      | inr d ↦ inr (d.0, contains_later e y (store_named name n e xs) d.1)
    ]

pub progress_store : (q : End) (domain : Name) (n : Name) (r : Region) (regions : List Region) (p : Progress) → has_name (λ x. x.name) n regions ≡ true → SamePlace (named (λ x. x.name) no_region n regions) r → IsProgress q domain regions p → IsProgress q domain (store_named (λ x. x.name) n r regions) p
unfolding is_granted_in
progress_store q domain n r regions NoMessage there s h = h
progress_store q domain n r regions (InSend bytes receive) there s h = h
progress_store q domain n r regions (InWrite region off count bytes) there s h = (
  h.0,
  h.1,
  h.2,
  h.3,
  remote_granted_store n r regions domain _ _ _ _ there s h.4,
  elim (contains_store (λ x. x.name) n no_region r h.5.region regions there h.5.there) [
    | inl c ↦ record { region = h.5.region; there = c; local = h.5.local; remote = h.5.remote; place = h.5.place }
    | inr d ↦ record {
      region = r;
      there = d.1;
      local = ap (λ k. k.local) s.keys ∙ (ap (λ z. z.keys.local) d.0 ∙ h.5.local);
      remote = ap (λ k. k.remote) s.keys ∙ (ap (λ z. z.keys.remote) d.0 ∙ h.5.remote);
      place = ap (λ b. b + off) (s.base ∙ ap (λ z. z.base) d.0) ∙ h.5.place;
    }
  ],
)
