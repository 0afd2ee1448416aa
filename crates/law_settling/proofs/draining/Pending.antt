-- Which datagrams are pending, and how that changes.
use Rattle.std.proofs.Common.{arith, ◌≡◌, ◌≢◌, ◌≤◌, ◌<◌, ◌+◌, ◌-◌, ◌⊎◌, ℕ, zero, suc, List, [], ◌∷◌, ◌++◌, length, get_or, true, false, Bool, refl, sym, ap, ◌∙◌, subst, inl, inr}
use Rattle.std.specs.Prelude.{Contains, Some, None, option_map, if◌then◌else◌, ◌&&◌, ◌==◌, not, slice_get}
use Rattle.std.proofs.lemmas.Bool.Decides.{nat_tests, eqb_tells}
use Rattle.rdma_types.specs.Limits.{most_flights}
use Rattle.protocol.specs.State.{Flight}
use Rattle.protocol.specs.Fabric.{is_kept, changed_at, pending_from, pending_numbers, pending, first_of}

-- datagram k is pending, and is f
pub record IsPending (sent : List Flight) (k : ℕ) (f : Flight) : Type 0 where
  pub there : slice_get sent (k - 1) ≡ Some f
  pub kept : is_kept (length sent) k ≡ true
  pub found : f.lost ≡ false
  pub fresh : f.taken ≡ false

-- ---- places of a list

pub number_or_not : (a b : ℕ) → (a ≡ b) ⊎ (a ≢ b)
number_or_not a b = by_test (a == b) refl
  where
    by_test : (t : Bool) → (a == b) ≡ t → (a ≡ b) ⊎ (a ≢ b)
    by_test true h = inl (grind (arith, nat_tests, eqb_tells a b, h))
    by_test false h = inr (λ e. grind (arith, nat_tests, eqb_tells a b, h, e))

pub contains_here : {A : Type 0} (x : A) (xs : List A) → Contains (x ∷ xs) x
contains_here x xs = (0, omega arith, refl)

pub contains_later : {A : Type 0} (x y : A) (xs : List A) → Contains xs x → Contains (y ∷ xs) x
contains_later x y xs h = (suc h.0, omega (arith, h.1), h.2)

contains_by : {A : Type 0} (x y : A) (xs : List A) (k : ℕ) → k < length (y ∷ xs) → get_or (y ∷ xs) k x ≡ x → (y ≡ x) ⊎ Contains xs x
contains_by x y xs zero l e = inl e
contains_by x y xs (suc k) l e = inr (k, omega (arith, l), e)

pub contains_cases : {A : Type 0} (x y : A) (xs : List A) → Contains (y ∷ xs) x → (y ≡ x) ⊎ Contains xs x
contains_cases x y xs h = contains_by x y xs h.0 h.1 h.2

pub get_append_left : {A : Type 0} (xs ys : List A) (j : ℕ) (x : A) → slice_get xs j ≡ Some x → slice_get (xs ++ ys) j ≡ Some x
get_append_left [] ys j x h = absurd (cc)
get_append_left (z ∷ xs) ys zero x h = h
get_append_left (z ∷ xs) ys (suc j) x h = get_append_left xs ys j x h

pub get_contains : {A : Type 0} (xs : List A) (j : ℕ) (x : A) → slice_get xs j ≡ Some x → Contains xs x
get_contains [] j x h = absurd (cc)
get_contains (z ∷ xs) zero x h = let e : z ≡ x = cc in subst (λ y. Contains (y ∷ xs) x) (sym e) (contains_here x xs)
get_contains (z ∷ xs) (suc j) x h = contains_later x z xs (get_contains xs j x h)

pub get_append_cases : {A : Type 0} (xs ys : List A) (j : ℕ) (x : A) → slice_get (xs ++ ys) j ≡ Some x → (slice_get xs j ≡ Some x) ⊎ ((length xs ≤ j) × Contains ys x)
get_append_cases [] ys j x h = inr (omega arith, get_contains ys j x h)
get_append_cases (z ∷ xs) ys zero x h = inl h
get_append_cases (z ∷ xs) ys (suc j) x h = elim (get_append_cases xs ys j x h) [ inl a ↦ inl a | inr b ↦ inr (omega (arith, b.0), b.1) ]

pub changed_length : {A : Type 0} (change : A → A) (i : ℕ) (xs : List A) → length (changed_at change i xs) ≡ length xs
unfolding changed_at
changed_length change i [] = refl
changed_length change zero (x ∷ xs) = refl
changed_length change (suc i) (x ∷ xs) = ap suc (changed_length change i xs)

pub changed_same : {A : Type 0} (change : A → A) (i : ℕ) (xs : List A) → slice_get (changed_at change i xs) i ≡ option_map change (slice_get xs i)
unfolding changed_at
changed_same change i [] = refl
changed_same change zero (x ∷ xs) = refl
changed_same change (suc i) (x ∷ xs) = changed_same change i xs

pub changed_other : {A : Type 0} (change : A → A) (i j : ℕ) (xs : List A) → j ≢ i → slice_get (changed_at change i xs) j ≡ slice_get xs j
unfolding changed_at
changed_other change i j [] ne = refl
changed_other change zero zero (x ∷ xs) ne = absurd (ne refl)
changed_other change zero (suc j) (x ∷ xs) ne = refl
changed_other change (suc i) zero (x ∷ xs) ne = refl
changed_other change (suc i) (suc j) (x ∷ xs) ne = changed_other change i j xs (λ e. ne (ap suc e))

-- ---- what is kept

pub kept_is : (count k : ℕ) → is_kept count k ≡ true → (1 ≤ k) × (k ≤ count) × (count < k + most_flights)
kept_is count k h = (grind (arith, nat_tests, h), grind (arith, nat_tests, h), grind (arith, nat_tests, h))

pub kept_when : (count k : ℕ) → 1 ≤ k → k ≤ count → count < k + most_flights → is_kept count k ≡ true
kept_when count k a b c = grind (arith, nat_tests)

-- ---- the list of pending numbers

-- j is in the list where the rest of the list begins with datagram k of `count`
record IsIn (count k : ℕ) (fs : List Flight) (j : ℕ) (f : Flight) : Type 0 where
  above : k ≤ j
  there : slice_get fs (j - k) ≡ Some f
  kept : is_kept count j ≡ true
  found : f.lost ≡ false
  fresh : f.taken ≡ false

in_later : (count k : ℕ) (x : Flight) (fs : List Flight) (j : ℕ) (f : Flight) → IsIn count (k + 1) fs j f → IsIn count k (x ∷ fs) j f
in_later count k x fs j f h = record {
  above = omega (arith, h.above);
  there = let e : suc (j - (k + 1)) ≡ j - k = omega (arith, h.above) in subst (λ i. slice_get (x ∷ fs) i ≡ Some f) e (get_later (j - (k + 1)) h.there);
  kept = h.kept;
  found = h.found;
  fresh = h.fresh;
}
  where
    get_later : (i : ℕ) → slice_get fs i ≡ Some f → slice_get (x ∷ fs) (suc i) ≡ Some f
    get_later i g = g

and_parts : (a b c : Bool) → (a && (not b && not c)) ≡ true → (a ≡ true) × (b ≡ false) × (c ≡ false)
and_parts true false false h = (refl, refl, refl)
and_parts true false true h = absurd (cc)
and_parts true true c h = absurd (cc)
and_parts false b c h = absurd (cc)

listed_is : (count k : ℕ) (fs : List Flight) (j : ℕ) → Contains (pending_from count k fs) j → (f : Flight) × IsIn count k fs j f
unfolding pending_from
listed_is count k [] j h = absurd (omega (arith, h.1))
listed_is count k (x ∷ fs) j h = by_test (is_kept count k && (not x.lost && not x.taken)) refl h (listed_is count (k + 1) fs j)
  where
    first_there : (n : ℕ) → slice_get (x ∷ fs) (n - n) ≡ Some x
    first_there n = let e : 0 ≡ n - n = omega arith in subst (λ i. slice_get (x ∷ fs) i ≡ Some x) e refl

    later : ((f : Flight) × IsIn count (k + 1) fs j f) → (f : Flight) × IsIn count k (x ∷ fs) j f
    later g = (g.0, in_later count k x fs j g.0 g.1)

    by_test : (b : Bool) → (is_kept count k && (not x.lost && not x.taken)) ≡ b → Contains (if b then k ∷ pending_from count (k + 1) fs else pending_from count (k + 1) fs) j → (Contains (pending_from count (k + 1) fs) j → (f : Flight) × IsIn count (k + 1) fs j f) → (f : Flight) × IsIn count k (x ∷ fs) j f
    by_test false t g rest = later (rest g)
    by_test true t g rest = elim (contains_cases j k (pending_from count (k + 1) fs) g) [
      | inr c ↦ later (rest c)
      | inl e ↦
          let p = and_parts (is_kept count k) x.lost x.taken t in
          subst (λ i. (f : Flight) × IsIn count k (x ∷ fs) i f) e (x, record { above = omega arith; there = first_there k; kept = p.0; found = p.1; fresh = p.2 })
    ]

is_listed : (count k : ℕ) (fs : List Flight) (j : ℕ) (f : Flight) → IsIn count k fs j f → Contains (pending_from count k fs) j
unfolding pending_from
is_listed count k [] j f h = absurd (cc (h.there))
is_listed count k (x ∷ fs) j f h = by_place (j - k) refl (is_listed count (k + 1) fs j f)
  where
    keep : (b : Bool) → Contains (pending_from count (k + 1) fs) j → Contains (if b then k ∷ pending_from count (k + 1) fs else pending_from count (k + 1) fs) j
    keep true g = contains_later j k _ g
    keep false g = g

    first : (b : Bool) → b ≡ true → k ≡ j → Contains (if b then k ∷ pending_from count (k + 1) fs else pending_from count (k + 1) fs) j
    first true t e = subst (λ i. Contains (i ∷ pending_from count (k + 1) fs) j) (sym e) (contains_here j _)
    first false t e = absurd (cc)

    test_is : (a b c : Bool) → a ≡ true → b ≡ false → c ≡ false → (a && (not b && not c)) ≡ true
    test_is a b c p q r = rw (p, q, r) refl

    get_rest : (i : ℕ) → slice_get (x ∷ fs) (suc i) ≡ Some f → slice_get fs i ≡ Some f
    get_rest i g = g

    by_place : (i : ℕ) → j - k ≡ i → (IsIn count (k + 1) fs j f → Contains (pending_from count (k + 1) fs) j) → Contains (pending_from count k (x ∷ fs)) j
    by_place zero e rest =
        let here : k ≡ j = omega (arith, h.above, e) in
        let is : x ≡ f = cc (subst (λ i. slice_get (x ∷ fs) i ≡ Some f) e h.there) in
        first _ (test_is _ _ _ (ap (is_kept count) here ∙ h.kept) (ap (λ z. z.lost) is ∙ h.found) (ap (λ z. z.taken) is ∙ h.fresh)) here
    by_place (suc i) e rest =
        keep _ (rest (record { above = omega (arith, e); there = let g : i ≡ j - (k + 1) = omega (arith, e) in subst (λ n. slice_get fs n ≡ Some f) g (get_rest i (subst (λ n. slice_get (x ∷ fs) n ≡ Some f) e h.there)); kept = h.kept; found = h.found; fresh = h.fresh }))

-- what is listed is pending, and what is pending is listed
pub numbers_pend : (sent : List Flight) (k : ℕ) → Contains (pending_numbers sent) k → (f : Flight) × IsPending sent k f
numbers_pend sent k h = let g = listed_is (length sent) 1 sent k h in (g.0, record { there = g.1.there; kept = g.1.kept; found = g.1.found; fresh = g.1.fresh })

pub pending_listed : (sent : List Flight) (k : ℕ) (f : Flight) → IsPending sent k f → Contains (pending_numbers sent) k
pending_listed sent k f h = is_listed (length sent) 1 sent k f (record { above = (kept_is (length sent) k h.kept).0; there = h.there; kept = h.kept; found = h.found; fresh = h.fresh })

-- where none is pending, the list is empty
none_listed : (sent : List Flight) (ks : List ℕ) → pending_numbers sent ≡ ks → ((k : ℕ) (f : Flight) → IsPending sent k f → ⊥) → first_of ks ≡ None
none_listed sent [] h none = refl
none_listed sent (k ∷ ks) h none = let g = numbers_pend sent k (subst (λ ns. Contains ns k) (sym h) (contains_here k ks)) in absurd (none k g.0 g.1)

pub none_pending : (sent : List Flight) → ((k : ℕ) (f : Flight) → IsPending sent k f → ⊥) → pending sent ≡ None
unfolding pending
none_pending sent none = none_listed sent (pending_numbers sent) refl none

-- .. and the other way
listed_none : (ks : List ℕ) (k : ℕ) → first_of ks ≡ None → Contains ks k → ⊥
listed_none [] k h c = absurd (omega (arith, c.1))
listed_none (j ∷ ks) k h c = absurd (cc)

pub pending_none : (sent : List Flight) (k : ℕ) (f : Flight) → pending sent ≡ None → IsPending sent k f → ⊥
unfolding pending
pending_none sent k f h p = listed_none (pending_numbers sent) k h (pending_listed sent k f p)
