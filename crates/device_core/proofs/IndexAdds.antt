-- The index, where ends come behind the others of a context.
use Rattle.std.proofs.Common.{arith, ◌≡◌, ◌≢◌, ◌≤◌, ◌<◌, ◌+◌, ◌-◌, ℕ, zero, suc, List, [], ◌∷◌, ◌++◌, map, length, true, false, Bool, refl, sym, ap, ◌∙◌, inl, inr, ⊎_elim, subst}
use Rattle.std.specs.Prelude.{bytes_eq, ◌⊎◌, ◌||◌, ◌==◌, Option, Some, None, slice_get}
use Rattle.std.proofs.lemmas.Bool.{cases_Bool, cases_lt}
use Rattle.std.proofs.lemmas.Bool.Decides.{eqb_tells}
use Rattle.rdma_types.specs.declared.names.Name.{Name}
use Rattle.rdma_types.specs.Lists.{has}
use Rattle.protocol.specs.Refusals.{has_context}
use Rattle.protocol.specs.State.{Device, End, context_at}
use Rattle.context_core.specs.Context.{}
use Rattle.law_devices.proofs.Tables.{name_tells}
use Rattle.device_core.specs.declared.index.EndLocation.{EndLocation}
use Rattle.device_core.specs.Index.{IsEndAt, IsIndex, numbers_of, spot}
use Rattle.device_core.proofs.Indexes.{same_entry}

-- ---- an end by its number

pub number_at : (es : List End) (i : ℕ) (e : End) → slice_get es i ≡ Some e → slice_get (map (λ x. x.number) es) i ≡ Some e.number
number_at [] i e h = absurd (cc)
number_at (x ∷ es) zero e h = let same : x ≡ e = cc in ap (λ (z : End). Some z.number) same
number_at (x ∷ es) (suc i) e h = number_at es i e h

pub end_of_number : (es : List End) (i k : ℕ) → slice_get (map (λ x. x.number) es) i ≡ Some k → (e : End) × (slice_get es i ≡ Some e) × (e.number ≡ k)
end_of_number [] i k h = absurd (cc)
end_of_number (x ∷ es) zero k h = (x, refl, cc)
end_of_number (x ∷ es) (suc i) k h = end_of_number es i k h

pub numbered : (d : Device) (n : Name) (place k : ℕ) → IsEndAt d n place k → slice_get (numbers_of (context_at d n)) place ≡ Some k
numbered d n place k e = number_at (context_at d n).ends place e.end e.there ∙ ap Some e.same

pub end-there : (d : Device) (n : Name) (place k : ℕ) → has_context d n ≡ true → slice_get (numbers_of (context_at d n)) place ≡ Some k → IsEndAt d n place k
end-there d n place k lives h = let e = end_of_number (context_at d n).ends place k h in record { lives = lives; end = e.0; there = e.1; same = e.2 }

-- ---- places in joined lists

pub at_left : (xs ys : List ℕ) (i k : ℕ) → i < length xs → slice_get (xs ++ ys) i ≡ Some k → slice_get xs i ≡ Some k
at_left [] ys i k l h = absurd (omega (arith, l))
at_left (x ∷ xs) ys zero k l h = h
at_left (x ∷ xs) ys (suc i) k l h = at_left xs ys i k (omega (arith, l)) h

pub at_right : (xs ys : List ℕ) (i k : ℕ) → length xs ≤ i → slice_get (xs ++ ys) i ≡ Some k → slice_get ys (i - length xs) ≡ Some k
at_right [] ys i k l h = let e : i - 0 ≡ i = omega arith in ap (slice_get ys) e ∙ h
at_right (x ∷ xs) ys zero k l h = absurd (omega (arith, l))
at_right (x ∷ xs) ys (suc i) k l h = let e : suc i - suc (length xs) ≡ i - length xs = omega arith in ap (slice_get ys) e ∙ at_right xs ys i k (omega (arith, l)) h

pub left_at : (xs ys : List ℕ) (i k : ℕ) → slice_get xs i ≡ Some k → slice_get (xs ++ ys) i ≡ Some k
left_at [] ys i k h = absurd (cc)
left_at (x ∷ xs) ys zero k h = h
left_at (x ∷ xs) ys (suc i) k h = left_at xs ys i k h

pub right_at : (xs ys : List ℕ) (i k : ℕ) → slice_get ys i ≡ Some k → slice_get (xs ++ ys) (length xs + i) ≡ Some k
right_at [] ys i k h = let e : 0 + i ≡ i = omega arith in ap (slice_get ys) e ∙ h
right_at (x ∷ xs) ys i k h = let e : suc (length xs) + i ≡ suc (length xs + i) = omega arith in ap (slice_get (x ∷ (xs ++ ys))) e ∙ right_at xs ys i k h

pub has_at : (xs : List ℕ) (i k : ℕ) → slice_get xs i ≡ Some k → has (λ x. x) k xs ≡ true
unfolding has
has_at [] i k h = absurd (cc)
has_at (x ∷ xs) zero k h = elim (eqb_tells x k) [ inl t ↦ ap (λ b. b || has (λ z. z) k xs) t.0 | inr t ↦ absurd (t.1 (cc)) ]
has_at (x ∷ xs) (suc i) k h = or_true (x == k) _ (has_at xs i k h)
  where
    or_true : (a b : Bool) → b ≡ true → (a || b) ≡ true
    or_true true b e = refl
    or_true false b e = e

pub place_in : (xs : List ℕ) (k : ℕ) → has (λ x. x) k xs ≡ true → (i : ℕ) × (slice_get xs i ≡ Some k)
unfolding has
place_in [] k h = absurd (cc)
place_in (x ∷ xs) k h = elim (eqb_tells x k) [
  | inl t ↦ (0, ap Some t.1)
  | inr t ↦ let later = place_in xs k (sym (ap (λ b. b || has (λ z. z) k xs) t.0) ∙ h) in (suc later.0, later.1)
]

-- ---- the index

-- ends with these numbers come behind those of a context, which may be new
pub record Adds (old new : Device) (n : Name) (numbers : List ℕ) : Type 0 where
  pub husks : new.husks ≡ old.husks
  pub live : (m : Name) → m ≢ n → has_context new m ≡ has_context old m
  pub same : (m : Name) → m ≢ n → numbers_of (context_at new m) ≡ numbers_of (context_at old m)
  pub there : has_context new n ≡ true
  pub more : numbers_of (context_at new n) ≡ numbers_of (context_at old n) ++ numbers
  pub none : has_context old n ≡ false → numbers_of (context_at old n) ≡ []

-- the index notes these numbers from a place on, and none of them was noted
pub record Notes (index index' : ℕ → Option EndLocation) (n : Name) (from : ℕ) (numbers : List ℕ) : Type 0 where
  pub here : (i k : ℕ) → slice_get numbers i ≡ Some k → index' k ≡ Some (spot n (from + i))
  pub others : (k : ℕ) → has (λ x. x) k numbers ≡ false → index' k ≡ index k
  pub fresh : (k : ℕ) → has (λ x. x) k numbers ≡ true → index k ≡ None

some_spot : (o : Option EndLocation) (s : EndLocation) → o ≡ Some s → o ≡ None → ⊥
some_spot o s a b = absurd (cc)

pub same_spot : (m n : Name) (p q : ℕ) → Some (spot m p) ≡ Some (spot n q) → (m ≡ n) × (p ≡ q)
same_spot m n p q h = (ap name_of h, ap place_of h)
  where
    name_of : Option EndLocation → Name
    name_of None = []
    name_of (Some s) = s.context

    place_of : Option EndLocation → ℕ
    place_of None = 0
    place_of (Some s) = s.place

not_noted : (index index' : ℕ → Option EndLocation) (n : Name) (from : ℕ) (numbers : List ℕ) (k : ℕ) (s : EndLocation) → Notes index index' n from numbers → index k ≡ Some s → index' k ≡ Some s
not_noted index index' n from numbers k s notes h = elim (cases_Bool (has (λ x. x) k numbers)) [
  | inl t ↦ absurd (some_spot (index k) s h (notes.fresh k t))
  | inr t ↦ notes.others k t ∙ h
]

pub index-adds : (index index' : ℕ → Option EndLocation) (old new : Device) (n : Name) (numbers : List ℕ) → Adds old new n numbers → Notes index index' n (length (numbers_of (context_at old n))) numbers → IsIndex index old → IsIndex index' new
index-adds index index' old new n numbers adds notes i = record {
  ends = λ m place k e. by_name m place k e (name_tells m n);
  entries = λ m place k e. not_noted index index' n (length (numbers_of (context_at old n))) numbers k (spot m place) notes (i.entries m place k (same_entry old new m place k adds.husks e));
  exact = λ m place k h. elim (cases_Bool (has (λ x. x) k numbers)) [
    | inl t ↦
        let p = place_in numbers k t in
        let is = same_spot m n place (length (numbers_of (context_at old n)) + p.0) (sym h ∙ notes.here p.0 k p.1) in
        inl (subst (λ z. IsEndAt new z place k) (sym is.0) (subst (λ z. IsEndAt new n z k) (sym is.1) (end-there new n (length (numbers_of (context_at old n)) + p.0) k adds.there (ap (λ xs. slice_get xs (length (numbers_of (context_at old n)) + p.0)) adds.more ∙ right_at (numbers_of (context_at old n)) numbers p.0 k p.1))))
    | inr t ↦ ⊎_elim (λ e. inl (old_end m place k e (name_tells m n))) (λ e. inr (same_entry new old m place k (sym adds.husks) e)) (i.exact m place k (sym (notes.others k t) ∙ h))
  ];
}
  where
    by_name : (m : Name) (place k : ℕ) → IsEndAt new m place k → ((bytes_eq m n ≡ true) × (m ≡ n)) ⊎ ((bytes_eq m n ≡ false) × (m ≢ n)) → index' k ≡ Some (spot m place)
    by_name m place k e (inr t) = not_noted index index' n (length (numbers_of (context_at old n))) numbers k (spot m place) notes (i.ends m place k (end-there old m place k (sym (adds.live m t.1) ∙ e.lives) (ap (λ xs. slice_get xs place) (sym (adds.same m t.1)) ∙ numbered new m place k e)))
    by_name m place k e (inl t) =
        let at : slice_get (numbers_of (context_at old n) ++ numbers) place ≡ Some k = ap (λ xs. slice_get xs place) (sym adds.more) ∙ (ap (λ z. slice_get (numbers_of (context_at new z)) place) (sym t.1) ∙ numbered new m place k e) in
        elim (cases_lt place (length (numbers_of (context_at old n)))) [
          | inl l ↦ elim (cases_Bool (has_context old n)) [
            | inl lives ↦ not_noted index index' n (length (numbers_of (context_at old n))) numbers k (spot m place) notes (subst (λ z. index k ≡ Some (spot z place)) (sym t.1) (i.ends n place k (end-there old n place k lives (at_left (numbers_of (context_at old n)) numbers place k l at))))
            | inr gone ↦ absurd (omega (arith, l, ap length (adds.none gone)))
          ]
          | inr l ↦
              let where' : length (numbers_of (context_at old n)) + (place - length (numbers_of (context_at old n))) ≡ place = omega (arith, l) in
              notes.here (place - length (numbers_of (context_at old n))) k (at_right (numbers_of (context_at old n)) numbers place k l at) ∙ (λ j. Some (spot (sym t.1 j) (where' j)))
        ]

    old_end : (m : Name) (place k : ℕ) → IsEndAt old m place k → ((bytes_eq m n ≡ true) × (m ≡ n)) ⊎ ((bytes_eq m n ≡ false) × (m ≢ n)) → IsEndAt new m place k
    old_end m place k e (inr t) = end-there new m place k (adds.live m t.1 ∙ e.lives) (ap (λ xs. slice_get xs place) (adds.same m t.1) ∙ numbered old m place k e)
    old_end m place k e (inl t) = end-there new m place k (ap (has_context new) t.1 ∙ adds.there) (ap (λ z. slice_get (numbers_of (context_at new z)) place) t.1 ∙ (ap (λ xs. slice_get xs place) adds.more ∙ left_at (numbers_of (context_at old n)) numbers place k (ap (λ z. slice_get (numbers_of (context_at old z)) place) (sym t.1) ∙ numbered old m place k e)))
