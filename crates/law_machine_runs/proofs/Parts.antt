-- One context or one end of the machine is replaced: which others stay.
use Rattle.std.proofs.Common.{◌≡◌, ◌≢◌, ◌⊎◌, ℕ, List, ◌++◌, [], ◌∷◌, map, true, false, Bool, refl, sym, ap, ◌∙◌, inl, inr}
use Rattle.std.specs.Prelude.{bytes_eq, if◌then◌else◌}
use Rattle.rdma_types.specs.declared.names.Name.{Name}
use Rattle.rdma_types.specs.declared.names.ObjName.{ObjName}
use Rattle.rdma_types.specs.Lists.{named, without}
use Rattle.rdma_types.specs.Objects.{Region}
use Rattle.packetless_machine.specs.Machine.{Machine, Context, End, no_context, context_of, end_of, regions_of, with_context, with_end, with_regions}
use Rattle.packetless_machine.specs.Tables.{place_where, replaced}
use Rattle.law_simulation.proofs.relation.Tables.{name-named, name_or_not, name_tells}
use Rattle.law_simulation.proofs.runs.Acting.{end_other, object_or_not, related}

-- ---- lists of things with names

-- a part of each thing stays where the new thing has the part of the old one
pub map_replaced : {A B : Type 0} (g : A → B) (name : A → List ℕ) (none : A) (k : List ℕ) (x : A) (xs : List A) → g x ≡ g (named name none k xs) → map g (replaced name k x xs) ≡ map g xs
unfolding named replaced place_where
map_replaced g name none k x [] h = refl
map_replaced g name none k x (y ∷ ys) h = by (bytes_eq (name y) k) refl h (map_replaced g name none k x ys)
  where
    by : (b : Bool) → bytes_eq (name y) k ≡ b → g x ≡ g (named name none k (y ∷ ys)) → (g x ≡ g (named name none k ys) → map g (replaced name k x ys) ≡ map g ys) → map g (replaced name k x (y ∷ ys)) ≡ map g (y ∷ ys)
    by true e h ih = let here : g x ≡ g y = rw e at h in rw e (ap (λ z. z ∷ map g ys) here)
    by false e h ih = let rest = ih (rw e at h) in rw e (ap (λ zs. g y ∷ zs) rest)

-- .. and what is found of another name
pub others_found : {A : Type 0} (name : A → List ℕ) (none other : A) (k j : List ℕ) (x : A) (xs : List A) → j ≢ k → name x ≡ name (named name none k xs) → named name other j (replaced name k x xs) ≡ named name other j xs
unfolding named replaced place_where
others_found name none other k j x [] ne n = refl
others_found name none other k j x (y ∷ ys) ne n = by (bytes_eq (name y) k) refl n (others_found name none other k j x ys ne)
  where
    apart : bytes_eq (name y) k ≡ true → bytes_eq (name y) j ≡ false
    apart e = elim (name_tells (name y) k) [
      | inl h ↦ elim (name_tells (name y) j) [ inl g ↦ absurd (ne (sym g.1 ∙ h.1)) | inr g ↦ g.0 ]
      | inr h ↦ absurd (cc (e, h.0))
    ]

    by : (b : Bool) → bytes_eq (name y) k ≡ b → name x ≡ name (named name none k (y ∷ ys)) → (name x ≡ name (named name none k ys) → named name other j (replaced name k x ys) ≡ named name other j ys) → named name other j (replaced name k x (y ∷ ys)) ≡ named name other j (y ∷ ys)
    by true e n ih = let same' : name x ≡ name y = rw e at n in let far : bytes_eq (name y) j ≡ false = apart e in rw (e, same', far) refl
    by false e n ih = let rest = ih (rw e at n) in rw e (ap (λ z. if bytes_eq (name y) j then y else z) rest)

-- one more is found by its own name alone
pub pushed_found : {A : Type 0} (name : A → List ℕ) (none : A) (j : List ℕ) (x : A) (xs : List A) → (named name none j (xs ++ x ∷ []) ≡ named name none j xs) ⊎ (name x ≡ j)
unfolding named
pushed_found name none j x [] = elim (name_tells (name x) j) [
  | inl same ↦ inr same.1
  | inr far ↦ inl (ap (λ b. if b then x else none) far.0)
]
pushed_found name none j x (y ∷ ys) = elim (pushed_found name none j x ys) [
  | inl same ↦ inl (ap (λ z. if bytes_eq (name y) j then y else z) same)
  | inr is ↦ inr is
]

-- one that is taken out was found by that name alone
pub without_found : {A : Type 0} (name : A → List ℕ) (none : A) (k j : List ℕ) (xs : List A) → (named name none j (without name k xs) ≡ named name none j xs) ⊎ (k ≡ j)
unfolding named without
without_found name none k j [] = inl refl
without_found name none k j (y ∷ ys) = elim (name_or_not k j) [
  | inl same ↦ inr same
  | inr far ↦ elim (without_found name none k j ys) [
    | inl same ↦ inl (by far (bytes_eq (name y) k) refl same)
    | inr is ↦ inr is
  ]
]
  where
    apart : k ≢ j → bytes_eq (name y) k ≡ true → bytes_eq (name y) j ≡ false
    apart far e = elim (name_tells (name y) k) [
      | inl h ↦ elim (name_tells (name y) j) [ inl g ↦ absurd (far (sym h.1 ∙ g.1)) | inr g ↦ g.0 ]
      | inr h ↦ absurd (cc (e, h.0))
    ]

    by : k ≢ j → (b : Bool) → bytes_eq (name y) k ≡ b → named name none j (without name k ys) ≡ named name none j ys → named name none j (without name k (y ∷ ys)) ≡ named name none j (y ∷ ys)
    by far true e same = rw (e, apart far e) refl
    by far false e same = rw e (ap (λ z. if bytes_eq (name y) j then y else z) same)

-- what is found after one is replaced by another of the same name: the same as before, or the new one under its name
pub found_cases : {A : Type 0} (name : A → List ℕ) (none other : A) (k j : List ℕ) (x : A) (xs : List A) → name none ≡ k → name other ≡ j → name x ≡ name (named name none k xs) → (named name other j (replaced name k x xs) ≡ named name other j xs) ⊎ ((j ≡ k) × (named name other j (replaced name k x xs) ≡ x))
found_cases {A} name none other k j x xs n o h =
    elim (related (λ (a : A) (b : A). (a ≡ b) ⊎ ((name b ≡ k) × (a ≡ x))) (λ a. inl refl) name none other k j x xs h (inr (name-named name none k xs n, refl))) [
      | inl same ↦ inl same
      | inr new ↦ inr (sym (name-named name other j xs o) ∙ new.0, new.1)
    ]

-- ---- contexts

pub context_cases : (m : Machine) (c : Name) (x : Context) (k : Name) → x.name ≡ (context_of m c).name → (context_of (with_context m c x) k ≡ context_of m k) ⊎ ((k ≡ c) × (context_of (with_context m c x) k ≡ x))
unfolding context_of with_context
context_cases m c x k n = found_cases (λ z. z.name) (no_context c) (no_context k) c k x m.contexts refl refl n

-- a part of each context stays
abbrev pub AreKept : {B : Type 0} → (Context → B) → Machine → Machine → Type 0
AreKept f m m' = (k : Name) → f (context_of m' k) ≡ f (context_of m k)

pub kept_then : {B : Type 0} (f : Context → B) (a b c : Machine) → AreKept f a b → AreKept f b c → AreKept f a c
kept_then f a b c first second k = second k ∙ first k

pub context_kept : {B : Type 0} (f : Context → B) (m : Machine) (c : Name) (x : Context) → x.name ≡ (context_of m c).name → f x ≡ f (context_of m c) → AreKept f m (with_context m c x)
context_kept f m c x n h k = elim (context_cases m c x k n) [
  | inl same ↦ ap f same
  | inr here ↦ ap f here.1 ∙ (h ∙ ap (λ j. f (context_of m j)) (sym here.0))
]

pub regions_cases : (m : Machine) (c : Name) (rs : List Region) (k : Name) → (regions_of (with_regions m c rs) k ≡ regions_of m k) ⊎ ((k ≡ c) × (regions_of (with_regions m c rs) k ≡ rs))
unfolding with_regions
regions_cases m c rs k = elim (context_cases m c (record (context_of m c) { regions = rs }) k refl) [
  | inl same ↦ inl (ap (λ x. x.regions) same)
  | inr here ↦ inr (here.0, ap (λ x. x.regions) here.1)
]

-- ---- ends

pub end_cases : (m : Machine) (o : ObjName) (e : End) (q : ObjName) → e.name ≡ (end_of m o).name → (end_of (with_end m o e) q ≡ end_of m q) ⊎ (o ≡ q)
end_cases m o e q n = elim (object_or_not q o) [
  | inl same ↦ inr (sym same)
  | inr far ↦ inl (end_other m o e q n far)
]
