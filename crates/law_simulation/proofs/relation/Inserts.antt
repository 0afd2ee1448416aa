-- Lists with one more thing somewhere among the others.
use Rattle.std.proofs.Common.{arith, ◌≡◌, ◌≢◌, ◌+◌, map, ℕ, List, [], ◌∷◌, ◌++◌, true, false, Bool, refl, sym, ap, ◌∙◌, subst}
use Rattle.std.specs.Prelude.{flat_map, ◌==◌, bytes_eq, if◌then◌else◌, All, ◌||◌}
use Rattle.std.proofs.lemmas.Bool.Decides.{nat_tests, eqb_tells}
use Rattle.std.proofs.lemmas.List.{append_assoc, map-append}
use Rattle.std.proofs.lemmas.List.Elements.{All-cons, All-head, All-tail}
use Rattle.rdma_types.specs.declared.names.Name.{Name}
use Rattle.rdma_types.specs.declared.names.ObjName.{ObjName}
use Rattle.rdma_types.specs.Lists.{named, has_name, has_word, store_named, has, at, store}
use Rattle.std.specs.List.{count_by}
use Rattle.law_simulation.specs.Views.{name_at}
use Rattle.law_simulation.proofs.relation.Tables.{name_tells, count_by-cons}

-- ys is xs with x among its things
pub record Inserts (A : Type 0) (x : A) (xs ys : List A) : Type 0 where
  pub before : List A
  pub after : List A
  pub was : xs ≡ before ++ after
  pub is : ys ≡ before ++ x ∷ after

inserts_if : {A : Type 0} (x : A) (xs ys zs : List A) (b : Bool) → (b ≡ true → Inserts A x xs ys) → (b ≡ false → Inserts A x xs zs) → Inserts A x xs (if b then ys else zs)
inserts_if x xs ys zs true h k = h refl
inserts_if x xs ys zs false h k = k refl

inserts_after : {A : Type 0} (x : A) (front xs ys : List A) → Inserts A x xs ys → Inserts A x (front ++ xs) (front ++ ys)
inserts_after x front xs ys i = record {
  before = front ++ i.before;
  after = i.after;
  was = ap (λ zs. front ++ zs) i.was ∙ sym (append_assoc front i.before i.after);
  is = ap (λ zs. front ++ zs) i.is ∙ sym (append_assoc front i.before (x ∷ i.after));
}

-- one more part of the thing with a name
pub inserts_flat : {A B : Type 0} (f : A → List B) (name : A → Name) (none : A) (n : Name) (e : A) (b : B) (xs : List A) → has_name name n xs ≡ true → f e ≡ f (named name none n xs) ++ b ∷ [] → Inserts B b (flat_map f xs) (flat_map f (store_named name n e xs))
unfolding has_name named store_named
inserts_flat f name none n e b [] there h = absurd (cc)
inserts_flat f name none n e b (x ∷ xs) there h =
    subst (λ zs. Inserts _ b (f x ++ flat_map f xs) zs) (flat_if (bytes_eq (name x) n))
    (inserts_if b (f x ++ flat_map f xs) (f e ++ flat_map f xs) (f x ++ flat_map f (store_named name n e xs)) (bytes_eq (name x) n)
    (λ t. record { before = f x; after = flat_map f xs; was = refl; is = ap (λ zs. zs ++ flat_map f xs) (h ∙ ap (λ c. f (if c then x else named name none n xs) ++ b ∷ []) t) ∙ append_assoc (f x) (b ∷ []) (flat_map f xs) })
    (λ t. inserts_after b (f x) (flat_map f xs) (flat_map f (store_named name n e xs))
    (inserts_flat f name none n e b xs (subst (λ c. (c || has_name name n xs) ≡ true) t there) (h ∙ ap (λ c. f (if c then x else named name none n xs) ++ b ∷ []) t))))
  where
    flat_if : (c : Bool) → (if c then f e ++ flat_map f xs else f x ++ flat_map f (store_named name n e xs)) ≡ flat_map f (if c then e ∷ xs else x ∷ store_named name n e xs)
    flat_if true = refl
    flat_if false = refl

all_inserted : {A : Type 0} (P : A → Type 0) (x : A) (before after : List A) → All P (before ++ after) → P x → All P (before ++ x ∷ after)
all_inserted P x [] after all h = All-cons P x after h all
all_inserted P x (y ∷ before) after all h = All-cons P y (before ++ x ∷ after) (All-head P y (before ++ after) all) (all_inserted P x before after (All-tail P y (before ++ after) all) h)

pub inserts_all : {A : Type 0} (P : A → Type 0) (x : A) (xs ys : List A) → Inserts A x xs ys → All P xs → P x → All P ys
inserts_all P x xs ys i all h = subst (All P) (sym i.is) (all_inserted P x i.before i.after (subst (All P) i.was all) h)

-- ---- names beside numbers

skipped : (x : ℕ × ObjName) (before after : List (ℕ × ObjName)) (k : ℕ) → x.0 ≢ k → name_at (before ++ x ∷ after) k ≡ name_at (before ++ after) k
unfolding name_at
skipped x [] after k ne = grind (arith, nat_tests, eqb_tells x.0 k)
skipped x (y ∷ before) after k ne = grind (arith, nat_tests, skipped x before after k ne)

pub name_other : (x : ℕ × ObjName) (xs ys : List (ℕ × ObjName)) (k : ℕ) → Inserts (ℕ × ObjName) x xs ys → x.0 ≢ k → name_at ys k ≡ name_at xs k
name_other x xs ys k i ne = ap (λ zs. name_at zs k) i.is ∙ (skipped x i.before i.after k ne ∙ ap (λ zs. name_at zs k) (sym i.was))

reached : (x : ℕ × ObjName) (before after : List (ℕ × ObjName)) → All (λ z. z.0 ≢ x.0) (before ++ after) → name_at (before ++ x ∷ after) x.0 ≡ x.1
unfolding name_at
reached x [] after all = grind (arith, nat_tests, eqb_tells x.0 x.0)
reached x (y ∷ before) after all = grind (arith, nat_tests, eqb_tells y.0 x.0, All-head (λ z. z.0 ≢ x.0) y (before ++ after) all, reached x before after (All-tail (λ z. z.0 ≢ x.0) y (before ++ after) all))

pub name_here : (x : ℕ × ObjName) (xs ys : List (ℕ × ObjName)) → Inserts (ℕ × ObjName) x xs ys → All (λ z. z.0 ≢ x.0) xs → name_at ys x.0 ≡ x.1
name_here x xs ys i all = ap (λ zs. name_at zs x.0) i.is ∙ reached x i.before i.after (subst (All (λ z. z.0 ≢ x.0)) i.was all)

-- ---- things in the parts of things found by a number, and by name

-- one more part of the thing with a number
pub inserts_flat_at : {A B : Type 0} (f : A → List B) (number : A → ℕ) (none : A) (k : ℕ) (e : A) (b : B) (xs : List A) → has number k xs ≡ true → f e ≡ f (at number none k xs) ++ b ∷ [] → Inserts B b (flat_map f xs) (flat_map f (store number k e xs))
unfolding has at store
inserts_flat_at f number none k e b [] there h = absurd (cc)
inserts_flat_at f number none k e b (x ∷ xs) there h =
    subst (λ zs. Inserts _ b (f x ++ flat_map f xs) zs) (flat_if (number x == k))
    (inserts_if b (f x ++ flat_map f xs) (f e ++ flat_map f xs) (f x ++ flat_map f (store number k e xs)) (number x == k)
    (λ t. record { before = f x; after = flat_map f xs; was = refl; is = ap (λ zs. zs ++ flat_map f xs) (h ∙ ap (λ c. f (if c then x else at number none k xs) ++ b ∷ []) t) ∙ append_assoc (f x) (b ∷ []) (flat_map f xs) })
    (λ t. inserts_after b (f x) (flat_map f xs) (flat_map f (store number k e xs))
    (inserts_flat_at f number none k e b xs (subst (λ c. (c || has number k xs) ≡ true) t there) (h ∙ ap (λ c. f (if c then x else at number none k xs) ++ b ∷ []) t))))
  where
    flat_if : (c : Bool) → (if c then f e ++ flat_map f xs else f x ++ flat_map f (store number k e xs)) ≡ flat_map f (if c then e ∷ xs else x ∷ store number k e xs)
    flat_if true = refl
    flat_if false = refl

pub inserts_before : {A : Type 0} (x : A) (back xs ys : List A) → Inserts A x xs ys → Inserts A x (xs ++ back) (ys ++ back)
inserts_before x back xs ys i = record {
  before = i.before;
  after = i.after ++ back;
  was = ap (λ zs. zs ++ back) i.was ∙ append_assoc i.before i.after back;
  is = ap (λ zs. zs ++ back) i.is ∙ append_assoc i.before (x ∷ i.after) back;
}

pub inserts_map : {A B : Type 0} (f : A → B) (x : A) (xs ys : List A) → Inserts A x xs ys → Inserts B (f x) (map f xs) (map f ys)
inserts_map f x xs ys i = record {
  before = map f i.before;
  after = map f i.after;
  was = ap (map f) i.was ∙ map-append f i.before i.after;
  is = ap (map f) i.is ∙ map-append f i.before (x ∷ i.after);
}

named_past : {A : Type 0} (name : A → Name) (none x : A) (n : Name) (before after : List A) → name x ≢ n → named name none n (before ++ x ∷ after) ≡ named name none n (before ++ after)
unfolding named
named_past name none x n [] after ne = grind (arith, name_tells (name x) n, ne)
named_past name none x n (y ∷ before) after ne = grind (arith, named_past name none x n before after ne)

pub named_other : {A : Type 0} (name : A → Name) (none x : A) (n : Name) (xs ys : List A) → Inserts A x xs ys → name x ≢ n → named name none n ys ≡ named name none n xs
named_other name none x n xs ys i ne = ap (named name none n) i.is ∙ (named_past name none x n i.before i.after ne ∙ ap (named name none n) (sym i.was))

named_first : {A : Type 0} (name : A → Name) (none x : A) (n : Name) (before after : List A) → has_name name n (before ++ after) ≡ false → name x ≡ n → named name none n (before ++ x ∷ after) ≡ x
unfolding has_name named
named_first name none x n [] after lacks h = grind (arith, name_tells (name x) n)
named_first name none x n (y ∷ before) after lacks h = grind (arith, name_tells (name x) n, named_first name none x n before after)

pub named_here : {A : Type 0} (name : A → Name) (none x : A) (n : Name) (xs ys : List A) → Inserts A x xs ys → has_name name n xs ≡ false → name x ≡ n → named name none n ys ≡ x
named_here name none x n xs ys i lacks h = ap (named name none n) i.is ∙ named_first name none x n i.before i.after (ap (has_name name n) (sym i.was) ∙ lacks) h

has_with : {A : Type 0} (name : A → Name) (x : A) (n : Name) (before after : List A) → has_name name n (before ++ x ∷ after) ≡ (has_name name n (before ++ after) || bytes_eq (name x) n)
unfolding has_name
has_with name x n [] after = grind arith
has_with name x n (y ∷ before) after = grind (arith, has_with name x n before after)

pub has_inserted : {A : Type 0} (name : A → Name) (x : A) (n : Name) (xs ys : List A) → Inserts A x xs ys → has_name name n ys ≡ (has_name name n xs || bytes_eq (name x) n)
has_inserted name x n xs ys i = ap (has_name name n) i.is ∙ (has_with name x n i.before i.after ∙ ap (λ zs. has_name name n zs || bytes_eq (name x) n) (sym i.was))

count_with : {A : Type 0} (p : A → Bool) (x : A) (before after : List A) → count_by p (before ++ x ∷ after) ≡ (if p x then 1 else 0) + count_by p (before ++ after)
count_with p x [] after = count_by-cons p x after
count_with p x (y ∷ before) after = grind (arith, count_by-cons p y (before ++ x ∷ after), count_by-cons p y (before ++ after), count_with p x before after)

pub count_inserted : {A : Type 0} (p : A → Bool) (x : A) (xs ys : List A) → Inserts A x xs ys → count_by p ys ≡ (if p x then 1 else 0) + count_by p xs
count_inserted p x xs ys i = ap (count_by p) i.is ∙ (count_with p x i.before i.after ∙ ap (λ zs. (if p x then 1 else 0) + count_by p zs) (sym i.was))

-- a name that is not there
pub count_lacking : (n : Name) (names : List Name) → has_word n names ≡ false → count_by (λ k. bytes_eq k n) names ≡ 0
unfolding has_name
count_lacking n [] h = refl
count_lacking n (k ∷ names) h = grind (arith, count_by-cons (λ j. bytes_eq j n) k names, count_lacking n names)
