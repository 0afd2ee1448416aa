-- Lists that are read by place until their end, and ids among ids.
use Rattle.std.proofs.Common.{arith, ◌≡◌, ◌<◌, ℕ, List, [], ◌∷◌, ◌++◌, map, length, true, false, Bool, refl, sym, ap, ◌∙◌, Option, Some, None, append_assoc, append-nil, ◌-◌, subst, slice_get}
use Rattle.std.specs.Prelude.{◌==◌, ◌||◌, ◌&&◌, option_map}
use Rattle.std.proofs.lemmas.List.{length-append, length-map}
use Rattle.std.proofs.lemmas.Option.{slice_get-map, slice_get_within}
use Rattle.std.specs.List.{list_all, list_any}
use Rattle.rdma_types.specs.Lists.{has}
use Rattle.protocol.specs.State.{Device}

pub has-any : {A : Type 0} (number : A → ℕ) (k : ℕ) (xs : List A) → list_any (λ j. j == k) (map number xs) ≡ has number k xs
unfolding has
has-any number k [] = refl
has-any number k (x ∷ xs) = ap (λ b. (number x == k) || b) (has-any number k xs)

pub all-any : (ids : List ℕ) (ds : List Device) (ks : List ℕ) → ids ≡ map (λ d. d.id) ds → list_all (λ k. list_any (λ j. j == k) ids) ks ≡ list_all (λ k. has (λ d. d.id) k ds) ks
all-any ids ds [] is = refl
all-any ids ds (k ∷ ks) is = ap (λ b. b && list_all (λ z. list_any (λ j. j == z) ids) ks) (ap (list_any (λ j. j == k)) is ∙ has-any (λ d. d.id) k ds) ∙ ap (λ b. has (λ d. d.id) k ds && b) (all-any ids ds ks is)

-- the first of them is not there, or the others decide
pub first_lacks : (ids : List ℕ) (ds : List Device) (k : ℕ) (ks : List ℕ) (slice : List ℕ) → slice ≡ ids → ids ≡ map (λ d. d.id) ds → list_any (λ j. j == k) slice ≡ false → false ≡ list_all (λ z. has (λ d. d.id) z ds) (k ∷ ks)
first_lacks ids ds k ks slice same is none =
    sym (ap (λ b. b && list_all (λ z. list_any (λ j. j == z) ids) ks) (ap (list_any (λ j. j == k)) (sym same) ∙ none)) ∙ all-any ids ds (k ∷ ks) is

pub others_decide : (ids : List ℕ) (ds : List Device) (k : ℕ) (ks : List ℕ) (slice : List ℕ) (b : Bool) → slice ≡ ids → ids ≡ map (λ d. d.id) ds → list_any (λ j. j == k) slice ≡ true → b ≡ list_all (λ z. list_any (λ j. j == z) slice) ks → b ≡ list_all (λ z. has (λ d. d.id) z ds) (k ∷ ks)
others_decide ids ds k ks slice b same is there rest =
    rest ∙ (ap (λ xs. list_all (λ z. list_any (λ j. j == z) xs) ks) same
    ∙ (sym (ap (λ c. c && list_all (λ z. list_any (λ j. j == z) ids) ks) (ap (list_any (λ j. j == k)) (sym same) ∙ there)) ∙ all-any ids ds (k ∷ ks) is))

-- a list begins with another
pub record IsPrefix {A : Type 0} (xs ys : List A) : Type 0 where
  pub rest : List A
  pub is : xs ≡ ys ++ rest

get_after : {A : Type 0} (ys zs : List A) → slice_get (ys ++ zs) (length ys) ≡ slice_get zs 0
get_after [] zs = refl
get_after (y ∷ ys) zs = get_after ys zs

same_some : {A : Type 0} (a b : A) → Some a ≡ Some b → a ≡ b
same_some a b h = cc

pub prefix_more : {A : Type 0} (xs ys : List A) (x : A) → IsPrefix xs ys → slice_get xs (length ys) ≡ Some x → IsPrefix xs (ys ++ x ∷ [])
prefix_more {A} xs ys x p there = by p.rest p.is (sym (get_after ys p.rest) ∙ (ap (λ zs. slice_get zs (length ys)) (sym p.is) ∙ there))
  where
    by : (zs : List A) → xs ≡ ys ++ zs → slice_get zs 0 ≡ Some x → IsPrefix xs (ys ++ x ∷ [])
    by [] is first = absurd (cc)
    by (z ∷ zs) is first = record { rest = zs; is = is ∙ (ap (λ k. ys ++ k ∷ zs) (same_some z x first) ∙ sym (append_assoc ys (x ∷ []) zs)) }

pub prefix_end : {A : Type 0} (xs ys : List A) → IsPrefix xs ys → slice_get xs (length ys) ≡ None → ys ≡ xs
prefix_end {A} xs ys p none = by p.rest p.is (sym (get_after ys p.rest) ∙ (ap (λ zs. slice_get zs (length ys)) (sym p.is) ∙ none))
  where
    by : (zs : List A) → xs ≡ ys ++ zs → slice_get zs 0 ≡ None → ys ≡ xs
    by [] is first = sym (is ∙ append-nil ys)
    by (z ∷ zs) is first = absurd (cc)

-- ---- a list of what a function gives, read one by one

pub none_read : {A : Type 0} (xs ys : List A) → ys ≡ [] → IsPrefix xs ys
none_read xs ys is = record { rest = xs; is = sym (ap (λ zs. zs ++ xs) is) }

there : {A B : Type 0} (f : A → B) (xs : List A) (ys : List B) (n : ℕ) (o : Option B) → n ≡ length ys → o ≡ option_map f (slice_get xs n) → slice_get (map f xs) (length ys) ≡ o
there f xs ys n o at is = ap (slice_get (map f xs)) (sym at) ∙ (slice_get-map f xs n ∙ sym is)

pub more_read : {A B : Type 0} (f : A → B) (xs : List A) (ys zs : List B) (n : ℕ) (x : B) → IsPrefix (map f xs) ys → n ≡ length ys → Some x ≡ option_map f (slice_get xs n) → zs ≡ ys ++ x ∷ [] → IsPrefix (map f xs) zs
more_read f xs ys zs n x p at is push = subst (IsPrefix (map f xs)) (sym push) (prefix_more (map f xs) ys x p (there f xs ys n (Some x) at is))

pub all_read : {A B : Type 0} (f : A → B) (xs : List A) (ys : List B) (n : ℕ) → IsPrefix (map f xs) ys → n ≡ length ys → None ≡ option_map f (slice_get xs n) → ys ≡ map f xs
all_read f xs ys n p at is = prefix_end (map f xs) ys p (there f xs ys n None at is)

pub shorter : {A B : Type 0} (f : A → B) (xs : List A) (ys zs : List B) (n : ℕ) (x : B) → n ≡ length ys → Some x ≡ option_map f (slice_get xs n) → zs ≡ ys ++ x ∷ [] → length xs - length zs < length xs - length ys
shorter f xs ys zs n x at is push =
    let within : length ys < length (map f xs) = slice_get_within (map f xs) (length ys) x (there f xs ys n (Some x) at is) in
    omega (arith, within, length-map xs f, ap length push, length-append ys (x ∷ []))
