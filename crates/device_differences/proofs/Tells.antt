-- What a difference tells: None exactly where a claim holds, as that two things are equal, and else two numbers that differ.
use Rattle.std.proofs.Common.{◌≡◌, ◌≢◌, ℕ, zero, suc, Bool, true, false, List, [], ◌∷◌, length, refl, ap, sym, ◌∙◌, arith}
use Rattle.std.specs.Prelude.{◌==◌, Option, Some, None, IfSome, if◌then◌else◌, ⊤}
use Rattle.std.specs.Option.{option_or}
use Rattle.std.proofs.lemmas.Bool.Decides.{nat_tests}
use Rattle.device_differences.specs.Differing.{first_of, apart, pairwise, across, between, maybe}

-- the two numbers of a difference differ
abbrev pub Differs : Option (ℕ × ℕ) → Type 0
Differs o = IfSome o (λ p. p.0 ≢ p.1)

-- a difference is there exactly where a claim does not hold, and its numbers differ
pub record Tells (o : Option (ℕ × ℕ)) (E : Type 0) : Type 0 where
  pub none : o ≡ None → E
  pub same : E → o ≡ None
  pub differ : Differs o

-- ---- numbers

apart-none : (m n : ℕ) → apart m n ≡ None → m ≡ n
unfolding apart
apart-none m n h = grind (arith, nat_tests, h)

apart-same : (m n : ℕ) → m ≡ n → apart m n ≡ None
unfolding apart
apart-same m n h = grind (arith, nat_tests, h)

apart-differ : (m n : ℕ) → Differs (apart m n)
unfolding apart
apart-differ m n = by (m == n) refl
  where
    by : (t : Bool) → (m == n) ≡ t → Differs (if m == n then None else Some (m, n))
    by true t = rw t tt
    by false t = rw t (λ e. grind (arith, nat_tests, e, t))

-- two numbers
pub apart-tells : (m n : ℕ) → Tells (apart m n) (m ≡ n)
apart-tells m n = record { none = apart-none m n; same = apart-same m n; differ = apart-differ m n }

-- ---- one difference or another

or-none : (a b : Option (ℕ × ℕ)) → option_or a b ≡ None → (a ≡ None) × (b ≡ None)
or-none None b h = (refl, h)
or-none (Some p) b h = absurd (cc)

or-same : (a b : Option (ℕ × ℕ)) → a ≡ None → b ≡ None → option_or a b ≡ None
or-same None b h k = k
or-same (Some p) b h k = h

or-differ : (a b : Option (ℕ × ℕ)) → Differs a → Differs b → Differs (option_or a b)
or-differ None b h k = k
or-differ (Some p) b h k = h

-- both claims
pub or-tells : {E F : Type 0} (a b : Option (ℕ × ℕ)) → Tells a E → Tells b F → Tells (option_or a b) (E × F)
or-tells a b s t = record {
  none = λ h. let both = or-none a b h in (s.none both.0, t.none both.1);
  same = λ e. or-same a b (s.same e.0) (t.same e.1);
  differ = or-differ a b s.differ t.differ;
}

-- the same difference, of a claim that says as much
pub tells-as : {E F : Type 0} (o : Option (ℕ × ℕ)) → Tells o E → (E → F) → (F → E) → Tells o F
tells-as o s f g = record { none = λ h. f (s.none h); same = λ e. s.same (g e); differ = s.differ }

-- the first of none
pub none-tells : Tells (first_of []) ⊤
unfolding first_of
none-tells = record { none = λ _. tt; same = λ _. refl; differ = tt }

-- the first of one and others
pub first-tells : {E F : Type 0} (o : Option (ℕ × ℕ)) (os : List (Option (ℕ × ℕ))) → Tells o E → Tells (first_of os) F → Tells (first_of (o ∷ os)) (E × F)
unfolding first_of
first-tells o os s t = or-tells o (first_of os) s t

-- ---- lists

-- two things are told apart
abbrev pub TellsAll : {A : Type 0} → (A → A → Option (ℕ × ℕ)) → Type 0
TellsAll {A} f = (x y : A) → Tells (f x y) (x ≡ y)

pair-none : {A : Type 0} (f : A → A → Option (ℕ × ℕ)) → TellsAll f → (xs ys : List A) → pairwise f xs ys ≡ None → length xs ≡ length ys → xs ≡ ys
unfolding pairwise
pair-none f t [] [] h l = refl
pair-none f t [] (y ∷ ys) h l = absurd (omega arith)
pair-none f t (x ∷ xs) [] h l = absurd (omega arith)
pair-none {A} f t (x ∷ xs) (y ∷ ys) h l =
    let both = or-none (f x y) (pairwise f xs ys) h in
    let head : x ≡ y = (t x y).none both.0 in
    let tail : xs ≡ ys = pair-none f t xs ys both.1 (omega arith) in
    cc

pair-same : {A : Type 0} (f : A → A → Option (ℕ × ℕ)) → TellsAll f → (xs : List A) → pairwise f xs xs ≡ None
unfolding pairwise
pair-same f t [] = refl
pair-same f t (x ∷ xs) = or-same (f x x) (pairwise f xs xs) ((t x x).same refl) (pair-same f t xs)

pair-differ : {A : Type 0} (f : A → A → Option (ℕ × ℕ)) → TellsAll f → (xs ys : List A) → Differs (pairwise f xs ys)
unfolding pairwise
pair-differ f t [] ys = tt
pair-differ f t (x ∷ xs) [] = tt
pair-differ f t (x ∷ xs) (y ∷ ys) = or-differ (f x y) (pairwise f xs ys) (t x y).differ (pair-differ f t xs ys)

across-none : {A : Type 0} (f : A → A → Option (ℕ × ℕ)) → TellsAll f → (xs ys : List A) → across f xs ys ≡ None → xs ≡ ys
unfolding across
across-none f t xs ys h =
    let both = or-none (pairwise f xs ys) (apart (length xs) (length ys)) h in
    pair-none f t xs ys both.0 (apart-none (length xs) (length ys) both.1)

across-same : {A : Type 0} (f : A → A → Option (ℕ × ℕ)) → TellsAll f → (xs ys : List A) → xs ≡ ys → across f xs ys ≡ None
unfolding across
across-same f t xs ys e =
    ap (across f xs) (sym e)
    ∙ or-same (pairwise f xs xs) (apart (length xs) (length xs)) (pair-same f t xs) (apart-same (length xs) (length xs) refl)

across-differ : {A : Type 0} (f : A → A → Option (ℕ × ℕ)) → TellsAll f → (xs ys : List A) → Differs (across f xs ys)
unfolding across
across-differ f t xs ys = or-differ (pairwise f xs ys) (apart (length xs) (length ys)) (pair-differ f t xs ys) (apart-differ (length xs) (length ys))

-- two lists
pub across-tells : {A : Type 0} (f : A → A → Option (ℕ × ℕ)) → TellsAll f → TellsAll (across f)
across-tells f t = λ xs ys. record { none = across-none f t xs ys; same = across-same f t xs ys; differ = across-differ f t xs ys }

-- two lists of numbers
pub between-tells : TellsAll between
unfolding between
between-tells = across-tells apart apart-tells

-- ---- things that may be there

maybe-none : {A : Type 0} (f : A → A → Option (ℕ × ℕ)) → TellsAll f → (x y : Option A) → maybe f x y ≡ None → x ≡ y
unfolding maybe
maybe-none f t None None h = refl
maybe-none f t None (Some y) h = absurd (cc)
maybe-none f t (Some x) None h = absurd (cc)
maybe-none f t (Some x) (Some y) h = ap Some ((t x y).none h)

maybe-same : {A : Type 0} (f : A → A → Option (ℕ × ℕ)) → TellsAll f → (x : Option A) → maybe f x x ≡ None
unfolding maybe
maybe-same f t None = refl
maybe-same f t (Some x) = (t x x).same refl

maybe-differ : {A : Type 0} (f : A → A → Option (ℕ × ℕ)) → TellsAll f → (x y : Option A) → Differs (maybe f x y)
unfolding maybe
maybe-differ f t None None = tt
maybe-differ f t None (Some y) = λ e. omega (arith, e)
maybe-differ f t (Some x) None = λ e. omega (arith, e)
maybe-differ f t (Some x) (Some y) = (t x y).differ

-- two of them
pub maybe-tells : {A : Type 0} (f : A → A → Option (ℕ × ℕ)) → TellsAll f → TellsAll (maybe f)
maybe-tells f t = λ x y. record { none = maybe-none f t x y; same = λ e. ap (maybe f x) (sym e) ∙ maybe-same f t x; differ = maybe-differ f t x y }

-- two things by their numbers, which no others have
pub numbers-tell : {A : Type 0} (numbers : A → List ℕ) → ((x y : A) → numbers x ≡ numbers y → x ≡ y) → TellsAll (λ x y. between (numbers x) (numbers y))
numbers-tell numbers one = λ x y. tells-as (between (numbers x) (numbers y)) (between-tells (numbers x) (numbers y)) (one x y) (λ e. ap numbers e)
