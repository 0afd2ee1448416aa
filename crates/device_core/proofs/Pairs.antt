-- Pairs of a list, and a value put in the place of one.
use Rattle.std.proofs.Common.{arith, ◌≡◌, zero, suc, List, [], ◌∷◌, ◌++◌, true, false, Bool, subst}
use Rattle.std.specs.Prelude.{All, AllPairs, Some, Result, Ok, Err, OnOk, is_err, if◌then◌else◌}
use Rattle.std.specs.Map.{lookup, set_value, remove_entry}
use Rattle.std.proofs.lemmas.List.Elements.{All-nil, All-cons, All-head, All-tail}
use Rattle.law_devices.proofs.Tables.{All-if}

pub pairs-head : {A : Type 0} (R : A → A → Type 0) (x : A) (xs : List A) → AllPairs R (x ∷ xs) → All (R x) xs
pairs-head R x xs h k d l = h 0 (suc k) d (omega arith) (omega (arith, l))

pub pairs-tail : {A : Type 0} (R : A → A → Type 0) (x : A) (xs : List A) → AllPairs R (x ∷ xs) → AllPairs R xs
pairs-tail R x xs h i j d lt l = h (suc i) (suc j) d (omega (arith, lt)) (omega (arith, l))

pub pairs-nil : {A : Type 0} (R : A → A → Type 0) → AllPairs R []
pairs-nil R i j d lt l = absurd (omega (arith, l))

pub pairs-cons : {A : Type 0} (R : A → A → Type 0) (x : A) (xs : List A) → All (R x) xs → AllPairs R xs → AllPairs R (x ∷ xs)
pairs-cons R x xs head tail zero zero d lt l = absurd (omega (arith, lt))
pairs-cons R x xs head tail zero (suc j) d lt l = head j d (omega (arith, l))
pairs-cons R x xs head tail (suc i) zero d lt l = absurd (omega (arith, lt))
pairs-cons R x xs head tail (suc i) (suc j) d lt l = tail i j d (omega (arith, lt)) (omega (arith, l))

pub pairs-push : {A : Type 0} (R : A → A → Type 0) (xs : List A) (y : A) → AllPairs R xs → All (λ x. R x y) xs → AllPairs R (xs ++ y ∷ [])
pairs-push R [] y pairs each = pairs-cons R y [] (All-nil (R y)) (pairs-nil R)
pairs-push {A} R (x ∷ xs) y pairs each =
    pairs-cons R x (xs ++ y ∷ [])
    (pushed xs y (pairs-head R x xs pairs) (All-head (λ z. R z y) x xs each))
    (pairs-push R xs y (pairs-tail R x xs pairs) (All-tail (λ z. R z y) x xs each))
  where
    pushed : (zs : List A) (y : A) → All (R x) zs → R x y → All (R x) (zs ++ y ∷ [])
    pushed [] y all h = All-cons (R x) y [] h (All-nil (R x))
    pushed (z ∷ zs) y all h = All-cons (R x) z (zs ++ y ∷ []) (All-head (R x) z zs all) (pushed zs y (All-tail (R x) z zs all) h)

module _ {K V : Type 0} (test : K → Bool) where
  -- the value that is found is one of the values
  pub All-found : (P : K × V → Type 0) (Q : V → Type 0) → ((e : K × V) → P e → Q e.1) → (es : List (K × V)) (v : V) → All P es → lookup test es ≡ Some v → Q v
  All-found P Q turn [] v all h = absurd (cc)
  All-found P Q turn (e ∷ es) v all h = by_test (test e.0) h (All-found P Q turn es v (All-tail P e es all))
    where
      by_test : (b : Bool) → (if b then Some e.1 else lookup test es) ≡ Some v → (lookup test es ≡ Some v → Q v) → Q v
      by_test true g later = let same : e.1 ≡ v = cc in subst Q same (turn e (All-head P e es all))
      by_test false g later = later g

  pub All-set_value : (P : K × V → Type 0) (es : List (K × V)) (w : V) → All P es → ((k : K) → P (k, w)) → All P (set_value test es w)
  All-set_value P [] w all h = all
  All-set_value P (e ∷ es) w all h =
      All-if P (test e.0) ((e.0, w) ∷ es) (e ∷ set_value test es w)
      (All-cons P (e.0, w) es (h e.0) (All-tail P e es all))
      (All-cons P e (set_value test es w) (All-head P e es all) (All-set_value P es w (All-tail P e es all) h))

  pub All-remove : (P : K × V → Type 0) (es : List (K × V)) → All P es → All P (remove_entry test es)
  All-remove P [] all = all
  All-remove P (e ∷ es) all =
      All-if P (test e.0) es (e ∷ remove_entry test es)
      (All-tail P e es all)
      (All-cons P e (remove_entry test es) (All-head P e es all) (All-remove P es (All-tail P e es all)))

  pub pairs-remove : (R : K × V → K × V → Type 0) (es : List (K × V)) → AllPairs R es → AllPairs R (remove_entry test es)
  pairs-remove R [] pairs = pairs
  pairs-remove R (e ∷ es) pairs = by_test (test e.0) (pairs-remove R es (pairs-tail R e es pairs))
    where
      by_test : (b : Bool) → AllPairs R (remove_entry test es) → AllPairs R (if b then es else e ∷ remove_entry test es)
      by_test true later = pairs-tail R e es pairs
      by_test false later = pairs-cons R e (remove_entry test es) (All-remove (R e) es (pairs-head R e es pairs)) later

-- what holds of a call that went well
pub on-ok : {T E : Type 0} {P : Type 0} (r : Result T E) (x : T) → r ≡ Ok x → OnOk r P → P
on-ok (Ok y) x e h = h
on-ok (Err f) x e h = absurd (cc)

pub not-err : {T E : Type 0} {P : Type 0} (r : Result T E) (b : Bool) → b ≡ is_err r → b ≡ false → OnOk r P → P
not-err (Ok y) b e n h = h
not-err (Err f) b e n h = absurd (cc)
