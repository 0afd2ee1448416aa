-- Entries of a map that are put into another one by one.
use Rattle.std.proofs.Common.{◌≡◌, ℕ, zero, suc, ◌+◌, Bool, false, List, [], ◌∷◌, take, slice_get, Some, ap, sym, ◌∙◌, add-one}
use Rattle.std.specs.List.{AllByRecursion, IsDistinct}
use Rattle.std.specs.Map.{keys_of}
use Rattle.indexmap.specs.IndexMap.{insert_entry}

module _ {K V : Type 0} (eq : K → K → Bool) (flips : (x y : K) → eq x y ≡ eq y x) where
  pub apart : (x : K) (es : List (K × V)) (n : ℕ) (k : K) (v : V) → AllByRecursion (λ y. eq x y ≡ false) (keys_of es) → slice_get es n ≡ Some (k, v) → eq k x ≡ false
  apart x [] n k v all at = cc
  apart x (e ∷ es) zero k v all at =
      let same : e ≡ (k, v) = cc in
      flips k x ∙ (ap (λ y. eq x y) (sym (ap (λ p. p.0) same)) ∙ all.0)
  apart x (e ∷ es) (suc n) k v all at = apart x es n k v all.1 at

  inserted_at : (es : List (K × V)) (n : ℕ) (k : K) (v : V) → IsDistinct eq (keys_of es) → slice_get es n ≡ Some (k, v) → insert_entry eq (take n es) k v ≡ take (suc n) es
  unfolding IsDistinct
  inserted_at [] n k v distinct at = cc
  inserted_at (e ∷ es) zero k v distinct at = let same : e ≡ (k, v) = cc in ap (λ p. p ∷ []) (sym same)
  inserted_at (e ∷ es) (suc n) k v distinct at =
      let no : eq k e.0 ≡ false = apart e.0 es n k v distinct.0 at in
      rw no (ap (λ l. e ∷ l) (inserted_at es n k v distinct.1 at))

  -- the next entry of a map, put into a copy of the entries before it
  pub inserted_more : (es : List (K × V)) (n : ℕ) (k : K) (v : V) → IsDistinct eq (keys_of es) → slice_get es n ≡ Some (k, v) → insert_entry eq (take n es) k v ≡ take (n + 1) es
  inserted_more es n k v distinct at = rw add-one (inserted_at es n k v distinct at)
