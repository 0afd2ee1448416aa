-- Lists of names and lists of names with reasons, piece by piece.
use Rattle.std.proofs.Common.{arith, ◌≡◌, ℕ, List, [], ◌∷◌, ◌++◌, map, true, false, Bool, refl, ap, ◌∙◌}
use Rattle.std.specs.Prelude.{All, flat_map, filter, nat_lt, ◌==◌, not, if◌then◌else◌, Some}
use Rattle.std.proofs.lemmas.Bool.Decides.{nat_tests, leb_tells, eqb_tells}
use Rattle.std.proofs.lemmas.Grind.{flat_map-append}
use Rattle.std.proofs.lemmas.List.Elements.{All-head, All-tail}
use Rattle.rdma_types.specs.declared.answers.UnfinishedReason.{UnfinishedReason}
use Rattle.rdma_types.specs.declared.names.ObjName.{ObjName}
use Rattle.protocol.specs.State.{World}
use Rattle.packetless_machine.specs.Machine.{Machine}
use Rattle.law_simulation.specs.Quiet.{AreReasons, reason_of}

pub flat_flat : {A B C : Type 0} (f : B → List C) (g : A → List B) (xs : List A) → flat_map f (flat_map g xs) ≡ flat_map (λ x. flat_map f (g x)) xs
flat_flat f g [] = refl
flat_flat f g (x ∷ xs) = flat_map-append f (g x) (flat_map g xs) ∙ ap (λ zs. flat_map f (g x) ++ zs) (flat_flat f g xs)

pub map_same : {A : Type 0} (xs : List A) → map (λ x. x) xs ≡ xs
map_same [] = refl
map_same (x ∷ xs) = ap (λ zs. x ∷ zs) (map_same xs)

-- a length is above 0, or it is 0
pub some_or_none : (n : ℕ) → nat_lt 0 n ≡ not (n == 0)
some_or_none n = by_tests (nat_lt 0 n) (n == 0) refl refl
  where
    by_tests : (a b : Bool) → nat_lt 0 n ≡ a → (n == 0) ≡ b → a ≡ not b
    by_tests true false s t = refl
    by_tests false true s t = refl
    by_tests true true s t = absurd (grind (arith, nat_tests, leb_tells 1 n, eqb_tells n 0, s, t))
    by_tests false false s t = absurd (grind (arith, nat_tests, leb_tells 1 n, eqb_tells n 0, s, t))

module _ (w : World) (m : Machine) where
  pub both : (os ps : List ObjName) (xs ys : List (ObjName × UnfinishedReason)) → AreReasons w m os xs → AreReasons w m ps ys → AreReasons w m (os ++ ps) (xs ++ ys)
  both [] ps [] ys h k = k
  both [] ps (x ∷ xs) ys h k = absurd h
  both (o ∷ os) ps [] ys h k = absurd h
  both (o ∷ os) ps (x ∷ xs) ys h k = (h.0, h.1, both os ps xs ys h.2 k)

  -- of each thing the names have their reasons
  pub each : {A : Type 0} (f : A → List ObjName) (g : A → List (ObjName × UnfinishedReason)) (xs : List A) → All (λ x. AreReasons w m (f x) (g x)) xs → AreReasons w m (flat_map f xs) (flat_map g xs)
  each f g [] all = tt
  each f g (x ∷ xs) all =
      both (f x) (flat_map f xs) (g x) (flat_map g xs) (All-head (λ y. AreReasons w m (f y) (g y)) x xs all) (each f g xs (All-tail (λ y. AreReasons w m (f y) (g y)) x xs all))

  -- of each thing that passes, the name has its reason
  pub filtered : {A B : Type 0} (name : B → ObjName) (test : B → Bool) (f : A → B) (g : A → List (ObjName × UnfinishedReason)) (xs : List A) →
      All (λ x. AreReasons w m (map name (if test (f x) then f x ∷ [] else [])) (g x)) xs → AreReasons w m (map name (filter test (map f xs))) (flat_map g xs)
  filtered name test f g [] all = tt
  filtered {A} name test f g (x ∷ xs) all = by_test (test (f x)) (All-head P x xs all) (filtered name test f g xs (All-tail P x xs all))
    where
      P : A → Type 0
      P y = AreReasons w m (map name (if test (f y) then f y ∷ [] else [])) (g y)

      by_test : (b : Bool) → AreReasons w m (map name (if b then f x ∷ [] else [])) (g x) → AreReasons w m (map name (filter test (map f xs))) (flat_map g xs) →
          AreReasons w m (map name (if b then f x ∷ filter test (map f xs) else filter test (map f xs))) (g x ++ flat_map g xs)
      by_test true h k = both (name (f x) ∷ []) (map name (filter test (map f xs))) (g x) (flat_map g xs) h k
      by_test false h k = both [] (map name (filter test (map f xs))) (g x) (flat_map g xs) h k

  -- one end is named where it has untold requests
  pub one : {B : Type 0} (name : B → ObjName) (e : B) (why : UnfinishedReason) (a b : Bool) → a ≡ not b → (a ≡ true → reason_of w m (name e) ≡ Some why) →
      AreReasons w m (map name (if a then e ∷ [] else [])) (if b then [] else (name e, why) ∷ [])
  one name e why true false h k = (refl, k refl, tt)
  one name e why false true h k = tt
  one name e why true true h k = absurd (cc)
  one name e why false false h k = absurd (cc)
