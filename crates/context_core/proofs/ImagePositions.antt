-- Positions of names and keys in an image.
use Rattle.std.proofs.Common.{◌≡◌, ℕ, suc, ◌<◌, ◌≤◌, Bool, true, false, List, [], ◌∷◌, length, refl, ap, sym, ◌∙◌, arith}
use Rattle.std.specs.Prelude.{◌==◌, Some, None, bytes_eq, map, nat_lt, position, if◌then◌else◌}
use Rattle.std.specs.List.{IsDistinct, position_or_len}
use Rattle.std.specs.Map.{keys_of}
use Rattle.std.proofs.lemmas.Bool.Decides.{nat_tests}
use Rattle.std.proofs.lemmas.List.{length-map}
use Rattle.rdma_types.specs.declared.names.Name.{Name}
use Rattle.page_pool.specs.Pool.{Pool}
use Rattle.end_queues.specs.Completions.{Queue}
use Rattle.memory_keys.specs.declared.RegisteredRegion.{RegisteredRegion}
use Rattle.memory_keys.specs.Regions.{regions_of}
use Rattle.protocol.specs.Images.{place_of_key, place_of_name}
use Rattle.endpoint_core.specs.Queues.{queues_of}
use Rattle.context_core.specs.Context.{queue_name}
use Rattle.context_core.proofs.NamedLookups.{same-either}
use Rattle.context_core.proofs.SplitEntries.{name-there, position-here}

-- ---- the first place that passes a test

place-within : {X : Type 0} (p : X → Bool) (xs : List X) → position_or_len p xs ≤ length xs
place-within p [] = omega arith
place-within p (x ∷ xs) = by (p x) refl (place-within p xs)
  where
    by : (b : Bool) → p x ≡ b → position_or_len p xs ≤ length xs → position_or_len p (x ∷ xs) ≤ suc (length xs)
    by true t h = grind (arith, t)
    by false t h = grind (arith, t, h)

-- a place where it is found
first-found : {X : Type 0} (p : X → Bool) (xs : List X) (i : ℕ) → position p xs ≡ Some i → i ≡ position_or_len p xs
first-found p xs i e = by (nat_lt (position_or_len p xs) (length xs)) refl
  where
    by : (b : Bool) → nat_lt (position_or_len p xs) (length xs) ≡ b → i ≡ position_or_len p xs
    by true t = let s : Some (position_or_len p xs) ≡ Some i = ap (λ v. if v then Some (position_or_len p xs) else None) (sym t) ∙ e in cc
    by false t = let s : None ≡ Some i = ap (λ v. if v then Some (position_or_len p xs) else None) (sym t) ∙ e in absurd (cc)

-- .. and the length where it is not
none-found : {X : Type 0} (p : X → Bool) (xs : List X) → position p xs ≡ None → length xs ≡ position_or_len p xs
none-found p xs e = by (nat_lt (position_or_len p xs) (length xs)) refl
  where
    by : (b : Bool) → nat_lt (position_or_len p xs) (length xs) ≡ b → length xs ≡ position_or_len p xs
    by true t = let s : Some (position_or_len p xs) ≡ None = ap (λ v. if v then Some (position_or_len p xs) else None) (sym t) ∙ e in absurd (cc)
    by false t = let l = place-within p xs in let g : length xs ≤ position_or_len p xs = grind (arith, nat_tests, t) in omega arith

-- ---- names

name-place : (n : Name) (ns : List Name) → place_of_name n ns ≡ position_or_len (bytes_eq n) ns
unfolding place_of_name
name-place n [] = refl
name-place n (x ∷ xs) = by (bytes_eq n x) refl (name-place n xs)
  where
    by : (b : Bool) → bytes_eq n x ≡ b → place_of_name n xs ≡ position_or_len (bytes_eq n) xs → place_of_name n (x ∷ xs) ≡ position_or_len (bytes_eq n) (x ∷ xs)
    by true t rest = let other : bytes_eq x n ≡ true = same-either x n ∙ t in grind (arith, t, other)
    by false t rest = let other : bytes_eq x n ≡ false = same-either x n ∙ t in grind (arith, t, other, rest)

pub name-found : (n : Name) (ns : List Name) (i : ℕ) → position (bytes_eq n) ns ≡ Some i → i ≡ place_of_name n ns
name-found n ns i e = first-found (bytes_eq n) ns i e ∙ sym (name-place n ns)

pub name-missing : (n : Name) (ns : List Name) → position (bytes_eq n) ns ≡ None → length ns ≡ place_of_name n ns
name-missing n ns e = none-found (bytes_eq n) ns e ∙ sym (name-place n ns)

-- ---- keys

key-place : (pool : Pool) (k : ℕ) (hs : List RegisteredRegion) → place_of_key k (regions_of pool hs) ≡ position_or_len (λ h. h.head.keys.local == k) hs
unfolding place_of_key
key-place pool k [] = refl
key-place pool k (x ∷ xs) = by (x.head.keys.local == k) refl (key-place pool k xs)
  where
    by : (b : Bool) → (x.head.keys.local == k) ≡ b → place_of_key k (regions_of pool xs) ≡ position_or_len (λ h. h.head.keys.local == k) xs → place_of_key k (regions_of pool (x ∷ xs)) ≡ position_or_len (λ h. h.head.keys.local == k) (x ∷ xs)
    by true t rest = grind (arith, t)
    by false t rest = grind (arith, t, rest)

pub key-found : (pool : Pool) (k : ℕ) (hs : List RegisteredRegion) (i : ℕ) → position (λ h. h.head.keys.local == k) hs ≡ Some i → i ≡ place_of_key k (regions_of pool hs)
key-found pool k hs i e = first-found (λ h. h.head.keys.local == k) hs i e ∙ sym (key-place pool k hs)

pub key-missing : (pool : Pool) (k : ℕ) (hs : List RegisteredRegion) → position (λ h. h.head.keys.local == k) hs ≡ None → length hs ≡ place_of_key k (regions_of pool hs)
key-missing pool k hs e = none-found (λ h. h.head.keys.local == k) hs e ∙ sym (key-place pool k hs)

-- ---- completion queues

shown-names : (qs : List (Name × Queue)) → map (λ q. q.name) (queues_of qs) ≡ keys_of qs
shown-names [] = refl
shown-names (q ∷ qs) = ap (λ ns. q.0 ∷ ns) (shown-names qs)

-- a queue is found at its place by its name
pub queue-place : (qs : List (Name × Queue)) (i : ℕ) → IsDistinct bytes_eq (keys_of qs) → i < length qs → i ≡ place_of_name (queue_name qs i) (map (λ q. q.name) (queues_of qs))
queue-place qs i d l =
    let many : length (keys_of qs) ≡ length qs = length-map qs (λ q. q.0) in
    let inside : i < length (keys_of qs) = omega arith in
    name-found (queue_name qs i) (keys_of qs) i (position-here (keys_of qs) i (queue_name qs i) d (name-there (keys_of qs) i inside)) ∙ ap (place_of_name (queue_name qs i)) (sym (shown-names qs))
