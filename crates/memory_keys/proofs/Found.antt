-- The region that a key finds, and the one that grants a place.
use Rattle.std.proofs.Common.{◌≡◌, ℕ, ◌+◌, ◌-◌, ◌≢◌, Bool, true, false, List, [], ◌∷◌, refl, ap, sym, ◌∙◌, arith, subst}
use Rattle.std.specs.Prelude.{◌==◌, All, Some, None, nat_eq, map, option_map, if◌then◌else◌}
use Rattle.std.specs.List.{IsDistinct, AllByRecursion}
use Rattle.std.specs.Map.{lookup, keys_of, values_of}
use Rattle.std.proofs.lemmas.List.Elements.{All-head, All-tail, All-map}
use Rattle.std.proofs.lemmas.Bool.Decides.{nat_tests}
use Rattle.rdma_types.specs.declared.names.Name.{Name}
use Rattle.rdma_types.specs.Lists.{first_that}
use Rattle.rdma_types.specs.Memory.{Right, holds, grants, granted, local_key, remote_key}
use Rattle.rdma_types.specs.Objects.{Region}
use Rattle.page_pool.specs.Pool.{Pool}
use Rattle.memory_keys.specs.declared.RegisteredRegion.{RegisteredRegion}
use Rattle.memory_keys.specs.Keyed.{IsKeyed}
use Rattle.memory_keys.specs.Regions.{held_at, region_of, regions_of, gives, granted_spot, AreKeyed}

-- a key finds the region that stands under it
pub found : (key : ℕ) (es : List (ℕ × RegisteredRegion)) → All (λ e. e.0 ≡ e.1.head.keys.local) es → lookup (nat_eq key) es ≡ held_at key (values_of es)
unfolding first_that
found key [] h = refl
found key (e ∷ es) h = by_test (nat_eq key e.0) refl (found key es (All-tail (λ x. x.0 ≡ x.1.head.keys.local) e es h)) (All-head (λ x. x.0 ≡ x.1.head.keys.local) e es h)
  where
    by_test : (b : Bool) → nat_eq key e.0 ≡ b → lookup (nat_eq key) es ≡ held_at key (values_of es) → e.0 ≡ e.1.head.keys.local → lookup (nat_eq key) (e ∷ es) ≡ held_at key (values_of (e ∷ es))
    by_test true t rest here = let same : (e.1.head.keys.local == key) ≡ true = grind (arith, nat_tests, here, t) in grind (arith, t, same)
    by_test false t rest here = let same : (e.1.head.keys.local == key) ≡ false = grind (arith, nat_tests, here, t) in grind (arith, t, same, rest)

-- no later region has the key of an earlier one
no_other : (key k : ℕ) (hs : List RegisteredRegion) → k ≡ key → AllByRecursion (λ y. nat_eq k y ≡ false) (map (λ x. x.head.keys.local) hs) → held_at key hs ≡ None
unfolding first_that
no_other key k [] e d = refl
no_other key k (x ∷ xs) e d =
    let differs : (x.head.keys.local == key) ≡ false = grind (arith, nat_tests, e, d.0) in
    let rest : held_at key xs ≡ None = no_other key k xs e d.1 in
    grind (arith, differs, rest)

-- no region has the key
pub none_with : (pool : Pool) (domain : Name) (key at count : ℕ) (right : Right) (hs : List RegisteredRegion) → held_at key hs ≡ None → granted local_key (regions_of pool hs) domain key at count right ≡ None
unfolding first_that granted grants holds
none_with pool domain key at count right [] h = refl
none_with pool domain key at count right (x ∷ xs) h = by_test (x.head.keys.local == key) refl (λ rest. none_with pool domain key at count right xs rest)
  where
    by_test : (b : Bool) → (x.head.keys.local == key) ≡ b → (held_at key xs ≡ None → granted local_key (regions_of pool xs) domain key at count right ≡ None) → granted local_key (regions_of pool (x ∷ xs)) domain key at count right ≡ None
    by_test true t later = absurd (grind (arith, t, h))
    by_test false t later = let rest : held_at key xs ≡ None = grind (arith, t, h) in let none = later rest in grind (arith, t, none)

-- the first region of a key grants what it gives, where no two have a key
pub one_with : (pool : Pool) (domain : Name) (key at count : ℕ) (right : Right) (hs : List RegisteredRegion) (h : RegisteredRegion) → IsDistinct nat_eq (map (λ x. x.head.keys.local) hs) → held_at key hs ≡ Some h → granted local_key (regions_of pool hs) domain key at count right ≡ (if gives h.head domain at count right then Some (region_of pool h) else None)
unfolding first_that granted grants holds IsDistinct
one_with pool domain key at count right [] h d e = absurd (cc)
one_with pool domain key at count right (x ∷ xs) h d e = by_test (x.head.keys.local == key) refl (λ rest. one_with pool domain key at count right xs h d.1 rest)
  where
    by_gives : (x.head.keys.local == key) ≡ true → (g : Bool) → gives x.head domain at count right ≡ g → granted local_key (regions_of pool xs) domain key at count right ≡ None → granted local_key (regions_of pool (x ∷ xs)) domain key at count right ≡ (if gives x.head domain at count right then Some (region_of pool x) else None)
    by_gives t true g none = grind (arith, t, g)
    by_gives t false g none = grind (arith, t, g, none)

    by_test : (b : Bool) → (x.head.keys.local == key) ≡ b → (held_at key xs ≡ Some h → granted local_key (regions_of pool xs) domain key at count right ≡ (if gives h.head domain at count right then Some (region_of pool h) else None)) → granted local_key (regions_of pool (x ∷ xs)) domain key at count right ≡ (if gives h.head domain at count right then Some (region_of pool h) else None)
    by_test false t rest = let found : held_at key xs ≡ Some h = grind (arith, t, e) in let given = rest found in grind (arith, t, given)
    by_test true t rest =
        let same : x ≡ h = grind (arith, t, e) in
        let none : held_at key xs ≡ None = no_other key x.head.keys.local xs (grind (arith, nat_tests, t)) d.0 in
        rw (← same) (by_gives t (gives x.head domain at count right) refl (none_with pool domain key at count right xs none))

-- regions under their keys have the keys themselves
keys-are : (es : List (ℕ × RegisteredRegion)) → All (λ e. e.0 ≡ e.1.head.keys.local) es → keys_of es ≡ map (λ x. x.head.keys.local) (values_of es)
keys-are [] h = refl
keys-are (e ∷ es) h =
    let here : e.0 ≡ e.1.head.keys.local = All-head (λ x. x.0 ≡ x.1.head.keys.local) e es h in
    let rest : keys_of es ≡ map (λ x. x.head.keys.local) (values_of es) = keys-are es (All-tail (λ x. x.0 ≡ x.1.head.keys.local) e es h) in
    cc

pub keyed : (es : List (ℕ × RegisteredRegion)) (hs : List RegisteredRegion) → IsKeyed es → values_of es ≡ hs → AreKeyed hs
keyed es hs k e = subst AreKeyed e (record {
  distinct = subst (IsDistinct nat_eq) (keys-are es k.local) k.distinct;
  pairs = All-map (λ h. h.head.keys.remote ≡ h.head.keys.local + 1) (λ x. x.1) es k.remote;
})

-- a place of some bytes
pub spot-none : (key_of : Region → ℕ) (regions : List Region) (domain : Name) (key at count : ℕ) (right : Right) → count ≢ 0 → granted key_of regions domain key at count right ≡ None → granted_spot key_of regions domain key at count right ≡ None
spot-none key_of regions domain key at count right n h = let some : (count == 0) ≡ false = grind (arith, nat_tests) in grind (arith, some, h)

pub spot-some : (key_of : Region → ℕ) (regions : List Region) (domain : Name) (key at count : ℕ) (right : Right) (r : Region) → count ≢ 0 → granted key_of regions domain key at count right ≡ Some r → granted_spot key_of regions domain key at count right ≡ Some (record { region = r.keys.local; off = at - r.base; length = count })
spot-some key_of regions domain key at count right r n h = let some : (count == 0) ≡ false = grind (arith, nat_tests) in grind (arith, some, h)

pub spot-same : (a b : Region → ℕ) (regions : List Region) (domain : Name) (key key' at count : ℕ) (right : Right) → granted a regions domain key at count right ≡ granted b regions domain key' at count right → granted_spot a regions domain key at count right ≡ granted_spot b regions domain key' at count right
spot-same a b regions domain key key' at count right e = ap (λ g. if count == 0 then Some (record { region = 0; off = 0; length = 0 }) else option_map (λ r. record { region = r.keys.local; off = at - r.base; length = count }) g) e

-- the region found has the key
pub key-found : (key : ℕ) (hs : List RegisteredRegion) (h : RegisteredRegion) → held_at key hs ≡ Some h → h.head.keys.local ≡ key
unfolding first_that
key-found key [] h e = absurd (cc)
key-found key (x ∷ xs) h e = by_test (x.head.keys.local == key) refl (key-found key xs h)
  where
    by_test : (b : Bool) → (x.head.keys.local == key) ≡ b → (held_at key xs ≡ Some h → h.head.keys.local ≡ key) → h.head.keys.local ≡ key
    by_test true t rest = let same : x ≡ h = grind (arith, t, e) in ap (λ y. y.head.keys.local) (sym same) ∙ grind (arith, nat_tests, t)
    by_test false t rest = rest (grind (arith, t, e))

-- a remote key grants what the local key before it grants
pub remote-local : (pool : Pool) (domain : Name) (key at count : ℕ) (right : Right) (hs : List RegisteredRegion) → All (λ h. h.head.keys.remote ≡ h.head.keys.local + 1) hs → granted remote_key (regions_of pool hs) domain (key + 1) at count right ≡ granted local_key (regions_of pool hs) domain key at count right
unfolding first_that granted grants
remote-local pool domain key at count right [] h = refl
remote-local pool domain key at count right (x ∷ xs) h =
    let pair : x.head.keys.remote ≡ x.head.keys.local + 1 = All-head (λ y. y.head.keys.remote ≡ y.head.keys.local + 1) x xs h in
    let rest : granted remote_key (regions_of pool xs) domain (key + 1) at count right ≡ granted local_key (regions_of pool xs) domain key at count right = remote-local pool domain key at count right xs (All-tail (λ y. y.head.keys.remote ≡ y.head.keys.local + 1) x xs h) in
    let same : (x.head.keys.remote == key + 1) ≡ (x.head.keys.local == key) = same_test x.head.keys.remote x.head.keys.local key pair in
    grind (arith, same, rest)
  where
    same_test : (a b k : ℕ) → a ≡ b + 1 → (a == k + 1) ≡ (b == k)
    same_test a b k e = grind (arith, nat_tests)

pub remote-zero : (pool : Pool) (domain : Name) (at count : ℕ) (right : Right) (hs : List RegisteredRegion) → All (λ h. h.head.keys.remote ≡ h.head.keys.local + 1) hs → granted remote_key (regions_of pool hs) domain 0 at count right ≡ None
unfolding first_that granted grants
remote-zero pool domain at count right [] h = refl
remote-zero pool domain at count right (x ∷ xs) h =
    let pair : x.head.keys.remote ≡ x.head.keys.local + 1 = All-head (λ y. y.head.keys.remote ≡ y.head.keys.local + 1) x xs h in
    let rest : granted remote_key (regions_of pool xs) domain 0 at count right ≡ None = remote-zero pool domain at count right xs (All-tail (λ y. y.head.keys.remote ≡ y.head.keys.local + 1) x xs h) in
    let no : (x.head.keys.remote == 0) ≡ false = grind (arith, nat_tests) in
    grind (arith, no, rest)
