-- Places that are granted, and the bytes stored there.
use Rattle.std.proofs.Common.{◌≡◌, ℕ, ◌+◌, ◌-◌, ◌<◌, ◌≤◌, Bool, true, false, List, [], ◌∷◌, length, refl, ap, sym, ◌∙◌, arith, subst}
use Rattle.std.specs.Prelude.{◌==◌, if◌then◌else◌, Option, Some, None, IsSome, IsSomeAnd, nat_eq, map, option_map}
use Rattle.std.specs.List.{IsDistinct, AllByRecursion}
use Rattle.std.proofs.lemmas.Bool.Decides.{nat_tests}
use Rattle.rdma_types.specs.declared.names.Name.{Name}
use Rattle.rdma_types.specs.Lists.{first_that}
use Rattle.rdma_types.specs.Memory.{Grants, Right, LocalWrite, RemoteAtomic, RemoteRead, RemoteWrite, grants, granted, is_granted, local_key, remote_key, word_bytes}
use Rattle.rdma_types.specs.Objects.{Region, no_region}
use Rattle.rdma_types.proofs.Grants.{granting}
use Rattle.page_pool.specs.Pool.{Pool}
use Rattle.memory_keys.specs.declared.RegisteredRegion.{RegisteredRegion}
use Rattle.memory_keys.specs.declared.RegionRange.{RegionRange}
use Rattle.memory_keys.specs.Regions.{AreKeyed, IsSpot, granted_spot, held_at, part_of, place_in, region_of, regions_of, stored_at}
use Rattle.memory_keys.proofs.Protocol.{written-is, place-refused, place-region, place-offset, place-some}
use Rattle.memory_keys.proofs.Stores.{stored-nothing}
use Rattle.protocol.specs.Memory.{landed, region_of_key, written}
use Rattle.protocol.specs.declared.wire.AtomicEth.{AtomicEth}
use Rattle.protocol.specs.declared.wire.Reth.{Reth}
use Rattle.protocol.specs.Responder.{is_read_request, target}
use Rattle.protocol.specs.Wire.{Packet}
use Rattle.responder.specs.Taken.{no_spot, place_granted}
use Rattle.responder.specs.Taking.{context_of, spot_of}

-- ---- what is found

-- the first that passes a test passes it
pub first-passes : {A : Type 0} (test : A → Bool) (xs : List A) (x : A) → first_that test xs ≡ Some x → test x ≡ true
unfolding first_that
first-passes test [] x e = absurd (cc)
first-passes test (y ∷ ys) x e = by_test (test y) refl (first-passes test ys x)
  where
    by_test : (b : Bool) → test y ≡ b → (first_that test ys ≡ Some x → test x ≡ true) → test x ≡ true
    by_test true t rest = let same : y ≡ x = grind (arith, t, e) in subst (λ z. test z ≡ true) same t
    by_test false t rest = rest (grind (arith, t, e))

-- what is granted is what a grant asks
pub granted-grants : (key_of : Region → ℕ) (rs : List Region) (domain : Name) (key at count : ℕ) (right : Right) (r : Region) → granted key_of rs domain key at count right ≡ Some r → Grants key_of domain key at count right r
unfolding granted
granted-grants key_of rs domain key at count right r e = granting key_of domain key at count right r (first-passes (grants key_of domain key at count right) rs r e)

-- a key that none of these regions has
other-held : (k key : ℕ) (hs : List RegisteredRegion) (h : RegisteredRegion) → AllByRecursion (λ y. nat_eq k y ≡ false) (map (λ h. h.head.keys.local) hs) → held_at key hs ≡ Some h → (k == key) ≡ false
unfolding first_that
other-held k key [] h a e = absurd (cc)
other-held k key (x ∷ xs) h a e = by_test (x.head.keys.local == key) refl (other-held k key xs h a.1)
  where
    by_test : (b : Bool) → (x.head.keys.local == key) ≡ b → (held_at key xs ≡ Some h → (k == key) ≡ false) → (k == key) ≡ false
    by_test true t rest = let same : x.head.keys.local ≡ key = grind (arith, nat_tests, t) in subst (λ n. (k == n) ≡ false) same a.0
    by_test false t rest = rest (grind (arith, t, e))

self : (n : ℕ) → (n == n) ≡ true
self n = grind (arith, nat_tests)

-- the region that passes a test is held under its key
pub first-held : (pool : Pool) (hs : List RegisteredRegion) (test : Region → Bool) (r : Region) → IsDistinct nat_eq (map (λ h. h.head.keys.local) hs) → first_that test (regions_of pool hs) ≡ Some r → (h : RegisteredRegion) × ((region_of pool h ≡ r) × (held_at r.keys.local hs ≡ Some h))
unfolding first_that IsDistinct
first-held pool [] test r d e = absurd (cc)
first-held pool (x ∷ xs) test r d e = by_test (test (region_of pool x)) refl (first-held pool xs test r d.1)
  where
    by_test : (b : Bool) → test (region_of pool x) ≡ b → (first_that test (regions_of pool xs) ≡ Some r → (h : RegisteredRegion) × ((region_of pool h ≡ r) × (held_at r.keys.local xs ≡ Some h))) → (h : RegisteredRegion) × ((region_of pool h ≡ r) × (held_at r.keys.local (x ∷ xs) ≡ Some h))
    by_test true t rest =
        let same : region_of pool x ≡ r = grind (arith, t, e) in
        let here : (x.head.keys.local == r.keys.local) ≡ true = subst (λ y. (x.head.keys.local == y.keys.local) ≡ true) same (self x.head.keys.local) in
        (x, (same, rw here refl))
    by_test false t rest =
        let found : first_that test (regions_of pool xs) ≡ Some r = grind (arith, t, e) in
        let later = rest found in
        let no : (x.head.keys.local == r.keys.local) ≡ false = other-held x.head.keys.local r.keys.local xs later.0 d.0 later.1.1 in
        (later.0, (later.1.0, rw no later.1.1))

-- ---- stores

-- a part of a spot is a spot
pub part-is : (hs : List RegisteredRegion) (spot : RegionRange) (from count : ℕ) → IsSpot hs spot → from + count ≤ spot.length → IsSpot hs (part_of spot from count)
part-is hs spot from count is inside some = by_case (held_at spot.region hs) (is (omega arith))
  where
    by_case : (o : Option RegisteredRegion) → IsSomeAnd o (λ h. spot.off + spot.length ≤ h.head.length) → IsSomeAnd o (λ h. spot.off + from + count ≤ h.head.length)
    by_case None h = h
    by_case (Some x) h = omega (arith, h)

-- bytes stored in a part of a spot
pub part-written : (pool : Pool) (hs : List RegisteredRegion) (spot : RegionRange) (from : ℕ) (new : List ℕ) → AreKeyed hs → IsSpot hs spot → from + length new ≤ spot.length → stored_at (part_of spot from (length new)) new (regions_of pool hs) ≡ (written (context_of (regions_of pool hs)) spot.region (spot.off + from) new).regions
part-written pool hs spot from new k is inside =
    sym (ap (λ c. c.regions) (written-is (context_of (regions_of pool hs)) pool hs refl k (part_of spot from (length new)) new (part-is hs spot from (length new) is inside) refl))

-- bytes stored at a spot
pub spot-written : (pool : Pool) (hs : List RegisteredRegion) (spot : RegionRange) (new : List ℕ) → AreKeyed hs → IsSpot hs spot → length new ≡ spot.length → stored_at spot new (regions_of pool hs) ≡ (written (context_of (regions_of pool hs)) spot.region spot.off new).regions
spot-written pool hs spot new k is l = sym (ap (λ c. c.regions) (written-is (context_of (regions_of pool hs)) pool hs refl k spot new is l))

-- a granted place is there
pub granted-place : (key_of : Region → ℕ) (rs : List Region) (domain : Name) (key at count : ℕ) (right : Right) → is_granted key_of rs domain key at count right ≡ true → IsSome (granted_spot key_of rs domain key at count right)
granted-place key_of rs domain key at count right g = by_case (granted_spot key_of rs domain key at count right) refl
  where
    by_case : (o : Option RegionRange) → granted_spot key_of rs domain key at count right ≡ o → IsSome o
    by_case (Some s) e = refl
    by_case None e = absurd (let no = (place-refused key_of rs domain key at count right).0 (rw e refl) in cc (no, g))

-- bytes that land behind others in a granted place
pub part-landed : (pool : Pool) (hs : List RegisteredRegion) (domain : Name) (key from count before : ℕ) (spot : RegionRange) (new : List ℕ) → AreKeyed hs → IsSpot hs spot → granted_spot local_key (regions_of pool hs) domain key from count LocalWrite ≡ Some spot → spot.length ≡ count → before + length new ≤ count → stored_at (part_of spot before (length new)) new (regions_of pool hs) ≡ (landed (context_of (regions_of pool hs)) key (from + before) new).regions
unfolding landed written
part-landed pool hs domain key from count before spot [] k is g l inside = stored-nothing (part_of spot before 0) [] (regions_of pool hs) refl
part-landed pool hs domain key from count before spot (b ∷ bs) k is g l inside =
    let c = context_of (regions_of pool hs) in
    let some : 0 < count = omega arith in
    let region = place-region c pool hs refl k local_key domain key from count LocalWrite spot some g in
    let off = place-offset c pool hs refl k local_key domain key from count LocalWrite spot some g in
    let grant = granted-grants local_key c.regions domain key from count LocalWrite (region_of_key c spot.region) region in
    let is' : Some (place_in from count (region_of_key c spot.region)) ≡ Some spot = sym (ap (option_map (place_in from count)) region) ∙ (sym (place-some local_key c.regions domain key from count LocalWrite some) ∙ g) in
    let is'' : place_in from count (region_of_key c spot.region) ≡ spot = cc in
    let same : spot.region ≡ key = sym (ap (λ s. s.region) is'') ∙ grant.same_key in
    let base : (region_of_key c key).base ≡ (region_of_key c spot.region).base = ap (λ n. (region_of_key c n).base) (sym same) in
    let place : spot.off + before ≡ (from + before) - (region_of_key c key).base = omega (arith, off, base, grant.low) in
    part-written pool hs spot before (b ∷ bs) k is (omega arith)
    ∙ ap (λ n. (written c n (spot.off + before) (b ∷ bs)).regions) same
    ∙ ap (λ n. (written c key n (b ∷ bs)).regions) place

-- a word has eight bytes
pub word-length : (n : ℕ) → length (word_bytes n) ≡ 8
unfolding word_bytes
word-length n = refl

-- ---- the place that a packet names

pub atomic-place : (rs : List Region) (domain : Name) (d : Packet) (h : AtomicEth) → d.atomic ≡ Some h → place_granted rs domain d ≡ granted_spot remote_key rs domain h.rkey h.address 8 RemoteAtomic
unfolding target
atomic-place rs domain d h e = rw e refl

pub no-place : (rs : List Region) (domain : Name) (d : Packet) → d.atomic ≡ None → d.reth ≡ None → place_granted rs domain d ≡ Some no_spot
unfolding target
no-place rs domain d a e = rw a (rw e refl)

pub reth-place : (rs : List Region) (domain : Name) (d : Packet) (h : Reth) → d.atomic ≡ None → d.reth ≡ Some h → place_granted rs domain d ≡ granted_spot remote_key rs domain h.rkey h.address h.length (if is_read_request d.opcode then RemoteRead else RemoteWrite)
unfolding target
reth-place rs domain d h a e = rw a (rw e (by_test (h.length == 0) refl))
  where
    by_test : (b : Bool) → (h.length == 0) ≡ b → option_map (λ r. spot_of r h) (if h.length == 0 then Some no_region else granted remote_key rs domain h.rkey h.address h.length (if is_read_request d.opcode then RemoteRead else RemoteWrite)) ≡ granted_spot remote_key rs domain h.rkey h.address h.length (if is_read_request d.opcode then RemoteRead else RemoteWrite)
    by_test true t = rw t refl
    by_test false t = rw t refl
