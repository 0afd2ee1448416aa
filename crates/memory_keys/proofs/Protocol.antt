-- Places and stores in the words of the protocol's rules.
use Rattle.std.proofs.Common.{◌≡◌, ℕ, ◌+◌, ◌-◌, ◌<◌, ◌≤◌, Bool, true, false, List, [], ◌∷◌, length, take, drop, refl, ap, sym, ◌∙◌, arith, subst}
use Rattle.std.specs.Prelude.{◌==◌, ◌↔◌, Option, Some, None, IsSome, IsNone, IsSomeAnd, nat_eq, map, option_map}
use Rattle.std.specs.List.{IsDistinct, AllByRecursion}
use Rattle.std.proofs.lemmas.List.{drop-take, take-take}
use Rattle.std.proofs.lemmas.Bool.Decides.{nat_tests}
use Rattle.rdma_types.specs.declared.names.Name.{Name}
use Rattle.rdma_types.specs.Lists.{at, store, has, first_that}
use Rattle.rdma_types.specs.Memory.{Right, cut, granted, grants, is_granted, local_key}
use Rattle.rdma_types.specs.Objects.{Region, no_region}
use Rattle.protocol.specs.Memory.{landed, region_of_key, stored, with_region, written}
use Rattle.protocol.specs.State.{Context}
use Rattle.page_pool.specs.Pool.{Pool, bytes_in}
use Rattle.memory_keys.specs.declared.RegisteredRegion.{RegisteredRegion}
use Rattle.memory_keys.specs.declared.RegionRange.{RegionRange}
use Rattle.memory_keys.specs.Regions.{AreKeyed, IsSpot, granted_spot, held_at, place_in, region_of, regions_of, spot_bytes, stored_at}
use Rattle.memory_keys.proofs.Spots.{spot-is}
use Rattle.memory_keys.proofs.Stores.{stored-nothing}

-- ---- regions under their keys

-- the keys of regions do not depend on bytes
pub keys-of : (pool : Pool) (held : List RegisteredRegion) → map local_key (regions_of pool held) ≡ map (λ h. h.head.keys.local) held
keys-of pool [] = refl
keys-of pool (h ∷ hs) = ap (λ ks. h.head.keys.local ∷ ks) (keys-of pool hs)

pub distinct-keys : (pool : Pool) (held : List RegisteredRegion) → AreKeyed held → IsDistinct nat_eq (map local_key (regions_of pool held))
distinct-keys pool held k = subst (IsDistinct nat_eq) (sym (keys-of pool held)) k.distinct

-- the region with a key
pub found-region : (pool : Pool) (key : ℕ) (held : List RegisteredRegion) (h : RegisteredRegion) → held_at key held ≡ Some h → at local_key no_region key (regions_of pool held) ≡ region_of pool h
unfolding first_that at
found-region pool key [] h e = absurd (cc)
found-region pool key (x ∷ xs) h e = by_test (x.head.keys.local == key) refl (found-region pool key xs h)
  where
    by_test : (b : Bool) → (x.head.keys.local == key) ≡ b → (held_at key xs ≡ Some h → at local_key no_region key (regions_of pool xs) ≡ region_of pool h) → at local_key no_region key (regions_of pool (x ∷ xs)) ≡ region_of pool h
    by_test true t rest = let same : x ≡ h = grind (arith, t, e) in rw t (ap (region_of pool) same)
    by_test false t rest = let found : held_at key xs ≡ Some h = grind (arith, t, e) in rw t (rest found)

pub found-has : (pool : Pool) (key : ℕ) (held : List RegisteredRegion) (h : RegisteredRegion) → held_at key held ≡ Some h → has local_key key (regions_of pool held) ≡ true
unfolding first_that has
found-has pool key [] h e = absurd (cc)
found-has pool key (x ∷ xs) h e = by_test (x.head.keys.local == key) refl (found-has pool key xs h)
  where
    by_test : (b : Bool) → (x.head.keys.local == key) ≡ b → (held_at key xs ≡ Some h → has local_key key (regions_of pool xs) ≡ true) → has local_key key (regions_of pool (x ∷ xs)) ≡ true
    by_test true t rest = rw t refl
    by_test false t rest = let found : held_at key xs ≡ Some h = grind (arith, t, e) in rw t (rest found)

-- the region under a key has the key
pub key-of-region : (key : ℕ) (rs : List Region) → has local_key key rs ≡ true → (at local_key no_region key rs).keys.local ≡ key
unfolding has at
key-of-region key [] h = absurd (cc)
key-of-region key (r ∷ rs) h = by_test (r.keys.local == key) refl (key-of-region key rs)
  where
    by_test : (b : Bool) → (r.keys.local == key) ≡ b → (has local_key key rs ≡ true → (at local_key no_region key rs).keys.local ≡ key) → (at local_key no_region key (r ∷ rs)).keys.local ≡ key
    by_test true t rest = rw t (grind (arith, nat_tests, t))
    by_test false t rest = let later : has local_key key rs ≡ true = grind (arith, t, h) in rw t (rest later)

-- no other region has the key of an earlier one
stored-nowhere : (spot : RegionRange) (new : List ℕ) (k : ℕ) (rs : List Region) → k ≡ spot.region → AllByRecursion (λ y. nat_eq k y ≡ false) (map local_key rs) → stored_at spot new rs ≡ rs
stored-nowhere spot new k [] e d = refl
stored-nowhere spot new k (r ∷ rs) e d =
    let no : (r.keys.local == spot.region) ≡ false = grind (arith, nat_tests, e, d.0) in
    rw no (ap (λ xs. r ∷ xs) (stored-nowhere spot new k rs e d.1))

-- the region put back with bytes at the spot
put-back : (spot : RegionRange) (new : List ℕ) (rs : List Region) → IsDistinct nat_eq (map local_key rs) → has local_key spot.region rs ≡ true → store local_key spot.region (stored (at local_key no_region spot.region rs) spot.off new) rs ≡ stored_at spot new rs
unfolding has at store IsDistinct
put-back spot new [] d h = absurd (cc)
put-back spot new (r ∷ rs) d h = by_test (r.keys.local == spot.region) refl (put-back spot new rs d.1)
  where
    by_test : (b : Bool) → (r.keys.local == spot.region) ≡ b → (has local_key spot.region rs ≡ true → store local_key spot.region (stored (at local_key no_region spot.region rs) spot.off new) rs ≡ stored_at spot new rs) → store local_key spot.region (stored (at local_key no_region spot.region (r ∷ rs)) spot.off new) (r ∷ rs) ≡ stored_at spot new (r ∷ rs)
    by_test true t rest =
        let here : at local_key no_region spot.region (r ∷ rs) ≡ r = rw t refl in
        rw here (rw t (ap (λ xs. stored r spot.off new ∷ xs) (sym (stored-nowhere spot new r.keys.local rs (grind (arith, nat_tests, t)) d.0))))
    by_test false t rest =
        let later : has local_key spot.region rs ≡ true = grind (arith, t, h) in
        let there : at local_key no_region spot.region (r ∷ rs) ≡ at local_key no_region spot.region rs = rw t refl in
        ap (λ x. store local_key spot.region (stored x spot.off new) (r ∷ rs)) there ∙ rw t (ap (λ xs. r ∷ xs) (rest later))

-- ---- stores are writes

-- the region of a spot of some bytes
pub spot-found : (held : List RegisteredRegion) (spot : RegionRange) → IsSpot held spot → 0 < spot.length → IsSome (held_at spot.region held)
spot-found held spot is some = by_case (held_at spot.region held) (is some)
  where
    by_case : (o : Option RegisteredRegion) → IsSomeAnd o (λ h. spot.off + spot.length ≤ h.head.length) → IsSome o
    by_case None h = absurd h
    by_case (Some h) i = refl

spot-has : (pool : Pool) (held : List RegisteredRegion) (spot : RegionRange) → IsSpot held spot → 0 < spot.length → has local_key spot.region (regions_of pool held) ≡ true
spot-has pool held spot is some = by_case (held_at spot.region held) refl (spot-found held spot is some)
  where
    by_case : (o : Option RegisteredRegion) → held_at spot.region held ≡ o → IsSome o → has local_key spot.region (regions_of pool held) ≡ true
    by_case None e h = absurd (cc)
    by_case (Some h) e i = found-has pool spot.region held h e

stored-key : (r : Region) (off : ℕ) (new : List ℕ) → (stored r off new).keys.local ≡ r.keys.local
unfolding stored
stored-key r off new = refl

pub written-some : (c : Context) (rs : List Region) (spot : RegionRange) (new : List ℕ) → c.regions ≡ rs → IsDistinct nat_eq (map local_key rs) → has local_key spot.region rs ≡ true → with_region c (stored (region_of_key c spot.region) spot.off new) ≡ record c { regions = stored_at spot new c.regions }
unfolding with_region region_of_key
written-some c rs spot new e d h =
    let has' : has local_key spot.region c.regions ≡ true = ap (has local_key spot.region) e ∙ h in
    let d' : IsDistinct nat_eq (map local_key c.regions) = subst (λ xs. IsDistinct nat_eq (map local_key xs)) (sym e) d in
    let key = key-of-region spot.region c.regions has' in
    let r = stored (at local_key no_region spot.region c.regions) spot.off new in
    ap (λ rs. record c { regions = rs }) (ap (λ k. store local_key k r c.regions) (stored-key (at local_key no_region spot.region c.regions) spot.off new ∙ key) ∙ put-back spot new c.regions d' has')

pub written-is : (c : Context) (pool : Pool) (held : List RegisteredRegion) → c.regions ≡ regions_of pool held → AreKeyed held → (spot : RegionRange) (new : List ℕ) → IsSpot held spot → length new ≡ spot.length → written c spot.region spot.off new ≡ record c { regions = stored_at spot new c.regions }
unfolding written
written-is c pool held e k spot [] is l = ap (λ rs. record c { regions = rs }) (sym (stored-nothing spot [] c.regions refl))
written-is c pool held e k spot (b ∷ bs) is l = written-some c (regions_of pool held) spot (b ∷ bs) e (distinct-keys pool held k) (spot-has pool held spot is (omega (arith, l)))

-- ---- places that are granted

-- an earlier region has another key than one that is there
other-key : (key k : ℕ) (rs : List Region) → AllByRecursion (λ y. nat_eq k y ≡ false) (map local_key rs) → has local_key key rs ≡ true → (k == key) ≡ false
unfolding has
other-key key k [] a h = absurd (cc)
other-key key k (r ∷ rs) a h = by_key (r.keys.local == key) refl (other-key key k rs a.1)
  where
    by_key : (b : Bool) → (r.keys.local == key) ≡ b → (has local_key key rs ≡ true → (k == key) ≡ false) → (k == key) ≡ false
    by_key true t later = let same : r.keys.local ≡ key = grind (arith, nat_tests, t) in subst (λ n. (k == n) ≡ false) same a.0
    by_key false t later = later (grind (arith, t, h))

-- a region that passes a test is the one under its key
granted-is : (rs : List Region) (test : Region → Bool) (r : Region) → IsDistinct nat_eq (map local_key rs) → first_that test rs ≡ Some r → (has local_key r.keys.local rs ≡ true) × (at local_key no_region r.keys.local rs ≡ r)
unfolding first_that has at IsDistinct
granted-is [] test r d e = absurd (cc)
granted-is (x ∷ xs) test r d e = by_test (test x) refl (granted-is xs test r d.1)
  where
    by_test : (b : Bool) → test x ≡ b → (first_that test xs ≡ Some r → (has local_key r.keys.local xs ≡ true) × (at local_key no_region r.keys.local xs ≡ r)) → (has local_key r.keys.local (x ∷ xs) ≡ true) × (at local_key no_region r.keys.local (x ∷ xs) ≡ r)
    by_test true t rest =
        let same : x ≡ r = grind (arith, t, e) in
        let here : (x.keys.local == r.keys.local) ≡ true = subst (λ y. (x.keys.local == y.keys.local) ≡ true) same (self x.keys.local) in
        (rw here refl, rw here same)
      where
        self : (n : ℕ) → (n == n) ≡ true
        self n = grind (arith, nat_tests)
    by_test false t rest =
        let found : first_that test xs ≡ Some r = grind (arith, t, e) in
        let later = rest found in
        let no : (x.keys.local == r.keys.local) ≡ false = other-key r.keys.local x.keys.local xs d.0 later.0 in
        (rw no later.0, rw no later.1)

pub place-some : (key_of : Region → ℕ) (rs : List Region) (domain : Name) (key at count : ℕ) (right : Right) → 0 < count → granted_spot key_of rs domain key at count right ≡ option_map (place_in at count) (granted key_of rs domain key at count right)
place-some key_of rs domain key at count right some = let no : (count == 0) ≡ false = grind (arith, nat_tests) in rw no refl

pub place-refused : (key_of : Region → ℕ) (rs : List Region) (domain : Name) (key at count : ℕ) (right : Right) → IsNone (granted_spot key_of rs domain key at count right) ↔ (is_granted key_of rs domain key at count right ≡ false)
unfolding is_granted
place-refused key_of rs domain key at count right = by_test (count == 0) refl (granted key_of rs domain key at count right) refl
  where
    by_test : (b : Bool) → (count == 0) ≡ b → (o : Option Region) → granted key_of rs domain key at count right ≡ o → IsNone (granted_spot key_of rs domain key at count right) ↔ (is_granted key_of rs domain key at count right ≡ false)
    by_test true t o e = rw t (λ h. absurd (cc), λ h. absurd (cc))
    by_test false t None e = rw t (rw e (λ h. refl, λ h. refl))
    by_test false t (Some r) e = rw t (rw e (λ h. absurd (cc), λ h. absurd (cc)))

-- the region that grants a spot
granting : (key_of : Region → ℕ) (rs : List Region) (domain : Name) (key from count : ℕ) (right : Right) (spot : RegionRange) → 0 < count → granted_spot key_of rs domain key from count right ≡ Some spot → (r : Region) × ((granted key_of rs domain key from count right ≡ Some r) × (spot ≡ place_in from count r))
granting key_of rs domain key from count right spot some e = by_case (granted key_of rs domain key from count right) refl (sym (place-some key_of rs domain key from count right some) ∙ e)
  where
    by_case : (o : Option Region) → granted key_of rs domain key from count right ≡ o → option_map (place_in from count) (granted key_of rs domain key from count right) ≡ Some spot → (r : Region) × ((granted key_of rs domain key from count right ≡ Some r) × (spot ≡ place_in from count r))
    by_case None g h = absurd (let none : option_map (place_in from count) None ≡ Some spot = rw g at h in cc)
    by_case (Some r) g h = let is : Some (place_in from count r) ≡ Some spot = sym (ap (option_map (place_in from count)) g) ∙ h in let is' : spot ≡ place_in from count r = cc in (r, (g, is'))

-- it is the one under the spot's key
under-key : (rs : List Region) (key_of : Region → ℕ) (domain : Name) (key from count : ℕ) (right : Right) (r : Region) → IsDistinct nat_eq (map local_key rs) → granted key_of rs domain key from count right ≡ Some r → (has local_key r.keys.local rs ≡ true) × (at local_key no_region r.keys.local rs ≡ r)
unfolding granted
under-key rs key_of domain key from count right r d e = granted-is rs (grants key_of domain key from count right) r d e

-- a region that a local key grants has the key
granted-key : (rs : List Region) (domain : Name) (key from count : ℕ) (right : Right) (r : Region) → granted local_key rs domain key from count right ≡ Some r → r.keys.local ≡ key
unfolding granted grants first_that
granted-key [] domain key from count right r e = absurd (cc)
granted-key (x ∷ xs) domain key from count right r e = by_test (grants local_key domain key from count right x) refl (granted-key xs domain key from count right r)
  where
    by_test : (b : Bool) → grants local_key domain key from count right x ≡ b → (granted local_key xs domain key from count right ≡ Some r → r.keys.local ≡ key) → r.keys.local ≡ key
    by_test true t rest = let same : x ≡ r = grind (arith, t, e) in let key' : x.keys.local ≡ key = grind (arith, nat_tests, t) in ap (λ y. y.keys.local) (sym same) ∙ key'
    by_test false t rest = rest (grind (arith, t, e))

pub place-region : (c : Context) (pool : Pool) (held : List RegisteredRegion) → c.regions ≡ regions_of pool held → AreKeyed held → (key_of : Region → ℕ) (domain : Name) (key from count : ℕ) (right : Right) (spot : RegionRange) → 0 < count → granted_spot key_of c.regions domain key from count right ≡ Some spot → granted key_of c.regions domain key from count right ≡ Some (region_of_key c spot.region)
unfolding region_of_key
place-region c pool held e k key_of domain key from count right spot some s =
    let g = granting key_of c.regions domain key from count right spot some s in
    let d : IsDistinct nat_eq (map local_key c.regions) = subst (λ xs. IsDistinct nat_eq (map local_key xs)) (sym e) (distinct-keys pool held k) in
    let there = under-key c.regions key_of domain key from count right g.0 d g.1.0 in
    g.1.0 ∙ ap Some (sym there.1 ∙ ap (λ n. at local_key no_region n c.regions) (sym (ap (λ p. p.region) g.1.1)))

pub place-offset : (c : Context) (pool : Pool) (held : List RegisteredRegion) → c.regions ≡ regions_of pool held → AreKeyed held → (key_of : Region → ℕ) (domain : Name) (key from count : ℕ) (right : Right) (spot : RegionRange) → 0 < count → granted_spot key_of c.regions domain key from count right ≡ Some spot → spot.off ≡ from - (region_of_key c spot.region).base
place-offset c pool held e k key_of domain key from count right spot some s =
    let g = granting key_of c.regions domain key from count right spot some s in
    let is = place-region c pool held e k key_of domain key from count right spot some s in
    let same : g.0 ≡ region_of_key c spot.region = cc (is, g.1.0) in
    ap (λ p. p.off) g.1.1 ∙ ap (λ r. from - r.base) same

-- bytes that land
pub landed-is : (c : Context) (pool : Pool) (held : List RegisteredRegion) → c.regions ≡ regions_of pool held → AreKeyed held → (domain : Name) (key from count : ℕ) (right : Right) (spot : RegionRange) (new : List ℕ) → granted_spot local_key c.regions domain key from count right ≡ Some spot → length new ≡ count → landed c key from new ≡ record c { regions = stored_at spot new c.regions }
unfolding landed written
landed-is c pool held e k domain key from count right spot [] s l = ap (λ rs. record c { regions = rs }) (sym (stored-nothing spot [] c.regions refl))
landed-is c pool held e k domain key from count right spot (b ∷ bs) s l =
    let some : 0 < count = omega (arith, l) in
    let g = granting local_key c.regions domain key from count right spot some s in
    let off = place-offset c pool held e k local_key domain key from count right spot some s in
    let d : IsDistinct nat_eq (map local_key c.regions) = subst (λ xs. IsDistinct nat_eq (map local_key xs)) (sym e) (distinct-keys pool held k) in
    let region : spot.region ≡ key = ap (λ p. p.region) g.1.1 ∙ granted-key c.regions domain key from count right g.0 g.1.0 in
    let has' : has local_key spot.region c.regions ≡ true = subst (λ n. has local_key n c.regions ≡ true) (sym (ap (λ p. p.region) g.1.1)) (under-key c.regions local_key domain key from count right g.0 d g.1.0).0 in
    let place : from - (region_of_key c key).base ≡ spot.off = sym (off ∙ ap (λ n. from - (region_of_key c n).base) region) in
    ap (λ n. with_region c (stored (region_of_key c key) n (b ∷ bs))) place
    ∙ (ap (λ n. with_region c (stored (region_of_key c n) spot.off (b ∷ bs))) (sym region) ∙ written-some c c.regions spot (b ∷ bs) refl d has')

-- ---- bytes

cut-front : (off n size : ℕ) (bytes : List ℕ) → off + n ≤ size → cut off n (take size bytes) ≡ cut off n bytes
unfolding cut
cut-front off n size bytes h =
    let is : size ≡ off + (size - off) = omega arith in
    let few : n ≤ size - off = omega arith in
    ap (λ s. take n (drop off (take s bytes))) is ∙ (ap (take n) (drop-take off (size - off) bytes) ∙ take-take n (size - off) (drop off bytes) few)

pub spot-cut : (c : Context) (pool : Pool) (held : List RegisteredRegion) → c.regions ≡ regions_of pool held → (spot : RegionRange) → IsSpot held spot → 0 < spot.length → spot_bytes pool held spot ≡ cut spot.off spot.length (region_of_key c spot.region).bytes
unfolding region_of_key
spot-cut c pool held e spot is some = by_case (held_at spot.region held) refl (is some)
  where
    by_case : (o : Option RegisteredRegion) → held_at spot.region held ≡ o → IsSomeAnd o (λ h. spot.off + spot.length ≤ h.head.length) → spot_bytes pool held spot ≡ cut spot.off spot.length (at local_key no_region spot.region c.regions).bytes
    by_case None f inside = absurd inside
    by_case (Some h) f inside =
        let r : at local_key no_region spot.region c.regions ≡ region_of pool h = ap (at local_key no_region spot.region) e ∙ found-region pool spot.region held h f in
        spot-is pool held spot h f ∙ (sym (cut-front spot.off spot.length h.head.length (bytes_in pool h.list) inside) ∙ ap (λ x. cut spot.off spot.length x.bytes) (sym r))

-- ---- regions whatever their bytes

pub first-region : (pool : Pool) (key : ℕ) (held : List RegisteredRegion) → first_that (λ r. r.keys.local == key) (regions_of pool held) ≡ option_map (region_of pool) (held_at key held)
unfolding first_that
first-region pool key [] = refl
first-region pool key (h ∷ hs) = by_test (h.head.keys.local == key) refl (first-region pool key hs)
  where
    by_test : (b : Bool) → (h.head.keys.local == key) ≡ b → first_that (λ r. r.keys.local == key) (regions_of pool hs) ≡ option_map (region_of pool) (held_at key hs) → first_that (λ r. r.keys.local == key) (regions_of pool (h ∷ hs)) ≡ option_map (region_of pool) (held_at key (h ∷ hs))
    by_test true t rest = rw t refl
    by_test false t rest = rw t rest

pub spot-in-regions : (pool : Pool) (held : List RegisteredRegion) (spot : RegionRange) → IsSpot held spot ↔ (0 < spot.length → IsSomeAnd (first_that (λ r. r.keys.local == spot.region) (regions_of pool held)) (λ r. spot.off + spot.length ≤ r.length))
spot-in-regions pool held spot = (λ h some. to (held_at spot.region held) (first-region pool spot.region held) (h some), λ h some. from (held_at spot.region held) (first-region pool spot.region held) (h some))
  where
    to : (o : Option RegisteredRegion) → first_that (λ r. r.keys.local == spot.region) (regions_of pool held) ≡ option_map (region_of pool) o → IsSomeAnd o (λ h. spot.off + spot.length ≤ h.head.length) → IsSomeAnd (first_that (λ r. r.keys.local == spot.region) (regions_of pool held)) (λ r. spot.off + spot.length ≤ r.length)
    to None e h = absurd h
    to (Some x) e h = subst (λ y. IsSomeAnd y (λ r. spot.off + spot.length ≤ r.length)) (sym e) h

    from : (o : Option RegisteredRegion) → first_that (λ r. r.keys.local == spot.region) (regions_of pool held) ≡ option_map (region_of pool) o → IsSomeAnd (first_that (λ r. r.keys.local == spot.region) (regions_of pool held)) (λ r. spot.off + spot.length ≤ r.length) → IsSomeAnd o (λ h. spot.off + spot.length ≤ h.head.length)
    from None e h = absurd (subst (λ y. IsSomeAnd y (λ r. spot.off + spot.length ≤ r.length)) e h)
    from (Some x) e h = subst (λ y. IsSomeAnd y (λ r. spot.off + spot.length ≤ r.length)) e h
