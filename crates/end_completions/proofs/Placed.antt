-- Bytes in a part of a granted place.
use Rattle.std.proofs.Common.{◌≡◌, ℕ, ◌+◌, ◌-◌, ◌≤◌, ◌<◌, Bool, true, false, List, [], ◌∷◌, length, refl, ap, sym, ◌∙◌, arith, subst}
use Rattle.std.specs.Prelude.{◌↔◌, IsNone, IsSome, IsSomeAnd, Option, Some, None, if◌then◌else◌}
use Rattle.std.specs.Option.{option_map}
use Rattle.rdma_types.specs.declared.names.Name.{Name}
use Rattle.rdma_types.specs.Lists.{first_that}
use Rattle.rdma_types.specs.Memory.{Grants, Right, grants, granted, local_key}
use Rattle.rdma_types.specs.Objects.{Region}
use Rattle.rdma_types.proofs.Grants.{granting}
use Rattle.page_pool.specs.Pool.{Pool}
use Rattle.protocol.specs.Memory.{landed, region_of_key, written}
use Rattle.protocol.specs.State.{Context}
use Rattle.memory_keys.specs.declared.RegisteredRegion.{RegisteredRegion}
use Rattle.memory_keys.specs.declared.RegionRange.{RegionRange}
use Rattle.memory_keys.specs.Regions.{AreKeyed, IsSpot, granted_spot, held_at, part_of, place_in, regions_of, stored_at}
use Rattle.memory_keys.proofs.Protocol.{place-region, place-some, written-is}
use Rattle.memory_keys.proofs.Stores.{stored-nothing}

passes : {A : Type 0} (test : A → Bool) (xs : List A) (x : A) → first_that test xs ≡ Some x → test x ≡ true
unfolding first_that
passes test [] x e = absurd (cc)
passes test (y ∷ ys) x e = by_test (test y) refl (passes test ys x)
  where
    by_test : (b : Bool) → test y ≡ b → (first_that test ys ≡ Some x → test x ≡ true) → test x ≡ true
    by_test true t more =
        let found : Some y ≡ Some x = sym (ap (λ b. if b then Some y else first_that test ys) t) ∙ e in
        let same : y ≡ x = cc in sym (ap test same) ∙ t
    by_test false t more = more (sym (ap (λ b. if b then Some y else first_that test ys) t) ∙ e)

-- what no byte changes
landed-nothing : (c : Context) (key at : ℕ) → landed c key at [] ≡ c
unfolding landed written
landed-nothing c key at = refl

landed-at : (c : Context) (key at : ℕ) (bytes : List ℕ) → landed c key at bytes ≡ written c key (at - (region_of_key c key).base) bytes
unfolding landed
landed-at c key at bytes = refl

-- the region of a granted place
record IsGrantedPlace (c : Context) (key at size : ℕ) (place : RegionRange) : Type 0 where
  same_key : place.region ≡ key
  low : (region_of_key c key).base ≤ at
  off : place.off ≡ at - (region_of_key c key).base

place-is : (c : Context) (pool : Pool) (held : List RegisteredRegion) → c.regions ≡ regions_of pool held → AreKeyed held
    → (domain : Name) (key at size : ℕ) (right : Right) (place : RegionRange) → 0 < size
    → granted_spot local_key c.regions domain key at size right ≡ Some place → IsGrantedPlace c key at size place
unfolding granted
place-is c pool held is keyed domain key at size right place some found =
    let r : Region = region_of_key c place.region in
    let g : granted local_key c.regions domain key at size right ≡ Some r = place-region c pool held is keyed local_key domain key at size right place some found in
    let at-place : Some (place_in at size r) ≡ Some place = sym (place-some local_key c.regions domain key at size right some ∙ ap (option_map (place_in at size)) g) ∙ found in
    let grants : Grants local_key domain key at size right r = granting local_key domain key at size right r (passes (grants local_key domain key at size right) c.regions r g) in
    let same : place_in at size r ≡ place = cc in
    let keys : place.region ≡ key = sym (ap (λ p. p.region) same) ∙ grants.same_key in
    record {
      same_key = keys;
      low = subst (λ k. (region_of_key c k).base ≤ at) keys grants.low;
      off = sym (ap (λ p. p.off) same) ∙ ap (λ k. at - (region_of_key c k).base) keys;
    }

-- bytes in a part of it
pub landed-part : (c : Context) (pool : Pool) (held : List RegisteredRegion) → c.regions ≡ regions_of pool held → AreKeyed held
    → (domain : Name) (key at size : ℕ) (right : Right) (place : RegionRange) (from : ℕ) (bytes : List ℕ)
    → granted_spot local_key c.regions domain key at size right ≡ Some place → IsSpot held place → place.length ≡ size → from + length bytes ≤ size
    → landed c key (at + from) bytes ≡ record c { regions = stored_at (part_of place from (length bytes)) bytes c.regions }
landed-part c pool held is keyed domain key at size right place from [] found spot whole inside =
    landed-nothing c key (at + from) ∙ ap (λ rs. record c { regions = rs }) (sym (stored-nothing (part_of place from 0) [] c.regions refl))
landed-part c pool held is keyed domain key at size right place from (b ∷ bs) found spot whole inside =
    let some : 0 < size = omega arith in
    let here = place-is c pool held is keyed domain key at size right place some found in
    let part : IsSpot held (part_of place from (length (b ∷ bs))) = part-inside held place from (length (b ∷ bs)) spot (omega arith) in
    let off : (at + from) - (region_of_key c key).base ≡ place.off + from = omega (arith, here.low, here.off) in
    landed-at c key (at + from) (b ∷ bs)
    ∙ (ap (λ n. written c key n (b ∷ bs)) off
    ∙ (ap (λ k. written c k (place.off + from) (b ∷ bs)) (sym here.same_key)
    ∙ written-is c pool held is keyed (part_of place from (length (b ∷ bs))) (b ∷ bs) part refl))
  where
    part-inside : (hs : List RegisteredRegion) (p : RegionRange) (from count : ℕ) → IsSpot hs p → from + count ≤ p.length → IsSpot hs (part_of p from count)
    part-inside hs p from count spot within = λ some. by_region (held_at p.region hs) (spot (omega arith))
      where
        by_region : (o : Option RegisteredRegion) → IsSomeAnd o (λ h. p.off + p.length ≤ h.head.length) → IsSomeAnd o (λ h. (p.off + from) + count ≤ h.head.length)
        by_region None h = h
        by_region (Some x) h = omega arith

-- a granted place has a spot
pub place-there : (o : Option RegionRange) (granted : Bool) → IsNone o ↔ (granted ≡ false) → granted ≡ true → IsSome o
place-there None granted refused given = absurd (let no : granted ≡ false = refused.0 refl in cc)
place-there (Some place) granted refused given = refl
