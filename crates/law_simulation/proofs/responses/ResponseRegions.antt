-- Bytes land in regions of the owner: the protocol and the machine put the same, and nothing else of the regions changes.
use Rattle.std.proofs.Common.{arith, ◌≡◌, ◌≤◌, ◌+◌, ℕ, List, [], ◌∷◌, length, true, false, Bool, refl, sym, ap, ◌∙◌}
use Rattle.std.specs.Prelude.{Option, Some, None, is_some, if◌then◌else◌, ◌==◌, ◌&&◌, ◌||◌, bytes_eq}
use Rattle.std.specs.List.{count_by}
use Rattle.std.proofs.lemmas.Bool.Decides.{nat_tests, leb_tells, eqb_tells}
use Rattle.rdma_types.specs.declared.names.Name.{Name}
use Rattle.rdma_types.specs.Lists.{at, has, store, first_that}
use Rattle.rdma_types.specs.Memory.{Right, allows, grants, granted, holds, is_granted, local_key}
use Rattle.rdma_types.specs.Objects.{Region, no_region}
use Rattle.protocol.specs.State as state
use Rattle.protocol.specs.Memory.{landed, written, with_region, stored, region_of_key}
use Rattle.packetless_machine.specs.Machine.{put_at}
use Rattle.law_simulation.proofs.relation.Tables.{at-found}
use Rattle.law_simulation.proofs.delivery.First.{first_passes}
use Rattle.law_simulation.proofs.delivery.Regions.{over, put_nothing}

-- the region with that local key is the first that holds the place
put_local : (key a : ℕ) (new : List ℕ) (rs : List Region) → has local_key key rs ≡ true → holds (at local_key no_region key rs) a (length new) ≡ true → put_at local_key key a new rs ≡ store local_key key (over (at local_key no_region key rs) a new) rs
unfolding put_at at has store
put_local key a new [] there held = absurd (cc)
put_local key a new (r ∷ rs) there held = by_test (r.keys.local == key) there held (put_local key a new rs)
  where
    by_test : (b : Bool) → (b || has local_key key rs) ≡ true → holds (if b then r else at local_key no_region key rs) a (length new) ≡ true →
        (has local_key key rs ≡ true → holds (at local_key no_region key rs) a (length new) ≡ true → put_at local_key key a new rs ≡ store local_key key (over (at local_key no_region key rs) a new) rs) →
        (if b && holds r a (length new) then over r a new ∷ rs else r ∷ put_at local_key key a new rs) ≡ (if b then over (if b then r else at local_key no_region key rs) a new ∷ rs else r ∷ store local_key key (over (if b then r else at local_key no_region key rs) a new) rs)
    by_test true t h later = ap (λ b. if b then over r a new ∷ rs else r ∷ put_at local_key key a new rs) h
    by_test false t h later = ap (λ z. r ∷ z) (later t h)

count_has : (key : ℕ) (rs : List Region) (test : Region → Bool) (x : Region) → first_that test rs ≡ Some x → (x.keys.local == key) ≡ true → has local_key key rs ≡ true
unfolding first_that has
count_has key [] test x h e = absurd (cc)
count_has key (r ∷ rs) test x h e = grind (arith, count_has key rs test x)

found_at : (key : ℕ) (rs : List Region) (test : Region → Bool) (x : Region) → ((k : ℕ) → count_by (λ r. r.keys.local == k) rs ≤ 1) → first_that test rs ≡ Some x → x.keys.local ≡ key → at local_key no_region key rs ≡ x
found_at key rs test x once h e = ap (λ k. at local_key no_region k rs) (sym e) ∙ at-found (λ r. r.keys.local) no_region test x rs once h

-- a granted place that is not empty is in a region with its key
some_region : (o : Option Region) → is_some o ≡ true → (x : Region) × (o ≡ Some x)
some_region None h = absurd (cc)
some_region (Some x) h = (x, refl)

not_empty : (n : ℕ) (b : Bool) → 1 ≤ n → (n == 0 || b) ≡ true → b ≡ true
not_empty n b some h = grind (arith, nat_tests, eqb_tells n 0, some, h)

granting : (rs : List Region) (domain : Name) (key place count : ℕ) (right : Right) → 1 ≤ count → is_granted local_key rs domain key place count right ≡ true → (x : Region) × (first_that (grants local_key domain key place count right) rs ≡ Some x) × (x.keys.local ≡ key) × (holds x place count ≡ true)
unfolding is_granted granted grants
granting rs domain key place count right some h =
    let found = some_region (first_that (grants local_key domain key place count right) rs) (not_empty count _ some h) in
    let passes : (bytes_eq found.0.domain domain && ((found.0.keys.local == key) && (allows found.0.rights right && holds found.0 place count))) ≡ true = first_passes _ found.0 rs found.1 in
    (found.0, found.1, grind (arith, nat_tests, eqb_tells found.0.keys.local key, passes), grind (arith, passes))

held_part : (x : Region) (place count into n : ℕ) → holds x place count ≡ true → into + n ≤ count → holds x (place + into) n ≡ true
unfolding holds
held_part x place count into n h k = grind (arith, nat_tests, leb_tells x.base place, leb_tells (place + count) (x.base + x.length), leb_tells x.base (place + into), leb_tells ((place + into) + n) (x.base + x.length), h, k)

same_number : (n : ℕ) → (n == n) ≡ true
same_number n = grind (arith, nat_tests, eqb_tells n n)

-- bytes land alike on both sides, inside of a granted place
pub landed_put : (c : state.Context) (rs : List Region) (domain : Name) (key place count into : ℕ) (right : Right) (new : List ℕ) → c.regions ≡ rs → ((k : ℕ) → count_by (λ r. r.keys.local == k) rs ≤ 1) → is_granted local_key rs domain key place count right ≡ true → into + length new ≤ count →
    landed c key (place + into) new ≡ record c { regions = put_at local_key key (place + into) new rs }
unfolding landed written with_region stored region_of_key
landed_put c rs domain key place count into right [] same once g within = ap (λ z. record c { regions = z }) (same ∙ sym (put_nothing local_key key (place + into) rs))
landed_put c rs domain key place count into right (b ∷ bs) same once g within =
    let f = granting rs domain key place count right (omega (arith, within)) g in
    let found : at local_key no_region key rs ≡ f.0 = found_at key rs _ f.0 once f.1 f.2 in
    let held : holds (at local_key no_region key rs) (place + into) (length (b ∷ bs)) ≡ true = ap (λ z. holds z (place + into) (length (b ∷ bs))) found ∙ held_part f.0 place count into (length (b ∷ bs)) f.3 within in
    let there : has local_key key rs ≡ true = count_has key rs _ f.0 f.1 (ap (λ k. k == key) f.2 ∙ same_number key) in
    ap (λ z. record c { regions = z })
    (ap (λ z. store local_key (at local_key no_region key z).keys.local (over (at local_key no_region key z) (place + into) (b ∷ bs)) z) same
    ∙ (ap (λ k. store local_key k (over (at local_key no_region key rs) (place + into) (b ∷ bs)) rs) (ap (λ z. z.keys.local) found ∙ f.2)
    ∙ sym (put_local key (place + into) (b ∷ bs) rs there held)))
