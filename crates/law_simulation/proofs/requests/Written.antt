-- The bytes of a Write go where the machine puts them.
use Rattle.std.proofs.Common.{arith, ◌≡◌, ◌<◌, ◌≤◌, ◌^◌, ◌+◌, ◌-◌, ℕ, zero, suc, List, [], ◌∷◌, length, true, false, Bool, refl, sym, ap, ◌∙◌, subst, inl, inr}
use Rattle.std.specs.Prelude.{Option, Some, None, is_some, if◌then◌else◌, ◌==◌, ◌&&◌, ◌||◌, All, Contains, bytes_eq}
use Rattle.std.specs.List.{count_by}
use Rattle.std.proofs.lemmas.Bool.Decides.{nat_tests, leb_tells, eqb_tells}
use Rattle.std.proofs.lemmas.List.Elements.{All-contains}
use Rattle.rdma_types.specs.declared.names.Name.{Name}
use Rattle.rdma_types.specs.Kinds.{kind_of, size_of}
use Rattle.rdma_types.specs.Lists.{at, has, store, first_that}
use Rattle.rdma_types.specs.Memory.{Right, put, grants, granted, holds, is_granted, allows, local_key, remote_key}
use Rattle.rdma_types.specs.Objects.{Posted, Region, no_region}
use Rattle.protocol.specs.State as state
use Rattle.protocol.specs.Memory.{written, with_region, stored, region_of_key}
use Rattle.protocol.specs.Responder.{Place}
use Rattle.packetless_machine.specs.Machine.{put_at}
use Rattle.packetless_machine.specs.Steps.{right_for}
use Rattle.law_simulation.specs.Joined.{IsWriting, is_granted_in}
use Rattle.law_simulation.proofs.relation.Grants.{contains_cases, contains_here, contains_later}
use Rattle.law_simulation.proofs.relation.Tables.{count_by-cons}
use Rattle.law_simulation.proofs.delivery.First.{first_passes}
use Rattle.law_simulation.proofs.requests.Regions.{put_stored}
use Rattle.law_simulation.proofs.delivery.Regions.{over, put_nothing}

pub first_contained : {A : Type 0} (p : A → Bool) (x : A) (xs : List A) → first_that p xs ≡ Some x → Contains xs x
unfolding first_that
first_contained p x [] h = absurd (cc)
first_contained p x (y ∷ ys) h = by_test (p y) h (first_contained p x ys)
  where
    by_test : (b : Bool) → (if b then Some y else first_that p ys) ≡ Some x → (first_that p ys ≡ Some x → Contains ys x) → Contains (y ∷ ys) x
    by_test true e later = let is : y ≡ x = cc in subst (Contains (y ∷ ys)) is (contains_here y ys)
    by_test false e later = contains_later x y ys (later e)

pub number_counted : {A : Type 0} (number : A → ℕ) (x : A) (xs : List A) → Contains xs x → 1 ≤ count_by (λ y. number y == number x) xs
number_counted number x [] h = absurd (omega (arith, h.1))
number_counted number x (y ∷ ys) h = elim (contains_cases x y ys h) [
  | inl e ↦ grind (arith, nat_tests, count_by-cons (λ z. number z == number x) y ys, ap number e)
  | inr l ↦ grind (arith, count_by-cons (λ z. number z == number x) y ys, number_counted number x ys l)
]

pub contains_has : {A : Type 0} (number : A → ℕ) (x : A) (xs : List A) → Contains xs x → has number (number x) xs ≡ true
unfolding has
contains_has number x [] h = absurd (omega (arith, h.1))
contains_has number x (y ∷ ys) h = elim (contains_cases x y ys h) [
  | inl e ↦ grind (arith, nat_tests, ap number e)
  | inr l ↦ grind (arith, contains_has number x ys l)
]

pub number_once : {A : Type 0} (number : A → ℕ) (none x : A) (xs : List A) → Contains xs x → count_by (λ y. number y == number x) xs ≤ 1 → at number none (number x) xs ≡ x
unfolding at
number_once number none x [] h once = absurd (omega (arith, h.1))
number_once number none x (y ∷ ys) h once = elim (contains_cases x y ys h) [
  | inl e ↦ grind (arith, nat_tests, e, ap number e)
  | inr l ↦ grind (arith, nat_tests, count_by-cons (λ z. number z == number x) y ys, number_counted number x ys l, number_once number none x ys l)
]

pub held_high : (x : Region) (address count : ℕ) → holds x address count ≡ true → address + count ≤ x.base + x.length
unfolding holds
held_high x address count h = grind (arith, nat_tests, leb_tells (address + count) (x.base + x.length), h)

-- what a granted place tells
pub record IsGrantedBy (key_of : Region → ℕ) (regions : List Region) (key address count : ℕ) (right : Right) (x : Region) : Type 0 where
  pub there : Contains regions x
  pub named : key_of x ≡ key
  pub allowed : allows x.rights right ≡ true
  pub held : holds x address count ≡ true

granting : (key_of : Region → ℕ) (regions : List Region) (domain : Name) (key address count : ℕ) (right : Right) (r : Option Region) → granted key_of regions domain key address count right ≡ r → is_some r ≡ true → (x : Region) × (granted key_of regions domain key address count right ≡ Some x) × IsGrantedBy key_of regions key address count right x
unfolding granted grants
granting key_of regions domain key address count right None h k = absurd (cc)
granting key_of regions domain key address count right (Some x) h k =
    let passes : (bytes_eq x.domain domain && ((key_of x == key) && (allows x.rights right && holds x address count))) ≡ true = first_passes _ x regions h in
    (x, h, record { there = first_contained _ x regions h; named = grind (arith, nat_tests, eqb_tells (key_of x) key, passes); allowed = grind (arith, passes); held = grind (arith, passes) })

pub granted_region : (key_of : Region → ℕ) (regions : List Region) (domain : Name) (key address count : ℕ) (right : Right) → 1 ≤ count → is_granted key_of regions domain key address count right ≡ true → (x : Region) × (granted key_of regions domain key address count right ≡ Some x) × IsGrantedBy key_of regions key address count right x
unfolding is_granted
granted_region key_of regions domain key address count right some h =
    granting key_of regions domain key address count right (granted key_of regions domain key address count right) refl (by_test (count == 0) (not_zero count some) h)
  where
    not_zero : (n : ℕ) → 1 ≤ n → (n == 0) ≡ false
    not_zero n s = grind (arith, nat_tests, eqb_tells n 0, s)

    by_test : (b : Bool) → b ≡ false → (b || is_some (granted key_of regions domain key address count right)) ≡ true → is_some (granted key_of regions domain key address count right) ≡ true
    by_test false t g = g
    by_test true t g = absurd (cc)

pub held_part : (x : Region) (address count into n : ℕ) → holds x address count ≡ true → into + n ≤ count → holds x (address + into) n ≡ true
unfolding holds
held_part x address count into n h k = grind (arith, nat_tests, leb_tells x.base address, leb_tells (address + count) (x.base + x.length), leb_tells x.base (address + into), leb_tells ((address + into) + n) (x.base + x.length), h, k)

pub held_low : (x : Region) (address count : ℕ) → holds x address count ≡ true → x.base ≤ address
unfolding holds
held_low x address count h = grind (arith, nat_tests, leb_tells x.base address, h)

-- a granted place does not go past the last address
pub granted_unwrapped : (key_of : Region → ℕ) (regions : List Region) (domain : Name) (key address count : ℕ) (right : Right) → All (λ r. r.base + r.length ≤ 2 ^ 64) regions → address < 2 ^ 64 → is_granted key_of regions domain key address count right ≡ true → address + count ≤ 2 ^ 64
granted_unwrapped key_of regions domain key address zero right ends small h = omega (arith, small)
granted_unwrapped key_of regions domain key address (suc k) right ends small h =
    let g = granted_region key_of regions domain key address (suc k) right (omega arith) h in
    omega (arith, All-contains (λ r. r.base + r.length ≤ 2 ^ 64) regions g.0 ends g.2.there, held_high g.0 address (suc k) g.2.held)

-- a place where a Write of r goes, of which so many bytes are there
pub record IsPlaceOf (regions : List Region) (r : Posted) (into : ℕ) (p : Place) : Type 0 where
  pub length : p.length ≡ size_of r
  pub done : p.done ≡ into
  pub writing : IsWriting regions p.region p.off r

same_region : (regions : List Region) (a b : Region) → ((k : ℕ) → count_by (λ z. z.keys.local == k) regions ≤ 1) → Contains regions a → Contains regions b → a.keys.local ≡ b.keys.local → a ≡ b
same_region regions a b once ca cb e =
    sym (number_once local_key no_region a regions ca (once a.keys.local)) ∙ (ap (λ k. at local_key no_region k regions) e ∙ number_once local_key no_region b regions cb (once b.keys.local))

-- no bytes, or some
pub written_put : (c : state.Context) (regions : List Region) (domain : Name) (r : Posted) (into : ℕ) (p : Place) (new : List ℕ) → c.regions ≡ regions → All (λ z. z.keys.remote ≡ suc z.keys.local) regions → ((k : ℕ) → count_by (λ z. z.keys.local == k) regions ≤ 1) → is_granted_in domain regions r ≡ true → (1 ≤ length new → IsPlaceOf regions r into p) → into + length new ≤ size_of r →
    written c p.region (p.off + p.done) new ≡ record c { regions = put_at remote_key r.request.shape.rkey (r.request.shape.remote + into) new regions }
unfolding written with_region stored region_of_key is_granted_in
written_put c regions domain r into p [] same paired once granted' place within = ap (λ rs. record c { regions = rs }) (same ∙ sym (put_nothing remote_key r.request.shape.rkey (r.request.shape.remote + into) regions))
written_put c regions domain r into p (b ∷ bs) same paired once granted' place within =
    let z : IsPlaceOf regions r into p = place (omega arith) in
    let x : Region = z.writing.region in
    let g = granted_region remote_key regions domain r.request.shape.rkey r.request.shape.remote (size_of r) (right_for (kind_of r)) (omega (arith, within)) granted' in
    let local : g.0.keys.local ≡ x.keys.local = omega (arith, All-contains (λ u. u.keys.remote ≡ suc u.keys.local) regions g.0 paired g.2.there, All-contains (λ u. u.keys.remote ≡ suc u.keys.local) regions x paired z.writing.there, g.2.named, z.writing.remote) in
    let is : g.0 ≡ x = same_region regions g.0 x once g.2.there z.writing.there local in
    let found : at local_key no_region p.region regions ≡ x = ap (λ k. at local_key no_region k regions) (sym z.writing.local) ∙ number_once local_key no_region x regions z.writing.there (once x.keys.local) in
    let held : holds x (r.request.shape.remote + into) (length (b ∷ bs)) ≡ true = held_part x r.request.shape.remote (size_of r) into (length (b ∷ bs)) (subst (λ u. holds u r.request.shape.remote (size_of r) ≡ true) is g.2.held) within in
    let key : r.request.shape.rkey ≡ suc p.region = omega (arith, All-contains (λ u. u.keys.remote ≡ suc u.keys.local) regions x paired z.writing.there, z.writing.remote, z.writing.local) in
    let off : p.off + p.done ≡ (r.request.shape.remote + into) - x.base = omega (arith, z.writing.place, z.done) in
    let there : has local_key p.region regions ≡ true = ap (λ k. has local_key k regions) (sym z.writing.local) ∙ contains_has local_key x regions z.writing.there in
    ap (λ rs. record c { regions = rs })
    (ap (λ rs. store local_key (at local_key no_region p.region rs).keys.local (record (at local_key no_region p.region rs) { bytes = put (at local_key no_region p.region rs).bytes (p.off + p.done) (b ∷ bs) }) rs) same
    ∙ (ap (λ u. store local_key u.keys.local (record u { bytes = put u.bytes (p.off + p.done) (b ∷ bs) }) regions) found
    ∙ (ap (λ k. store local_key x.keys.local (record x { bytes = put x.bytes k (b ∷ bs) }) regions) off
    ∙ (ap (λ k. store local_key k (over x (r.request.shape.remote + into) (b ∷ bs)) regions) z.writing.local
    ∙ (ap (λ u. store local_key p.region (over u (r.request.shape.remote + into) (b ∷ bs)) regions) (sym found)
    ∙ (sym (put_stored p.region (r.request.shape.remote + into) (b ∷ bs) regions paired there (subst (λ u. holds u (r.request.shape.remote + into) (length (b ∷ bs)) ≡ true) (sym found) held))
    ∙ ap (λ k. put_at remote_key k (r.request.shape.remote + into) (b ∷ bs) regions) (sym key)))))))
