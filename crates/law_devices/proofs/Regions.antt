-- Regions, their keys and what is granted, where bytes change, and where regions come and go.
use Rattle.std.proofs.Common.{arith, ◌≡◌, ◌≢◌, ◌⊎◌, ◌≤◌, ◌<◌, ◌+◌, ◌-◌, ℕ, zero, suc, List, [], ◌∷◌, ◌++◌, map, length, take, drop, get_or, true, false, Bool, refl, sym, ap, ◌∙◌, inl, inr, ⊎_elim, subst}
use Rattle.std.specs.Prelude.{All, AllPairs, Contains, bytes_eq, ◌==◌, ◌||◌, ◌&&◌, if◌then◌else◌, min, Option, Some, None, is_some, slice_get}
use Rattle.std.proofs.lemmas.Bool.{both_ways, cases_Bool}
use Rattle.std.proofs.lemmas.Bool.Decides.{eqb_tells, nat_tests}
use Rattle.std.proofs.lemmas.List.{length-append, length-drop, length-take}
use Rattle.std.proofs.lemmas.List.Elements.{All-cons, All-head, All-tail, All-get_or}
use Rattle.std.proofs.lemmas.Option.{get_or_from_slice_get, slice_get_within}
use Rattle.rdma_types.proofs.Grants as grant
use Rattle.rdma_types.specs.declared.names.Name.{Name}
use Rattle.rdma_types.specs.Lists.{at, first_that, has, has_name, store, without}
use Rattle.rdma_types.specs.Memory.{Grants, IsGranted, Right, cut, granted, grants, holds, is_granted, local_key, put, remote_key}
use Rattle.rdma_types.specs.Objects.{Region, no_region}
use Rattle.protocol.specs.Memory.{landed, loaded, region_of_key, stored, with_region, written}
use Rattle.protocol.specs.State.{Context}
use Rattle.law_devices.specs.Sound.{IsGrantedTo, IsSoundRegion, plan_of, plans}
use Rattle.law_devices.proofs.Tables.{All-if, name_tells}

-- ---- what is found is there

pub first_found : {A : Type 0} (test : A → Bool) (xs : List A) (x : A) → first_that test xs ≡ Some x → (i : ℕ) × (slice_get xs i ≡ Some x) × (test x ≡ true)
unfolding first_that
first_found test [] x h = absurd (cc)
first_found {A} test (y ∷ ys) x h = by_test (test y) refl h (first_found test ys x)
  where
    by_test : (b : Bool) → test y ≡ b → (if b then Some y else first_that test ys) ≡ Some x → (first_that test ys ≡ Some x → (i : ℕ) × (slice_get ys i ≡ Some x) × (test x ≡ true)) → (i : ℕ) × (slice_get (y ∷ ys) i ≡ Some x) × (test x ≡ true)
    by_test true t g later = let same : y ≡ x = cc in (0, ap Some same, ap test (sym same) ∙ t)
    by_test false t g later = let more = later g in (suc more.0, more.1, more.2)

pub there_found : {A : Type 0} (test : A → Bool) (xs : List A) (i : ℕ) (x : A) → slice_get xs i ≡ Some x → test x ≡ true → is_some (first_that test xs) ≡ true
unfolding first_that
there_found test [] i x h g = absurd (cc)
there_found test (y ∷ ys) zero x h g = grind (arith, h, g)
there_found test (y ∷ ys) (suc i) x h g = grind (arith, there_found test ys i x h g)

pub All-at : {A : Type 0} (P : A → Type 0) (xs : List A) (i : ℕ) (x : A) → All P xs → slice_get xs i ≡ Some x → P x
All-at P xs i x all there = subst P (get_or_from_slice_get xs i x x there) (all i x (slice_get_within xs i x there))

-- ---- regions without their bytes

plan-grants : (domain : Name) (key at' count : ℕ) (right : Right) (r : Region) → grants local_key domain key at' count right (plan_of r) ≡ grants local_key domain key at' count right r
unfolding grants holds
plan-grants domain key at' count right r = refl

plan-found : (domain : Name) (key at' count : ℕ) (right : Right) (rs : List Region) → is_some (first_that (grants local_key domain key at' count right) (plans rs)) ≡ is_some (first_that (grants local_key domain key at' count right) rs)
unfolding first_that
plan-found domain key at' count right [] = refl
plan-found domain key at' count right (r ∷ rs) = grind (arith, plan-grants domain key at' count right r, plan-found domain key at' count right rs)

pub granted-plans : (rs : List Region) (domain : Name) (key at' count : ℕ) (right : Right) → is_granted local_key (plans rs) domain key at' count right ≡ is_granted local_key rs domain key at' count right
unfolding is_granted granted
granted-plans rs domain key at' count right = ap (λ b. (count == 0) || b) (plan-found domain key at' count right rs)

pub plan_at : (rs : List Region) (i : ℕ) (r : Region) → slice_get rs i ≡ Some r → slice_get (plans rs) i ≡ Some (plan_of r)
plan_at [] i r h = absurd (cc)
plan_at (q ∷ rs) zero r h = let same : q ≡ r = cc in ap (λ z. Some (plan_of z)) same
plan_at (q ∷ rs) (suc i) r h = plan_at rs i r h

pub region_at : (rs : List Region) (i : ℕ) (p : Region) → slice_get (plans rs) i ≡ Some p → (r : Region) × (slice_get rs i ≡ Some r) × (plan_of r ≡ p)
region_at [] i p h = absurd (cc)
region_at (q ∷ rs) zero p h = (q, refl, cc)
region_at (q ∷ rs) (suc i) p h = region_at rs i p h

-- ---- grants where regions come and go

pub granted-cases : (rs : List Region) (domain : Name) (key at' count : ℕ) (right : Right) → IsGrantedTo rs domain key at' count right → (count ≡ 0) ⊎ IsGranted local_key rs domain key at' count right
granted-cases rs domain key at' count right h = grant.found local_key rs domain key at' count right h

pub granted-by : (rs : List Region) (domain : Name) (key at' count : ℕ) (right : Right) (i : ℕ) (r : Region) → slice_get rs i ≡ Some r → Grants local_key domain key at' count right r → IsGrantedTo rs domain key at' count right
granted-by rs domain key at' count right i r there g = grant.there local_key rs domain key at' count right (record { i = i; region = r; there = there; grants = g })

pub granted-none : (rs : List Region) (domain : Name) (key at' count : ℕ) (right : Right) → count ≡ 0 → IsGrantedTo rs domain key at' count right
granted-none rs domain key at' count right none = ap (λ n. is_granted local_key rs domain key at' n right) none ∙ grant.empty local_key rs domain key at' right

pub push_at : {A : Type 0} (xs : List A) (x y : A) (i : ℕ) → slice_get xs i ≡ Some y → slice_get (xs ++ x ∷ []) i ≡ Some y
push_at [] x y i h = absurd (cc)
push_at (z ∷ zs) x y zero h = h
push_at (z ∷ zs) x y (suc i) h = push_at zs x y i h

pub granted-push : (rs : List Region) (new : Region) (domain : Name) (key at' count : ℕ) (right : Right) → IsGrantedTo rs domain key at' count right → IsGrantedTo (rs ++ new ∷ []) domain key at' count right
granted-push rs new domain key at' count right h = elim (granted-cases rs domain key at' count right h) [
  | inl none ↦ granted-none (rs ++ new ∷ []) domain key at' count right none
  | inr g ↦ granted-by (rs ++ new ∷ []) domain key at' count right g.i g.region (push_at rs new g.region g.i g.there) g.grants
]

-- what is not the thing of a name stays where that thing leaves
pub without_at : {A : Type 0} (name : A → Name) (n : Name) (xs : List A) (i : ℕ) (x : A) → slice_get xs i ≡ Some x → bytes_eq (name x) n ≡ false → (j : ℕ) × (slice_get (without name n xs) j ≡ Some x)
unfolding without
without_at name n [] i x h other = absurd (cc)
without_at {A} name n (y ∷ ys) i x h other = by_test (bytes_eq (name y) n) refl i h (λ k g. without_at name n ys k x g other)
  where
    by_test : (b : Bool) → bytes_eq (name y) n ≡ b → (k : ℕ) → slice_get (y ∷ ys) k ≡ Some x → ((k : ℕ) → slice_get ys k ≡ Some x → (j : ℕ) × (slice_get (without name n ys) j ≡ Some x)) → (j : ℕ) × (slice_get (if b then ys else y ∷ without name n ys) j ≡ Some x)
    by_test true t zero g later = let same : y ≡ x = cc in absurd (cc (ap (λ (z : A). bytes_eq (name z) n) same, t, other))
    by_test true t (suc k) g later = (k, g)
    by_test false t zero g later = (0, g)
    by_test false t (suc k) g later = let more = later k g in (suc more.0, more.1)

-- ---- keys

-- the region of a key is the one that stands there
pub at_key : (rs : List Region) (i : ℕ) (r : Region) → AllPairs (λ a b. a ≢ b) (map local_key rs) → slice_get rs i ≡ Some r → at local_key no_region r.keys.local rs ≡ r
unfolding at
at_key [] i r apart h = absurd (cc)
at_key (q ∷ rs) zero r apart h =
    let same : q ≡ r = cc in
    let here : (q.keys.local == r.keys.local) ≡ true = ap (λ (z : Region). z.keys.local == r.keys.local) same ∙ self r.keys.local in
    ap (λ b. if b then q else at local_key no_region r.keys.local rs) here ∙ same
  where
    self : (n : ℕ) → (n == n) ≡ true
    self n = grind (arith, nat_tests)
at_key (q ∷ rs) (suc i) r apart h = elim (eqb_tells q.keys.local r.keys.local) [
  | inl t ↦ absurd (first_apart q rs i r apart h t.1)
  | inr t ↦ ap (λ b. if b then q else at local_key no_region r.keys.local rs) t.0 ∙ at_key rs i r (λ a b d lt below. apart (suc a) (suc b) d (omega (arith, lt)) (omega (arith, below))) h
]
  where
    keyed : (zs : List Region) (k : ℕ) → slice_get zs k ≡ Some r → (k < length (map local_key zs)) × (get_or (map local_key zs) k 0 ≡ r.keys.local)
    keyed [] k g = absurd (cc)
    keyed (z ∷ zs) zero g = let same : z ≡ r = cc in (omega arith, ap local_key same)
    keyed (z ∷ zs) (suc k) g = let more = keyed zs k g in (omega (arith, more.0), more.1)

    first_apart : (z : Region) (zs : List Region) (k : ℕ) (x : Region) → AllPairs (λ a b. a ≢ b) (map local_key (z ∷ zs)) → slice_get zs k ≡ Some r → z.keys.local ≡ r.keys.local → ⊥
    first_apart z zs k x apart' g e = let more = keyed zs k g in apart' 0 (suc k) 0 (omega arith) (omega (arith, more.0)) (e ∙ sym more.1)

-- ---- bytes are written

pub length-put : (bytes new : List ℕ) (place : ℕ) → place + length new ≤ length bytes → length (put bytes place new) ≡ length bytes
unfolding put
length-put bytes new place fits =
    let a = length-append (take place bytes) (new ++ drop (place + length new) bytes) in
    let b = length-append new (drop (place + length new) bytes) in
    let t = length-take place bytes in
    let d = length-drop (place + length new) bytes in
    omega (arith, a, b, t, d, fits)

pub length-cut : (bytes : List ℕ) (place count : ℕ) → place + count ≤ length bytes → length (cut place count bytes) ≡ count
unfolding cut
length-cut bytes place count fits =
    let t = length-take count (drop place bytes) in
    let d = length-drop place bytes in
    omega (arith, t, d, fits)

-- a place of so many bytes is in the region of the key, or there are none
pub record IsPlace (rs : List Region) (lkey off count : ℕ) : Type 0 where
  pub i : ℕ
  pub region : Region
  pub there : slice_get rs i ≡ Some region
  pub key : region.keys.local ≡ lkey
  pub inside : off + count ≤ region.length

-- the regions with another of the same plan in the place of the one with its key
pub plans-store : (rs : List Region) (k : ℕ) (new : Region) (i : ℕ) (r : Region) → slice_get rs i ≡ Some r → r.keys.local ≡ k → plan_of new ≡ plan_of (at local_key no_region k rs) → plans (store local_key k new rs) ≡ plans rs
unfolding at store
plans-store [] k new i r there key same = absurd (cc)
plans-store (q ∷ rs) k new i r there key same = by_test (q.keys.local == k) refl i there (λ j g s. plans-store rs k new j r g key s) same
  where
    by_test : (b : Bool) → (q.keys.local == k) ≡ b → (j : ℕ) → slice_get (q ∷ rs) j ≡ Some r → ((j : ℕ) → slice_get rs j ≡ Some r → plan_of new ≡ plan_of (at local_key no_region k rs) → plans (store local_key k new rs) ≡ plans rs) → plan_of new ≡ plan_of (if b then q else at local_key no_region k rs) → plans (if b then new ∷ rs else q ∷ store local_key k new rs) ≡ plan_of q ∷ plans rs
    by_test true t j g later s = ap (λ z. z ∷ plans rs) s
    by_test false t zero g later s = let e : q ≡ r = cc in absurd (both_ways (q.keys.local == k) t (grind (arith, nat_tests, ap local_key e, key)))
    by_test false t (suc j) g later s = ap (λ z. plan_of q ∷ z) (later j g s)

pub All-store_key : (P : Region → Type 0) (k : ℕ) (new : Region) (rs : List Region) → All P rs → P new → All P (store local_key k new rs)
unfolding store
All-store_key P k new [] all h = All-cons P new [] h all
All-store_key P k new (r ∷ rs) all h =
    All-if P (r.keys.local == k) (new ∷ rs) (r ∷ store local_key k new rs)
    (All-cons P new rs h (All-tail P r rs all))
    (All-cons P r (store local_key k new rs) (All-head P r rs all) (All-store_key P k new rs (All-tail P r rs all) h))

-- bytes change no plan
pub plans-written : (c : Context) (lkey off : ℕ) (bytes : List ℕ) → AllPairs (λ a b. a ≢ b) (map local_key c.regions) → (bytes ≡ []) ⊎ IsPlace c.regions lkey off (length bytes) → plans (written c lkey off bytes).regions ≡ plans c.regions
unfolding written with_region stored region_of_key
plans-written c lkey off [] apart place = refl
plans-written c lkey off (b ∷ bs) apart (inl none) = absurd (cc)
plans-written c lkey off (b ∷ bs) apart (inr p) =
    let found : at local_key no_region lkey c.regions ≡ p.region = ap (λ k. at local_key no_region k c.regions) (sym p.key) ∙ at_key c.regions p.i p.region apart p.there in
    let key : (at local_key no_region lkey c.regions).keys.local ≡ lkey = ap local_key found ∙ p.key in
    ap (λ k. plans (store local_key k (record (at local_key no_region lkey c.regions) { bytes = put (at local_key no_region lkey c.regions).bytes off (b ∷ bs) }) c.regions)) key
    ∙ plans-store c.regions lkey (record (at local_key no_region lkey c.regions) { bytes = put (at local_key no_region lkey c.regions).bytes off (b ∷ bs) }) p.i p.region p.there p.key refl

-- .. and each region keeps as many bytes as it has
pub regions-written : (c : Context) (lkey off : ℕ) (bytes : List ℕ) → AllPairs (λ a b. a ≢ b) (map local_key c.regions) → (bytes ≡ []) ⊎ IsPlace c.regions lkey off (length bytes) → All (IsSoundRegion c.domains) c.regions → All (IsSoundRegion c.domains) (written c lkey off bytes).regions
unfolding written with_region stored region_of_key
regions-written c lkey off [] apart place all = all
regions-written c lkey off (b ∷ bs) apart (inl none) all = absurd (cc)
regions-written c lkey off (b ∷ bs) apart (inr p) all =
    let found : at local_key no_region lkey c.regions ≡ p.region = ap (λ k. at local_key no_region k c.regions) (sym p.key) ∙ at_key c.regions p.i p.region apart p.there in
    let sound : IsSoundRegion c.domains (at local_key no_region lkey c.regions) = subst (IsSoundRegion c.domains) (sym found) (All-at (IsSoundRegion c.domains) c.regions p.i p.region all p.there) in
    let size : (at local_key no_region lkey c.regions).length ≡ p.region.length = ap (λ (z : Region). z.length) found in
    All-store_key (IsSoundRegion c.domains) (at local_key no_region lkey c.regions).keys.local _ c.regions all (record {
      domain = sound.domain;
      base = sound.base;
      some_bytes = sound.some_bytes;
      few_bytes = sound.few_bytes;
      rights = sound.rights;
      local = sound.local;
      remote = sound.remote;
      whole = length-put (at local_key no_region lkey c.regions).bytes (b ∷ bs) off (omega (arith, p.inside, sound.whole, size)) ∙ sound.whole;
    })
