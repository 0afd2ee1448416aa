-- Bytes that are put into regions: which bytes change, and who granted them.
use Rattle.std.proofs.Common.{arith, ◌≡◌, ◌⊎◌, ◌≤◌, ◌<◌, ◌+◌, ◌-◌, ℕ, suc, List, [], ◌∷◌, ◌++◌, length, map, take, drop, true, false, Bool, refl, sym, ap, ◌∙◌, subst, inl, inr}
use Rattle.std.specs.Prelude.{All, Contains, Some, bytes_eq, get_or, if◌then◌else◌, nat_eq, nat_le, nat_lt, slice_get, ◌&&◌, ◌==◌}
use Rattle.std.specs.List.{list_any}
use Rattle.std.proofs.lemmas.Bool.Decides.{eqb_tells, leb_tells, nat_tests}
use Rattle.std.proofs.lemmas.List.{places}
use Rattle.std.proofs.lemmas.List.Elements.{All-contains, All-head, All-tail}
use Rattle.std.proofs.lemmas.Option.{get_or_from_slice_get, slice_get-get_or, slice_get_past, slice_get_within}
use Rattle.rdma_types.specs.declared.names.Name.{Name}
use Rattle.rdma_types.specs.declared.requests.Keys.{Keys}
use Rattle.rdma_types.specs.Lists.{named}
use Rattle.rdma_types.specs.Memory.{Grants, Right, holds, is_granted, put, remote_key}
use Rattle.rdma_types.specs.Objects.{IsWhole, Region, no_region}
use Rattle.rdma_types.proofs.Cuts.{length-put}
use Rattle.rdma_types.proofs.Grants as grant
use Rattle.packetless_machine.specs.Machine.{is_at, put_at}
use Rattle.law_simulation.proofs.relation.Grants.{contains_cases, contains_here, contains_later}
use Rattle.law_machine_runs.specs.Changes.{IsWithin}

-- ---- one region

-- bytes elsewhere stay
put_elsewhere : (bytes new : List ℕ) (place k : ℕ) → place + length new ≤ length bytes → (k < place) ⊎ (place + length new ≤ k) → slice_get (put bytes place new) k ≡ slice_get bytes k
unfolding put
put_elsewhere bytes new place k inside apart = by (nat_lt k (length bytes)) refl
  where
    size : length (take place bytes ++ (new ++ drop (place + length new) bytes)) ≡ length bytes
    size = length-put bytes place new inside

    by : (b : Bool) → nat_lt k (length bytes) ≡ b → slice_get (take place bytes ++ (new ++ drop (place + length new) bytes)) k ≡ slice_get bytes k
    by true t =
        let here : k < length bytes = grind (arith, nat_tests, t) in
        let there : k < length (take place bytes ++ (new ++ drop (place + length new) bytes)) = omega (arith, size, here) in
        let same : get_or (take place bytes ++ (new ++ drop (place + length new) bytes)) k 0 ≡ get_or bytes k 0 = grind (arith, places) in
        slice_get-get_or (take place bytes ++ (new ++ drop (place + length new) bytes)) k 0 there ∙ (ap Some same ∙ sym (slice_get-get_or bytes k 0 here))
    by false t =
        let past : length bytes ≤ k = grind (arith, nat_tests, t) in
        slice_get_past (take place bytes ++ (new ++ drop (place + length new) bytes)) k (omega (arith, size, past)) ∙ sym (slice_get_past bytes k past)

held_inside : (r : Region) (a n : ℕ) → holds r a n ≡ true → (r.base ≤ a) × (a + n ≤ r.base + r.length)
unfolding holds
held_inside r a n h = grind (arith, nat_tests, leb_tells r.base a, leb_tells (a + n) (r.base + r.length), h)

-- a region is as long as before
pub put_length : (r : Region) (address : ℕ) (new : List ℕ) → IsWhole r → holds r address (length new) ≡ true → length (put r.bytes (address - r.base) new) ≡ length r.bytes
put_length r address new whole held = let inside = held_inside r address (length new) held in length-put r.bytes (address - r.base) new (omega (arith, inside, whole))

-- a byte of the region stays, or is one of those that are put
pub put_cases : (r : Region) (address k : ℕ) (new : List ℕ) → IsWhole r → holds r address (length new) ≡ true → (slice_get (put r.bytes (address - r.base) new) k ≡ slice_get r.bytes k) ⊎ IsWithin address (length new) r k
put_cases r address k new whole held = by (nat_lt k (address - r.base)) (nat_le ((address - r.base) + length new) k) refl refl
  where
    inside : (r.base ≤ address) × (address + length new ≤ r.base + r.length)
    inside = held_inside r address (length new) held

    fits : (address - r.base) + length new ≤ length r.bytes
    fits = omega (arith, inside, whole)

    by : (a b : Bool) → nat_lt k (address - r.base) ≡ a → nat_le ((address - r.base) + length new) k ≡ b → (slice_get (put r.bytes (address - r.base) new) k ≡ slice_get r.bytes k) ⊎ IsWithin address (length new) r k
    by true b s t = let low : k < address - r.base = grind (arith, nat_tests, s) in inl (put_elsewhere r.bytes new (address - r.base) k fits (inl low))
    by false true s t = let high : (address - r.base) + length new ≤ k = grind (arith, nat_tests, t) in inl (put_elsewhere r.bytes new (address - r.base) k fits (inr high))
    by false false s t =
        let from : address - r.base ≤ k = grind (arith, nat_tests, s) in
        let below : k < (address - r.base) + length new = grind (arith, nat_tests, t) in
        inr (record { low = omega (arith, from, inside); high = omega (arith, below, inside) })

-- ---- the region of a key

-- bytes are put with byte k of the region r: it is there, and has the key
pub record IsPut (key_of : Region → ℕ) (number address count : ℕ) (rs : List Region) (r : Region) (k : ℕ) : Type 0 where
  pub there : Contains rs r
  pub key : key_of r ≡ number
  pub within : IsWithin address count r k

both_true : (a b : Bool) → (a && b) ≡ true → (a ≡ true) × (b ≡ true)
both_true true b h = (refl, h)
both_true false b h = absurd (cc)

number_is : (a b : ℕ) → (a == b) ≡ true → a ≡ b
number_is a b t = grind (arith, nat_tests, eqb_tells a b, t)

module _ (key_of : Region → ℕ) (key address : ℕ) (new : List ℕ) (n : Name) (k : ℕ) where
  abbrev found : List Region → Region
  found rs = named (λ z. z.name) no_region n rs

  abbrev Cases : List Region → Type 0
  Cases rs = (slice_get (found (put_at key_of key address new rs)).bytes k ≡ slice_get (found rs).bytes k) ⊎ IsPut key_of key address (length new) rs (found rs) k

  pub put_byte : (rs : List Region) → All IsWhole rs → Cases rs
  unfolding put_at named
  put_byte [] whole = inl refl
  put_byte (r ∷ rs) whole = by (is_at key_of key address (length new) r) (bytes_eq r.name n) refl refl (put_byte rs (All-tail IsWhole r rs whole))
    where
      here : is_at key_of key address (length new) r ≡ true → (slice_get (put r.bytes (address - r.base) new) k ≡ slice_get r.bytes k) ⊎ IsPut key_of key address (length new) (r ∷ rs) r k
      here e =
          let parts = both_true (key_of r == key) (holds r address (length new)) e in
          elim (put_cases r address k new (All-head IsWhole r rs whole) parts.1) [
            | inl same ↦ inl same
            | inr within ↦ inr (record { there = contains_here r rs; key = number_is (key_of r) key parts.0; within = within })
          ]

      later : Cases rs → (slice_get (found (put_at key_of key address new rs)).bytes k ≡ slice_get (found rs).bytes k) ⊎ IsPut key_of key address (length new) (r ∷ rs) (found rs) k
      later (inl same) = inl same
      later (inr p) = inr (record { there = contains_later (found rs) r rs p.there; key = p.key; within = p.within })

      by : (a b : Bool) → is_at key_of key address (length new) r ≡ a → bytes_eq r.name n ≡ b → Cases rs → Cases (r ∷ rs)
      by true true e f ih = rw (e, f) (here e)
      by true false e f ih = rw (e, f) (inl refl)
      by false true e f ih = rw (e, f) (inl refl)
      by false false e f ih = rw (e, f) (later ih)

-- what is put changes no part of a region but its bytes
pub put_map : {B : Type 0} (g : Region → B) (same : (r : Region) (bytes : List ℕ) → g (record r { bytes = bytes }) ≡ g r) (key_of : Region → ℕ) (key address : ℕ) (new : List ℕ) (rs : List Region) → map g (put_at key_of key address new rs) ≡ map g rs
unfolding put_at
put_map g same key_of key address new [] = refl
put_map g same key_of key address new (r ∷ rs) = by (is_at key_of key address (length new) r) (put_map g same key_of key address new rs)
  where
    by : (b : Bool) → map g (put_at key_of key address new rs) ≡ map g rs → map g (if b then record r { bytes = put r.bytes (address - r.base) new } ∷ rs else r ∷ put_at key_of key address new rs) ≡ g r ∷ map g rs
    by true ih = ap (λ z. z ∷ map g rs) (same r (put r.bytes (address - r.base) new))
    by false ih = ap (λ zs. g r ∷ zs) ih

-- ---- keys: each was given, and names one region

pub record IsKey (used : List ℕ) (k : Keys) : Type 0 where
  pub given : list_any (nat_eq k.local) used ≡ true
  pub remote : k.remote ≡ suc k.local

pub record AreApart (k j : Keys) : Type 0 where
  pub apart : j.local ≡ k.local → ⊥

abbrev pub AreKeyed : List ℕ → List Keys → Type 0
AreKeyed used [] = Unit {0}
AreKeyed used (k ∷ ks) = IsKey used k × All (AreApart k) ks × AreKeyed used ks

abbrev pub keys_of : List Region → List Keys
keys_of rs = map (λ r. r.keys) rs

-- a region's keys are among them
keys_contained : (rs : List Region) (r : Region) → Contains rs r → Contains (keys_of rs) r.keys
keys_contained [] r h = absurd (omega (arith, h.1))
keys_contained (s ∷ rs) r h = elim (contains_cases r s rs h) [
  | inl is ↦ subst (λ z. Contains (keys_of (s ∷ rs)) z.keys) is (contains_here s.keys (keys_of rs))
  | inr later ↦ contains_later r.keys s.keys (keys_of rs) (keys_contained rs r later)
]

all_keyed : (used : List ℕ) (rs : List Region) → AreKeyed used (keys_of rs) → (r : Region) → Contains rs r → IsKey used r.keys
all_keyed used [] h r c = absurd (omega (arith, c.1))
all_keyed used (s ∷ rs) h r c = elim (contains_cases r s rs c) [
  | inl is ↦ subst (λ z. IsKey used z.keys) is h.0
  | inr later ↦ all_keyed used rs h.2 r later
]

-- regions with the same remote key are one
pub key_tells : (used : List ℕ) (rs : List Region) → AreKeyed used (keys_of rs) → (r s : Region) → Contains rs r → Contains rs s → r.keys.remote ≡ s.keys.remote → r ≡ s
key_tells used [] h r s cr cs same = absurd (omega (arith, cr.1))
key_tells used (x ∷ rs) h r s cr cs same = elim (contains_cases r x rs cr) [
  | inl a ↦ elim (contains_cases s x rs cs) [
    | inl b ↦ sym a ∙ b
    | inr b ↦ absurd (apart s b (all_keyed used rs h.2 s b) (ap (λ z. z.keys.remote) a ∙ same))
  ]
  | inr a ↦ elim (contains_cases s x rs cs) [
    | inl b ↦ absurd (apart r a (all_keyed used rs h.2 r a) (ap (λ z. z.keys.remote) b ∙ sym same))
    | inr b ↦ key_tells used rs h.2 r s a b same
  ]
]
  where
    apart : (z : Region) → Contains rs z → IsKey used z.keys → x.keys.remote ≡ z.keys.remote → ⊥
    apart z c key e =
        let far = All-contains (AreApart x.keys) (keys_of rs) z.keys h.1 (keys_contained rs z c) in
        far.apart (omega (arith, e, key.remote, h.0.remote))

-- ---- grants

-- a place that is granted and not empty is granted by the region with its key
pub granted_here : (used : List ℕ) (rs : List Region) → AreKeyed used (keys_of rs) → (domain : Name) (key address count : ℕ) (right : Right) → is_granted remote_key rs domain key address count right ≡ true → 1 ≤ count → (r : Region) → Contains rs r → remote_key r ≡ key → Grants remote_key domain key address count right r
granted_here used rs keyed domain key address count right h some r there is = elim (grant.found remote_key rs domain key address count right h) [
  | inl none ↦ absurd (omega (arith, none, some))
  | inr g ↦
      let at : Contains rs g.region = (g.i, slice_get_within rs g.i g.region g.there, get_or_from_slice_get rs g.i g.region g.region g.there) in
      subst (Grants remote_key domain key address count right) (key_tells used rs keyed g.region r at there (g.grants.same_key ∙ sym is)) g.grants
]
