-- Regions under their local keys.
use Rattle.std.proofs.Common.{◌≡◌, ℕ, zero, suc, ◌+◌, ◌*◌, ◌≤◌, ◌<◌, Bool, true, false, List, [], ◌∷◌, length, take, refl, ap, sym, ◌∙◌, arith, subst}
use Rattle.std.specs.Prelude.{◌==◌, All, Option, Some, None, IsSomeAnd, map, nat_eq, option_map, slice_get, unwrap_or, if◌then◌else◌}
use Rattle.std.specs.List.{IsDistinct, AllByRecursion}
use Rattle.std.proofs.lemmas.Bool.Decides.{nat_tests}
use Rattle.std.proofs.lemmas.List.{length-take}
use Rattle.std.proofs.lemmas.Option.{slice_get-map}
use Rattle.rdma_types.specs.Lists.{first_that}
use Rattle.rdma_types.specs.Memory.{cut}
use Rattle.page_pool.specs.Pool.{Pool, bytes_in, pages_for}
use Rattle.memory_keys.specs.declared.RegisteredRegion.{RegisteredRegion}
use Rattle.memory_keys.specs.declared.RegionHead.{RegionHead}
use Rattle.memory_keys.specs.declared.RegionRange.{RegionRange}
use Rattle.memory_keys.specs.Regions.{AreHeld, AreKeyed, IsSpot, held_at, region_of, regions_of, spot_bytes}
use Rattle.memory_keys.proofs.Spots.{found-lies, holds-pages, spot-is}
use Rattle.device_differences.specs.Shown.{IsUnder, bytes_under, region_under}
use Rattle.device_differences.proofs.Blocks.{front-cut}

other-key : (key : ℕ) (hs : List RegisteredRegion) (i : ℕ) (h : RegisteredRegion) → AllByRecursion (λ y. nat_eq key y ≡ false) (map (λ x. x.head.keys.local) hs) → slice_get hs i ≡ Some h → nat_eq key h.head.keys.local ≡ false
other-key key [] i h d e = absurd (cc)
other-key key (x ∷ xs) zero h d e = let same : x ≡ h = cc in subst (λ z. nat_eq key z.head.keys.local ≡ false) same d.0
other-key key (x ∷ xs) (suc i) h d e = other-key key xs i h d.1 e

-- the region at a place is the one under its local key
found-under : (hs : List RegisteredRegion) (i : ℕ) (h : RegisteredRegion) → IsDistinct nat_eq (map (λ x. x.head.keys.local) hs) → slice_get hs i ≡ Some h → held_at h.head.keys.local hs ≡ Some h
unfolding first_that IsDistinct
found-under [] i h d e = absurd (cc)
found-under (x ∷ xs) zero h d e =
    let same : x ≡ h = cc in
    let test : (x.head.keys.local == h.head.keys.local) ≡ true = grind (arith, nat_tests, same) in
    grind (arith, test, same)
found-under (x ∷ xs) (suc i) h d e =
    let apart : nat_eq x.head.keys.local h.head.keys.local ≡ false = other-key x.head.keys.local xs i h d.0 e in
    let rest : held_at h.head.keys.local xs ≡ Some h = found-under xs i h d.1 e in
    grind (arith, apart, rest)

-- the head of a region at a place, and the region
record IsAt (hs : List RegisteredRegion) (i : ℕ) (head : RegionHead) : Type 0 where
  held : RegisteredRegion
  there : slice_get hs i ≡ Some held
  head_is : held.head ≡ head

at-head : (o : Option RegisteredRegion) (head : RegionHead) → option_map (λ h. h.head) o ≡ Some head → (h : RegisteredRegion) × (o ≡ Some h) × (h.head ≡ head)
at-head None head e = absurd (cc)
at-head (Some h) head e = (h, refl, cc)

is-at : (hs : List RegisteredRegion) (i : ℕ) (head : RegionHead) → Some head ≡ option_map (λ h. h.head) (slice_get hs i) → IsAt hs i head
is-at hs i head e = let found = at-head (slice_get hs i) head (sym e) in record { held = found.0; there = found.1; head_is = found.2 }

-- a region that is told is found under its key
pub is-under : (hs : List RegisteredRegion) (i : ℕ) (head : RegionHead) → AreKeyed hs → Some head ≡ option_map (λ h. h.head) (slice_get hs i) → IsUnder hs head
is-under hs i head keyed e =
    let at = is-at hs i head e in
    record { found = at.held; head_is = at.head_is; there = ap (λ z. held_at z.keys.local hs) (sym at.head_is) ∙ found-under hs i at.held keyed.distinct at.there }

-- .. with its bytes
pub region-at : (pool : Pool) (hs : List RegisteredRegion) (i : ℕ) (head : RegionHead) → AreKeyed hs → Some head ≡ option_map (λ h. h.head) (slice_get hs i) → slice_get (regions_of pool hs) i ≡ Some (region_under pool hs head)
region-at pool hs i head keyed e =
    let at = is-at hs i head e in
    let found : held_at at.held.head.keys.local hs ≡ Some at.held = found-under hs i at.held keyed.distinct at.there in
    let bytes : (region_of pool at.held).bytes ≡ bytes_under pool hs at.held.head.keys.local = sym (ap (λ o. unwrap_or (option_map (λ h. (region_of pool h).bytes) o) []) found) in
    slice_get-map (region_of pool) hs i
    ∙ (ap (option_map (region_of pool)) at.there
    ∙ ((λ j. Some (record { name = at.held.head.name; domain = at.held.head.domain; base = at.held.head.base; length = at.held.head.length; rights = at.held.head.rights; keys = at.held.head.keys; bytes = bytes j }))
    ∙ ap (λ z. Some (region_under pool hs z)) at.head_is))

-- the bytes under a key are a front of its pages
under-bytes : (pool : Pool) (hs : List RegisteredRegion) (head : RegionHead) (u : IsUnder hs head) → bytes_under pool hs head.keys.local ≡ take head.length (bytes_in pool u.found.list)
under-bytes pool hs head u =
    ap (λ o. unwrap_or (option_map (λ h. (region_of pool h).bytes) o) []) u.there
    ∙ ap (λ z. take z.length (bytes_in pool u.found.list)) u.head_is

-- .. as many as the region has
pub under-length : (pool : Pool) (hs : List RegisteredRegion) (head : RegionHead) → AreHeld pool hs → IsUnder hs head → length (bytes_under pool hs head.keys.local) ≡ head.length
under-length pool hs head held u =
    let lies = found-lies pool head.keys.local hs u.found held.lie u.there in
    let all : length (bytes_in pool u.found.list) ≡ 4096 * pages_for u.found.head.length = lies.size in
    let same : u.found.head.length ≡ head.length = ap (λ z. z.length) u.head_is in
    let enough : u.found.head.length ≤ 4096 * pages_for u.found.head.length = holds-pages u.found.head.length in
    ap length (under-bytes pool hs head u) ∙ (length-take head.length (bytes_in pool u.found.list) ∙ omega (arith, all, same, enough))

-- a part of a region is a spot
pub under-spot : (hs : List RegisteredRegion) (head : RegionHead) (done size : ℕ) → IsUnder hs head → done + size ≤ head.length → IsSpot hs (record { region = head.keys.local; off = done; length = size })
under-spot hs head done size u l =
    let same : u.found.head.length ≡ head.length = ap (λ z. z.length) u.head_is in
    let inside : done + size ≤ u.found.head.length = omega (arith, same, l) in
    λ _. subst (λ o. IsSomeAnd o (λ h. done + size ≤ h.head.length)) (sym u.there) inside

-- .. with a part of its bytes
pub under-cut : (pool : Pool) (hs : List RegisteredRegion) (head : RegionHead) (done size : ℕ) → IsUnder hs head → done + size ≤ head.length → spot_bytes pool hs (record { region = head.keys.local; off = done; length = size }) ≡ cut done size (bytes_under pool hs head.keys.local)
under-cut pool hs head done size u l =
    spot-is pool hs (record { region = head.keys.local; off = done; length = size }) u.found u.there
    ∙ (sym (front-cut (bytes_in pool u.found.list) done size head.length l) ∙ ap (cut done size) (sym (under-bytes pool hs head u)))
