-- Spots in regions, and their bytes.
use Rattle.std.proofs.Common.{◌≡◌, ℕ, ◌+◌, ◌-◌, ◌*◌, ◌/◌, ◌%◌, ◌<◌, ◌≤◌, ◌≢◌, List, [], ◌∷◌, length, refl, ap, sym, ◌∙◌, arith, subst, true, false, Bool}
use Rattle.std.specs.Prelude.{All, Option, Some, None, IsSome, IsSomeAnd, unwrap_or, option_map, ◌==◌, ◌↔◌, Result, Ok, Err, IsErrOf}
use Rattle.std.specs.Result.{IsErrAnd}
use Rattle.std.specs.Option.{option_copied}
use Rattle.std.specs.Borrow.{Bor}
use Rattle.std.specs.Int.{div_ceil}
use Rattle.std.proofs.lemmas.Bool.Decides.{nat_tests}
use Rattle.std.proofs.lemmas.List.Elements.{All-head, All-tail}
use Rattle.rdma_types.specs.Lists.{first_that}
use Rattle.rdma_types.specs.Memory.{cut}
use Rattle.rdma_types.proofs.Cuts.{cut-cut, length-cut}
use Rattle.page_pool.specs.Pool.{Pool, Puts, bytes_of, bytes_in, pages_of, pages_for}
use Rattle.page_pool.specs.Store.{blank}
use Rattle.page_pool.proofs.Writes.{bytes-after}
use Rattle.page_pool.specs.declared.PoolFault.{PoolFault}
use Rattle.page_pool.specs.declared.PoolFault.TheVariants as pool
use Rattle.memory_keys.specs.declared.MemFault.{MemFault}
use Rattle.memory_keys.specs.declared.MemFault.TheVariants.{NoPage}
use Rattle.memory_keys.specs.Faults.{fault_of}
use Rattle.memory_keys.specs.declared.RegisteredRegion.{RegisteredRegion}
use Rattle.memory_keys.specs.declared.RegionRange.{RegionRange}
use Rattle.memory_keys.specs.Regions.{AreHeld, IsSpot, Lies, held_at, part_of, spot_bytes, pages_touched}

-- a region that is found lies in the pool
pub found-lies : (pool : Pool) (key : ℕ) (hs : List RegisteredRegion) (h : RegisteredRegion) → All (Lies pool) hs → held_at key hs ≡ Some h → Lies pool h
unfolding first_that
found-lies pool key [] h all e = absurd (cc)
found-lies pool key (x ∷ xs) h all e = by_test (x.head.keys.local == key) refl (found-lies pool key xs h (All-tail (Lies pool) x xs all)) (All-head (Lies pool) x xs all)
  where
    by_test : (b : Bool) → (x.head.keys.local == key) ≡ b → (held_at key xs ≡ Some h → Lies pool h) → Lies pool x → Lies pool h
    by_test true t rest here = let same : x ≡ h = grind (arith, t, e) in subst (Lies pool) same here
    by_test false t rest here = rest (grind (arith, t, e))

-- a region that is found lies in the pool, and holds the spot
pub spot-in : (pool : Pool) (held : List RegisteredRegion) (spot : RegionRange) (h : RegisteredRegion) → AreHeld pool held → IsSpot held spot → 0 < spot.length → held_at spot.region held ≡ Some h → Lies pool h × (spot.off + spot.length ≤ h.head.length)
spot-in pool held spot h are is l e = (found-lies pool spot.region held h are.lie e, subst (λ o. IsSomeAnd o (λ x. spot.off + spot.length ≤ x.head.length)) e (is l))

-- a spot of some bytes has a region
pub spot-there : (r : Option (Bor RegisteredRegion)) (o : Option RegisteredRegion) (P : RegisteredRegion → Type 0) → option_copied r ≡ o → IsSomeAnd o P → IsSome r
spot-there None o P e h = absurd (none (subst (λ x. IsSomeAnd x P) (sym e) h))
  where
    none : IsSomeAnd None P → ⊥
    none q = q
spot-there (Some x) o P e h = refl

-- a place in a region that is found
pub spot-inside : (hs : List RegisteredRegion) (key at count : ℕ) (h : RegisteredRegion) → held_at key hs ≡ Some h → h.head.base ≤ at → at + count ≤ h.head.base + h.head.length → IsSpot hs (record { region = key; off = at - h.head.base; length = count })
spot-inside hs key at count h e low high = λ some. subst (λ o. IsSomeAnd o (λ x. (at - h.head.base) + count ≤ x.head.length)) (sym e) (omega arith)

-- a spot of no bytes
pub spot-empty : (pool : Pool) (held : List RegisteredRegion) (spot : RegionRange) → spot.length ≡ 0 → spot_bytes pool held spot ≡ []
unfolding cut
spot-empty pool held spot e = by_case (held_at spot.region held)
  where
    by_case : (o : Option RegisteredRegion) → unwrap_or (option_map (λ h. cut spot.off spot.length (bytes_in pool h.list)) o) [] ≡ []
    by_case None = refl
    by_case (Some h) = ap (λ n. cut spot.off n (bytes_in pool h.list)) e

-- a part of a spot is a spot
pub part-is : (hs : List RegisteredRegion) (spot : RegionRange) (from count : ℕ) → IsSpot hs spot → from + count ≤ spot.length → IsSpot hs (part_of spot from count)
part-is hs spot from count is inside some = by_case (held_at spot.region hs) (is (omega arith))
  where
    by_case : (o : Option RegisteredRegion) → IsSomeAnd o (λ h. spot.off + spot.length ≤ h.head.length) → IsSomeAnd o (λ h. spot.off + from + count ≤ h.head.length)
    by_case None h = h
    by_case (Some x) h = omega (arith, h)

-- there are bytes
pub some-bytes : (n : ℕ) → (n == 0) ≡ false → 0 < n
some-bytes n e = grind (arith, nat_tests, e)

-- the bytes of a spot in its region
pub spot-is : (pool : Pool) (held : List RegisteredRegion) (spot : RegionRange) (h : RegisteredRegion) → held_at spot.region held ≡ Some h → spot_bytes pool held spot ≡ cut spot.off spot.length (bytes_in pool h.list)
spot-is pool held spot h e = ap (λ o. unwrap_or (option_map (λ x. cut spot.off spot.length (bytes_in pool x.list)) o) []) e

-- so many pages hold a region
pub holds-pages : (n : ℕ) → n ≤ 4096 * pages_for n
unfolding pages_for
holds-pages n = omega arith

-- the pages of a spot are pages of its region
pub pages-within : (off n size pages : ℕ) → off + n ≤ size → pages ≡ pages_for size → off / 4096 + div_ceil (off % 4096 + n) 4096 ≤ pages
unfolding pages_for
pages-within off n size pages h e = omega arith

-- the pages of a region that lies in the pool
pub lies-pages : (pool : Pool) (h : RegisteredRegion) → Lies pool h → pages_of (bytes_of pool h.list) ≡ pages_for h.head.length
lies-pages pool h l = by_case (bytes_of pool h.list) refl
  where
    by_case : (o : Option (List ℕ)) → bytes_of pool h.list ≡ o → pages_of (bytes_of pool h.list) ≡ pages_for h.head.length
    by_case None e = absurd (cc (l.lives, e))
    by_case (Some xs) e =
        let size : length xs ≡ 4096 * pages_for h.head.length = ap (λ o. length (unwrap_or o [])) (sym e) ∙ l.size in
        ap pages_of e ∙ omega arith

pub touched-is : (spot : RegionRange) (n a b : ℕ) → spot.length ≢ 0 → n ≡ div_ceil (a + b) 4096 → a ≡ spot.off % 4096 → b ≡ spot.length → pages_touched spot ≡ n
unfolding pages_for
touched-is spot n a b some e f g = let no : (spot.length == 0) ≡ false = grind (arith, nat_tests) in rw no (sym (e ∙ (ap (λ x. div_ceil (x + b) 4096) f ∙ ap (λ x. div_ceil (spot.off % 4096 + x) 4096) g)))

-- a snapshot has the bytes of its spot
pub snap : (a b : Pool) (h : RegisteredRegion) (k off n count : ℕ) → Lies a h → off + n ≤ h.head.length → count ≡ div_ceil (off % 4096 + n) 4096 → Puts a b k (Some (cut (4096 * (off / 4096)) (4096 * count) (bytes_in a h.list))) → (off % 4096 + n ≤ length (bytes_in b k)) × (cut (off % 4096) n (bytes_in b k) ≡ cut off n (bytes_in a h.list))
snap a b h k off n count l inside c p =
    let pages = pages-within off n h.head.length (pages_for h.head.length) inside refl in
    let room : 4096 * (off / 4096) + 4096 * count ≤ length (bytes_in a h.list) = omega (arith, l.size, pages, c) in
    let is = bytes-after a b k (cut (4096 * (off / 4096)) (4096 * count) (bytes_in a h.list)) p in
    let size : length (bytes_in b k) ≡ 4096 * count = ap length is ∙ length-cut (4096 * (off / 4096)) (4096 * count) (bytes_in a h.list) room in
    let fits : off % 4096 + n ≤ 4096 * count = omega (arith, c) in
    let at : 4096 * (off / 4096) + off % 4096 ≡ off = omega arith in
    (omega arith, ap (cut (off % 4096) n) is ∙ (cut-cut (off % 4096) n (4096 * (off / 4096)) (4096 * count) (bytes_in a h.list) fits room ∙ ap (λ x. cut x n (bytes_in a h.list)) at))

-- .. and the pages that its spot touches
pub snap-pages : (a b : Pool) (h : RegisteredRegion) (k off n count : ℕ) → Lies a h → off + n ≤ h.head.length → count ≡ div_ceil (off % 4096 + n) 4096 → Puts a b k (Some (cut (4096 * (off / 4096)) (4096 * count) (bytes_in a h.list))) → pages_of (bytes_of b k) ≡ count
snap-pages a b h k off n count l inside c p =
    let pages = pages-within off n h.head.length (pages_for h.head.length) inside refl in
    let room : 4096 * (off / 4096) + 4096 * count ≤ length (bytes_in a h.list) = omega (arith, l.size, pages, c) in
    let size : length (cut (4096 * (off / 4096)) (4096 * count) (bytes_in a h.list)) ≡ 4096 * count = length-cut (4096 * (off / 4096)) (4096 * count) (bytes_in a h.list) room in
    ap pages_of p.here ∙ omega (arith, size)

pub none-pages : (b : Pool) (k : ℕ) (spot : RegionRange) → spot.length ≡ 0 → bytes_of b k ≡ Some (blank 0) → pages_of (bytes_of b k) ≡ pages_touched spot
unfolding blank
none-pages b k spot none e = ap pages_of e ∙ sym (touched none)
  where
    touched : spot.length ≡ 0 → pages_touched spot ≡ 0
    touched z = rw z refl

-- a pool's refusal told by regions
pub told : {T S : Type 0} (r : Result T MemFault) (fault : PoolFault) (free n : ℕ) → IsErrAnd r (λ e. e ≡ fault_of fault) → (IsErrOf {T = S} (Err fault) pool.NoPage ↔ (free < n)) → IsErrOf r NoPage ↔ (free < n)
told (Ok x) fault free n h k = absurd h
told (Err e) pool.NoPage free n h k = (λ _. k.0 refl, λ _. ap Err h)
told (Err e) pool.OutOfMemory free n h k = (λ q. absurd (cc), λ few. absurd (let same = k.1 few in cc))
