-- Where the bytes of a request lie, and bytes that are put into new pages as they lay there.
use Rattle.std.proofs.Common.{◌≡◌, ◌≢◌, ℕ, zero, suc, ◌+◌, ◌-◌, ◌*◌, ◌/◌, ◌%◌, ◌<◌, ◌≤◌, Bool, true, false, List, [], ◌∷◌, ◌++◌, length, drop, refl, ap, sym, ◌∙◌, subst, arith}
use Rattle.std.specs.Prelude.{◌==◌, Option, Some, None, IsSome, IsNone, is_some, option_map, unwrap_or, if◌then◌else◌}
use Rattle.std.proofs.lemmas.Bool.Decides.{nat_tests}
use Rattle.std.proofs.lemmas.List.{append-nil}
use Rattle.rdma_types.specs.declared.names.Name.{Name}
use Rattle.rdma_types.specs.declared.requests.Kind.{Kind}
use Rattle.rdma_types.specs.declared.requests.Kind.TheVariants.{Write, Send, Read, CompareSwap, FetchAdd}
use Rattle.rdma_types.specs.Kinds.{takes_bytes}
use Rattle.rdma_types.specs.Lists.{at, first_that}
use Rattle.rdma_types.specs.Memory.{NoRight, Right, cut, granted, grants, is_granted, landing_right, local_key, put}
use Rattle.rdma_types.specs.Objects.{Region, no_region}
use Rattle.rdma_types.proofs.Cuts.{cut-put_inside, length-cut, length-put}
use Rattle.page_pool.specs.Pool.{Pool, Puts, IsIn, bytes_of, bytes_in, pages_for, pages_of}
use Rattle.page_pool.specs.Store.{blank}
use Rattle.page_pool.proofs.Places.{length-blank}
use Rattle.memory_keys.specs.declared.RegisteredRegion.{RegisteredRegion}
use Rattle.memory_keys.specs.declared.RegionRange.{RegionRange}
use Rattle.memory_keys.specs.Regions.{AreKeyed, granted_spot, pages_touched, place_in, regions_of}
use Rattle.memory_keys.proofs.Protocol.{place-refused, place-region}
use Rattle.memory_keys.proofs.Spots.{holds-pages}
use Rattle.protocol.specs.declared.images.PostedImage.{PostedImage}
use Rattle.protocol.specs.Memory.{pages_of_range, pages_of_request, region_of_key}
use Rattle.protocol.specs.State.{Context, no_context}
use Rattle.context_core.specs.Coming.{MayCome}
use Rattle.context_core.proofs.PageCounts.{range-is, takes-empty, takes-none, takes-range}

-- ---- the place

-- nothing lands in the place of a request that takes bytes
no-right : (k : Kind) → takes_bytes k ≡ true → landing_right k ≡ NoRight
no-right Write t = refl
no-right Send t = refl
no-right Read t = absurd (cc)
no-right CompareSwap t = absurd (cc)
no-right FetchAdd t = absurd (cc)

whole-taken : (held : List RegisteredRegion) (domain : Name) (p : PostedImage) → MayCome held domain p → takes_bytes p.request.shape.kind ≡ true → length p.payload ≡ p.request.shape.length
whole-taken held domain p may t = may.whole ∙ ap (λ b. if b then p.request.shape.length else 0) t

none-taken : (held : List RegisteredRegion) (domain : Name) (p : PostedImage) → MayCome held domain p → takes_bytes p.request.shape.kind ≡ false → length p.payload ≡ 0
none-taken held domain p may t = may.whole ∙ ap (λ b. if b then p.request.shape.length else 0) t

-- the place of the bytes is granted
source-granted : (pool : Pool) (held : List RegisteredRegion) (domain : Name) (p : PostedImage) → MayCome held domain p → is_granted local_key (regions_of pool held) domain p.request.lkey p.request.local (length p.payload) NoRight ≡ true
unfolding is_granted
source-granted pool held domain p may = by_kind (takes_bytes p.request.shape.kind) refl
  where
    by_kind : (b : Bool) → takes_bytes p.request.shape.kind ≡ b → is_granted local_key (regions_of pool held) domain p.request.lkey p.request.local (length p.payload) NoRight ≡ true
    by_kind true t =
        ap (λ n. is_granted local_key (regions_of pool held) domain p.request.lkey p.request.local n NoRight) (whole-taken held domain p may t)
        ∙ (ap (is_granted local_key (regions_of pool held) domain p.request.lkey p.request.local p.request.shape.length) (sym (no-right p.request.shape.kind t)) ∙ may.placed pool)
    by_kind false t = ap (λ n. is_granted local_key (regions_of pool held) domain p.request.lkey p.request.local n NoRight) (none-taken held domain p may t)

some-place : (pool : Pool) (held : List RegisteredRegion) (domain : Name) (key from count : ℕ) (o : Option RegionRange) → o ≡ granted_spot local_key (regions_of pool held) domain key from count NoRight → is_granted local_key (regions_of pool held) domain key from count NoRight ≡ true → IsSome o
some-place pool held domain key from count (Some s) e h = refl
some-place pool held domain key from count None e h = absurd (let no = (place-refused local_key (regions_of pool held) domain key from count NoRight).0 (subst IsNone e refl) in cc)

no-pool : Pool
no-pool = record { pages = 0; lists = [] }

pub source-there : (held : List RegisteredRegion) (domain : Name) (p : PostedImage) (n : ℕ) (o : Option RegionRange) → MayCome held domain p → n ≡ length p.payload → ((pool : Pool) → o ≡ granted_spot local_key (regions_of pool held) domain p.request.lkey p.request.local n NoRight) → IsSome o
source-there held domain p n o may e g =
    some-place no-pool held domain p.request.lkey p.request.local n o (g no-pool)
    (ap (λ k. is_granted local_key (regions_of no-pool held) domain p.request.lkey p.request.local k NoRight) e ∙ source-granted no-pool held domain p may)

-- ---- its pages

-- a region that a local key grants has the key
granted-key : (rs : List Region) (domain : Name) (key from count : ℕ) (right : Right) (r : Region) → granted local_key rs domain key from count right ≡ Some r → r.keys.local ≡ key
unfolding granted grants first_that
granted-key [] domain key from count right r e = absurd (cc)
granted-key (x ∷ xs) domain key from count right r e = by_test (grants local_key domain key from count right x) refl (granted-key xs domain key from count right r)
  where
    by_test : (b : Bool) → grants local_key domain key from count right x ≡ b → (granted local_key xs domain key from count right ≡ Some r → r.keys.local ≡ key) → r.keys.local ≡ key
    by_test true t rest = let same : x ≡ r = grind (arith, t, e) in let key' : x.keys.local ≡ key = grind (arith, nat_tests, t) in ap (λ y. y.keys.local) (sym same) ∙ key'
    by_test false t rest = rest (grind (arith, t, e))

spot-some : (key_of : Region → ℕ) (rs : List Region) (domain : Name) (key from count : ℕ) (right : Right) → 0 < count → granted_spot key_of rs domain key from count right ≡ option_map (place_in from count) (granted key_of rs domain key from count right)
spot-some key_of rs domain key from count right some = let no : (count == 0) ≡ false = grind (arith, nat_tests) in ap (λ b. if b then Some (record { region = 0; off = 0; length = 0 }) else option_map (place_in from count) (granted key_of rs domain key from count right)) no

-- the spot of a place that is granted
record IsSpotOf (c : Context) (key from count : ℕ) (spot : RegionRange) : Type 0 where
  pub off : spot.off ≡ from - (region_of_key c key).base
  pub length : spot.length ≡ count

spot-of : (pool : Pool) (held : List RegisteredRegion) (domain : Name) (key from count : ℕ) (spot : RegionRange) → AreKeyed held → 0 < count → granted_spot local_key (regions_of pool held) domain key from count NoRight ≡ Some spot → IsSpotOf (record no_context { regions = regions_of pool held }) key from count spot
spot-of pool held domain key from count spot keyed some e =
    let c : Context = record no_context { regions = regions_of pool held } in
    let found = place-region c pool held refl keyed local_key domain key from count NoRight spot some e in
    let is : Some (place_in from count (region_of_key c spot.region)) ≡ Some spot = ap (option_map (place_in from count)) (sym found) ∙ (sym (spot-some local_key (regions_of pool held) domain key from count NoRight some) ∙ e) in
    let same : place_in from count (region_of_key c spot.region) ≡ spot = cc in
    let region : spot.region ≡ key = ap (λ s. s.region) (sym same) ∙ granted-key (regions_of pool held) domain key from count NoRight (region_of_key c spot.region) found in
    record {
      off = ap (λ s. s.off) (sym same) ∙ ap (λ k. from - (region_of_key c k).base) region;
      length = ap (λ s. s.length) (sym same);
    }

empty-spot : (key_of : Region → ℕ) (rs : List Region) (domain : Name) (key from count : ℕ) (right : Right) (spot : RegionRange) → count ≡ 0 → granted_spot key_of rs domain key from count right ≡ Some spot → pages_touched spot ≡ 0
empty-spot key_of rs domain key from count right spot e s =
    let yes : (count == 0) ≡ true = grind (arith, nat_tests, e) in
    let is : Some (record { region = 0; off = 0; length = 0 }) ≡ Some spot = sym (ap (λ b. if b then Some (record { region = 0; off = 0; length = 0 }) else option_map (place_in from count) (granted key_of rs domain key from count right)) yes) ∙ s in
    let same : record { region = 0; off = 0; length = 0 } ≡ spot = cc in
    ap pages_touched (sym same)

touched-some : (spot : RegionRange) → spot.length ≢ 0 → pages_touched spot ≡ pages_of_range spot.off spot.length
unfolding pages_for
touched-some spot some = let no : (spot.length == 0) ≡ false = grind (arith, nat_tests) in ap (λ b. if b then 0 else pages_for (spot.off % 4096 + spot.length)) no ∙ range-is spot.off spot.length some

base-is : (c : Context) (key : ℕ) → (region_of_key c key).base ≡ (at (λ x. x.keys.local) no_region key c.regions).base
unfolding region_of_key
base-is c key = refl

pub source-pages : (pool : Pool) (held : List RegisteredRegion) (domain : Name) (p : PostedImage) (n : ℕ) (spot : RegionRange) → MayCome held domain p → n ≡ length p.payload → AreKeyed held → granted_spot local_key (regions_of pool held) domain p.request.lkey p.request.local n NoRight ≡ Some spot
    → pages_touched spot ≡ pages_of_request (record no_context { regions = regions_of pool held }) p.request
source-pages pool held domain p n spot may e keyed s = by_kind (takes_bytes p.request.shape.kind) refl
  where
    c : Context
    c = record no_context { regions = regions_of pool held }

    by_length : (k : ℕ) → n ≡ k → takes_bytes p.request.shape.kind ≡ true → pages_touched spot ≡ pages_of_request c p.request
    by_length zero z t =
        let none : p.request.shape.length ≡ 0 = sym (whole-taken held domain p may t) ∙ (sym e ∙ z) in
        empty-spot local_key (regions_of pool held) domain p.request.lkey p.request.local n NoRight spot z s ∙ sym (takes-empty c p.request none)
    by_length (suc k) z t =
        let some : 0 < n = omega arith in
        let is = spot-of pool held domain p.request.lkey p.request.local n spot keyed some s in
        let long : spot.length ≡ p.request.shape.length = is.length ∙ (e ∙ whole-taken held domain p may t) in
        let more : spot.length ≢ 0 = λ q. absurd (let l = is.length in omega arith) in
        touched-some spot more
        ∙ (ap (λ x. pages_of_range x spot.length) is.off
        ∙ (ap (pages_of_range (p.request.local - (region_of_key c p.request.lkey).base)) long
        ∙ sym (takes-range c (regions_of pool held) p.request (region_of_key c p.request.lkey).base refl (base-is c p.request.lkey) t)))

    by_kind : (b : Bool) → takes_bytes p.request.shape.kind ≡ b → pages_touched spot ≡ pages_of_request c p.request
    by_kind true t = by_length n refl t
    by_kind false t =
        let none : n ≡ 0 = e ∙ none-taken held domain p may t in
        empty-spot local_key (regions_of pool held) domain p.request.lkey p.request.local n NoRight spot none s ∙ sym (takes-none c p.request t)

-- ---- bytes in new pages

-- the first byte in its page
abbrev pub first_in : RegionRange → ℕ
first_in spot = if spot.length == 0 then 0 else spot.off % 4096

fits-touched : (spot : RegionRange) → first_in spot + spot.length ≤ 4096 * pages_touched spot
fits-touched spot = by_test (spot.length == 0) refl
  where
    by_test : (b : Bool) → (spot.length == 0) ≡ b → (if b then 0 else spot.off % 4096) + spot.length ≤ 4096 * (if b then 0 else pages_for (spot.off % 4096 + spot.length))
    by_test true t = let none : spot.length ≡ 0 = grind (arith, nat_tests, t) in omega arith
    by_test false t = let fits = holds-pages (spot.off % 4096 + spot.length) in omega arith

blank-bytes : (old mid : Pool) (list n : ℕ) → Puts old mid list (Some (blank (4096 * n))) → length (bytes_in mid list) ≡ 4096 * n
blank-bytes old mid list n puts = ap (λ o. length (unwrap_or o [])) puts.here ∙ length-blank (4096 * n)

pub room-for : (old mid : Pool) (list n first count : ℕ) (spot : RegionRange) → Puts old mid list (Some (blank (4096 * n))) → n ≡ pages_touched spot → first ≡ first_in spot → count ≡ spot.length → first + count ≤ length (bytes_in mid list)
room-for old mid list n first count spot puts e f g =
    let size = blank-bytes old mid list n puts in
    let fits = fits-touched spot in
    omega (arith, size, fits, e, f, g)

-- what is known of them
pub record IsStored (new : Pool) (list first : ℕ) (spot : RegionRange) (bytes : List ℕ) : Type 0 where
  pub lives : IsIn new list
  pub inside : first + spot.length ≤ length (bytes_in new list)
  pub pages : pages_of (bytes_of new list) ≡ pages_touched spot
  pub bytes' : cut first spot.length (bytes_in new list) ≡ bytes

drop_past : (xs : List ℕ) (n : ℕ) → length xs ≤ n → drop n xs ≡ []
drop_past [] zero le = refl
drop_past [] (suc n) le = refl
drop_past (x ∷ xs) zero le = absurd (omega arith)
drop_past (x ∷ xs) (suc n) le = drop_past xs n (omega arith)

put-all : (xs ys : List ℕ) → length xs ≡ length ys → put xs 0 ys ≡ ys
unfolding put
put-all xs ys e = ap (λ zs. ys ++ zs) (drop_past xs (0 + length ys) (omega arith)) ∙ append-nil ys

cut-put : (base bytes : List ℕ) (first n : ℕ) → n ≡ length bytes → first + n ≤ length base → cut first n (put base first bytes) ≡ bytes
cut-put base bytes first n e fits =
    let same = cut-put_inside base 0 bytes first n fits (omega arith) in
    ap (λ k. cut first n (put base k bytes)) (plus-zero first) ∙ (same ∙ put-all (cut first n base) bytes (length-cut first n base fits ∙ e))
  where
    plus-zero : (k : ℕ) → k ≡ k + 0
    plus-zero k = omega arith

pub stored-in : (old mid new : Pool) (list n first : ℕ) (spot : RegionRange) (bytes : List ℕ) → Puts old mid list (Some (blank (4096 * n))) → n ≡ pages_touched spot → first ≡ first_in spot → length bytes ≡ spot.length → Puts mid new list (Some (put (bytes_in mid list) first bytes)) → IsStored new list first spot bytes
stored-in old mid new list n first spot bytes made e f g puts =
    let size = blank-bytes old mid list n made in
    let room : first + length bytes ≤ length (bytes_in mid list) = room-for old mid list n first (length bytes) spot made e f g in
    let whole : length (put (bytes_in mid list) first bytes) ≡ 4096 * n = length-put (bytes_in mid list) first bytes room ∙ size in
    let here : bytes_in new list ≡ put (bytes_in mid list) first bytes = ap (λ o. unwrap_or o []) puts.here in
    record {
      lives = ap is_some puts.here;
      inside = let l = ap length here in omega (arith, l, whole, size, room, g);
      pages = ap pages_of puts.here ∙ (ap (λ k. k / 4096) whole ∙ (times n ∙ e));
      bytes' = ap (cut first spot.length) here ∙ cut-put (bytes_in mid list) bytes first spot.length (sym g) (omega (arith, room, g));
    }
  where
    times : (k : ℕ) → (4096 * k) / 4096 ≡ k
    times k = omega arith
