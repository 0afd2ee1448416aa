-- Regions whose lists are changed.
use Rattle.std.proofs.Common.{◌≡◌, ℕ, zero, suc, ◌+◌, ◌≤◌, ◌≢◌, Bool, true, false, List, [], ◌∷◌, length, take, refl, ap, sym, ◌∙◌, arith, subst}
use Rattle.std.specs.Prelude.{◌==◌, All, Option, Some, None, is_some, unwrap_or, nat_eq, map, slice_get}
use Rattle.std.specs.List.{IsDistinct, AllByRecursion}
use Rattle.std.specs.Map.{values_of}
use Rattle.std.proofs.lemmas.List.Elements.{All-head, All-tail, All-nil, All-cons}
use Rattle.std.proofs.lemmas.Bool.Decides.{nat_tests}
use Rattle.indexmap.specs.IndexMap.{set_value_at}
use Rattle.rdma_types.specs.Lists.{first_that}
use Rattle.rdma_types.specs.Memory.{cut, put}
use Rattle.rdma_types.specs.Objects.{Region}
use Rattle.protocol.specs.Memory.{stored}
use Rattle.rdma_types.proofs.Cuts.{length-put, put-none, cut-put_inside}
use Rattle.page_pool.specs.Pool.{Pool, Puts, IsIn, bytes_of, bytes_in}
use Rattle.page_pool.proofs.Writes.{bytes-after, in-after}
use Rattle.memory_keys.specs.declared.RegisteredRegion.{RegisteredRegion}
use Rattle.memory_keys.specs.declared.RegionRange.{RegionRange}
use Rattle.memory_keys.specs.Regions.{AreHeld, KeepsOthers, Lies, held_at, region_of, regions_of, stored_at}
use Rattle.memory_keys.proofs.Spots.{holds-pages}

-- the list is that of no region
abbrev pub IsApart : ℕ → List RegisteredRegion → Type 0
IsApart list hs = AllByRecursion (λ y. nat_eq list y ≡ false) (map (λ h. h.list) hs)

-- a region whose list has the bytes that it had
pub region-same : (a b : Pool) (h : RegisteredRegion) → bytes_of b h.list ≡ bytes_of a h.list → region_of b h ≡ region_of a h
region-same a b h e = ap (λ o. record { name = h.head.name; domain = h.head.domain; base = h.head.base; length = h.head.length; rights = h.head.rights; keys = h.head.keys; bytes = take h.head.length (unwrap_or o []) }) e

pub lies-same : (a b : Pool) (h : RegisteredRegion) → bytes_of b h.list ≡ bytes_of a h.list → Lies a h → Lies b h
lies-same a b h e l = record { lives = ap is_some e ∙ l.lives; size = ap (λ o. length (unwrap_or o [])) e ∙ l.size }

-- a change of a list of no region
pub regions-apart : (a b : Pool) (k : ℕ) (v : Option (List ℕ)) (hs : List RegisteredRegion) → Puts a b k v → IsApart k hs → regions_of b hs ≡ regions_of a hs
regions-apart a b k v [] p h = refl
regions-apart a b k v (x ∷ xs) p h =
    let other : x.list ≢ k = λ e. grind (arith, nat_tests, h.0, e) in
    let here : region_of b x ≡ region_of a x = region-same a b x (p.others x.list other) in
    let rest : regions_of b xs ≡ regions_of a xs = regions-apart a b k v xs p h.1 in
    cc

pub lie-apart : (a b : Pool) (k : ℕ) (v : Option (List ℕ)) (hs : List RegisteredRegion) → Puts a b k v → IsApart k hs → All (Lies a) hs → All (Lies b) hs
lie-apart a b k v [] p h all = All-nil (Lies b)
lie-apart a b k v (x ∷ xs) p h all =
    let other : x.list ≢ k = λ e. grind (arith, nat_tests, h.0, e) in
    All-cons (Lies b) x xs (lies-same a b x (p.others x.list other) (All-head (Lies a) x xs all)) (lie-apart a b k v xs p h.1 (All-tail (Lies a) x xs all))

-- a new list is that of no region
pub apart-new : (a : Pool) (k : ℕ) (hs : List RegisteredRegion) → All (Lies a) hs → bytes_of a k ≡ None → IsApart k hs
apart-new a k [] all none = tt
apart-new a k (x ∷ xs) all none = (differs (nat_eq k x.list) refl, apart-new a k xs (All-tail (Lies a) x xs all) none)
  where
    there : IsIn a x.list
    there = (All-head (Lies a) x xs all).lives

    differs : (b : Bool) → nat_eq k x.list ≡ b → nat_eq k x.list ≡ false
    differs false e = e
    differs true e = let same : k ≡ x.list = grind (arith, nat_tests, e) in absurd (let none' : bytes_of a x.list ≡ None = ap (bytes_of a) (sym same) ∙ none in cc (there, none'))

pub others-new : (a : Pool) (k : ℕ) (hs : List RegisteredRegion) → All (Lies a) hs → bytes_of a k ≡ None → All (λ h. h.list ≢ k) hs
others-new a k [] all none = All-nil (λ h. h.list ≢ k)
others-new a k (x ∷ xs) all none = All-cons (λ h. h.list ≢ k) x xs (λ same. absurd (let none' : bytes_of a x.list ≡ None = ap (bytes_of a) same ∙ none in cc ((All-head (Lies a) x xs all).lives, none'))) (others-new a k xs (All-tail (Lies a) x xs all) none)

-- the regions stay where a list of none of them is changed
apart-other : (k : ℕ) (hs : List RegisteredRegion) → All (λ h. h.list ≢ k) hs → IsApart k hs
apart-other k [] all = tt
apart-other k (x ∷ xs) all = (differs (nat_eq k x.list) refl (All-head (λ h. h.list ≢ k) x xs all), apart-other k xs (All-tail (λ h. h.list ≢ k) x xs all))
  where
    differs : (b : Bool) → nat_eq k x.list ≡ b → x.list ≢ k → nat_eq k x.list ≡ false
    differs false e n = e
    differs true e n = absurd (n (grind (arith, nat_tests, e)))

pub held-other : (a b : Pool) (k : ℕ) (v : Option (List ℕ)) (hs : List RegisteredRegion) → AreHeld a hs → All (λ h. h.list ≢ k) hs → Puts a b k v → AreHeld b hs
held-other a b k v hs h other p = record { lie = lie-apart a b k v hs p (apart-other k hs other) h.lie; apart = h.apart }

pub regions-other : (a b : Pool) (k : ℕ) (v : Option (List ℕ)) (hs : List RegisteredRegion) → All (λ h. h.list ≢ k) hs → Puts a b k v → regions_of b hs ≡ regions_of a hs
regions-other a b k v hs other p = regions-apart a b k v hs p (apart-other k hs other)

-- the regions stay where a new list is made
pub held-new : (a b : Pool) (k : ℕ) (v : Option (List ℕ)) (hs : List RegisteredRegion) → AreHeld a hs → bytes_of a k ≡ None → Puts a b k v → AreHeld b hs
held-new a b k v hs h none p = record { lie = lie-apart a b k v hs p (apart-new a k hs h.lie none) h.lie; apart = h.apart }

pub regions-new : (a b : Pool) (k : ℕ) (v : Option (List ℕ)) (hs : List RegisteredRegion) → AreHeld a hs → bytes_of a k ≡ None → Puts a b k v → regions_of b hs ≡ regions_of a hs
regions-new a b k v hs h none p = regions-apart a b k v hs p (apart-new a k hs h.lie none)

-- the list of a region that is found
pub found-apart : (k key : ℕ) (hs : List RegisteredRegion) (h : RegisteredRegion) → IsApart k hs → held_at key hs ≡ Some h → k ≢ h.list
unfolding first_that
found-apart k key [] h a e = absurd (cc)
found-apart k key (x ∷ xs) h a e = by_test (x.head.keys.local == key) refl (found-apart k key xs h a.1)
  where
    by_test : (b : Bool) → (x.head.keys.local == key) ≡ b → (held_at key xs ≡ Some h → k ≢ h.list) → k ≢ h.list
    by_test true t rest = let same : x ≡ h = grind (arith, t, e) in λ is. let is' : k ≡ x.list = is ∙ ap (λ y. y.list) (sym same) in grind (arith, nat_tests, a.0, is')
    by_test false t rest = rest (grind (arith, t, e))

-- a region whose list is written
pub region-stored : (a b : Pool) (h : RegisteredRegion) (off : ℕ) (new : List ℕ) → Lies a h → off + length new ≤ h.head.length → Puts a b h.list (Some (put (bytes_in a h.list) off new)) → region_of b h ≡ stored (region_of a h) off new
unfolding stored cut
region-stored a b h off new l inside p =
    let is = bytes-after a b h.list (put (bytes_in a h.list) off new) p in
    let room : h.head.length ≤ length (bytes_in a h.list) = omega (arith, l.size, holds-pages h.head.length) in
    let zero : off ≡ 0 + off = omega arith in
    let bytes : take h.head.length (bytes_in b h.list) ≡ put (take h.head.length (bytes_in a h.list)) off new = ap (take h.head.length) is ∙ (ap (λ n. take h.head.length (put (bytes_in a h.list) n new)) zero ∙ cut-put_inside (bytes_in a h.list) off new 0 h.head.length (omega arith) inside) in
    ap (λ bs. record { name = h.head.name; domain = h.head.domain; base = h.head.base; length = h.head.length; rights = h.head.rights; keys = h.head.keys; bytes = bs }) bytes

pub lies-stored : (a b : Pool) (h : RegisteredRegion) (off : ℕ) (new : List ℕ) → Lies a h → off + length new ≤ h.head.length → Puts a b h.list (Some (put (bytes_in a h.list) off new)) → Lies b h
lies-stored a b h off new l inside p =
    let is = bytes-after a b h.list (put (bytes_in a h.list) off new) p in
    record {
      lives = in-after a b h.list (put (bytes_in a h.list) off new) p;
      size = ap length is ∙ (length-put (bytes_in a h.list) off new (omega (arith, l.size, holds-pages h.head.length)) ∙ l.size);
    }

-- nothing is stored in regions with other keys
stored-none : (a : Pool) (spot : RegionRange) (new : List ℕ) (k : ℕ) (hs : List RegisteredRegion) → k ≡ spot.region → AllByRecursion (λ y. nat_eq k y ≡ false) (map (λ h. h.head.keys.local) hs) → stored_at spot new (regions_of a hs) ≡ regions_of a hs
stored-none a spot new k [] e d = refl
stored-none a spot new k (x ∷ xs) e d =
    let no : (x.head.keys.local == spot.region) ≡ false = grind (arith, nat_tests, e, d.0) in
    let rest : stored_at spot new (regions_of a xs) ≡ regions_of a xs = stored-none a spot new k xs e d.1 in
    rw no (ap (λ rs. region_of a x ∷ rs) rest)

-- the regions after a region's list is written
pub regions-stored : (a b : Pool) (spot : RegionRange) (new : List ℕ) (h : RegisteredRegion) (hs : List RegisteredRegion) → IsDistinct nat_eq (map (λ x. x.head.keys.local) hs) → IsDistinct nat_eq (map (λ x. x.list) hs) → All (Lies a) hs → held_at spot.region hs ≡ Some h → spot.off + length new ≤ h.head.length → Puts a b h.list (Some (put (bytes_in a h.list) spot.off new)) → regions_of b hs ≡ stored_at spot new (regions_of a hs)
unfolding first_that IsDistinct
regions-stored a b spot new h [] keys lists all e inside p = refl
regions-stored a b spot new h (x ∷ xs) keys lists all e inside p = by_test (x.head.keys.local == spot.region) refl (λ found. regions-stored a b spot new h xs keys.1 lists.1 (All-tail (Lies a) x xs all) found inside p)
  where
    by_test : (c : Bool) → (x.head.keys.local == spot.region) ≡ c → (held_at spot.region xs ≡ Some h → regions_of b xs ≡ stored_at spot new (regions_of a xs)) → regions_of b (x ∷ xs) ≡ stored_at spot new (regions_of a (x ∷ xs))
    by_test true t later =
        let same : h ≡ x = grind (arith, t, e) in
        let p' : Puts a b x.list (Some (put (bytes_in a x.list) spot.off new)) = subst (λ y. Puts a b y.list (Some (put (bytes_in a y.list) spot.off new))) same p in
        let here = region-stored a b x spot.off new (All-head (Lies a) x xs all) (omega (arith, inside, ap (λ y. y.head.length) same)) p' in
        let rest = regions-apart a b x.list _ xs p' lists.0 ∙ sym (stored-none a spot new x.head.keys.local xs (grind (arith, nat_tests, t)) keys.0) in
        rw t (ap (λ r. r ∷ regions_of b xs) here ∙ ap (λ rs. stored (region_of a x) spot.off new ∷ rs) rest)
    by_test false t later =
        let found : held_at spot.region xs ≡ Some h = grind (arith, t, e) in
        let here = region-same a b x (p.others x.list (found-apart x.list spot.region xs h lists.0 found)) in
        rw t (ap (λ r. r ∷ regions_of b xs) here ∙ ap (λ rs. region_of a x ∷ rs) (later found))

-- the regions lie in the pool after a region's list is written
pub lie-stored : (a b : Pool) (spot : RegionRange) (new : List ℕ) (h : RegisteredRegion) (hs : List RegisteredRegion) → IsDistinct nat_eq (map (λ x. x.list) hs) → All (Lies a) hs → held_at spot.region hs ≡ Some h → spot.off + length new ≤ h.head.length → Puts a b h.list (Some (put (bytes_in a h.list) spot.off new)) → All (Lies b) hs
unfolding first_that IsDistinct
lie-stored a b spot new h [] lists all e inside p = All-nil (Lies b)
lie-stored a b spot new h (x ∷ xs) lists all e inside p = by_test (x.head.keys.local == spot.region) refl (λ found. lie-stored a b spot new h xs lists.1 (All-tail (Lies a) x xs all) found inside p)
  where
    by_test : (c : Bool) → (x.head.keys.local == spot.region) ≡ c → (held_at spot.region xs ≡ Some h → All (Lies b) xs) → All (Lies b) (x ∷ xs)
    by_test true t later =
        let same : h ≡ x = grind (arith, t, e) in
        let p' : Puts a b x.list (Some (put (bytes_in a x.list) spot.off new)) = subst (λ y. Puts a b y.list (Some (put (bytes_in a y.list) spot.off new))) same p in
        let here = lies-stored a b x spot.off new (All-head (Lies a) x xs all) (omega (arith, inside, ap (λ y. y.head.length) same)) p' in
        All-cons (Lies b) x xs here (lie-apart a b x.list _ xs p' lists.0 (All-tail (Lies a) x xs all))
    by_test false t later =
        let found : held_at spot.region xs ≡ Some h = grind (arith, t, e) in
        All-cons (Lies b) x xs (lies-same a b x (p.others x.list (found-apart x.list spot.region xs h lists.0 found)) (All-head (Lies a) x xs all)) (later found)

-- no bytes are stored
pub stored-nothing : (spot : RegionRange) (new : List ℕ) (rs : List Region) → length new ≡ 0 → stored_at spot new rs ≡ rs
unfolding stored
stored-nothing spot new [] e = refl
stored-nothing spot [] (r ∷ rs) e = by_test (r.keys.local == spot.region) refl (stored-nothing spot [] rs e)
  where
    by_test : (c : Bool) → (r.keys.local == spot.region) ≡ c → stored_at spot [] rs ≡ rs → stored_at spot [] (r ∷ rs) ≡ r ∷ rs
    by_test true t rest = rw t (ap (λ bs. record r { bytes = bs } ∷ stored_at spot [] rs) (put-none r.bytes spot.off) ∙ ap (λ xs. r ∷ xs) rest)
    by_test false t rest = rw t (ap (λ xs. r ∷ xs) rest)
stored-nothing spot (n ∷ ns) (r ∷ rs) e = absurd (omega arith)

-- a list of no region is not that of a region that is found
pub found-other : (key list : ℕ) (hs : List RegisteredRegion) (h : RegisteredRegion) → All (λ x. x.list ≢ list) hs → held_at key hs ≡ Some h → list ≢ h.list
unfolding first_that
found-other key list [] h a e = absurd (cc)
found-other key list (x ∷ xs) h a e = by_test (x.head.keys.local == key) refl (found-other key list xs h (All-tail (λ y. y.list ≢ list) x xs a))
  where
    by_test : (c : Bool) → (x.head.keys.local == key) ≡ c → (held_at key xs ≡ Some h → list ≢ h.list) → list ≢ h.list
    by_test true t rest = let same : x ≡ h = grind (arith, t, e) in λ is. All-head (λ y. y.list ≢ list) x xs a (ap (λ y. y.list) same ∙ sym is)
    by_test false t rest = rest (grind (arith, t, e))

pub others-kept : (a b : Pool) (key : ℕ) (v : Option (List ℕ)) (h : RegisteredRegion) (hs : List RegisteredRegion) → held_at key hs ≡ Some h → Puts a b h.list v → KeepsOthers a b hs
others-kept a b key v h hs e p = record { pages = p.pages; others = λ list there apart. p.others list (found-other key list hs h apart e) }

-- a region written back as it was
pub set-same : (es : List (ℕ × RegisteredRegion)) (i : ℕ) (w : RegisteredRegion) → slice_get (values_of es) i ≡ Some w → set_value_at es i w ≡ es
set-same [] i w e = refl
set-same (x ∷ xs) zero w e = let same : x.1 ≡ w = cc in ap (λ y. (x.0, y) ∷ xs) (sym same)
set-same (x ∷ xs) (suc i) w e = ap (λ ys. x ∷ ys) (set-same xs i w e)
