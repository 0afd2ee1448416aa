-- A region made behind the others.
use Rattle.std.proofs.Common.{◌≡◌, ℕ, ◌*◌, ◌<◌, ◌≤◌, Bool, true, false, List, [], ◌∷◌, ◌++◌, length, take, replicate, refl, ap, sym, ◌∙◌, arith, cond}
use Rattle.std.specs.Prelude.{◌↔◌, Option, Some, None, is_some, nat_eq, nat_lt, nat_le, map, bytes_eq, position, Result, Ok, Err, IsErrOf}
use Rattle.std.specs.Int.{div_ceil}
use Rattle.std.specs.Result.{IsErrAnd}
use Rattle.std.specs.List.{IsDistinct, position_or_len}
use Rattle.std.specs.Map.{values_of}
use Rattle.std.proofs.lemmas.List.{places, same_lists, length-append, length-take, length-drop, length-replicate}
use Rattle.std.proofs.lemmas.List.Elements.{All-push}
use Rattle.std.proofs.lemmas.Bool.Decides.{nat_tests}
use Rattle.std.proofs.lemmas.Grind.{common_steps}
use Rattle.rdma_types.specs.Causes.{first_cause}
use Rattle.rdma_types.specs.Limits.{most_regions}
use Rattle.rdma_types.specs.Lists.{has_name}
use Rattle.rdma_types.specs.Memory.{put}
use Rattle.rdma_types.specs.Objects.{Region}
use Rattle.rdma_types.proofs.Cuts.{length-put}
use Rattle.rdma_types.specs.declared.answers.Refusal.TheVariants as refusal
use Rattle.rdma_types.specs.declared.names.Name.{Name}
use Rattle.page_pool.specs.Store.{blank}
use Rattle.page_pool.specs.Pool.{Pool, Puts, bytes_of, pages_for}
use Rattle.page_pool.specs.declared.PoolFault.{PoolFault}
use Rattle.page_pool.specs.declared.PoolFault.TheVariants as pool
use Rattle.page_pool.proofs.Places.{length-blank}
use Rattle.page_pool.proofs.Writes.{bytes-after, in-after}
use Rattle.memory_keys.specs.Causes.{register_causes, refusal_of, told_as}
use Rattle.memory_keys.specs.Faults.{fault_of}
use Rattle.memory_keys.specs.Regions.{AreHeld, Lies, region_of, regions_of, blank_region}
use Rattle.memory_keys.specs.declared.RegisteredRegion.{RegisteredRegion}
use Rattle.memory_keys.specs.declared.MemFault.{MemFault}
use Rattle.memory_keys.specs.declared.MemFault.TheVariants.{OutOfMemory}
use Rattle.memory_keys.specs.declared.RegionHead.{RegionHead}
use Rattle.memory_keys.proofs.Spots.{holds-pages}
use Rattle.memory_keys.proofs.Stores.{IsApart, apart-new, held-new, regions-new}

-- some region has the name where its place is found
place-name : (pool : Pool) (n : Name) (hs : List RegisteredRegion) → nat_lt (position_or_len (λ h. bytes_eq h.head.name n) hs) (length hs) ≡ has_name (λ r. r.name) n (regions_of pool hs)
unfolding has_name
place-name pool n [] = refl
place-name pool n (x ∷ xs) = by_test (bytes_eq x.head.name n) refl (place-name pool n xs)
  where
    by_test : (b : Bool) → bytes_eq x.head.name n ≡ b → nat_lt (position_or_len (λ h. bytes_eq h.head.name n) xs) (length xs) ≡ has_name (λ r. r.name) n (regions_of pool xs) → nat_lt (position_or_len (λ h. bytes_eq h.head.name n) (x ∷ xs)) (length (x ∷ xs)) ≡ has_name (λ r. r.name) n (regions_of pool (x ∷ xs))
    by_test true t rest = grind (arith, nat_tests, t)
    by_test false t rest = grind (arith, nat_tests, t, rest)

pub is-named : (pool : Pool) (n : Name) (hs : List RegisteredRegion) (r : Option ℕ) → r ≡ position (λ h. bytes_eq h.head.name n) hs → is_some r ≡ has_name (λ x. x.name) n (regions_of pool hs)
is-named pool n hs r e = ap is_some e ∙ (by_test (nat_lt (position_or_len (λ h. bytes_eq h.head.name n) hs) (length hs)) ∙ place-name pool n hs)
  where
    by_test : (b : Bool) → is_some (cond b (Some (position_or_len (λ h. bytes_eq h.head.name n) hs)) None) ≡ b
    by_test true = refl
    by_test false = refl

-- the causes in their order
pub taken : (rs : List Region) (free : ℕ) (head : RegionHead) → has_name (λ r. r.name) head.name rs ≡ true → Some refusal.NumberTaken ≡ first_cause (register_causes rs free head)
unfolding first_cause
taken rs free head e = rw e refl

pub many : (rs : List Region) (free : ℕ) (head : RegionHead) → has_name (λ r. r.name) head.name rs ≡ false → 256 ≤ length rs → Some refusal.TooMany ≡ first_cause (register_causes rs free head)
unfolding first_cause
many rs free head e l = let m : nat_le most_regions (length rs) ≡ true = grind (arith, nat_tests) in rw e (rw m refl)

pub short : (rs : List Region) (free : ℕ) (head : RegionHead) → has_name (λ r. r.name) head.name rs ≡ false → length rs < 256 → free < pages_for head.length → Some refusal.NoPage ≡ first_cause (register_causes rs free head)
unfolding first_cause
short rs free head e l f =
    let m : nat_le most_regions (length rs) ≡ false = grind (arith, nat_tests) in
    let s : nat_lt free (pages_for head.length) ≡ true = grind (arith, nat_tests) in
    rw e (rw m (rw s refl))

pub free-to-make : (rs : List Region) (free : ℕ) (head : RegionHead) → has_name (λ r. r.name) head.name rs ≡ false → length rs < 256 → pages_for head.length ≤ free → None ≡ first_cause (register_causes rs free head)
unfolding first_cause
free-to-make rs free head e l f =
    let m : nat_le most_regions (length rs) ≡ false = grind (arith, nat_tests) in
    let s : nat_lt free (pages_for head.length) ≡ false = grind (arith, nat_tests) in
    rw e (rw m (rw s refl))

-- out of memory has no cause
pub memory-told : {T : Type 0} (r : Result T MemFault) → IsErrAnd r (λ e. e ≡ OutOfMemory) → refusal_of r ≡ None
memory-told (Ok x) h = refl
memory-told (Err e) h = ap told_as h

pub pool-told : {T S : Type 0} (r : Result T MemFault) (fault : PoolFault) (free n : ℕ) → IsErrAnd r (λ e. e ≡ fault_of fault) → (IsErrOf {T = S} (Err fault) pool.NoPage ↔ (free < n)) → n ≤ free → refusal_of r ≡ None
pool-told (Ok x) fault free n h k l = refl
pool-told (Err e) pool.NoPage free n h k l = absurd (omega (arith, k.0 refl))
pool-told (Err e) pool.OutOfMemory free n h k l = ap told_as h

-- as many regions as are held
pub length-regions : (pool : Pool) (es : List (ℕ × RegisteredRegion)) (hs : List RegisteredRegion) → values_of es ≡ hs → length (regions_of pool hs) ≡ length es
length-regions pool es hs e = ap (λ x. length (regions_of pool x)) (sym e) ∙ grind (arith, common_steps)

pub pages-are : (n length' pages : ℕ) → n ≡ div_ceil length' 4096 → n ≡ pages_for length'
unfolding pages_for
pages-are n length' pages e = e

-- the list of one more region
all-more : (k : ℕ) (hs : List RegisteredRegion) (v : RegisteredRegion) → IsApart k hs → nat_eq k v.list ≡ false → IsApart k (hs ++ v ∷ [])
all-more k [] v a e = (e, tt)
all-more k (x ∷ xs) v a e = (a.0, all-more k xs v a.1 e)

apart-more : (hs : List RegisteredRegion) (v : RegisteredRegion) → IsDistinct nat_eq (map (λ h. h.list) hs) → IsApart v.list hs → IsDistinct nat_eq (map (λ h. h.list) (hs ++ v ∷ []))
unfolding IsDistinct
apart-more [] v d a = (tt, tt)
apart-more (x ∷ xs) v d a =
    let e : nat_eq x.list v.list ≡ false = grind (arith, nat_tests, a.0) in
    (all-more x.list xs v d.0 e, apart-more xs v d.1 a.1)

pub held-more : (a b : Pool) (hs : List RegisteredRegion) (v : RegisteredRegion) (n : ℕ) (bytes : List ℕ) → AreHeld a hs → bytes_of a v.list ≡ None → Puts a b v.list (Some (put (blank (4096 * n)) 0 bytes)) → n ≡ pages_for v.head.length → length bytes ≤ v.head.length → AreHeld b (hs ++ v ∷ [])
held-more a b hs v n bytes h none p e inside =
    let is = bytes-after a b v.list (put (blank (4096 * n)) 0 bytes) p in
    let zeros : length (blank (4096 * n)) ≡ 4096 * n = length-blank (4096 * n) in
    record {
      lie = All-push (Lies b) hs v (held-new a b v.list _ hs h none p).lie (record {
        lives = in-after a b v.list (put (blank (4096 * n)) 0 bytes) p;
        size = ap length is ∙ (length-put (blank (4096 * n)) 0 bytes (omega (arith, holds-pages v.head.length)) ∙ (zeros ∙ ap (λ m. 4096 * m) e));
      });
      apart = apart-more hs v h.apart (apart-new a v.list hs h.lie none);
    }

-- the bytes of a region in its pages
begun : (bytes : List ℕ) (k n : ℕ) → length bytes ≤ k → k ≤ n → take k (put (replicate n 0) 0 bytes) ≡ put (replicate k 0) 0 bytes
unfolding put
begun bytes k n h l = same_lists _ _ (simp (length-append, length-take, length-drop, length-replicate) (omega arith)) (λ i d m. grind (arith, places))

-- one more region of bytes, with zeros behind them
region-made : (a b : Pool) (v : RegisteredRegion) (n : ℕ) (bytes : List ℕ) → Puts a b v.list (Some (put (blank (4096 * n)) 0 bytes)) → n ≡ pages_for v.head.length → length bytes ≤ v.head.length → region_of b v ≡ record (blank_region v.head) { bytes = put (blank_region v.head).bytes 0 bytes }
unfolding blank
region-made a b v n bytes p e inside =
    let is = bytes-after a b v.list (put (blank (4096 * n)) 0 bytes) p in
    let room : v.head.length ≤ 4096 * n = omega (arith, holds-pages v.head.length) in
    ap (λ bs. record { name = v.head.name; domain = v.head.domain; base = v.head.base; length = v.head.length; rights = v.head.rights; keys = v.head.keys; bytes = bs }) (ap (take v.head.length) is ∙ begun bytes v.head.length (4096 * n) inside room)

region-behind : (b : Pool) (hs : List RegisteredRegion) (v : RegisteredRegion) → regions_of b (hs ++ v ∷ []) ≡ regions_of b hs ++ region_of b v ∷ []
region-behind b [] v = refl
region-behind b (x ∷ xs) v = ap (λ rs. region_of b x ∷ rs) (region-behind b xs v)

pub regions-more : (a b : Pool) (hs : List RegisteredRegion) (v : RegisteredRegion) (n : ℕ) (bytes : List ℕ) → AreHeld a hs → bytes_of a v.list ≡ None → Puts a b v.list (Some (put (blank (4096 * n)) 0 bytes)) → n ≡ pages_for v.head.length → length bytes ≤ v.head.length → regions_of b (hs ++ v ∷ []) ≡ regions_of a hs ++ record (blank_region v.head) { bytes = put (blank_region v.head).bytes 0 bytes } ∷ []
regions-more a b hs v n bytes h none p e inside =
    region-behind b hs v
    ∙ (ap (λ rs. rs ++ region_of b v ∷ []) (regions-new a b v.list _ hs h none p)
    ∙ ap (λ r. regions_of a hs ++ r ∷ []) (region-made a b v n bytes p e inside))

-- what is seen of one more entry
pub seen-more : (es : List (ℕ × RegisteredRegion)) (e : ℕ × RegisteredRegion) → values_of (es ++ e ∷ []) ≡ values_of es ++ e.1 ∷ []
seen-more [] e = refl
seen-more (x ∷ xs) e = ap (λ vs. x.1 ∷ vs) (seen-more xs e)
