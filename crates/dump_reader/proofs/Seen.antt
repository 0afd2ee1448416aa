-- Tests over what was read so far.
use Rattle.std.proofs.Common.{◌≡◌, ℕ, zero, suc, ◌-◌, ◌≤◌, ◌<◌, get_or, List, [], ◌∷◌, length, map, Bool, true, false, refl, ap, sym, ◌∙◌, arith, nat_lt, slice_index_or}
use Rattle.std.specs.Prelude.{◌||◌, ◌&&◌, bytes_eq, Option, Some, is_some, if◌then◌else◌}
use Rattle.rdma_types.specs.declared.names.Name.{Name}
use Rattle.rdma_types.specs.Memory.{Right, RemoteWrite, allows, grants, granted, local_key}
use Rattle.protocol.specs.declared.images.RegionImage.{RegionImage}
use Rattle.protocol.specs.Images.{name_at, region_of_image}
use Rattle.std.specs.List.{list_any}
use Rattle.rdma_types.specs.Lists.{first_that, has_name, has_word, some}
use Rattle.protocol.specs.declared.images.KeptReply.{KeptReply}
use Rattle.protocol.specs.Dumps.{rises, queue_names, may_write_at}
use Rattle.dump_reader.specs.declared.heads.PlacedQueue.{PlacedQueue}
use Rattle.dump_reader.specs.Groups.{placed}

-- the rule of kept replies speaks of the last
pub rises_last : (ks : List KeptReply) (n : ℕ) (d : KeptReply) → 1 ≤ length ks → nat_lt (slice_index_or ks (length ks - 1) d).number n ≡ rises ks n
rises_last [] n d h = absurd (omega arith)
rises_last (k ∷ []) n d h = refl
rises_last (k ∷ (j ∷ ks)) n d h =
    let here : suc (suc (length ks)) - 1 ≡ suc (length ks) = omega arith in
    let there : suc (length ks) - 1 ≡ length ks = omega arith in
    let more = rises_last (j ∷ ks) n d (omega arith) in
    ap (λ (i : ℕ). nat_lt (slice_index_or (k ∷ (j ∷ ks)) i d).number n) here ∙ (ap (λ (i : ℕ). nat_lt (slice_index_or (j ∷ ks) i d).number n) (sym there) ∙ more)

-- a name in a list of things
pub name_seen : {A : Type 0} (f : A → List ℕ) (n : List ℕ) (xs : List A) → list_any (λ x. bytes_eq (f x) n) xs ≡ has_word n (map f xs)
unfolding has_name
name_seen f n [] = refl
name_seen f n (x ∷ xs) = ap (λ (b : Bool). bytes_eq (f x) n || b) (name_seen f n xs)

-- some thing passes a test
pub some_seen : {A : Type 0} (test : A → Bool) (xs : List A) → list_any test xs ≡ some test xs
unfolding some
some_seen test [] = refl
some_seen test (x ∷ xs) = ap (λ (b : Bool). test x || b) (some_seen test xs)

-- the names of queues with their places
pub placed_names : (qs : List PlacedQueue) → map (λ q. q.queue.name) qs ≡ queue_names (map placed qs)
placed_names [] = refl
placed_names (q ∷ qs) = ap (λ (ns : List (List ℕ)). q.queue.name ∷ ns) (placed_names qs)

-- a name in a list of names
pub word_seen : (n : List ℕ) (xs : List (List ℕ)) → list_any (λ x. bytes_eq x n) xs ≡ has_word n xs
unfolding has_name
word_seen n [] = refl
word_seen n (x ∷ xs) = ap (λ (b : Bool). bytes_eq x n || b) (word_seen n xs)

granted_by : {A : Type 0} (x : A) (b : Bool) (c : Bool) (o : Option A) → c ≡ is_some o → (b || c) ≡ is_some (if b then Some x else o)
granted_by x true c o e = refl
granted_by x false c o e = e

-- the region at a position, and what is asked of it
pub may_write_found : (domains : List Name) (rs : List RegionImage) (domain : Name) (i : ℕ) (r : RegionImage) → i < length rs → r ≡ get_or rs i r → (bytes_eq (name_at domains r.domain) domain && allows r.rights RemoteWrite) ≡ may_write_at (map (region_of_image domains) rs) domain i
may_write_found domains [] domain i r h e = absurd (omega arith)
may_write_found domains (x ∷ rs) domain zero r h e = ap (λ (y : RegionImage). bytes_eq (name_at domains y.domain) domain && allows y.rights RemoteWrite) e
may_write_found domains (x ∷ rs) domain (suc i) r h e = may_write_found domains rs domain i r (omega arith) e

-- no region stands there
pub may_write_none : (domains : List Name) (rs : List RegionImage) (domain : Name) (i : ℕ) → length rs ≤ i → false ≡ may_write_at (map (region_of_image domains) rs) domain i
may_write_none domains [] domain i h = refl
may_write_none domains (x ∷ rs) domain zero h = absurd (omega arith)
may_write_none domains (x ∷ rs) domain (suc i) h = may_write_none domains rs domain i (omega arith)

-- a place is granted, as a test of each region
pub granted_seen : (domains : List Name) (rs : List RegionImage) (domain : Name) (key at count : ℕ) (right : Right) → list_any (λ r. grants local_key domain key at count right (region_of_image domains r)) rs ≡ is_some (granted local_key (map (region_of_image domains) rs) domain key at count right)
unfolding granted first_that
granted_seen domains [] domain key at count right = refl
granted_seen domains (r ∷ rs) domain key at count right = granted_by (region_of_image domains r) (grants local_key domain key at count right (region_of_image domains r)) _ _ (granted_seen domains rs domain key at count right)
