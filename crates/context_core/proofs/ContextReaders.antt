-- What readers tell.
use Rattle.std.proofs.Common.{◌≡◌, ℕ, zero, suc, Bool, true, false, List, [], ◌∷◌, length, refl, ap, sym, ◌∙◌, arith}
use Rattle.std.specs.Prelude.{Option, Some, None, map, bytes_eq, position, slice_get, nat_lt, if◌then◌else◌}
use Rattle.std.specs.Option.{option_map}
use Rattle.std.specs.List.{position_or_len}
use Rattle.std.specs.Map.{keys_of}
use Rattle.rdma_types.specs.declared.names.Name.{Name}
use Rattle.page_pool.specs.Pool.{Pool}
use Rattle.end_queues.specs.Completions.{Queue}
use Rattle.memory_keys.specs.declared.RegisteredRegion.{RegisteredRegion}
use Rattle.memory_keys.specs.declared.RegionHead.{RegionHead}
use Rattle.memory_keys.specs.Regions.{regions_of}
use Rattle.context_core.specs.declared.state.EndSlot.{EndSlot}
use Rattle.context_core.specs.Context.{Holding, context_in, end_of}

pub length-map : {A B : Type 0} (f : A → B) (xs : List A) → length (map f xs) ≡ length xs
length-map f [] = refl
length-map f (x ∷ xs) = ap suc (length-map f xs)

pub count-is : (pool : Pool) (n : Name) (h : Holding) → length (context_in pool n h).ends ≡ length h.ends
unfolding context_in
count-is pool n h = length-map (end_of pool h.queues) h.ends

places-or : (pool : Pool) (qs : List (Name × Queue)) (name : Name) (es : List (Name × EndSlot)) → position_or_len (λ e. bytes_eq name e.name) (map (end_of pool qs) es) ≡ position_or_len (bytes_eq name) (keys_of es)
places-or pool qs name [] = refl
places-or pool qs name (e ∷ es) = by (bytes_eq name e.0) refl (places-or pool qs name es)
  where
    by : (b : Bool) → bytes_eq name e.0 ≡ b → position_or_len (λ x. bytes_eq name x.name) (map (end_of pool qs) es) ≡ position_or_len (bytes_eq name) (keys_of es) → position_or_len (λ x. bytes_eq name x.name) (map (end_of pool qs) (e ∷ es)) ≡ position_or_len (bytes_eq name) (keys_of (e ∷ es))
    by true t rest = grind (arith, t)
    by false t rest = grind (arith, t, rest)

pub place-is : (pool : Pool) (n : Name) (h : Holding) (name : Name) → position (bytes_eq name) (keys_of h.ends) ≡ position (λ e. bytes_eq name e.name) (context_in pool n h).ends
unfolding context_in
place-is pool n h name =
    let same = places-or pool h.queues name h.ends in
    let keys : length (keys_of h.ends) ≡ length h.ends = length-map (λ e. e.0) h.ends in
    let ends : length (map (end_of pool h.queues) h.ends) ≡ length h.ends = length-map (end_of pool h.queues) h.ends in
    ap (λ k. if nat_lt k (length (keys_of h.ends)) then Some k else None) (sym same)
    ∙ ap (λ l. if nat_lt (position_or_len (λ e. bytes_eq name e.name) (map (end_of pool h.queues) h.ends)) l then Some (position_or_len (λ e. bytes_eq name e.name) (map (end_of pool h.queues) h.ends)) else None) (keys ∙ sym ends)

keys-map : (pool : Pool) (hs : List RegisteredRegion) (i : ℕ) → option_map (λ h. h.head.keys) (slice_get hs i) ≡ option_map (λ r. r.keys) (slice_get (regions_of pool hs) i)
keys-map pool [] i = refl
keys-map pool (h ∷ hs) zero = refl
keys-map pool (h ∷ hs) (suc i) = keys-map pool hs i

pub keys-is : (pool : Pool) (n : Name) (h : Holding) (i : ℕ) → option_map (λ x. x.head.keys) (slice_get h.regions i) ≡ option_map (λ r. r.keys) (slice_get (context_in pool n h).regions i)
unfolding context_in
keys-is pool n h i = keys-map pool h.regions i

pub keys-told : (pool : Pool) (n : Name) (h : Holding) (i : ℕ) (o : Option RegionHead) → o ≡ option_map (λ x. x.head) (slice_get h.regions i) → option_map (λ k. k.keys) o ≡ option_map (λ r. r.keys) (slice_get (context_in pool n h).regions i)
keys-told pool n h i o e = ap (option_map (λ k. k.keys)) e ∙ (twice (slice_get h.regions i) ∙ keys-is pool n h i)
  where
    twice : (x : Option RegisteredRegion) → option_map (λ k. k.keys) (option_map (λ y. y.head) x) ≡ option_map (λ y. y.head.keys) x
    twice None = refl
    twice (Some y) = refl
