-- A region more, and a region less.
use Rattle.std.proofs.Common.{◌≡◌, ◌≢◌, ℕ, zero, suc, ◌+◌, ◌≤◌, Bool, true, false, List, [], ◌∷◌, ◌++◌, length, refl, ap, sym, ◌∙◌, subst, arith, inl, inr}
use Rattle.std.specs.Prelude.{◌==◌, ◌||◌, ◌⊎◌, not, Option, Some, None, is_none, All, Contains, map, nat_eq, nat_le, nat_lt, remove, if◌then◌else◌, replicate, Result, Ok, Err, OnOk}
use Rattle.std.specs.Result.{IsErrAnd, result_err}
use Rattle.std.specs.List.{AllByRecursion, IsDistinct}
use Rattle.std.proofs.lemmas.List.Elements.{All-from_recursion, recursion_from_All, All-push, Contains-push_cases, Contains-append_left, Contains-append_right, Contains-append_cases}
use Rattle.std.proofs.lemmas.List.Sums.{sum_by-append, sum_by-cons, sum_by-remove}
use Rattle.std.proofs.lemmas.Option.{get_or_from_slice_get, slice_get_within}
use Rattle.rdma_types.specs.Causes.{cause, first_cause}
use Rattle.rdma_types.specs.Limits.{most_keys, most_regions}
use Rattle.rdma_types.specs.Lists.{first_that, has, has_name, has_word, named, some, without}
use Rattle.rdma_types.specs.Memory.{local_key}
use Rattle.rdma_types.specs.Objects.{no_region}
use Rattle.rdma_types.specs.declared.answers.Refusal.{Refusal}
use Rattle.rdma_types.specs.declared.answers.Answer.TheVariants as answer
use Rattle.rdma_types.specs.declared.answers.Refusal.TheVariants.{NoSuch, NumberTaken, TooMany, NoPage, InUse}
use Rattle.rdma_types.specs.declared.names.Name.{Name}
use Rattle.page_pool.specs.Pool.{Pool, bytes_of, free_pages, pages_for}
use Rattle.rdma_types.specs.declared.requests.Keys.{Keys}
use Rattle.memory_keys.specs.Causes as memory
use Rattle.memory_keys.specs.Causes.{deregister_causes, region_named, register_causes}
use Rattle.memory_keys.specs.declared.MemFault.{MemFault}
use Rattle.memory_keys.specs.declared.MemFault.TheVariants as mem
use Rattle.memory_keys.specs.declared.RegisteredRegion.{RegisteredRegion}
use Rattle.memory_keys.specs.declared.RegionHead.{RegionHead}
use Rattle.memory_keys.specs.Regions.{AreHeld, AreKeyed, IsAdded, IsNamed, IsRemoved, KeepsOthers, blank_region, held_at, regions_of}
use Rattle.memory_keys.proofs.Dropped.{all-removed}
use Rattle.protocol.specs.DeviceStep.{answers, counting_key, drops, makes_region, with_context, with_new_region, word_of}
use Rattle.protocol.specs.DeviceStep.{keys_of as device_keys}
use Rattle.protocol.specs.Memory as rule
use Rattle.protocol.specs.Memory.{pages_of_length}
use Rattle.protocol.specs.Refusals.{has_region, lacks, names_key, region_causes}
use Rattle.protocol.specs.State.{Context, Device, region_at}
use Rattle.endpoint_core.specs.declared.end.Endpoint.{Endpoint}
use Rattle.endpoint_core.specs.declared.end.EndLink.{EndLink}
use Rattle.endpoint_core.specs.Ends.{untold_by}
use Rattle.endpoint_core.specs.Sound.{IsEnd, IsInState}
use Rattle.context_core.specs.declared.state.EndSlot.{EndSlot}
use Rattle.context_core.specs.Naming.{IsFit}
use Rattle.context_core.specs.declared.ContextFault.{ContextFault}
use Rattle.context_core.specs.declared.ContextFault.TheVariants.{Refused}
use Rattle.context_core.specs.declared.regions.NewRegion.{NewRegion}
use Rattle.context_core.specs.Asked.{IsAsked}
use Rattle.context_core.specs.Causes.{drop_causes}
use Rattle.context_core.specs.Context.{Holding, IsContext, context_in, end_of}
use Rattle.context_core.specs.Faults.{fault_of, refusal_of, told_as}
use Rattle.context_core.proofs.DisjointLists.{AreApart, distinct-both}
use Rattle.context_core.proofs.ContextPages.{region_pages}
use Rattle.context_core.proofs.RegionChanges.{Rearranges, re-shown, finds-less, still-less, still-more}
use Rattle.context_core.proofs.FirstCause.{first-holds, first-passed, none-holds}
use Rattle.context_core.proofs.CauseOrder.{second-holds}

-- the protocol counts the pages of a region alike
pub pages-alike : (n : ℕ) → pages_of_length n ≡ pages_for n
unfolding pages_of_length pages_for
pages-alike n = omega arith

-- ---- a region more

-- its key is that of no other
key-apart : (key : ℕ) (old : List RegisteredRegion) → held_at key old ≡ None → AreApart (map (λ h. h.head.keys.local) old) (key ∷ [])
unfolding first_that
key-apart key [] e = tt
key-apart key (x ∷ xs) e = by (x.head.keys.local == key) refl (key-apart key xs)
  where
    by : (t : Bool) → (x.head.keys.local == key) ≡ t → (held_at key xs ≡ None → AreApart (map (λ h. h.head.keys.local) xs) (key ∷ [])) → AreApart (map (λ h. h.head.keys.local) (x ∷ xs)) (key ∷ [])
    by true t rest = absurd (grind (arith, t, e))
    by false t rest = ((t, tt), rest (grind (arith, t, e)))

mapped : {A B : Type 0} (f : A → B) (xs : List A) (y : A) → map f (xs ++ y ∷ []) ≡ map f xs ++ f y ∷ []
mapped f [] y = refl
mapped f (x ∷ xs) y = ap (λ zs. f x ∷ zs) (mapped f xs y)

alone : (x : ℕ) → IsDistinct nat_eq (x ∷ [])
unfolding IsDistinct
alone x = (tt, tt)

keyed-more : (old : List RegisteredRegion) (v : RegisteredRegion) → AreKeyed old → held_at v.head.keys.local old ≡ None → v.head.keys.remote ≡ v.head.keys.local + 1 → AreKeyed (old ++ v ∷ [])
keyed-more old v k none pair = record {
  distinct = subst (IsDistinct nat_eq) (sym (mapped (λ h. h.head.keys.local) old v)) (distinct-both (map (λ h. h.head.keys.local) old) (v.head.keys.local ∷ []) k.distinct (alone v.head.keys.local) (key-apart v.head.keys.local old none));
  pairs = All-push (λ h. h.head.keys.remote ≡ h.head.keys.local + 1) old v k.pairs pair;
}

-- a key that the protocol's regions do not have finds nothing
pub has-none : (pool : Pool) (key : ℕ) (held : List RegisteredRegion) → has local_key key (regions_of pool held) ≡ false → held_at key held ≡ None
unfolding first_that has
has-none pool key [] e = refl
has-none pool key (x ∷ xs) e = by (x.head.keys.local == key) refl (has-none pool key xs)
  where
    by : (t : Bool) → (x.head.keys.local == key) ≡ t → (has local_key key (regions_of pool xs) ≡ false → held_at key xs ≡ None) → held_at key (x ∷ xs) ≡ None
    by true t rest = absurd (let there : (true || has local_key key (regions_of pool xs)) ≡ false = subst (λ b. (b || has local_key key (regions_of pool xs)) ≡ false) t e in cc)
    by false t rest = rw t (rest (subst (λ b. (b || has local_key key (regions_of pool xs)) ≡ false) t e))

pub added-is : (a b : Pool) (h : Holding) (new : List RegisteredRegion) (head : RegionHead) → IsContext a h → IsAdded a h.regions new head → KeepsOthers a b h.regions → AreHeld b new → free_pages b + pages_for head.length ≡ free_pages a → held_at head.keys.local h.regions ≡ None → head.keys.remote ≡ head.keys.local + 1 → Rearranges a b h new
added-is a b h new head is added others held free none pair = subst (Rearranges a b h) (sym added.behind) (record {
  is = is;
  others = others;
  held = subst (AreHeld b) added.behind held;
  keyed = keyed-more h.regions v is.is.keyed (ap (λ x. held_at x.keys.local h.regions) added.head_is ∙ none) (ap (λ x. x.keys.remote) added.head_is ∙ (pair ∙ ap (λ x. x.keys.local + 1) (sym added.head_is)));
  still = still-more a h.regions v h.ends added.fresh (recursion_from_All (λ e. IsEnd a h.regions e.1.endpoint) h.ends is.is.ends);
  lists = lists;
  free = counted (free_pages b) (free_pages a) (region_pages (h.regions ++ v ∷ [])) (region_pages h.regions) (pages_for head.length) free (sum_by-append (λ r. pages_of_length r.head.length) h.regions (v ∷ []) ∙ ap (λ n. region_pages h.regions + n) (sum_by-cons (λ r. pages_of_length r.head.length) v [] ∙ (add-none ∙ (ap (λ x. pages_of_length x.length) added.head_is ∙ pages-alike head.length))));
})
  where
    v : RegisteredRegion
    v = added.held

    add-none : pages_of_length v.head.length + 0 ≡ pages_of_length v.head.length
    add-none = omega arith

    counted : (fb fa rb ra p : ℕ) → fb + p ≡ fa → rb ≡ ra + p → fb + rb ≡ fa + ra
    counted fb fa rb ra p one two = omega arith

    lists : (list : ℕ) → Contains (map (λ r. r.list) (h.regions ++ v ∷ [])) list → Contains (map (λ r. r.list) h.regions) list ⊎ (bytes_of a list ≡ None)
    lists list c = by (Contains-push_cases (map (λ r. r.list) h.regions) v.list list (subst (λ ls. Contains ls list) (mapped (λ r. r.list) h.regions v) c))
      where
        by : Contains (map (λ r. r.list) h.regions) list ⊎ (v.list ≡ list) → Contains (map (λ r. r.list) h.regions) list ⊎ (bytes_of a list ≡ None)
        by (inl k) = inl k
        by (inr same) = inr (ap (bytes_of a) (sym same) ∙ added.fresh)

-- ---- a region less

each-removed : {A : Type 0} (P : A → Type 0) (f : RegisteredRegion → A) (xs : List RegisteredRegion) (i : ℕ) → AllByRecursion P (map f xs) → AllByRecursion P (map f (remove xs i))
each-removed P f [] zero h = tt
each-removed P f [] (suc i) h = tt
each-removed P f (x ∷ xs) zero h = h.1
each-removed P f (x ∷ xs) (suc i) h = (h.0, each-removed P f xs i h.1)

distinct-removed : (f : RegisteredRegion → ℕ) (xs : List RegisteredRegion) (i : ℕ) → IsDistinct nat_eq (map f xs) → IsDistinct nat_eq (map f (remove xs i))
unfolding IsDistinct
distinct-removed f [] zero d = tt
distinct-removed f [] (suc i) d = tt
distinct-removed f (x ∷ xs) zero d = d.1
distinct-removed f (x ∷ xs) (suc i) d = (each-removed (λ y. nat_eq (f x) y ≡ false) f xs i d.0, distinct-removed f xs i d.1)

fewer-lists : (xs : List RegisteredRegion) (i list : ℕ) → Contains (map (λ r. r.list) (remove xs i)) list → Contains (map (λ r. r.list) xs) list
fewer-lists [] zero list c = c
fewer-lists [] (suc i) list c = c
fewer-lists (x ∷ xs) zero list c = Contains-append_right (x.list ∷ []) (map (λ r. r.list) xs) list c
fewer-lists (x ∷ xs) (suc i) list c = by (fewer-lists xs i list) (Contains-append_cases (x.list ∷ []) (map (λ r. r.list) (remove xs i)) list c)
  where
    by : (Contains (map (λ r. r.list) (remove xs i)) list → Contains (map (λ r. r.list) xs) list) → Contains (x.list ∷ []) list ⊎ Contains (map (λ r. r.list) (remove xs i)) list → Contains (x.list ∷ map (λ r. r.list) xs) list
    by later (inl k) = Contains-append_left (x.list ∷ []) (map (λ r. r.list) xs) list k
    by later (inr k) = Contains-append_right (x.list ∷ []) (map (λ r. r.list) xs) list (later k)

pub removed-is : (a b : Pool) (h : Holding) (new : List RegisteredRegion) (name : Name) → IsContext a h → (r : IsRemoved h.regions new name) → KeepsOthers a b h.regions → AreHeld b new
    → free_pages b ≡ free_pages a + pages_for (region_named name (regions_of a h.regions)).length → some (names_key r.held.head.keys.local) (map (end_of a h.queues) h.ends) ≡ false → Rearranges a b h new
removed-is a b h new name is r others held free unnamed = subst (Rearranges a b h) (sym r.rest) (record {
  is = is;
  others = others;
  held = subst (AreHeld b) r.rest held;
  keyed = record {
    distinct = distinct-removed (λ x. x.head.keys.local) h.regions r.place is.is.keyed.distinct;
    pairs = all-removed (λ x. x.head.keys.remote ≡ x.head.keys.local + 1) h.regions r.place is.is.keyed.pairs;
  };
  still = still-less h.regions (remove h.regions r.place) r.held.head.keys.local (λ key other. finds-less h.regions r.place r.held key r.there other) a h.queues h.ends (λ list. all-removed (λ x. x.list ≢ list) h.regions r.place) (recursion_from_All (λ e. IsEnd a h.regions e.1.endpoint) h.ends is.is.ends) unnamed;
  lists = λ list c. inl (fewer-lists h.regions r.place list c);
  free = counted (free_pages b) (free_pages a) (region_pages (remove h.regions r.place)) (region_pages h.regions) (pages_of_length r.held.head.length) (pages_for (region_named name (regions_of a h.regions)).length) free (ap (λ x. pages_for x.length) (r.region a) ∙ sym (pages-alike r.held.head.length))
      (ap (λ x. region_pages (remove h.regions r.place) + pages_of_length x.head.length) (sym (get_or_from_slice_get h.regions r.place r.held r.held r.there)) ∙ sum_by-remove (λ x. pages_of_length x.head.length) h.regions r.place r.held (slice_get_within h.regions r.place r.held r.there));
})
  where
    counted : (fb fa rb ra p q : ℕ) → fb ≡ fa + q → q ≡ p → rb + p ≡ ra → fb + rb ≡ fa + ra
    counted fb fa rb ra p q one two three = omega arith

-- ---- the causes

three-alike : (p q r p' q' r' : Bool) → p ≡ p' → q ≡ q' → r ≡ r' → first_cause (cause NumberTaken p ∷ cause TooMany q ∷ cause NoPage r ∷ []) ≡ first_cause (cause NumberTaken p' ∷ cause TooMany q' ∷ cause NoPage r' ∷ [])
three-alike p q r p' q' r' e f g = rw (e, f, g) refl

or-none : (b t : Bool) → t ≡ false → (b || t) ≡ b
or-none true t e = refl
or-none false t e = e

-- why a region with a known domain and keys is not made
pub causes-alike : (pool : Pool) (held : List RegisteredRegion) (c : Context) (d : Device) (domain : Name) (head : RegionHead) → c.regions ≡ regions_of pool held → has_word domain c.domains ≡ true → rule.free_pages d ≡ free_pages pool → nat_le most_keys d.key_count ≡ false
    → first_cause (region_causes d c head.name (Some domain) head.length) ≡ first_cause (register_causes (regions_of pool held) (free_pages pool) head)
causes-alike pool held c d domain head regions known free keys =
    first-passed NoSuch (lacks (λ x. has_word x c.domains) (Some domain)) _ (ap not known)
    ∙ three-alike (has_region c head.name) (nat_le most_regions (length c.regions) || nat_le most_keys d.key_count) (nat_lt (rule.free_pages d) (pages_of_length head.length)) (has_name (λ r. r.name) head.name (regions_of pool held)) (nat_le most_regions (length (regions_of pool held))) (nat_lt (free_pages pool) (pages_for head.length))
    (ap (has_name (λ r. r.name) head.name) regions)
    (or-none (nat_le most_regions (length c.regions)) (nat_le most_keys d.key_count) keys ∙ ap (λ rs. nat_le most_regions (length rs)) regions)
    (ap (λ n. nat_lt n (pages_of_length head.length)) free ∙ ap (λ n. nat_lt (free_pages pool) n) (pages-alike head.length))

-- why a region is not made where there are no keys
pub keys-lack : (pool : Pool) (held : List RegisteredRegion) (c : Context) (d : Device) (domain name : Name) (count : ℕ) (r : Refusal) → c.regions ≡ regions_of pool held → has_word domain c.domains ≡ true → nat_le most_keys d.key_count ≡ true
    → r ≡ (if has_name (λ x. x.name) name (regions_of pool held) then NumberTaken else TooMany) → first_cause (region_causes d c name (Some domain) count) ≡ Some r
keys-lack pool held c d domain name count r regions known keys e =
    first-passed NoSuch (lacks (λ x. has_word x c.domains) (Some domain)) _ (ap not known) ∙ by (has_region c name) (nat_le most_regions (length c.regions)) (nat_le most_keys d.key_count) (ap (has_name (λ x. x.name) name) regions) keys
  where
    by : (p q t : Bool) → p ≡ has_name (λ x. x.name) name (regions_of pool held) → t ≡ true → first_cause (cause NumberTaken p ∷ cause TooMany (q || t) ∷ cause NoPage (nat_lt (rule.free_pages d) (pages_of_length count)) ∷ []) ≡ Some r
    by true q t same s = first-holds NumberTaken true _ refl ∙ ap Some (sym (e ∙ ap (λ b. if b then NumberTaken else TooMany) (sym same)))
    by false true t same s = second-holds NumberTaken TooMany false true _ refl refl ∙ ap Some (sym (e ∙ ap (λ b. if b then NumberTaken else TooMany) (sym same)))
    by false false t same s = second-holds NumberTaken TooMany false t _ refl s ∙ ap Some (sym (e ∙ ap (λ b. if b then NumberTaken else TooMany) (sym same)))

-- why a region that is asked for is not made
pub causes-of : (pool : Pool) (held : List RegisteredRegion) (c : Context) (d : Device) (new : NewRegion) (keys : Option Keys) (head : RegionHead) → c.regions ≡ regions_of pool held → has_word head.domain c.domains ≡ true → IsAsked new keys head → rule.free_pages d ≡ free_pages pool → nat_le most_keys d.key_count ≡ is_none keys
    → first_cause (register_causes (regions_of pool held) (free_pages pool) head) ≡ first_cause (region_causes d c new.name new.domain new.length)
causes-of pool held c d new keys head regions known asked free some-keys =
    sym (causes-alike pool held c d head.domain head regions known free (some-keys ∙ ap is_none asked.keys))
    ∙ (ap (λ x. first_cause (region_causes d c x.name (Some head.domain) x.length)) asked.head
    ∙ ap (λ o. first_cause (region_causes d c new.name o new.length)) (sym asked.domain))

-- the rule of a region that is made
pub made-is : {a b : Pool} {h : Holding} {regions : List RegisteredRegion} (n : Name) (d : Device) (new : NewRegion) (head : RegionHead) → Rearranges a b h regions → IsAsked new (Some (device_keys d)) head → regions_of b regions ≡ regions_of a h.regions ++ blank_region head ∷ []
    → makes_region d (context_in a n h) new.name new.domain new.base new.length new.rights ≡ answers (with_context (counting_key d) (context_in b n (record h { regions = regions }))) (answer.Region (device_keys d))
unfolding makes_region with_new_region context_in
made-is {a} {b} {h} {regions} n d new head r asked more =
    let keys : device_keys d ≡ head.keys = some-same asked.keys in
    let region : record { name = new.name; domain = word_of new.domain; base = new.base; length = new.length; rights = new.rights; keys = device_keys d; bytes = replicate new.length 0 } ≡ blank_region head =
    ap (λ o. record { name = new.name; domain = word_of o; base = new.base; length = new.length; rights = new.rights; keys = device_keys d; bytes = replicate new.length 0 }) asked.domain
    ∙ (ap (λ k. record { name = new.name; domain = head.domain; base = new.base; length = new.length; rights = new.rights; keys = k; bytes = replicate new.length 0 }) keys
    ∙ ap blank_region (sym asked.head)) in
    ap (λ x. answers (with_context (counting_key d) (record (context_in a n h) { regions = regions_of a h.regions ++ x ∷ [] })) (answer.Region (device_keys d))) region
    ∙ (ap (λ rs. answers (with_context (counting_key d) (record (context_in a n h) { regions = rs })) (answer.Region (device_keys d))) (sym more)
    ∙ ap (λ c. answers (with_context (counting_key d) c) (answer.Region (device_keys d))) (sym (re-shown r n)))
  where
    some-same : {x y : Keys} → Some x ≡ Some y → x ≡ y
    some-same e = cc

-- ---- dropping

-- a sound end has no more requests than its send queue is deep
fit : (pool : Pool) (held : List RegisteredRegion) (e : Endpoint) (l : Option EndLink) → IsInState pool held e l → length (untold_by l) ≤ e.send_depth
fit pool held e None h = omega arith
fit pool held e (Some l) h = h.fit

all-fit : (pool : Pool) (held : List RegisteredRegion) (es : List (Name × EndSlot)) → AllByRecursion (λ e. IsEnd pool held e.1.endpoint) es → AllByRecursion (λ e. IsFit e.1.endpoint) es
all-fit pool held [] h = tt
all-fit pool held (e ∷ es) h = (fit pool held e.1.endpoint e.1.endpoint.link h.0.state, all-fit pool held es h.1)

pub are-fit : (pool : Pool) (h : Holding) → IsContext pool h → All (λ e. IsFit e.1.endpoint) h.ends
are-fit pool h is = All-from_recursion (λ e. IsFit e.1.endpoint) h.ends (all-fit pool h.regions h.ends (recursion_from_All (λ e. IsEnd pool h.regions e.1.endpoint) h.ends is.is.ends))

-- there is no region to drop
pub drop-absent : (pool : Pool) (held : List RegisteredRegion) (c : Context) (name : Name) → c.regions ≡ regions_of pool held → has_name (λ r. r.name) name (regions_of pool held) ≡ false → first_cause (drop_causes c name) ≡ Some NoSuch
drop-absent pool held c name e absent = first-holds NoSuch (not (has_region c name)) _ (ap (λ rs. not (has_name (λ r. r.name) name rs)) e ∙ ap not absent)

-- why the region of a name is not dropped
pub drop-told : (pool : Pool) (held : List RegisteredRegion) (c : Context) (name : Name) (head : RegionHead) → c.regions ≡ regions_of pool held → has_name (λ r. r.name) name (regions_of pool held) ≡ true → IsNamed held name head → (b : Bool) → some (names_key head.keys.local) c.ends ≡ b
    → first_cause (drop_causes c name) ≡ (if b then Some InUse else None)
drop-told pool held c name head e there is b named-by =
    first-passed NoSuch (not (has_region c name)) _ (ap (λ rs. not (has_name (λ r. r.name) name rs)) e ∙ ap not there)
    ∙ (ap (λ k. first_cause (cause InUse (some (names_key k) c.ends) ∷ [])) key
    ∙ (ap (λ t. first_cause (cause InUse t ∷ [])) named-by ∙ by b))
  where
    key : (region_at c name).keys.local ≡ head.keys.local
    key = ap (λ rs. (named (λ r. r.name) no_region name rs).keys.local) e ∙ (ap (λ x. x.keys.local) (is.region pool) ∙ ap (λ x. x.keys.local) is.head_is)

    by : (t : Bool) → first_cause (cause InUse t ∷ []) ≡ (if t then Some InUse else None)
    by true = first-holds InUse true [] refl
    by false = first-passed InUse false [] refl ∙ none-holds

-- a region that no key is busy for is dropped
pub drops-free : (pool : Pool) (held : List RegisteredRegion) (name : Name) → has_name (λ r. r.name) name (regions_of pool held) ≡ true → first_cause (deregister_causes (regions_of pool held) name []) ≡ None
drops-free pool held name there = first-passed NoSuch (not (has_name (λ r. r.name) name (regions_of pool held))) _ (ap not there) ∙ (first-passed InUse false [] refl ∙ none-holds)

-- what holds where there is no error
pub all-ok : {T E : Type 0} (r : Result T E) (P : Type 0) → result_err r ≡ None → OnOk r P → P
all-ok (Ok x) P e p = p
all-ok (Err x) P e p = absurd (cc)

-- the key of the region that is gone
pub removed-key : (a : Pool) (h : Holding) (new : List RegisteredRegion) (name : Name) (head : RegionHead) → (r : IsRemoved h.regions new name) → IsNamed h.regions name head → r.held.head.keys.local ≡ head.keys.local
removed-key a h new name head r is = ap (λ x. x.keys.local) (sym (r.region a) ∙ is.region a) ∙ ap (λ x. x.keys.local) is.head_is

-- the rule of a region that is dropped
pub dropped-is : {a b : Pool} {h : Holding} {regions : List RegisteredRegion} (n : Name) (d : Device) (name : Name) → Rearranges a b h regions → regions_of b regions ≡ without (λ r. r.name) name (regions_of a h.regions)
    → drops d (context_in a n h) name ≡ answers (with_context d (context_in b n (record h { regions = regions }))) answer.Done
unfolding drops context_in
dropped-is {a} {b} {h} {regions} n d name r less =
    ap (λ rs. answers (with_context d (record (context_in a n h) { regions = rs })) answer.Done) (sym less)
    ∙ ap (λ c. answers (with_context d c) answer.Done) (sym (re-shown r n))

-- ---- refusals told

pub told-refusal : {T : Type 0} (r : Result T ContextFault) (f : Refusal) → IsErrAnd r (λ e. e ≡ Refused f) → refusal_of r ≡ Some f
told-refusal (Ok x) f h = absurd h
told-refusal (Err e) f h = ap told_as h

pub told-memory : {T : Type 0} (r : Result T ContextFault) (f : MemFault) → IsErrAnd r (λ e. e ≡ fault_of f) → refusal_of r ≡ memory.told_as f
told-memory (Ok x) f h = absurd h
told-memory (Err e) f h = ap told_as h ∙ by f
  where
    by : (g : MemFault) → told_as (fault_of g) ≡ memory.told_as g
    by mem.NumberTaken = refl
    by mem.TooMany = refl
    by mem.NoPage = refl
    by mem.OutOfMemory = refl
