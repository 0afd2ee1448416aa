-- A device has pages for one more message: its contexts are the receiver and the senders, and their regions and requests take few.
use Rattle.std.proofs.Common.{arith, ◌≡◌, ◌≢◌, ℕ, ◌+◌, ◌-◌, ◌*◌, ◌/◌, ◌≤◌, List, [], ◌∷◌, ◌++◌, length, map, true, false, Bool, refl, sym, subst, ap, ◌∙◌, Some, None, Option, inl, inr, mul-le-mul_right}
use Rattle.std.specs.Prelude.{All, bytes_eq, count_by, flat_map, if◌then◌else◌, sum, sum_by, ◌==◌, ◌||◌}
use Rattle.std.proofs.lemmas.List.Elements.{All-head, All-tail, All-weaker}
use Rattle.std.proofs.lemmas.List.Sums.{sum-map, sum_by-cons, sum_by-le}
use Rattle.std.proofs.lemmas.Option.{same_Some}
use Rattle.rdma_types.specs.declared.names.Name.{Name}
use Rattle.rdma_types.specs.declared.requests.Request.{Request}
use Rattle.rdma_types.specs.Kinds.{takes_bytes}
use Rattle.rdma_types.specs.Lists.{first_that, has_name, has_word}
use Rattle.rdma_types.specs.Objects.{Posted, Region}
use Rattle.protocol.specs.Memory.{pages_of_context, pages_of_length, pages_of_range, pages_of_request, region_of_key, untold_of}
use Rattle.protocol.specs.State.{Context, Device, End, Link}
use Rattle.law_simulation.specs.Views.{Owned, link_or_none, owned_there}
use Rattle.mailbox_rules.specs.Opening.{place_bytes}
use Rattle.law_simulation.proofs.relation.Tables.{name_tells, same_name}
use Rattle.law_mailbox.proofs.queue_room.Counts.{count_both, count_cons, one_if}
use Rattle.law_mailbox.proofs.connection.Places.{all_back, all_front}

-- ---- requests and ends

-- the bytes that it takes fit a place
abbrev pub IsSmall : Posted → Type 0
IsSmall p = takes_bytes p.request.shape.kind ≡ true → p.request.shape.length ≤ place_bytes

-- no more than 16 requests of an end are untold, and they are small
pub record IsLight (o : Owned) : Type 0 where
  pub few : length o.untold ≤ 16
  pub small : All IsSmall o.untold

pub small_pages : (c : Context) (r : Request) → (takes_bytes r.shape.kind ≡ true → r.shape.length ≤ place_bytes) → pages_of_request c r ≤ 2
unfolding pages_of_request
small_pages c r small = by (takes_bytes r.shape.kind) small
  where
    in_two : (off n : ℕ) → n ≤ 4096 → (b : Bool) → (if b then 0 else ((off + n) - 1) / 4096 - off / 4096 + 1) ≤ 2
    in_two off n few true = omega arith
    in_two off n few false = omega (arith, few)

    by : (b : Bool) → (b ≡ true → r.shape.length ≤ place_bytes) → (if b then pages_of_range (r.local - (region_of_key c r.lkey).base) r.shape.length else 0) ≤ 2
    by true few = in_two (r.local - (region_of_key c r.lkey).base) r.shape.length (few refl) (r.shape.length == 0)
    by false few = omega arith

untold_there : (l : Option Link) → (link_or_none l).sender.untold ≡ untold_of l
unfolding link_or_none
untold_there None = refl
untold_there (Some l) = refl

end_pages : (c : Context) (e : End) → IsLight (owned_there e) → sum (map (λ p. pages_of_request c p.request) (untold_of e.link)) ≤ 32
unfolding owned_there
end_pages c e light =
    let same : (link_or_none e.link).sender.untold ≡ untold_of e.link = untold_there e.link in
    let few : length (untold_of e.link) ≤ 16 = subst (λ (ps : List Posted). length ps ≤ 16) same light.few in
    let each : All (λ (p : Posted). pages_of_request c p.request ≤ 2) (untold_of e.link) = All-weaker IsSmall (λ p. pages_of_request c p.request ≤ 2) (λ p small. small_pages c p.request small) (untold_of e.link) (subst (All IsSmall) same light.small) in
    omega (arith, few, sum-map (λ (p : Posted). pages_of_request c p.request) (untold_of e.link), sum_by-le (λ (p : Posted). pages_of_request c p.request) 2 (untold_of e.link) each)

-- a context with so many regions of so many pages at most, and with so many ends
pub context_pages : (c : Context) (pages : ℕ) → All (λ (r : Region). pages_of_length r.length ≤ pages) c.regions → All (λ (e : End). IsLight (owned_there e)) c.ends → pages_of_context c ≤ length c.regions * pages + length c.ends * 32
unfolding pages_of_context
context_pages c pages regions ends =
    let f : End → ℕ = λ (e : End). sum (map (λ p. pages_of_request c p.request) (untold_of e.link)) in
    let each : All (λ (e : End). sum (map (λ p. pages_of_request c p.request) (untold_of e.link)) ≤ 32) c.ends = All-weaker (λ e. IsLight (owned_there e)) (λ e. sum (map (λ p. pages_of_request c p.request) (untold_of e.link)) ≤ 32) (end_pages c) c.ends ends in
    omega (
      arith,
      sum-map (λ (r : Region). pages_of_length r.length) c.regions,
      sum_by-le (λ (r : Region). pages_of_length r.length) pages c.regions regions,
      sum-map (λ (e : End). sum (map (λ p. pages_of_request c p.request) (untold_of e.link))) c.ends,
      sum_by-le (λ (e : End). sum (map (λ p. pages_of_request c p.request) (untold_of e.link))) 32 c.ends each,
    )

-- ---- contexts with different names

same_test : (a b : Name) → bytes_eq a b ≡ bytes_eq b a
same_test a b = elim (name_tells a b) [
  | inl t ↦ t.0 ∙ sym (ap (λ (c : Name). bytes_eq c a) (sym t.1) ∙ same_name a)
  | inr t ↦ t.0 ∙ sym (apart b a (λ e. t.1 (sym e)))
]
  where
    apart : (a b : Name) → a ≢ b → bytes_eq a b ≡ false
    apart a b other = elim (name_tells a b) [ inl t ↦ absurd (other t.1) | inr t ↦ t.0 ]

-- how many contexts have one of these names
abbrev named_in : List Name → List Context → ℕ
named_in [] xs = 0
named_in (n ∷ ns) xs = count_by (λ x. bytes_eq x.name n) xs + named_in ns xs

more_named : (ns : List Name) (x : Context) (xs : List Context) → named_in ns xs + one_if (has_word x.name ns) ≤ named_in ns (x ∷ xs)
unfolding has_name
more_named [] x xs = omega arith
more_named (n ∷ ns) x xs =
    let rest = more_named ns x xs in
    let here = count_cons (λ (y : Context). bytes_eq y.name n) x xs in
    let same : bytes_eq n x.name ≡ bytes_eq x.name n = same_test n x.name in
    by (bytes_eq x.name n) same (omega (arith, here)) rest
  where
    by : (b : Bool) → bytes_eq n x.name ≡ b → count_by (λ (y : Context). bytes_eq y.name n) xs + one_if b ≤ count_by (λ (y : Context). bytes_eq y.name n) (x ∷ xs) → named_in ns xs + one_if (has_word x.name ns) ≤ named_in ns (x ∷ xs) →
        (count_by (λ (y : Context). bytes_eq y.name n) xs + named_in ns xs) + one_if (bytes_eq n x.name || has_word x.name ns) ≤ count_by (λ (y : Context). bytes_eq y.name n) (x ∷ xs) + named_in ns (x ∷ xs)
    by true e here rest = rw e (omega (arith, here, rest))
    by false e here rest = rw e (omega (arith, here, rest))

-- contexts that have these names, and no two of them one, are no more than the names
all_named : (ns : List Name) (xs : List Context) → All (λ x. has_word x.name ns ≡ true) xs → length xs ≤ named_in ns xs
all_named ns [] all = omega arith
all_named ns (x ∷ xs) all =
    let rest = all_named ns xs (All-tail (λ (y : Context). has_word y.name ns ≡ true) x xs all) in
    let more = more_named ns x xs in
    let one : one_if (has_word x.name ns) ≡ 1 = ap one_if (All-head (λ (y : Context). has_word y.name ns ≡ true) x xs all) in
    omega (arith, rest, more, one)

once_each : (ns : List Name) (xs : List Context) → ((n : Name) → count_by (λ x. bytes_eq x.name n) xs ≤ 1) → named_in ns xs ≤ length ns
once_each [] xs once = omega arith
once_each (n ∷ ns) xs once = let rest = once_each ns xs once in let one = once n in omega (arith, rest, one)

-- so their pages are bounded, where the one of a name may have more
module _ (n : Name) (few more : ℕ) where
  abbrev bound : Context → ℕ
  bound x = few + (if bytes_eq x.name n then more else 0)

  pages_even : (xs : List Context) → All (λ x. pages_of_context x ≤ few + (if bytes_eq x.name n then more else 0)) xs → count_by (λ x. bytes_eq x.name n) xs ≡ 0 → sum_by pages_of_context xs ≤ length xs * few
  pages_even [] all none = omega arith
  pages_even (x ∷ xs) all none =
      let cons = count_cons (λ (y : Context). bytes_eq y.name n) x xs in
      let first = by (bytes_eq x.name n) refl (All-head (λ (y : Context). pages_of_context y ≤ few + (if bytes_eq y.name n then more else 0)) x xs all) (omega (arith, cons, none)) in
      omega (arith, first, sum_by-cons pages_of_context x xs, pages_even xs (All-tail (λ (y : Context). pages_of_context y ≤ few + (if bytes_eq y.name n then more else 0)) x xs all) (omega (arith, cons, none)))
    where
      by : (b : Bool) → bytes_eq x.name n ≡ b → pages_of_context x ≤ few + (if bytes_eq x.name n then more else 0) → one_if (bytes_eq x.name n) ≡ 0 → pages_of_context x ≤ few
      by true e h zero' = let one : one_if (bytes_eq x.name n) ≡ 1 = ap one_if e in absurd (omega (arith, one, zero'))
      by false e h zero' = let nothing : (if bytes_eq x.name n then more else 0) ≡ 0 = ap (λ (b : Bool). if b then more else 0) e in omega (arith, h, nothing)

  pages_more : (xs : List Context) → All (λ x. pages_of_context x ≤ few + (if bytes_eq x.name n then more else 0)) xs → count_by (λ x. bytes_eq x.name n) xs ≤ 1 → sum_by pages_of_context xs ≤ length xs * few + more
  pages_more [] all once = omega arith
  pages_more (x ∷ xs) all once = by (bytes_eq x.name n) refl (pages_more xs later)
    where
      later : All (λ (y : Context). pages_of_context y ≤ few + (if bytes_eq y.name n then more else 0)) xs
      later = All-tail (λ (y : Context). pages_of_context y ≤ few + (if bytes_eq y.name n then more else 0)) x xs all

      here : pages_of_context x ≤ few + (if bytes_eq x.name n then more else 0)
      here = All-head (λ (y : Context). pages_of_context y ≤ few + (if bytes_eq y.name n then more else 0)) x xs all

      by : (b : Bool) → bytes_eq x.name n ≡ b → (count_by (λ (y : Context). bytes_eq y.name n) xs ≤ 1 → sum_by pages_of_context xs ≤ length xs * few + more) → sum_by pages_of_context (x ∷ xs) ≤ length (x ∷ xs) * few + more
      by true e rest =
          let one : one_if (bytes_eq x.name n) ≡ 1 = ap one_if e in
          let most : (if bytes_eq x.name n then more else 0) ≡ more = ap (λ (b : Bool). if b then more else 0) e in
          let even = pages_even xs later (omega (arith, once, one, count_cons (λ (y : Context). bytes_eq y.name n) x xs)) in
          omega (arith, here, most, even, sum_by-cons pages_of_context x xs)
      by false e rest =
          let none : one_if (bytes_eq x.name n) ≡ 0 = ap one_if e in
          let least : (if bytes_eq x.name n then more else 0) ≡ 0 = ap (λ (b : Bool). if b then more else 0) e in
          let more' = rest (omega (arith, once, none, count_cons (λ (y : Context). bytes_eq y.name n) x xs)) in
          omega (arith, here, least, more', sum_by-cons pages_of_context x xs)

-- all of them
pub most_pages : (n : Name) (few more : ℕ) (ns : List Name) (xs : List Context) → All (λ x. pages_of_context x ≤ few + (if bytes_eq x.name n then more else 0)) xs → All (λ x. has_word x.name ns ≡ true) xs →
    ((c : Name) → count_by (λ x. bytes_eq x.name c) xs ≤ 1) → sum (map pages_of_context xs) ≤ length ns * few + more
most_pages n few more ns xs bounded known once =
    let few_contexts = all_named ns xs known in
    let most = once_each ns xs once in
    let pages = pages_more n few more xs bounded (once n) in
    let product : length xs * few ≤ length ns * few = mul-le-mul_right few (omega (arith, few_contexts, most)) in
    omega (arith, pages, product, sum-map pages_of_context xs)

-- ---- the home of a context

-- what is true of all live contexts is true of those of a device that is found
pub of_found : (P : Context → Type 0) (test : Device → Bool) (d : Device) (ds : List Device) → All P (flat_map (λ x. x.contexts) ds) → first_that test ds ≡ Some d → All P d.contexts
unfolding first_that
of_found P test d [] all e = cc
of_found P test d (x ∷ xs) all e = by (test x) e (of_found P test d xs (all_back P x.contexts (flat_map (λ y. y.contexts) xs) all))
  where
    by : (b : Bool) → (if b then Some x else first_that test xs) ≡ Some d → (first_that test xs ≡ Some d → All P d.contexts) → All P d.contexts
    by true f rest = subst (λ (y : Device). All P y.contexts) (same_Some x d f) (all_front P x.contexts (flat_map (λ y. y.contexts) xs) all)
    by false f rest = rest f

pub counted_found : (p : Context → Bool) (test : Device → Bool) (d : Device) (ds : List Device) → first_that test ds ≡ Some d → count_by p d.contexts ≤ count_by p (flat_map (λ x. x.contexts) ds)
unfolding first_that
counted_found p test d [] e = cc
counted_found p test d (x ∷ xs) e = by (test x) e (counted_found p test d xs)
  where
    by : (b : Bool) → (if b then Some x else first_that test xs) ≡ Some d → (first_that test xs ≡ Some d → count_by p d.contexts ≤ count_by p (flat_map (λ y. y.contexts) xs)) → count_by p d.contexts ≤ count_by p (x.contexts ++ flat_map (λ y. y.contexts) xs)
    by true f rest = let same = ap (λ (y : Device). count_by p y.contexts) (same_Some x d f) in omega (arith, same, count_both p x.contexts (flat_map (λ y. y.contexts) xs))
    by false f rest = let less = rest f in omega (arith, less, count_both p x.contexts (flat_map (λ y. y.contexts) xs))
