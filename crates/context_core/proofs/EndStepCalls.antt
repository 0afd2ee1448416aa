-- A step of an end, as a call makes it.
use Rattle.std.proofs.Common.{◌≡◌, ℕ, zero, suc, ◌+◌, ◌≤◌, List, [], ◌∷◌, ◌++◌, length, refl, ap, sym, ◌∙◌, subst, arith, get_or, inl, inr}
use Rattle.std.specs.Prelude.{◌↔◌, ◌⊎◌, Result, Ok, Err, IsErr, IsOk, Option, Some, None, IfSome, IsSome, map, Contains, slice_get, sum_by}
use Rattle.std.specs.List.{AllByRecursion}
use Rattle.std.specs.Map.{keys_of, values_of}
use Rattle.std.proofs.lemmas.List.{append-nil}
use Rattle.std.proofs.lemmas.List.Elements.{recursion_from_All}
use Rattle.std.proofs.lemmas.List.Sums.{sum_by-cons}
use Rattle.rdma_types.specs.declared.names.Name.{Name}
use Rattle.page_pool.specs.Pool.{Pool, bytes_of, free_pages}
use Rattle.end_queues.specs.Completions.{Queue}
use Rattle.memory_keys.specs.declared.RegisteredRegion.{RegisteredRegion}
use Rattle.end_queues.specs.declared.work_queues.posted.QueuedRequest.{QueuedRequest}
use Rattle.protocol.specs.Memory.{pages_of_context}
use Rattle.endpoint_core.specs.declared.end.Endpoint.{Endpoint}
use Rattle.endpoint_core.specs.declared.end.EndLink.{EndLink}
use Rattle.endpoint_core.specs.Queues.{nothing, promised, reserved_in}
use Rattle.endpoint_core.specs.Ends.{untold_by}
use Rattle.endpoint_core.specs.Sites.{IsHome, IsSound, Keeps, KeepsEnd, home}
use Rattle.end_completions.specs.Payloads.{payload_lists, payload_pages}
use Rattle.endpoint_core.specs.Sound.{IsEnd}
use Rattle.context_core.specs.declared.state.EndSlot.{EndSlot}
use Rattle.context_core.specs.Context.{HasQueues, Holding, IsContext, IsHolding, Moves, context_in, lists_of, names_in, payloads_of, site_in}
use Rattle.context_core.proofs.AddedObjects.{numbers-in}
use Rattle.context_core.proofs.DisjointLists.{AreApart, lacks-not}
use Rattle.context_core.proofs.SplitEntries.{map-append, split-at}
use Rattle.context_core.proofs.EndSteps.{AreNew, after, is-home, site_after}
use Rattle.context_core.proofs.EndStepResults.{IsStep, is-holding, old-or-posted, other-lists, pages-counted, payloads-split, view}

-- the entry at a place of which the value is known
abbrev pub entry : List (Name × EndSlot) → ℕ → EndSlot → Name × EndSlot
entry es i v = (get_or (keys_of es) i [], v)

pub entry-there : (es : List (Name × EndSlot)) (i : ℕ) (v : EndSlot) → slice_get (values_of es) i ≡ Some v → slice_get es i ≡ Some (entry es i v)
entry-there [] i v s = absurd (cc)
entry-there (x ∷ xs) zero v s = let same : x.1 ≡ v = cc in ap (λ y. Some (x.0, y)) same
entry-there (x ∷ xs) (suc i) v s = entry-there xs i v s

-- a fact of each of a list holds of one of them
pub each-at : {A : Type 0} (P : A → Type 0) (xs : List A) (i : ℕ) (x : A) → AllByRecursion P xs → slice_get xs i ≡ Some x → P x
each-at P [] i x h s = absurd (cc)
each-at P (y ∷ ys) zero x h s = let same : y ≡ x = cc in subst P same h.0
each-at P (y ∷ ys) (suc i) x h s = each-at P ys i x h.1 s

part-of-sum : {A : Type 0} (f : A → ℕ) (xs : List A) (i : ℕ) (x : A) → slice_get xs i ≡ Some x → (rest : ℕ) × (sum_by f xs ≡ f x + rest)
part-of-sum f [] i x s = absurd (cc)
part-of-sum f (y ∷ ys) zero x s = let same : y ≡ x = cc in (sum_by f ys, sum_by-cons f y ys ∙ ap (λ z. f z + sum_by f ys) same)
part-of-sum f (y ∷ ys) (suc i) x s = let later = part-of-sum f ys i x s in (f y + later.0, sum_by-cons f y ys ∙ (ap (λ n. f y + n) later.1 ∙ shuffle (f y) (f x) later.0))
  where
    shuffle : (a b c : ℕ) → a + (b + c) ≡ b + (a + c)
    shuffle a b c = omega arith

-- what an end of a context is lent
pub end-sound : (a : Pool) (h : Holding) (more : ℕ → ℕ) (i : ℕ) (e : Name × EndSlot) → IsHolding a h more → slice_get h.ends i ≡ Some e → IsSound (site_in a h e) more
end-sound a h more i e is there =
    let placed = each-at (HasQueues h.queues) h.ends i e (recursion_from_All (HasQueues h.queues) h.ends is.placed) there in
    record {
      end = each-at (λ y. IsEnd a h.regions y.1.endpoint) h.ends i e (recursion_from_All (λ y. IsEnd a h.regions y.1.endpoint) h.ends is.ends) there;
      regions = is.held;
      reserved = record { send_there = placed.0; recv_there = placed.1; enough = λ place. enough place (part-of-sum (λ y. promised y.1.send y.1.recv y.1.endpoint place) h.ends i e there) };
    }
  where
    sum-up : (p m s r rest : ℕ) → r ≡ s + m → s ≡ p + rest → p + m ≤ r
    sum-up p m s r rest one two = omega arith

    enough : (place : ℕ) → (rest : ℕ) × (sum_by (λ y. promised y.1.send y.1.recv y.1.endpoint place) h.ends ≡ promised e.1.send e.1.recv e.1.endpoint place + rest) → promised e.1.send e.1.recv e.1.endpoint place + more place ≤ reserved_in h.queues place
    enough place part = sum-up (promised e.1.send e.1.recv e.1.endpoint place) (more place) (sum_by (λ y. promised y.1.send y.1.recv y.1.endpoint place) h.ends) (reserved_in h.queues place) part.0 (is.reserved place) part.1

-- no request is posted
pub none-new : (a : Pool) (h : Holding) → AreNew a h []
none-new a h = record { others = apart-none (payloads_of h.ends); paged = tt }
  where
    apart-none : (xs : List ℕ) → AreApart xs []
    apart-none [] = tt
    apart-none (x ∷ xs) = (tt, apart-none xs)

-- a step where nothing is posted
pub record Steps (a b : Pool) (h : Holding) (i : ℕ) (v : EndSlot) (held : List RegisteredRegion) (queues : List (Name × Queue)) (x : Endpoint) : Type 0 where
  pub is : IsContext b (after h i (entry h.ends i v) held queues x)
  pub moves : Moves a b h (after h i (entry h.ends i v) held queues x)
  pub numbers : (n : Name) → map (λ e. e.number) (context_in b n (after h i (entry h.ends i v) held queues x)).ends ≡ map (λ e. e.number) (context_in a n h).ends
  pub stands : (n : Name) → IsHome (context_in a n h) (names_in h.queues (entry h.ends i v)) (site_in a h (entry h.ends i v))
  pub shown : (n : Name) → home (context_in a n h) (names_in h.queues (entry h.ends i v)) (site_after b (entry h.ends i v) held queues x) ≡ context_in b n (after h i (entry h.ends i v) held queues x)

-- the number of an end stays
pub numbers-same : (h : Holding) (i : ℕ) (e : Name × EndSlot) (held : List RegisteredRegion) (queues : List (Name × Queue)) (x : Endpoint) → slice_get h.ends i ≡ Some e → x.number ≡ e.1.endpoint.number → map (λ y. y.1.endpoint.number) (after h i e held queues x).ends ≡ map (λ y. y.1.endpoint.number) h.ends
numbers-same h i e held queues x there same =
    let s = split-at h.ends i e there in
    ap (map (λ y. y.1.endpoint.number)) (s.changed (record { send = e.1.send; recv = e.1.recv; endpoint = x }))
    ∙ (map-append (λ y. y.1.endpoint.number) s.front ((e.0, record { send = e.1.send; recv = e.1.recv; endpoint = x }) ∷ s.back)
    ∙ (ap (λ k. map (λ y. y.1.endpoint.number) s.front ++ k ∷ map (λ y. y.1.endpoint.number) s.back) same
    ∙ (sym (map-append (λ y. y.1.endpoint.number) s.front (e ∷ s.back)) ∙ ap (map (λ y. y.1.endpoint.number)) (sym s.whole))))

pub steps : (a b : Pool) (h : Holding) (i : ℕ) (v : EndSlot) (held : List RegisteredRegion) (queues : List (Name × Queue)) (x : Endpoint)
    → IsContext a h → slice_get (values_of h.ends) i ≡ Some v
    → Keeps (site_in a h (entry h.ends i v)) (site_after b (entry h.ends i v) held queues x) [] nothing
    → IsSound (site_after b (entry h.ends i v) held queues x) nothing
    → Steps a b h i v held queues x
unfolding payload_pages
steps a b h i v held queues x is value keeps sound =
    let there = entry-there h.ends i v value in
    let step : IsStep a b h nothing i (entry h.ends i v) held queues x [] = record { is = is.is; there = there; keeps = keeps; sound = sound; new = none-new a h } in
    let placed = each-at (HasQueues h.queues) h.ends i (entry h.ends i v) (recursion_from_All (HasQueues h.queues) h.ends is.is.placed) there in
    record {
      is = record { is = is-holding step };
      moves = record {
        pages = keeps.lists.pages;
        others = λ list live not. other-lists step list live (lacks-not list (lists_of h) not) tt;
        fresh = λ list c. fresh (old-or-posted step list c);
        free = λ n. no-more (pages-counted step n);
      };
      numbers = λ n. numbers-in b n (after h i (entry h.ends i v) held queues x) ∙ (numbers-same h i (entry h.ends i v) held queues x there keeps.end.number ∙ sym (numbers-in a n h));
      stands = λ n. is-home a n h nothing i (entry h.ends i v) is.is there placed;
      shown = λ n. view step n;
    }
  where
    no-more : {x y : ℕ} → x ≡ y + 0 → x ≡ y
    no-more e = omega arith

    fresh : {list : ℕ} → Contains (lists_of h) list ⊎ Contains [] list → Contains (lists_of h) list ⊎ (bytes_of a list ≡ None)
    fresh (inl c) = inl c
    fresh (inr c) = absurd (omega (arith, c.1))

-- the end that was found is connected
pub is-linked : (es : List (Name × EndSlot)) (i : ℕ) (v : EndSlot) → slice_get (values_of es) i ≡ Some v → IfSome (slice_get es i) (λ e. IsSome e.1.endpoint.link) → IsSome v.endpoint.link
is-linked es i v value h = subst (λ o. IfSome o (λ e. IsSome e.1.endpoint.link)) (entry-there es i v value) h

-- a step that touches nothing but the end, and none of its work
pub still : (a : Pool) (h : Holding) (i : ℕ) (v : EndSlot) (x : Endpoint) → IsContext a h → slice_get (values_of h.ends) i ≡ Some v
    → KeepsEnd v.endpoint x → untold_by x.link ≡ untold_by v.endpoint.link → ((send recv place : ℕ) → promised send recv x place ≡ promised send recv v.endpoint place) → IsEnd a h.regions x
    → Steps a a h i v h.regions h.queues x
still a h i v x is value end untold reserved sound =
    let old = end-sound a h nothing i (entry h.ends i v) is.is (entry-there h.ends i v value) in
    let same : untold_by v.endpoint.link ++ [] ≡ untold_by x.link = append-nil (untold_by v.endpoint.link) ∙ sym untold in
    steps a a h i v h.regions h.queues x is value
    (record {
      end = end;
      untold = record { gone = 0; left = sym same };
      regions = refl;
      lists = record { pages = refl; others = λ list live r o. refl };
      kept = λ k d l. refl;
      free = ap (λ ps. free_pages a + payload_pages a ps) (sym same);
      queues = record { names = refl; capacities = refl; balance = λ place. ap (λ n. reserved_in h.queues place + n) (no-more-places (promised v.send v.recv v.endpoint place) (promised v.send v.recv x place) (reserved v.send v.recv place)) };
    })
    (record {
      end = sound;
      regions = old.regions;
      reserved = record { send_there = old.reserved.send_there; recv_there = old.reserved.recv_there; enough = λ place. subst (λ n. n + 0 ≤ reserved_in h.queues place) (sym (reserved v.send v.recv place)) (old.reserved.enough place) };
    })
  where
    no-more-places : (p q : ℕ) → q ≡ p → p + 0 ≡ q
    no-more-places p q e = omega arith

pub lists-still : (h : Holding) (i : ℕ) (v : EndSlot) (x : Endpoint) → slice_get (values_of h.ends) i ≡ Some v → untold_by x.link ≡ untold_by v.endpoint.link → lists_of (after h i (entry h.ends i v) h.regions h.queues x) ≡ lists_of h
unfolding lists_of
lists-still h i v x value untold =
    let s = split-at h.ends i (entry h.ends i v) (entry-there h.ends i v value) in
    ap (λ ls. map (λ r. r.list) h.regions ++ ls)
    (ap payloads_of (s.changed (record { send = v.send; recv = v.recv; endpoint = x }))
    ∙ (payloads-split s.front s.back ((entry h.ends i v).0, record { send = v.send; recv = v.recv; endpoint = x })
    ∙ (ap (λ ps. payloads_of s.front ++ (payload_lists ps ++ payloads_of s.back)) untold
    ∙ (sym (payloads-split s.front s.back (entry h.ends i v)) ∙ ap payloads_of (sym s.whole)))))

pub numbers-still : (a b : Pool) (n : Name) (h : Holding) (i : ℕ) (v : EndSlot) (held : List RegisteredRegion) (queues : List (Name × Queue)) (x : Endpoint) → slice_get (values_of h.ends) i ≡ Some v → x.number ≡ v.endpoint.number
    → map (λ e. e.number) (context_in b n (after h i (entry h.ends i v) held queues x)).ends ≡ map (λ e. e.number) (context_in a n h).ends
numbers-still a b n h i v held queues x value same =
    numbers-in b n (after h i (entry h.ends i v) held queues x) ∙ (numbers-same h i (entry h.ends i v) held queues x (entry-there h.ends i v value) same ∙ sym (numbers-in a n h))

-- pages that stay, where the pool does
pub pages-still : (a : Pool) (n : Name) (old new : Holding) → Moves a a old new → pages_of_context (context_in a n new) ≡ pages_of_context (context_in a n old)
pages-still a n old new m = let e = m.free n in omega arith

-- an end in Init has no untold requests, and where no place is promised anew it has none after
pub untold-none : (e x : Endpoint) → e.link ≡ None → ((send recv place : ℕ) → promised send recv x place ≡ promised send recv e place) → untold_by x.link ≡ untold_by e.link
untold-none e x none same =
    let before : untold_by e.link ≡ [] = ap untold_by none in
    let count : length (untold_by x.link) ≡ length (untold_by e.link) = counted (length (untold_by x.link)) (length (untold_by e.link)) (same 0 1 0) in
    empty (untold_by x.link) (count ∙ ap length before) ∙ sym before
  where
    counted : (p q : ℕ) → p + 0 ≡ q + 0 → p ≡ q
    counted p q e = omega arith

    empty : (ps : List QueuedRequest) → length ps ≡ 0 → ps ≡ []
    empty [] l = refl
    empty (p ∷ ps) l = absurd (omega arith)

-- the end that was found is in Init
pub is-unlinked : (es : List (Name × EndSlot)) (i : ℕ) (v : EndSlot) → slice_get (values_of es) i ≡ Some v → IfSome (slice_get es i) (λ e. e.1.endpoint.link ≡ None) → v.endpoint.link ≡ None
is-unlinked es i v value h = subst (λ o. IfSome o (λ e. e.1.endpoint.link ≡ None)) (entry-there es i v value) h

pub ok-where : {T E : Type 0} (r : Result T E) (o : Option EndLink) → IsErr r ↔ IsSome o → o ≡ None → IsOk r
ok-where (Ok x) o h none = refl
ok-where (Err e) o h none = absurd (let some = h.0 refl in cc)
