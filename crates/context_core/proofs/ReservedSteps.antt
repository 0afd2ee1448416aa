-- A step of an end for which a place of a queue was reserved.
use Rattle.std.proofs.Common.{◌≡◌, ℕ, zero, suc, ◌+◌, ◌<◌, List, [], ◌∷◌, length, refl, ap, sym, ◌∙◌, subst, arith, inl, inr}
use Rattle.std.specs.Prelude.{◌↔◌, ◌≤◌, Result, Ok, Err, IsErr, IsOk, ◌⊎◌, Option, Some, None, IfSome, map, Contains, slice_get}
use Rattle.std.specs.Map.{values_of}
use Rattle.std.proofs.lemmas.List.Elements.{recursion_from_All}
use Rattle.indexmap.specs.IndexMap.{set_value_at}
use Rattle.rdma_types.specs.declared.names.Name.{Name}
use Rattle.page_pool.specs.Pool.{Pool, IsIn, bytes_of, free_pages}
use Rattle.end_queues.specs.Completions.{Queue, reserving}
use Rattle.memory_keys.specs.declared.RegisteredRegion.{RegisteredRegion}
use Rattle.end_queues.specs.declared.work_queues.posted.QueuedRequest.{QueuedRequest}
use Rattle.protocol.specs.Memory.{pages_of_context}
use Rattle.endpoint_core.specs.declared.end.Endpoint.{Endpoint}
use Rattle.endpoint_core.specs.Queues.{count_at, nothing}
use Rattle.endpoint_core.specs.Sites.{IsHome, IsSound, Keeps, home}
use Rattle.end_completions.specs.Payloads.{payload_lists, payload_pages}
use Rattle.context_core.specs.declared.state.EndSlot.{EndSlot}
use Rattle.context_core.specs.Context.{HasQueues, Holding, IsContext, IsHolding, Moves, context_in, lists_of, names_in, site_in}
use Rattle.context_core.proofs.DisjointLists.{Lacks, lacks-not}
use Rattle.context_core.proofs.ReservedCompletions.{more-holding, view-same}
use Rattle.context_core.proofs.EndSteps.{AreNew, after, is-home, site_after}
use Rattle.context_core.proofs.EndStepResults.{IsStep, is-holding, old-or-posted, other-lists, pages-counted, view}
use Rattle.context_core.proofs.EndStepCalls.{each-at, entry, entry-there, numbers-still}

-- the context with other queues
abbrev pub with_queues : Holding → List (Name × Queue) → Holding
with_queues h queues = record h { queues = queues }

-- one place more is reserved, which the protocol does not see
pub record Reserves (a : Pool) (h : Holding) (place : ℕ) (queues : List (Name × Queue)) : Type 0 where
  pub is : IsHolding a (with_queues h queues) (count_at place 1)
  pub same : (n : Name) → context_in a n (with_queues h queues) ≡ context_in a n h

pub reserves : (a : Pool) (h : Holding) (place : ℕ) (queues : List (Name × Queue)) → IsContext a h → place < length h.queues → IfSome (slice_get (values_of h.queues) place) (λ q. queues ≡ set_value_at h.queues place (reserving q)) → Reserves a h place queues
reserves a h place queues is inside made = by (slice_get (values_of h.queues) place) refl made
  where
    there : (qs : List (Name × Queue)) (i : ℕ) → i < length qs → slice_get (values_of qs) i ≡ None → ⊥
    there [] i l e = omega (arith, l)
    there (x ∷ xs) zero l e = let odd : Some x.1 ≡ None = e in absurd (cc)
    there (x ∷ xs) (suc i) l e = there xs i (omega arith) e

    by : (o : Option Queue) → slice_get (values_of h.queues) place ≡ o → IfSome o (λ q. queues ≡ set_value_at h.queues place (reserving q)) → Reserves a h place queues
    by None s m = absurd (there h.queues place inside s)
    by (Some q) s m = record {
      is = subst (λ qs. IsHolding a (with_queues h qs) (count_at place 1)) (sym m) (more-holding a h place q is s);
      same = λ n. subst (λ qs. context_in a n (with_queues h qs) ≡ context_in a n h) (sym m) (view-same a n h place q s);
    }

-- what a posting leaves
pub record Posts (a b : Pool) (h : Holding) (old : List (Name × Queue)) (i : ℕ) (v : EndSlot) (held : List RegisteredRegion) (queues : List (Name × Queue)) (x : Endpoint) (posted : List QueuedRequest) : Type 0 where
  pub is : IsContext b (after h i (entry h.ends i v) held queues x)
  pub others : (list : ℕ) → IsIn a list → (Contains (lists_of h) list → ⊥) → Lacks (payload_lists posted) list → bytes_of b list ≡ bytes_of a list
  pub fresh : (list : ℕ) → Contains (lists_of (after h i (entry h.ends i v) held queues x)) list → Contains (lists_of h) list ⊎ Contains (payload_lists posted) list
  pub free : (n : Name) → free_pages b + pages_of_context (context_in b n (after h i (entry h.ends i v) held queues x)) ≡ (free_pages a + pages_of_context (context_in a n h)) + payload_pages a posted
  pub numbers : (n : Name) → map (λ e. e.number) (context_in b n (after h i (entry h.ends i v) held queues x)).ends ≡ map (λ e. e.number) (context_in a n h).ends
  pub stands : (n : Name) → IsHome (context_in a n (with_queues h old)) (names_in old (entry h.ends i v)) (site_in a (with_queues h old) (entry h.ends i v))
  pub shown : (n : Name) → home (context_in a n (with_queues h old)) (names_in old (entry h.ends i v)) (site_after b (entry h.ends i v) held queues x) ≡ context_in b n (after h i (entry h.ends i v) held queues x)

lists-same : (h : Holding) (queues : List (Name × Queue)) → lists_of (with_queues h queues) ≡ lists_of h
unfolding lists_of
lists-same h queues = refl

pub posts-step : (a b : Pool) (h : Holding) (place : ℕ) (old : List (Name × Queue)) (i : ℕ) (v : EndSlot) (held : List RegisteredRegion) (queues : List (Name × Queue)) (x : Endpoint) (posted : List QueuedRequest)
    → Reserves a h place old → slice_get (values_of h.ends) i ≡ Some v → AreNew a h posted
    → Keeps (site_in a (with_queues h old) (entry h.ends i v)) (site_after b (entry h.ends i v) held queues x) posted (count_at place 1)
    → IsSound (site_after b (entry h.ends i v) held queues x) nothing
    → Posts a b h old i v held queues x posted
posts-step a b h place old i v held queues x posted res value new keeps sound =
    let there = entry-there h.ends i v value in
    let step : IsStep a b (with_queues h old) (count_at place 1) i (entry h.ends i v) held queues x posted = record { is = res.is; there = there; keeps = keeps; sound = sound; new = record { others = new.others; paged = new.paged } } in
    let placed = each-at (HasQueues old) h.ends i (entry h.ends i v) (recursion_from_All (HasQueues old) h.ends res.is.placed) there in
    record {
      is = record { is = is-holding step };
      others = λ list live not l. other-lists step list live (subst (λ ls. Lacks ls list) (sym (lists-same h old)) (lacks-not list (lists_of h) not)) l;
      fresh = λ list c. fresh list (old-or-posted step list c);
      free = λ n. pages-counted step n ∙ ap (λ k. (free_pages a + pages_of_context k) + payload_pages a posted) (res.same n);
      numbers = λ n. numbers-still a b n h i v held queues x value keeps.end.number;
      stands = λ n. is-home a n (with_queues h old) (count_at place 1) i (entry h.ends i v) res.is there placed;
      shown = λ n. view step n;
    }
  where
    fresh : (list : ℕ) → Contains (lists_of (with_queues h old)) list ⊎ Contains (payload_lists posted) list → Contains (lists_of h) list ⊎ Contains (payload_lists posted) list
    fresh list (inl c) = inl (subst (λ ls. Contains ls list) (lists-same h old) c)
    fresh list (inr c) = inr c

-- .. and the moves, where nothing with bytes is posted
pub posts-moves : (a b : Pool) (h : Holding) (old : List (Name × Queue)) (i : ℕ) (v : EndSlot) (held : List RegisteredRegion) (queues : List (Name × Queue)) (x : Endpoint) → (pages : b.pages ≡ a.pages) → Posts a b h old i v held queues x [] → Moves a b h (after h i (entry h.ends i v) held queues x)
unfolding payload_pages
posts-moves a b h old i v held queues x pages p = record {
  pages = pages;
  others = λ list live not. p.others list live not tt;
  fresh = λ list c. fresh list (p.fresh list c);
  free = λ n. no-more (p.free n);
}
  where
    no-more : {m k : ℕ} → m ≡ k + 0 → m ≡ k
    no-more e = omega arith

    fresh : (list : ℕ) → Contains (lists_of h) list ⊎ Contains [] list → Contains (lists_of h) list ⊎ (bytes_of a list ≡ None)
    fresh list (inl c) = inl c
    fresh list (inr c) = absurd (omega (arith, c.1))

-- a queue with room takes one more
pub ok-below : {T E : Type 0} (r : Result T E) (depth count : ℕ) → IsErr r ↔ (depth ≤ count) → count < depth → IsOk r
ok-below (Ok x) depth count h l = refl
ok-below (Err e) depth count h l = absurd (let m = h.0 refl in omega (arith, m, l))
