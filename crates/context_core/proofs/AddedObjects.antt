-- A domain, a completion queue or a queue pair more.
use Rattle.std.proofs.Common.{◌≡◌, ℕ, zero, suc, ◌<◌, ◌≤◌, Bool, true, false, List, [], ◌∷◌, ◌++◌, length, refl, ap, sym, ◌∙◌, subst, arith, get_or, length-append}
use Rattle.std.specs.Prelude.{Result, Ok, Err, OnOk, OnErr, Option, Some, None, is_some, map, bytes_eq}
use Rattle.std.specs.List.{AllByRecursion, IsDistinct}
use Rattle.std.specs.Map.{keys_of, lookup}
use Rattle.std.proofs.lemmas.List.Elements.{All-from_recursion, recursion_from_All}
use Rattle.rdma_types.specs.declared.answers.Answer.TheVariants as answer
use Rattle.rdma_types.specs.declared.names.Name.{Name}
use Rattle.page_pool.specs.Pool.{Pool}
use Rattle.end_queues.specs.Completions.{Queue, unreserved}
use Rattle.protocol.specs.DeviceStep.{answers, makes_domain, makes_queue, with_context, with_domain, with_new_queue}
use Rattle.protocol.specs.Memory.{pages_of_context}
use Rattle.protocol.specs.State.{Device, End}
use Rattle.endpoint_core.specs.Ends.{end_in}
use Rattle.endpoint_core.specs.Queues.{nothing, queues_of, reserved_in}
use Rattle.context_core.specs.declared.state.EndSlot.{EndSlot}
use Rattle.context_core.specs.Context.{HasQueues, Holding, IsContext, IsHolding, context_in, end_of, lists_of, queue_name}
use Rattle.context_core.proofs.DisjointLists.{each-weaker}
use Rattle.context_core.proofs.ContextPages.{pages-are}
use Rattle.rdma_types.specs.Lists.{has_name}
use Rattle.context_core.proofs.NamedLookups.{has-lookup, same-either}
use Rattle.context_core.proofs.SplitEntries.{map-append}

-- ---- a domain

pub domain-made : (pool : Pool) (n : Name) (d : Device) (h : Holding) (ks : List Name) (name : Name) → ks ≡ h.domains ++ name ∷ [] → makes_domain d (context_in pool n h) name ≡ answers (with_context d (context_in pool n (record h { domains = ks }))) answer.Done
unfolding makes_domain with_domain context_in
domain-made pool n d h ks name e = ap {A = List Name} (λ ds. answers (with_context d (record (context_in pool n h) { domains = ds })) answer.Done) (sym e)

pub domain-holding : (pool : Pool) (h : Holding) (ks : List Name) (more : ℕ → ℕ) → IsHolding pool h more → IsHolding pool (record h { domains = ks }) more
domain-holding pool h ks more is = record {
  held = is.held;
  keyed = is.keyed;
  ends = is.ends;
  placed = is.placed;
  apart = is.apart;
  paged = is.paged;
  reserved = is.reserved;
  queue_names = is.queue_names;
  end_names = is.end_names;
  few_queues = is.few_queues;
}

pub domain-pages : (pool : Pool) (n : Name) (h : Holding) (ks : List Name) → IsContext pool h → pages_of_context (context_in pool n (record h { domains = ks })) ≡ pages_of_context (context_in pool n h)
domain-pages pool n h ks is = pages-are pool (record h { domains = ks }) nothing n (domain-holding pool h ks nothing is.is) ∙ sym (pages-are pool h nothing n is.is)

pub domain-lists : (h : Holding) (ks : List Name) → lists_of (record h { domains = ks }) ≡ lists_of h
unfolding lists_of
domain-lists h ks = refl

-- ---- a completion queue

more-at : (xs ys : List Name) (i : ℕ) → i < length xs → get_or (xs ++ ys) i [] ≡ get_or xs i []
more-at [] ys i l = absurd (omega arith)
more-at (x ∷ xs) ys zero l = refl
more-at (x ∷ xs) ys (suc i) l = more-at xs ys i (omega arith)

count : (qs : List (Name × Queue)) → length (keys_of qs) ≡ length qs
count [] = refl
count (q ∷ qs) = ap suc (count qs)

names-more : (qs : List (Name × Queue)) (q : Name × Queue) (place : ℕ) → place < length qs → queue_name (qs ++ q ∷ []) place ≡ queue_name qs place
names-more qs q place l = ap (λ ks. get_or ks place []) (map-append (λ x. x.0) qs (q ∷ [])) ∙ more-at (keys_of qs) (q.0 ∷ []) place (subst (λ n. place < n) (sym (count qs)) l)

pub shown-more : (pool : Pool) (qs : List (Name × Queue)) (q : Name × Queue) (es : List (Name × EndSlot)) → AllByRecursion (HasQueues qs) es → map (end_of pool (qs ++ q ∷ [])) es ≡ map (end_of pool qs) es
shown-more pool qs q [] h = refl
shown-more pool qs q (e ∷ es) h =
    let send : queue_name (qs ++ q ∷ []) e.1.send ≡ queue_name qs e.1.send = names-more qs q e.1.send h.0.0 in
    let recv : queue_name (qs ++ q ∷ []) e.1.recv ≡ queue_name qs e.1.recv = names-more qs q e.1.recv h.0.1 in
    let here : end_of pool (qs ++ q ∷ []) e ≡ end_of pool qs e = ap {A = Name} (λ s. end_in pool (record { name = e.0; send_cq = s; recv_cq = queue_name (qs ++ q ∷ []) e.1.recv }) e.1.endpoint) send ∙ ap {A = Name} (λ r. end_in pool (record { name = e.0; send_cq = queue_name qs e.1.send; recv_cq = r }) e.1.endpoint) recv in
    let rest : map (end_of pool (qs ++ q ∷ [])) es ≡ map (end_of pool qs) es = shown-more pool qs q es h.1 in
    cc

reserved-more : (qs : List (Name × Queue)) (name : Name) (capacity place : ℕ) → reserved_in (qs ++ (name, unreserved capacity []) ∷ []) place ≡ reserved_in qs place
reserved-more [] name capacity zero = refl
reserved-more [] name capacity (suc place) = refl
reserved-more (q ∷ qs) name capacity zero = refl
reserved-more (q ∷ qs) name capacity (suc place) = reserved-more qs name capacity place

-- a new name differs from those that are there
all-more : (k n : Name) (ks : List Name) → AllByRecursion (λ y. bytes_eq k y ≡ false) ks → bytes_eq k n ≡ false → AllByRecursion (λ y. bytes_eq k y ≡ false) (ks ++ n ∷ [])
all-more k n [] h e = (e, tt)
all-more k n (x ∷ xs) h e = (h.0, all-more k n xs h.1 e)

pub distinct-more : (ks : List Name) (n : Name) → IsDistinct bytes_eq ks → AllByRecursion (λ y. bytes_eq y n ≡ false) ks → IsDistinct bytes_eq (ks ++ n ∷ [])
unfolding IsDistinct
distinct-more [] n d h = (tt, tt)
distinct-more (x ∷ xs) n d h = (all-more x n xs d.0 h.0, distinct-more xs n d.1 h.1)

pub queue-made : (pool : Pool) (n : Name) (d : Device) (h : Holding) (qs : List (Name × Queue)) (name : Name) (capacity : ℕ) → IsContext pool h → qs ≡ h.queues ++ (name, unreserved capacity []) ∷ []
    → makes_queue d (context_in pool n h) name capacity ≡ answers (with_context d (context_in pool n (record h { queues = qs }))) answer.Done
unfolding makes_queue with_new_queue context_in
queue-made pool n d h qs name capacity is e =
    let shown : map (end_of pool (h.queues ++ (name, unreserved capacity []) ∷ [])) h.ends ≡ map (end_of pool h.queues) h.ends = shown-more pool h.queues (name, unreserved capacity []) h.ends (recursion_from_All (HasQueues h.queues) h.ends is.is.placed) in
    let queues : queues_of (h.queues ++ (name, unreserved capacity []) ∷ []) ≡ queues_of h.queues ++ record { name = name; capacity = capacity; entries = [] } ∷ [] = map-append (λ q. record { name = q.0; capacity = q.1.capacity; entries = q.1.entries }) h.queues ((name, unreserved capacity []) ∷ []) in
    ap {A = List _} (λ q. answers (with_context d (record (context_in pool n h) { queues = q })) answer.Done) (sym queues)
    ∙ (ap {A = List End} (λ es. answers (with_context d (record (context_in pool n h) { queues = queues_of (h.queues ++ (name, unreserved capacity []) ∷ []); ends = es })) answer.Done) (sym shown)
    ∙ ap (λ q. answers (with_context d (context_in pool n (record h { queues = q }))) answer.Done) (sym e))

pub queue-holding : (pool : Pool) (h : Holding) (qs : List (Name × Queue)) (name : Name) (capacity : ℕ) → length h.queues < 64 → IsContext pool h → qs ≡ h.queues ++ (name, unreserved capacity []) ∷ [] → AllByRecursion (λ y. bytes_eq y name ≡ false) (keys_of h.queues) → IsContext pool (record h { queues = qs })
queue-holding pool h qs name capacity few is e differs = subst (λ q. IsContext pool (record h { queues = q })) (sym e) (record {
  is = record {
    held = is.is.held;
    keyed = is.is.keyed;
    ends = is.is.ends;
    placed = All-from_recursion (HasQueues (h.queues ++ (name, unreserved capacity []) ∷ [])) h.ends (each-weaker (HasQueues h.queues) (HasQueues (h.queues ++ (name, unreserved capacity []) ∷ [])) (λ y k. (longer y.1.send k.0, longer y.1.recv k.1)) h.ends (recursion_from_All (HasQueues h.queues) h.ends is.is.placed));
    apart = is.is.apart;
    paged = is.is.paged;
    reserved = λ place. reserved-more h.queues name capacity place ∙ is.is.reserved place;
    queue_names = subst (IsDistinct bytes_eq) (sym (map-append (λ x. x.0) h.queues ((name, unreserved capacity []) ∷ []))) (distinct-more (keys_of h.queues) name is.is.queue_names differs);
    end_names = is.is.end_names;
    few_queues = one-more h.queues (name, unreserved capacity []) few;
  };
})
  where
    one-more : (xs : List (Name × Queue)) (q : Name × Queue) → length xs < 64 → length (xs ++ q ∷ []) ≤ 64
    one-more xs q l = let e = length-append xs (q ∷ []) in omega (arith, e)

    more : (xs : List (Name × Queue)) (q : Name × Queue) (k : ℕ) → k < length xs → k < length (xs ++ q ∷ [])
    more [] q k l = absurd (omega arith)
    more (x ∷ xs) q zero l = omega arith
    more (x ∷ xs) q (suc k) l = let r = more xs q k (omega arith) in omega arith

    longer : (k : ℕ) → k < length h.queues → k < length (h.queues ++ (name, unreserved capacity []) ∷ [])
    longer k l = more h.queues (name, unreserved capacity []) k l

-- names that a map does not have
pub absent-differs : {V : Type 0} (n : Name) (es : List (Name × V)) → lookup (bytes_eq n) es ≡ None → AllByRecursion (λ y. bytes_eq n y ≡ false) (keys_of es)
absent-differs n [] e = tt
absent-differs n (x ∷ xs) e = by (bytes_eq n x.0) refl (absent-differs n xs)
  where
    by : (b : Bool) → bytes_eq n x.0 ≡ b → (lookup (bytes_eq n) xs ≡ None → AllByRecursion (λ y. bytes_eq n y ≡ false) (keys_of xs)) → AllByRecursion (λ y. bytes_eq n y ≡ false) (keys_of (x ∷ xs))
    by true t later = absurd (grind (arith, t, e))
    by false t later = (t, later (grind (arith, t, e)))

pub length-queues : (qs : List (Name × Queue)) → length (queues_of qs) ≡ length qs
length-queues [] = refl
length-queues (q ∷ qs) = ap suc (length-queues qs)

-- where no queue has the name, a map does not have it
pub queue-absent : (n : Name) (qs : List (Name × Queue)) → has_name (λ q. q.name) n (queues_of qs) ≡ false → lookup (bytes_eq n) qs ≡ None
queue-absent n qs h = by (lookup (bytes_eq n) qs) refl
  where
    by : (o : Option Queue) → lookup (bytes_eq n) qs ≡ o → lookup (bytes_eq n) qs ≡ None
    by None e = e
    by (Some q) e =
        let there : is_some (lookup (bytes_eq n) qs) ≡ has_name (λ q. q.name) n (queues_of qs) = has-lookup (λ q. q.name) (λ q. record { name = q.0; capacity = q.1.capacity; entries = q.1.entries }) (λ q. refl) n qs in
        let t : is_some (lookup (bytes_eq n) qs) ≡ true = ap is_some e in
        cc

-- a list of queues that has one more, or is as it was
pub queue-is : (pool : Pool) (h : Holding) (qs : List (Name × Queue)) (name : Name) (capacity : ℕ) {T E : Type 0} (r : Result T E) → OnOk r (qs ≡ h.queues ++ (name, unreserved capacity []) ∷ []) → OnOk r (has_name (λ q. q.name) name (queues_of h.queues) ≡ false) → OnOk r (length h.queues < 64) → OnErr r (qs ≡ h.queues) → IsContext pool h → IsContext pool (record h { queues = qs })
queue-is pool h qs name capacity (Ok x) made absent few same is = queue-holding pool h qs name capacity few is made (turned (keys_of h.queues) (absent-differs name h.queues (queue-absent name h.queues absent)))
  where
    turned : (ks : List Name) → AllByRecursion (λ y. bytes_eq name y ≡ false) ks → AllByRecursion (λ y. bytes_eq y name ≡ false) ks
    turned [] d = tt
    turned (k ∷ ks) d = (same-either k name ∙ d.0, turned ks d.1)
queue-is pool h qs name capacity (Err e) made absent few same is = subst (λ q. IsContext pool (record h { queues = q })) (sym same) is

pub queue-pages : (pool : Pool) (n : Name) (h : Holding) (qs : List (Name × Queue)) → IsContext pool h → IsContext pool (record h { queues = qs }) → pages_of_context (context_in pool n (record h { queues = qs })) ≡ pages_of_context (context_in pool n h)
queue-pages pool n h qs is is' = pages-are pool (record h { queues = qs }) nothing n is'.is ∙ sym (pages-are pool h nothing n is.is)

pub queue-lists : (h : Holding) (qs : List (Name × Queue)) → lists_of (record h { queues = qs }) ≡ lists_of h
unfolding lists_of
queue-lists h qs = refl

numbers-are : (pool : Pool) (qs : List (Name × Queue)) (es : List (Name × EndSlot)) → map (λ e. e.number) (map (end_of pool qs) es) ≡ map (λ e. e.1.endpoint.number) es
numbers-are pool qs [] = refl
numbers-are pool qs (e ∷ es) = ap (λ ns. e.1.endpoint.number ∷ ns) (numbers-are pool qs es)

-- the numbers of queue pairs
pub numbers-in : (pool : Pool) (n : Name) (h : Holding) → map (λ e. e.number) (context_in pool n h).ends ≡ map (λ e. e.1.endpoint.number) h.ends
unfolding context_in
numbers-in pool n h = numbers-are pool h.queues h.ends
