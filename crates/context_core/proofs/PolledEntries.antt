-- Entries that are handed out.
use Rattle.std.proofs.Common.{◌≡◌, ℕ, zero, suc, ◌<◌, ◌≤◌, true, false, List, [], ◌∷◌, ◌++◌, length, refl, ap, sym, ◌∙◌, subst, take, drop}
use Rattle.std.specs.Prelude.{Result, Ok, Err, IfOk, OnErr, Option, Some, None, map, All, bytes_eq, position, slice_get}
use Rattle.std.specs.List.{AllByRecursion, IsDistinct}
use Rattle.std.specs.Map.{keys_of, values_of}
use Rattle.indexmap.specs.IndexMap.{set_value_at}
use Rattle.rdma_types.specs.declared.answers.Answer.TheVariants as answer
use Rattle.rdma_types.specs.declared.names.Name.{Name}
use Rattle.rdma_types.specs.declared.requests.Completion.{Completion}
use Rattle.rdma_types.specs.Lists.{named, store_named}
use Rattle.rdma_types.specs.Objects.{CompletionQueue, no_queue}
use Rattle.page_pool.specs.Pool.{Pool}
use Rattle.end_queues.specs.Completions.{Queue, polled}
use Rattle.protocol.specs.DeviceStep.{answers, polls, with_context}
use Rattle.protocol.specs.EndWords.{with_entries, with_queue}
use Rattle.protocol.specs.State.{Context, Device, End, queue_at}
use Rattle.endpoint_core.specs.Queues.{queues_of, reserved_in}
use Rattle.context_core.specs.Context.{Holding, IsContext, context_in, end_of}
use Rattle.context_core.specs.Queues.{IsPolled}
use Rattle.std.specs.Map.{lookup}
use Rattle.std.specs.Prelude.{is_some, not}
use Rattle.rdma_types.specs.Causes.{first_cause}
use Rattle.rdma_types.specs.Lists.{has_name}
use Rattle.rdma_types.specs.declared.answers.Refusal.TheVariants.{NoSuch}
use Rattle.protocol.specs.Refusals.{has_queue}
use Rattle.context_core.specs.Causes.{poll_causes}
use Rattle.context_core.proofs.NamedLookups.{has-lookup, name-found}
use Rattle.context_core.proofs.FirstCause.{first-holds, first-passed, none-holds}
use Rattle.context_core.proofs.ReservedCompletions.{count, ends-named, keys-set}
use Rattle.context_core.proofs.SplitEntries.{front-differs, map-append, named-split, split-at, stored-split}

-- the queue at a place, under its name
entry-named : (qs : List (Name × Queue)) (i : ℕ) (n : Name) (q : Queue) → position (bytes_eq n) (keys_of qs) ≡ Some i → slice_get (values_of qs) i ≡ Some q → slice_get qs i ≡ Some (n, q)
entry-named qs i n q p s = by (slice_get qs i) refl
  where
    value : (xs : List (Name × Queue)) (j : ℕ) (x : Name × Queue) → slice_get xs j ≡ Some x → slice_get (values_of xs) j ≡ Some x.1
    value [] j x e = absurd (cc)
    value (y ∷ ys) zero x e = let same : y ≡ x = cc in ap (λ z. Some z.1) same
    value (y ∷ ys) (suc j) x e = value ys j x e

    no-value : (xs : List (Name × Queue)) (j : ℕ) → slice_get xs j ≡ None → slice_get (values_of xs) j ≡ None
    no-value [] j e = refl
    no-value (y ∷ ys) zero e = absurd (cc)
    no-value (y ∷ ys) (suc j) e = no-value ys j e

    by : (o : Option (Name × Queue)) → slice_get qs i ≡ o → slice_get qs i ≡ Some (n, q)
    by None e = absurd (let none = no-value qs i e in cc)
    by (Some x) e =
        let name : x.0 ≡ n = name-found n qs i x p e in
        let same : x.1 ≡ q = let v = value qs i x e in cc in
        e ∙ (ap {A = Name} (λ k. Some (k, x.1)) name ∙ ap {A = Queue} (λ y. Some (n, y)) same)

queue-shown : Name × Queue → CompletionQueue
queue-shown q = record { name = q.0; capacity = q.1.capacity; entries = q.1.entries }

-- the rule, and the context after it
pub poll-rule : (pool : Pool) (n : Name) (d : Device) (h : Holding) (qs : List (Name × Queue)) (name : Name) (most : ℕ) (entries : List Completion) → IsPolled h.queues qs name most entries
    → polls d (context_in pool n h) (queue_at (context_in pool n h) name) most ≡ answers (with_context d (context_in pool n (record h { queues = qs }))) (answer.Polled entries)
unfolding polls context_in with_queue with_entries
poll-rule pool n d h qs name most entries p =
    let there = entry-named h.queues p.place name p.queue p.found p.there in
    let s = split-at h.queues p.place (name, p.queue) there in
    let q : CompletionQueue = record { name = name; capacity = p.queue.capacity; entries = p.queue.entries } in
    let q' : CompletionQueue = record { name = name; capacity = p.queue.capacity; entries = drop most p.queue.entries } in
    let before : AllByRecursion (λ y. bytes_eq y name ≡ false) (keys_of s.front) = front-differs (keys_of s.front) name (keys_of s.back) (subst (IsDistinct bytes_eq) (ap keys_of s.whole ∙ map-append (λ x. x.0) s.front ((name, p.queue) ∷ s.back)) p.distinct) in
    let names = shown-names s.front before in
    let shown : queues_of h.queues ≡ queues_of s.front ++ q ∷ queues_of s.back = ap queues_of s.whole ∙ map-append (λ x. record { name = x.0; capacity = x.1.capacity; entries = x.1.entries }) s.front ((name, p.queue) ∷ s.back) in
    let found : queue_at (context_in pool n h) name ≡ q = ap (named (λ x. x.name) no_queue name) shown ∙ named-split (λ x. x.name) no_queue name q (queues_of s.front) (queues_of s.back) refl names in
    let stored : store_named (λ x. x.name) name q' (queues_of h.queues) ≡ queues_of qs =
    ap (store_named (λ x. x.name) name q') shown ∙ (stored-split (λ x. x.name) name q q' (queues_of s.front) (queues_of s.back) refl names
    ∙ (sym (map-append (λ x. record { name = x.0; capacity = x.1.capacity; entries = x.1.entries }) s.front ((name, polled p.queue most) ∷ s.back))
    ∙ (ap queues_of (sym (s.changed (polled p.queue most))) ∙ ap queues_of (sym p.rest)))) in
    let ends : map (end_of pool qs) h.ends ≡ map (end_of pool h.queues) h.ends = ends-named pool h.queues qs h.ends (ap keys_of p.rest ∙ keys-set h.queues p.place (polled p.queue most)) in
    ap (λ x. polls d (context_in pool n h) x most) found
    ∙ (ap {A = List CompletionQueue} (λ x. answers (with_context d (record (context_in pool n h) { queues = x })) (answer.Polled (take most p.queue.entries))) stored
    ∙ (ap {A = List End} (λ x. answers (with_context d (record { name = n; domains = h.domains; regions = (context_in pool n h).regions; queues = queues_of qs; ends = x })) (answer.Polled (take most p.queue.entries))) (sym ends)
    ∙ ap (λ x. answers (with_context d (context_in pool n (record h { queues = qs }))) (answer.Polled x)) (sym p.handed)))
  where
    shown-names : (xs : List (Name × Queue)) → AllByRecursion (λ y. bytes_eq y name ≡ false) (keys_of xs) → AllByRecursion (λ y. bytes_eq y name ≡ false) (map (λ x. x.name) (queues_of xs))
    shown-names [] a = tt
    shown-names (x ∷ xs) a = (a.0, shown-names xs a.1)

-- what is reserved stays
reserved-same : (qs : List (Name × Queue)) (i : ℕ) (q : Queue) (most k : ℕ) → slice_get (values_of qs) i ≡ Some q → reserved_in (set_value_at qs i (polled q most)) k ≡ reserved_in qs k
reserved-same [] i q most k s = absurd (cc)
reserved-same (x ∷ xs) zero q most zero s = let same : x.1 ≡ q = cc in ap (λ y. y.reserved) (sym same)
reserved-same (x ∷ xs) zero q most (suc k) s = refl
reserved-same (x ∷ xs) (suc i) q most zero s = refl
reserved-same (x ∷ xs) (suc i) q most (suc k) s = reserved-same xs i q most k s

pub poll-is : (pool : Pool) (h : Holding) (qs : List (Name × Queue)) (name : Name) (most : ℕ) (entries : List Completion) → IsPolled h.queues qs name most entries → IsContext pool h → IsContext pool (record h { queues = qs })
poll-is pool h qs name most entries p is =
    let keys : keys_of qs ≡ keys_of h.queues = ap keys_of p.rest ∙ keys-set h.queues p.place (polled p.queue most) in
    let same : length qs ≡ length h.queues = sym (count qs) ∙ (ap length keys ∙ count h.queues) in
    record {
      is = record {
        held = is.is.held;
        keyed = is.is.keyed;
        ends = is.is.ends;
        placed = subst (λ k. All (λ e. (e.1.send < k) × (e.1.recv < k)) h.ends) (sym same) is.is.placed;
        apart = is.is.apart;
        paged = is.is.paged;
        reserved = λ k. ap (λ x. reserved_in x k) p.rest ∙ (reserved-same h.queues p.place p.queue most k p.there ∙ is.is.reserved k);
        queue_names = subst (IsDistinct bytes_eq) (sym keys) is.is.queue_names;
        end_names = is.is.end_names;
        few_queues = subst (λ k. k ≤ 64) (sym same) is.is.few_queues;
      };
    }

pub poll-after : (pool : Pool) (h : Holding) (qs : List (Name × Queue)) (name : Name) (most : ℕ) {E : Type 0} (r : Result (List Completion) E) → IfOk r (λ entries. IsPolled h.queues qs name most entries) → OnErr r (qs ≡ h.queues) → IsContext pool h → IsContext pool (record h { queues = qs })
poll-after pool h qs name most (Ok entries) p e is = poll-is pool h qs name most entries p is
poll-after pool h qs name most (Err f) p e is = subst (λ q. IsContext pool (record h { queues = q })) (sym e) is

pub set-same : {V : Type 0} (es : List (Name × V)) (i : ℕ) (v : V) → slice_get (values_of es) i ≡ Some v → set_value_at es i v ≡ es
set-same [] i v s = refl
set-same (x ∷ xs) zero v s = let same : x.1 ≡ v = cc in ap {A = _} (λ y. (x.0, y) ∷ xs) (sym same)
set-same (x ∷ xs) (suc i) v s = ap (λ ys. x ∷ ys) (set-same xs i v s)

-- a queue that is there is polled
pub poll-there : (c : Context) (qs : List (Name × Queue)) (name : Name) → c.queues ≡ queues_of qs → is_some (lookup (bytes_eq name) qs) ≡ true → None ≡ first_cause (poll_causes c name)
poll-there c qs name e t =
    let there : has_name (λ q. q.name) name (queues_of qs) ≡ true = sym (has-lookup (λ q. q.name) (λ q. record { name = q.0; capacity = q.1.capacity; entries = q.1.entries }) (λ q. refl) name qs) ∙ t in
    sym (first-passed NoSuch (not (has_queue c name)) [] (ap (λ x. not (has_name (λ q. q.name) name x)) e ∙ ap not there) ∙ none-holds)

pub poll-absent : (c : Context) (qs : List (Name × Queue)) (name : Name) → c.queues ≡ queues_of qs → is_some (lookup (bytes_eq name) qs) ≡ false → Some NoSuch ≡ first_cause (poll_causes c name)
poll-absent c qs name e t =
    let there : has_name (λ q. q.name) name (queues_of qs) ≡ false = sym (has-lookup (λ q. q.name) (λ q. record { name = q.0; capacity = q.1.capacity; entries = q.1.entries }) (λ q. refl) name qs) ∙ t in
    sym (first-holds NoSuch (not (has_queue c name)) [] (ap (λ x. not (has_name (λ q. q.name) name x)) e ∙ ap not there))
