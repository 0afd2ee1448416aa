-- Places of completion queues that are reserved, as the protocol counts them.
use Rattle.std.proofs.Common.{◌≡◌, ℕ, zero, suc, ◌+◌, ◌<◌, ◌≤◌, Bool, true, false, List, [], ◌∷◌, ◌++◌, length, refl, ap, sym, ◌∙◌, subst, arith, get_or}
use Rattle.std.specs.Prelude.{◌==◌, Option, Some, None, map, option_map, All, nat_le, bytes_eq, position, slice_get, sum_by}
use Rattle.std.specs.List.{AllByRecursion, IsDistinct}
use Rattle.std.specs.Map.{keys_of, values_of}
use Rattle.std.specs.Option.{option_map_or}
use Rattle.std.proofs.lemmas.List.Elements.{recursion_from_All}
use Rattle.std.proofs.lemmas.List.Sums.{sum_by-cons}
use Rattle.std.proofs.lemmas.Bool.Decides.{nat_tests}
use Rattle.indexmap.specs.IndexMap.{set_value_at}
use Rattle.rdma_types.specs.declared.names.Name.{Name}
use Rattle.rdma_types.specs.Lists.{named}
use Rattle.rdma_types.specs.Objects.{CompletionQueue, no_queue}
use Rattle.rdma_types.proofs.Tables.{name_is, same_name}
use Rattle.page_pool.specs.Pool.{Pool}
use Rattle.end_queues.specs.Completions.{Queue, reserving}
use Rattle.end_queues.specs.declared.work_queues.posted.QueuedRequest.{QueuedRequest}
use Rattle.end_queues.specs.Untold.{untold_in}
use Rattle.protocol.specs.EndWords.{in_use}
use Rattle.protocol.specs.Memory.{untold_of}
use Rattle.protocol.specs.Refusals.{count_if, is_full, reserved, reserved_by}
use Rattle.protocol.specs.State.{End, queue_at}
use Rattle.endpoint_core.specs.declared.end.EndLink.{EndLink}
use Rattle.endpoint_core.specs.Ends.{link_in, untold_by, used_by}
use Rattle.endpoint_core.specs.Queues.{count_at, promised, queues_of, reserved_in}
use Rattle.context_core.specs.declared.state.EndSlot.{EndSlot}
use Rattle.context_core.specs.Context.{HasQueues, Holding, IsContext, IsHolding, context_in, end_of, queue_name}
use Rattle.context_core.specs.Queues.{is_full_at}
use Rattle.context_core.proofs.SplitEntries.{front-differs, map-append, name-there, named-split, position-here, split-at}

pub count : (qs : List (Name × Queue)) → length (keys_of qs) ≡ length qs
count [] = refl
count (q ∷ qs) = ap suc (count qs)

-- names of queues are equal exactly where their places are
pub same-place : (qs : List (Name × Queue)) (i j : ℕ) → IsDistinct bytes_eq (keys_of qs) → i < length qs → j < length qs → bytes_eq (queue_name qs i) (queue_name qs j) ≡ (i == j)
same-place qs i j d l k = by (bytes_eq (queue_name qs i) (queue_name qs j)) refl (i == j) refl
  where
    there : (place : ℕ) → place < length qs → position (bytes_eq (queue_name qs place)) (keys_of qs) ≡ Some place
    there place m = position-here (keys_of qs) place (queue_name qs place) d (name-there (keys_of qs) place (subst (λ n. place < n) (sym (count qs)) m))

    by : (b : Bool) → bytes_eq (queue_name qs i) (queue_name qs j) ≡ b → (t : Bool) → (i == j) ≡ t → bytes_eq (queue_name qs i) (queue_name qs j) ≡ (i == j)
    by true e true t = e ∙ sym t
    by false e false t = e ∙ sym t
    by true e false t =
        let names : queue_name qs i ≡ queue_name qs j = name_is (queue_name qs i) (queue_name qs j) e in
        let places : Some i ≡ Some j = sym (there i l) ∙ (ap (λ n. position (bytes_eq n) (keys_of qs)) names ∙ there j k) in
        let same : i ≡ j = cc in
        absurd (grind (arith, nat_tests, same, t))
    by false e true t =
        let same : i ≡ j = grind (arith, nat_tests, t) in
        let names : bytes_eq (queue_name qs i) (queue_name qs j) ≡ true = ap (λ n. bytes_eq (queue_name qs n) (queue_name qs j)) same ∙ same_name (queue_name qs j) in
        absurd (cc)

length-untold : (pool : Pool) (ps : List QueuedRequest) → length (untold_in pool ps) ≡ length ps
length-untold pool [] = refl
length-untold pool (p ∷ ps) = ap suc (length-untold pool ps)

pub untold-length : (pool : Pool) (l : Option EndLink) → length (untold_of (option_map (link_in pool) l)) ≡ length (untold_by l)
untold-length pool None = refl
untold-length pool (Some l) = length-untold pool l.requester.items

used-length : (pool : Pool) (l : Option EndLink) → length (in_use (option_map (link_in pool) l)) ≡ length (used_by l)
used-length pool None = refl
used-length pool (Some l) = refl

-- what an end reserves of the queue at a place
end-reserves : (pool : Pool) (qs : List (Name × Queue)) (place : ℕ) (e : Name × EndSlot) → IsDistinct bytes_eq (keys_of qs) → place < length qs → HasQueues qs e → reserved_by (queue_name qs place) (end_of pool qs e) ≡ promised e.1.send e.1.recv e.1.endpoint place
unfolding reserved_by
end-reserves pool qs place e d l has =
    let send = same-place qs e.1.send place d has.0 l in
    let recv = same-place qs e.1.recv place d has.1 l in
    ap (λ b. count_if b (length (untold_of (end_of pool qs e).link)) + count_if (bytes_eq (queue_name qs e.1.recv) (queue_name qs place)) (length e.1.endpoint.recvs.items + length (in_use (end_of pool qs e).link))) send
    ∙ (ap (λ b. count_if (e.1.send == place) (length (untold_of (end_of pool qs e).link)) + count_if b (length e.1.endpoint.recvs.items + length (in_use (end_of pool qs e).link))) recv
    ∙ (ap (λ n. count_if (e.1.send == place) n + count_if (e.1.recv == place) (length e.1.endpoint.recvs.items + length (in_use (end_of pool qs e).link))) (untold-length pool e.1.endpoint.link)
    ∙ ap (λ n. count_if (e.1.send == place) (length (untold_by e.1.endpoint.link)) + count_if (e.1.recv == place) (length e.1.endpoint.recvs.items + n)) (used-length pool e.1.endpoint.link)))

pub ends-reserve : (pool : Pool) (qs : List (Name × Queue)) (place : ℕ) (es : List (Name × EndSlot)) → IsDistinct bytes_eq (keys_of qs) → place < length qs → AllByRecursion (HasQueues qs) es → sum_by (reserved_by (queue_name qs place)) (map (end_of pool qs) es) ≡ sum_by (λ e. promised e.1.send e.1.recv e.1.endpoint place) es
ends-reserve pool qs place [] d l h = refl
ends-reserve pool qs place (e ∷ es) d l h =
    sum_by-cons (reserved_by (queue_name qs place)) (end_of pool qs e) (map (end_of pool qs) es)
    ∙ (ap (λ n. n + sum_by (reserved_by (queue_name qs place)) (map (end_of pool qs) es)) (end-reserves pool qs place e d l h.0)
    ∙ (ap (λ n. promised e.1.send e.1.recv e.1.endpoint place + n) (ends-reserve pool qs place es d l h.1)
    ∙ sym (sum_by-cons (λ y. promised y.1.send y.1.recv y.1.endpoint place) e es)))

pub full-is : (pool : Pool) (n : Name) (h : Holding) (place : ℕ) (q : Queue) → IsContext pool h → slice_get (values_of h.queues) place ≡ Some q → is_full (context_in pool n h) (queue_name h.queues place) ≡ is_full_at q
unfolding context_in reserved
full-is pool n h place q is value =
    let there : slice_get h.queues place ≡ Some (queue_name h.queues place, q) = entry h.queues place value in
    let inside : place < length h.queues = within h.queues place value in
    let s = split-at h.queues place (queue_name h.queues place, q) there in
    let before : AllByRecursion (λ y. bytes_eq y (queue_name h.queues place) ≡ false) (keys_of s.front) = front-differs (keys_of s.front) (queue_name h.queues place) (keys_of s.back) (subst (IsDistinct bytes_eq) (ap keys_of s.whole ∙ map-append (λ x. x.0) s.front ((queue_name h.queues place, q) ∷ s.back)) is.is.queue_names) in
    let shown : queues_of h.queues ≡ queues_of s.front ++ record { name = queue_name h.queues place; capacity = q.capacity; entries = q.entries } ∷ queues_of s.back = ap queues_of s.whole ∙ map-append (λ x. record { name = x.0; capacity = x.1.capacity; entries = x.1.entries }) s.front ((queue_name h.queues place, q) ∷ s.back) in
    let found : queue_at (context_in pool n h) (queue_name h.queues place) ≡ record { name = queue_name h.queues place; capacity = q.capacity; entries = q.entries } = ap (named (λ x. x.name) no_queue (queue_name h.queues place)) shown ∙ named-split (λ x. x.name) no_queue (queue_name h.queues place) (record { name = queue_name h.queues place; capacity = q.capacity; entries = q.entries }) (queues_of s.front) (queues_of s.back) refl (names s.front before) in
    let sum : sum_by (reserved_by (queue_name h.queues place)) (map (end_of pool h.queues) h.ends) ≡ q.reserved = ends-reserve pool h.queues place h.ends is.is.queue_names inside (recursion_from_All (HasQueues h.queues) h.ends is.is.placed) ∙ (plain (is.is.reserved place) ∙ ap (λ o. option_map_or (λ x. x.1.reserved) o 0) there) in
    ap (λ x. nat_le x.capacity (length x.entries + sum_by (reserved_by (queue_name h.queues place)) (map (end_of pool h.queues) h.ends))) found ∙ ap (λ r. nat_le q.capacity (length q.entries + r)) sum
  where
    plain : {x y : ℕ} → x ≡ y + 0 → y ≡ x
    plain e = omega arith

    entry : (qs : List (Name × Queue)) (i : ℕ) → slice_get (values_of qs) i ≡ Some q → slice_get qs i ≡ Some (queue_name qs i, q)
    entry [] i s = absurd (cc)
    entry (x ∷ xs) zero s = let same : x.1 ≡ q = cc in ap (λ y. Some (x.0, y)) same
    entry (x ∷ xs) (suc i) s = entry xs i s

    within : (qs : List (Name × Queue)) (i : ℕ) → slice_get (values_of qs) i ≡ Some q → i < length qs
    within [] i s = absurd (cc)
    within (x ∷ xs) zero s = omega arith
    within (x ∷ xs) (suc i) s = let l = within xs i s in omega arith

    names : (qs : List (Name × Queue)) → AllByRecursion (λ y. bytes_eq y (queue_name h.queues place) ≡ false) (keys_of qs) → AllByRecursion (λ y. bytes_eq y (queue_name h.queues place) ≡ false) (map (λ x. x.name) (queues_of qs))
    names [] a = tt
    names (x ∷ xs) a = (a.0, names xs a.1)

-- ---- one place more

pub reserved-at : (qs : List (Name × Queue)) (place : ℕ) (q : Queue) (k : ℕ) → slice_get (values_of qs) place ≡ Some q → reserved_in (set_value_at qs place (reserving q)) k ≡ reserved_in qs k + count_at place 1 k
reserved-at [] place q k s = absurd (cc)
reserved-at (x ∷ xs) zero q zero s = let same : x.1 ≡ q = cc in ap (λ y. y.reserved + 1) (sym same)
reserved-at (x ∷ xs) zero q (suc k) s = grind (arith, nat_tests)
reserved-at (x ∷ xs) (suc i) q zero s = grind (arith, nat_tests)
reserved-at (x ∷ xs) (suc i) q (suc k) s = reserved-at xs i q k s ∙ ap (λ n. reserved_in xs k + n) (grind (arith, nat_tests))

shown-same : (qs : List (Name × Queue)) (place : ℕ) (q : Queue) → slice_get (values_of qs) place ≡ Some q → queues_of (set_value_at qs place (reserving q)) ≡ queues_of qs
shown-same [] place q s = absurd (cc)
shown-same (x ∷ xs) zero q s = let same : x.1 ≡ q = cc in ap (λ y. record { name = x.0; capacity = y.capacity; entries = y.entries } ∷ queues_of xs) (sym same)
shown-same (x ∷ xs) (suc i) q s = ap (λ ys. record { name = x.0; capacity = x.1.capacity; entries = x.1.entries } ∷ ys) (shown-same xs i q s)

pub keys-set : {V : Type 0} (qs : List (Name × V)) (place : ℕ) (w : V) → keys_of (set_value_at qs place w) ≡ keys_of qs
keys-set [] place w = refl
keys-set (x ∷ xs) zero w = refl
keys-set (x ∷ xs) (suc i) w = ap (λ ks. x.0 ∷ ks) (keys-set xs i w)

pub ends-named : (pool : Pool) (old new : List (Name × Queue)) (es : List (Name × EndSlot)) → keys_of new ≡ keys_of old → map (end_of pool new) es ≡ map (end_of pool old) es
ends-named pool old new es e = ap (λ ks. map (λ x. named-end ks x) es) e
  where
    named-end : List Name → Name × EndSlot → End
    named-end ks x = record (end_of pool old x) { send_cq = get_or ks x.1.send []; recv_cq = get_or ks x.1.recv [] }

pub view-same : (pool : Pool) (n : Name) (h : Holding) (place : ℕ) (q : Queue) → slice_get (values_of h.queues) place ≡ Some q → context_in pool n (record h { queues = set_value_at h.queues place (reserving q) }) ≡ context_in pool n h
unfolding context_in
view-same pool n h place q s =
    ap {A = List CompletionQueue} (λ qs. record { name = n; domains = h.domains; regions = (context_in pool n h).regions; queues = qs; ends = map (end_of pool (set_value_at h.queues place (reserving q))) h.ends }) (shown-same h.queues place q s)
    ∙ ap {A = List End} (λ es. record (context_in pool n h) { ends = es }) (ends-named pool h.queues (set_value_at h.queues place (reserving q)) h.ends (keys-set h.queues place (reserving q)))

pub more-holding : (pool : Pool) (h : Holding) (place : ℕ) (q : Queue) → IsContext pool h → slice_get (values_of h.queues) place ≡ Some q → IsHolding pool (record h { queues = set_value_at h.queues place (reserving q) }) (count_at place 1)
more-holding pool h place q is s =
    let keys = keys-set h.queues place (reserving q) in
    let same : length (set_value_at h.queues place (reserving q)) ≡ length h.queues = sym (count (set_value_at h.queues place (reserving q))) ∙ (ap length keys ∙ count h.queues) in
    record {
      held = is.is.held;
      keyed = is.is.keyed;
      ends = is.is.ends;
      placed = subst (λ k. All (λ e. (e.1.send < k) × (e.1.recv < k)) h.ends) (sym same) is.is.placed;
      apart = is.is.apart;
      paged = is.is.paged;
      reserved = λ k. reserved-at h.queues place q k s ∙ ap (λ m. m + count_at place 1 k) (plain (is.is.reserved k));
      queue_names = subst (IsDistinct bytes_eq) (sym keys) is.is.queue_names;
      end_names = is.is.end_names;
      few_queues = subst (λ k. k ≤ 64) (sym same) is.is.few_queues;
    }
  where
    plain : {x y : ℕ} → x ≡ y + 0 → x ≡ y
    plain e = omega arith
