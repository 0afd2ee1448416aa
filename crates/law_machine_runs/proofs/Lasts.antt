-- The end that fails has exactly one more completion with the status.
use Rattle.std.proofs.Common.{arith, ◌≡◌, ◌≢◌, ◌+◌, ◌<◌, ℕ, List, [], ◌∷◌, length, length-drop, true, false, Bool, refl, sym, ap, ◌∙◌, subst, inl, inr}
use Rattle.std.specs.Prelude.{None, ◌&&◌, not, nat_lt, if◌then◌else◌, ◌==◌, bytes_eq}
use Rattle.std.proofs.lemmas.Bool.Decides.{nat_tests, eqb_tells}
use Rattle.rdma_types.specs.declared.names.Name.{Name}
use Rattle.rdma_types.specs.declared.names.ObjName.{ObjName}
use Rattle.rdma_types.specs.declared.requests.Completion.{Completion}
use Rattle.rdma_types.specs.declared.requests.Receive.{Receive}
use Rattle.rdma_types.specs.declared.requests.WcKind.TheVariants as wc_kinds
use Rattle.rdma_types.specs.declared.requests.WcStatus.{WcStatus}
use Rattle.rdma_types.specs.declared.requests.WcStatus.TheVariants as statuses
use Rattle.rdma_types.specs.Kinds.{receive_done, request_done}
use Rattle.rdma_types.specs.Lists.{has_name, named, store_named}
use Rattle.rdma_types.specs.Objects.{CompletionQueue, Posted, no_queue}
use Rattle.packetless_machine.specs.declared.steps.MachineStep.TheVariants as steps
use Rattle.packetless_machine.specs.Machine.{Machine, Context, End, no_context, context_of, end_of, queue_of, with_context, with_end, with_end_in, with_queues, completed, longer, in_end}
use Rattle.packetless_machine.specs.Steps.{closed, ended_with, expire, failed_queues, failed_receives, failed_requests, has_untold, receives_of, untold, wait}
use Rattle.packetless_machine.specs.Verbs.{has_queue}
use Rattle.law_simulation.specs.Spent.{IsLastExpiry, IsLastWait}
use Rattle.law_simulation.proofs.relation.Tables.{name_tells, named-absent, named-store_other, named-store_same, has_name-store, name-named, name-named_there, replaced-stored}
use Rattle.law_simulation.proofs.runs.Acting.{related}
use Rattle.law_simulation.proofs.runs.Adding.{AreQueuesKept, end_kept}
use Rattle.law_machine_runs.specs.Counted.{GrowsByOne, count_at, count_in, is_queue_of, is_retry_exceeded, is_rnr_exceeded}
use Rattle.law_machine_runs.proofs.Counts.{count_both, count_cons}

-- ---- where things are

none_named : (q : Name) → has_name (λ (z : CompletionQueue). z.name) q [] ≡ true → ⊥
unfolding has_name
none_named q g = absurd (cc)

context_there : (m : Machine) (c q : Name) → has_queue m c q ≡ true → has_name (λ x. x.name) c m.contexts ≡ true
unfolding context_of
context_there m c q h = by (has_name (λ x. x.name) c m.contexts) refl
  where
    by : (b : Bool) → has_name (λ x. x.name) c m.contexts ≡ b → b ≡ true
    by true e = refl
    by false e = absurd (none_named q (subst (λ (x : Context). has_name (λ z. z.name) q x.queues ≡ true) (named-absent (λ x. x.name) (no_context c) c m.contexts e) h))

there_after : (m : Machine) (c : Name) (x : Context) → has_name (λ z. z.name) c m.contexts ≡ true → x.name ≡ c → has_name (λ z. z.name) c (with_context m c x).contexts ≡ true
unfolding with_context
there_after m c x there n = ap (has_name (λ z. z.name) c) (replaced-stored (λ z. z.name) c x m.contexts there) ∙ (has_name-store (λ z. z.name) c c x m.contexts there n ∙ there)

name_of_context : (m : Machine) (c : Name) → (context_of m c).name ≡ c
unfolding context_of
name_of_context m c = name-named (λ z. z.name) (no_context c) c m.contexts refl

there_in : (m : Machine) (o : ObjName) (e : End) → has_queue m o.context (end_of m o).send_queue ≡ true → has_name (λ z. z.name) o.context (with_end m o e).contexts ≡ true
unfolding with_end with_end_in
there_in m o e h = there_after m o.context _ (context_there m o.context (end_of m o).send_queue h) (name_of_context m o.context)

queues_here : (m : Machine) (c : Name) (qs : List CompletionQueue) (k : Name) → has_name (λ z. z.name) c m.contexts ≡ true → queue_of (with_queues m c qs) c k ≡ named (λ z. z.name) no_queue k qs
unfolding queue_of context_of with_queues with_context
queues_here m c qs k there =
    let x : Context = record (context_of m c) { queues = qs } in
    ap (λ (z : Context). named (λ u. u.name) no_queue k z.queues)
    (ap (named (λ z. z.name) (no_context c) c) (replaced-stored (λ z. z.name) c x m.contexts there) ∙ named-store_same (λ z. z.name) (no_context c) c x m.contexts (name_of_context m c))

queues_other : (m : Machine) (c j : Name) (qs : List CompletionQueue) (k : Name) → has_name (λ z. z.name) c m.contexts ≡ true → j ≢ c → queue_of (with_queues m c qs) j k ≡ queue_of m j k
unfolding queue_of context_of with_queues with_context
queues_other m c j qs k there far =
    let x : Context = record (context_of m c) { queues = qs } in
    ap (λ (z : Context). named (λ u. u.name) no_queue k z.queues)
    (ap (named (λ z. z.name) (no_context j) j) (replaced-stored (λ z. z.name) c x m.contexts there) ∙ named-store_other (λ z. z.name) (no_context j) c j x m.contexts (name_of_context m c) far)

-- ---- what is completed

module _ (test : WcStatus → Bool) where
  -- as many in each queue, where none of the new ones has the status
  completed_same : (q : Name) (more : List Completion) (qs : List CompletionQueue) (k : Name) → count_in test more ≡ 0 →
      count_in test (named (λ z. z.name) no_queue k (completed q more qs)).entries ≡ count_in test (named (λ z. z.name) no_queue k qs).entries
  unfolding completed
  completed_same q more qs k none =
      related (λ a b. count_in test a.entries ≡ count_in test b.entries) (λ a. refl) (λ z. z.name) no_queue no_queue q k (longer (named (λ z. z.name) no_queue q qs) more) qs refl
      (omega (arith, none, count_both test (named (λ z. z.name) no_queue q qs).entries more))

  -- and where they are counted, in the queue that they go to
  completed_here : (q : Name) (more : List Completion) (qs : List CompletionQueue) (k : Name) → has_name (λ z. z.name) q qs ≡ true →
      count_in test (named (λ z. z.name) no_queue k (completed q more qs)).entries ≡ count_in test (named (λ z. z.name) no_queue k qs).entries + (if bytes_eq k q then count_in test more else 0)
  unfolding completed
  completed_here q more qs k there =
      let x : CompletionQueue = longer (named (λ z. z.name) no_queue q qs) more in
      let named' : x.name ≡ q = name-named_there (λ z. z.name) no_queue q qs there in
      let stored = replaced-stored (λ z. z.name) q x qs there in
      elim (name_tells k q) [
        | inl same ↦
            rw (stored, same.0)
            (subst (λ n. count_in test (named (λ z. z.name) no_queue n (store_named (λ z. z.name) q x qs)).entries ≡ count_in test (named (λ z. z.name) no_queue n qs).entries + count_in test more) (sym same.1)
            (ap (λ (z : CompletionQueue). count_in test z.entries) (named-store_same (λ z. z.name) no_queue q x qs named') ∙ count_both test (named (λ z. z.name) no_queue q qs).entries more))
        | inr far ↦
            rw (stored, far.0)
            (let same = ap (λ (z : CompletionQueue). count_in test z.entries) (named-store_other (λ z. z.name) no_queue q k x qs named' far.1) in omega (arith, same))
      ]

  module _ (flush : test statuses.Flush ≡ false) where
    flushed_requests : (number : ℕ) (rs : List Posted) → count_in test (failed_requests number statuses.Flush rs) ≡ 0
    unfolding failed_requests request_done
    flushed_requests number [] = refl
    flushed_requests number (r ∷ rs) = let later = flushed_requests number rs in rw (count_cons test (request_done number r statuses.Flush 0) (failed_requests number statuses.Flush rs), flush) (omega (arith, later))

    flushed_receives : (number : ℕ) (vs : List Receive) → count_in test (failed_receives number vs) ≡ 0
    unfolding failed_receives receive_done
    flushed_receives number [] = refl
    flushed_receives number (v ∷ vs) = let later = flushed_receives number vs in rw (count_cons test (receive_done number v wc_kinds.Recv statuses.Flush 0 None) (failed_receives number vs), flush) (omega (arith, later))

    module _ (status : WcStatus) (is : test status ≡ true) where
      one_request : (number : ℕ) (rs : List Posted) → 0 < length rs → count_in test (failed_requests number status rs) ≡ 1
      unfolding failed_requests request_done
      one_request number [] h = absurd (omega arith)
      one_request number (r ∷ rs) h = rw (count_cons test (request_done number r status 0) (failed_requests number statuses.Flush rs), is) (let none = flushed_requests number rs in omega (arith, none))

      failed_count : (e : End) (vs : List Receive) (qs : List CompletionQueue) (k : Name) → has_name (λ z. z.name) e.send_queue qs ≡ true → 0 < length (untold e) →
          count_in test (named (λ z. z.name) no_queue k (failed_queues e status vs qs)).entries ≡ count_in test (named (λ z. z.name) no_queue k qs).entries + (if bytes_eq k e.send_queue then 1 else 0)
      unfolding failed_queues
      failed_count e vs qs k there some =
          let told : List Completion = failed_requests e.number status (untold e) in
          completed_same e.receive_queue (failed_receives e.number vs) (completed e.send_queue told qs) k (flushed_receives e.number vs)
          ∙ (completed_here e.send_queue told qs k there
          ∙ ap (λ n. count_in test (named (λ z. z.name) no_queue k qs).entries + (if bytes_eq k e.send_queue then n else 0)) (one_request e.number (untold e) some))

      ended_count : (m : Machine) (o : ObjName) → 0 < length (untold (end_of m o)) → has_queue m o.context (end_of m o).send_queue ≡ true → (c k : Name) →
          count_at test (ended_with m o status) c k ≡ count_at test m c k + (if is_queue_of m o c k then 1 else 0)
      unfolding ended_with queue_of
      ended_count m o some there c k =
          let m' : Machine = in_end m o closed in
          let qs : List CompletionQueue = failed_queues (end_of m o) status (receives_of (end_of m o)) (context_of m o.context).queues in
          let kept : AreQueuesKept m m' = end_kept m o (closed (end_of m o)) in
          let there' = there_in m o (closed (end_of m o)) there in
          elim (name_tells c o.context) [
            | inl same ↦
                rw same.0
                (subst (λ n. count_at test (with_queues m' o.context qs) n k ≡ count_at test m n k + (if bytes_eq k (end_of m o).send_queue then 1 else 0)) (sym same.1)
                (ap (λ (z : CompletionQueue). count_in test z.entries) (queues_here m' o.context qs k there') ∙ failed_count (end_of m o) (receives_of (end_of m o)) (context_of m o.context).queues k there some))
            | inr far ↦
                rw far.0
                (let same : count_at test (with_queues m' o.context qs) c k ≡ count_at test m c k = ap (λ (z : CompletionQueue). count_in test z.entries) (queues_other m' o.context c qs k there' far.1) ∙ ap (λ (zs : List CompletionQueue). count_in test (named (λ z. z.name) no_queue k zs).entries) (kept c) in
                omega (arith, same))
          ]

-- ---- the last expiry and the last wait

both_true : (a b : Bool) → (a && b) ≡ true → (a ≡ true) × (b ≡ true)
both_true true b h = (refl, h)
both_true false b h = absurd (cc)

some_untold : (m : Machine) (o : ObjName) → has_untold m o ≡ true → 0 < length (untold (end_of m o))
unfolding has_untold untold
some_untold m o h =
    let first = both_true (end_of m o).connected (not (end_of m o).ended && nat_lt (end_of m o).told (length (end_of m o).posted)) h in
    let less = (both_true (not (end_of m o).ended) (nat_lt (end_of m o).told (length (end_of m o).posted)) first.1).1 in
    grind (arith, nat_tests, less, length-drop (end_of m o).told (end_of m o).posted)

pub one_expiry : GrowsByOne is_retry_exceeded IsLastExpiry (λ o. steps.Expire o)
unfolding expire
one_expiry m o last untold' there c k =
    let is : ((end_of m o).spent == (end_of m o).retry) ≡ true = grind (arith, nat_tests, eqb_tells (end_of m o).spent (end_of m o).retry, last) in
    rw is (ended_count is_retry_exceeded refl statuses.RetryExceeded refl m o (some_untold m o untold') there c k)

pub one_wait : GrowsByOne is_rnr_exceeded IsLastWait (λ o. steps.Wait o)
unfolding wait
one_wait m o last untold' there c k =
    let few = last.0 in
    let spent = last.1 in
    let endless : ((end_of m o).rnr == 7) ≡ false = grind (arith, nat_tests, eqb_tells (end_of m o).rnr 7, few) in
    let is : ((end_of m o).waits == (end_of m o).rnr) ≡ true = grind (arith, nat_tests, eqb_tells (end_of m o).waits (end_of m o).rnr, spent) in
    rw (endless, is) (ended_count is_rnr_exceeded refl statuses.RnrExceeded refl m o (some_untold m o untold') there c k)
