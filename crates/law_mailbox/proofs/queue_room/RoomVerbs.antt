-- The verbs of work fill no completion queue past its capacity: a posting is refused where the queue is full.
use Rattle.std.proofs.Common.{arith, ◌≡◌, ◌≢◌, ℕ, ◌+◌, ◌-◌, ◌≤◌, [], ◌∷◌, ◌++◌, drop, length, true, false, Bool, refl, sym, subst, Some, None, Option, ◌⊎◌, inl, inr, length-append, length-drop, leb-false}
use Rattle.std.specs.Prelude.{bytes_eq, if◌then◌else◌}
use Rattle.rdma_types.specs.declared.answers.Refusal.{Refusal}
use Rattle.rdma_types.specs.declared.answers.Refusal.TheVariants as refusals
use Rattle.rdma_types.specs.declared.names.Name.{Name}
use Rattle.rdma_types.specs.declared.names.ObjName.{ObjName}
use Rattle.rdma_types.specs.declared.requests.Receive.{Receive}
use Rattle.rdma_types.specs.declared.requests.Request.{Request}
use Rattle.rdma_types.specs.declared.requests.WcKind.TheVariants as wc_kinds
use Rattle.rdma_types.specs.declared.requests.WcStatus.TheVariants as status
use Rattle.rdma_types.specs.declared.verbs.Verb.{Verb}
use Rattle.rdma_types.specs.declared.verbs.Verb.TheVariants as verbs
use Rattle.rdma_types.specs.Causes.{cause, first_cause}
use Rattle.rdma_types.specs.Kinds.{receive_done, request_done}
use Rattle.rdma_types.specs.Objects.{CompletionQueue, no_queue}
use Rattle.rdma_types.specs.Lists.{named}
use Rattle.packetless_machine.specs.Machine.{Context, End, Machine, completing, context_of, end_of, in_end, no_context, queue_of, regions_of, reserved, reserved_by, untold_count, used_count, with_context, with_queue, with_queue_in}
use Rattle.packetless_machine.specs.Tables.{replaced}
use Rattle.packetless_machine.specs.Verbs.{after_answer, after_verb, done, is_full, overwritten, polled, posted, received, refusal_of, region_of, stored, taken, with_receive, with_request}
use Rattle.law_simulation.proofs.relation.Tables.{name_tells}
use Rattle.law_simulation.proofs.runs.Acting.{related}
use Rattle.law_mailbox.specs.Plans.{IsVerbOfWork}
use Rattle.law_mailbox.specs.Room.{load, load_in}
use Rattle.law_mailbox.proofs.queue_room.Loads.{completing_accounts, completing_elsewhere, end_accounts, end_elsewhere, if_same, regions_load}

-- ---- one more thing in a queue

-- of the queue sq of context c
abbrev one_more : Name → Name → Name → Name → ℕ
one_more c sq d q = if bytes_eq c d then if_same sq q 1 else 0

request_more : (q : Name) (e : End) (r : _) → reserved_by q (with_request r e) ≤ reserved_by q e + if_same e.send_queue q 1
unfolding reserved_by untold_count
request_more q e r = by (bytes_eq e.send_queue q)
  where
    by : (b : Bool) → (if b then length (e.posted ++ r ∷ []) - e.told else 0) + (if bytes_eq e.receive_queue q then used_count e.in_use + length e.unused else 0) ≤
        ((if b then length e.posted - e.told else 0) + (if bytes_eq e.receive_queue q then used_count e.in_use + length e.unused else 0)) + (if b then 1 else 0)
    by true = omega (arith, length-append e.posted (r ∷ []))
    by false = omega arith

receive_more : (q : Name) (e : End) (v : Receive) → reserved_by q (with_receive v e) ≤ reserved_by q e + if_same e.receive_queue q 1
unfolding reserved_by untold_count
receive_more q e v = by (bytes_eq e.receive_queue q)
  where
    by : (b : Bool) → (if bytes_eq e.send_queue q then length e.posted - e.told else 0) + (if b then used_count e.in_use + length (e.unused ++ v ∷ []) else 0) ≤
        ((if bytes_eq e.send_queue q then length e.posted - e.told else 0) + (if b then used_count e.in_use + length e.unused else 0)) + (if b then 1 else 0)
    by true = omega (arith, length-append e.unused (v ∷ []))
    by false = omega arith

module _ (m : Machine) (o : ObjName) (d q : Name) where
  -- at the end's context, or at another one
  at_context : (m' : Machine) (sq : Name) → load m' o.context q ≤ load m o.context q + if_same sq q 1 → (d ≢ o.context → load m' d q ≡ load m d q) → load m' d q ≤ load m d q + one_more o.context sq d q
  at_context m' sq here elsewhere = by (name_tells o.context d)
    where
      by : ((bytes_eq o.context d ≡ true) × (o.context ≡ d)) ⊎ ((bytes_eq o.context d ≡ false) × (o.context ≢ d)) → load m' d q ≤ load m d q + one_more o.context sq d q
      by (inl t) = rw (t.0) (subst (λ (c : Name). load m' c q ≤ load m c q + if_same sq q 1) t.1 here)
      by (inr t) = let same = elsewhere (λ e. t.1 (sym e)) in omega (arith, same)

  posted_load : (r : Request) → load (posted m o r) d q ≤ load m d q + one_more o.context (end_of m o).send_queue d q
  unfolding posted
  posted_load r = by (end_of m o).ended
    where
      by : (b : Bool) → load (if b then completing m o.context (end_of m o).send_queue (request_done (end_of m o).number (taken m o r) status.Flush 0 ∷ []) else in_end m o (with_request (taken m o r))) d q ≤ load m d q + one_more o.context (end_of m o).send_queue d q
      by true = at_context _ (end_of m o).send_queue (completing_accounts m o.context (end_of m o).send_queue (request_done (end_of m o).number (taken m o r) status.Flush 0 ∷ []) q) (completing_elsewhere m o.context (end_of m o).send_queue (request_done (end_of m o).number (taken m o r) status.Flush 0 ∷ []) q d)
      by false =
          let a = end_accounts m o (with_request (taken m o r) (end_of m o)) q in
          let b = request_more q (end_of m o) (taken m o r) in
          at_context _ (end_of m o).send_queue (omega (arith, a, b)) (end_elsewhere m o (with_request (taken m o r) (end_of m o)) q d)

  received_load : (v : Receive) → load (received m o v) d q ≤ load m d q + one_more o.context (end_of m o).receive_queue d q
  unfolding received
  received_load v = by (end_of m o).ended
    where
      by : (b : Bool) → load (if b then completing m o.context (end_of m o).receive_queue (receive_done (end_of m o).number v wc_kinds.Recv status.Flush 0 None ∷ []) else in_end m o (with_receive v)) d q ≤ load m d q + one_more o.context (end_of m o).receive_queue d q
      by true = at_context _ (end_of m o).receive_queue (completing_accounts m o.context (end_of m o).receive_queue (receive_done (end_of m o).number v wc_kinds.Recv status.Flush 0 None ∷ []) q) (completing_elsewhere m o.context (end_of m o).receive_queue (receive_done (end_of m o).number v wc_kinds.Recv status.Flush 0 None ∷ []) q d)
      by false =
          let a = end_accounts m o (with_receive v (end_of m o)) q in
          let b = receive_more q (end_of m o) v in
          at_context _ (end_of m o).receive_queue (omega (arith, a, b)) (end_elsewhere m o (with_receive v (end_of m o)) q d)

polled_load : (m : Machine) (o : ObjName) (most : ℕ) (d q : Name) → load (polled m o most) d q ≤ load m d q
unfolding polled with_queue with_queue_in queue_of context_of with_context reserved
polled_load m o most d q =
    related (λ (a b : Context). load_in q a ≤ load_in q b) (λ a. omega arith) (λ z. z.name) (no_context o.context) (no_context d) o.context d _ m.contexts refl
    (let fewer = related (λ (a b : CompletionQueue). length a.entries ≤ length b.entries) (λ a. omega arith) (λ z. z.name) no_queue no_queue o.name q
    (record (named (λ z. z.name) no_queue o.name (context_of m o.context).queues) { entries = drop most (named (λ z. z.name) no_queue o.name (context_of m o.context).queues).entries }) (context_of m o.context).queues refl
    (omega (arith, length-drop most (named (λ z. z.name) no_queue o.name (context_of m o.context).queues).entries)) in
    omega (arith, fewer))

-- ---- a posting that is not refused finds room

receive_last : (a b c d e f : Bool) → first_cause (cause refusals.NoSuch a ∷ cause refusals.NoSuch b ∷ cause refusals.TooLong c ∷ cause refusals.BadKey d ∷ cause refusals.RqFull e ∷ cause refusals.CqFull f ∷ []) ≡ None → f ≡ false
unfolding first_cause
receive_last true b c d e f h = cc
receive_last false true c d e f h = cc
receive_last false false true d e f h = cc
receive_last false false false true e f h = cc
receive_last false false false false true f h = cc
receive_last false false false false false true h = cc
receive_last false false false false false false h = refl

request_last : (a b c d e f g : Bool) →
    first_cause (cause refusals.NoSuch a ∷ cause refusals.NoSuch b ∷ cause refusals.BadState c ∷ cause refusals.TooLong d ∷ cause refusals.BadKey e ∷ cause refusals.SqFull f ∷ cause refusals.CqFull g ∷ []) ≡ None → g ≡ false
unfolding first_cause
request_last true b c d e f g h = cc
request_last false true c d e f g h = cc
request_last false false true d e f g h = cc
request_last false false false true e f g h = cc
request_last false false false false true f g h = cc
request_last false false false false false true g h = cc
request_last false false false false false false true h = cc
request_last false false false false false false false h = refl

module _ (m : Machine) (d q : Name) (most : ℕ) (capacity : (queue_of m d q).capacity ≡ most) (within : load m d q ≤ most) where
  -- one more, where the queue is not full
  one_fits : (c sq : Name) → is_full m c sq ≡ false → load m d q + one_more c sq d q ≤ most
  unfolding is_full queue_of
  one_fits c sq room = by (name_tells c d) (name_tells sq q)
    where
      by : ((bytes_eq c d ≡ true) × (c ≡ d)) ⊎ ((bytes_eq c d ≡ false) × (c ≢ d)) → ((bytes_eq sq q ≡ true) × (sq ≡ q)) ⊎ ((bytes_eq sq q ≡ false) × (sq ≢ q)) → load m d q + one_more c sq d q ≤ most
      by (inl s) (inl t) =
          let here : is_full m d q ≡ false = subst (λ (n : Name). is_full m d n ≡ false) t.1 (subst (λ (n : Name). is_full m n sq ≡ false) s.1 room) in
          let less = leb-false (queue_of m d q).capacity (length (queue_of m d q).entries + reserved (context_of m d) q) here in
          rw (s.0, t.0) (omega (arith, less, capacity))
      by (inl s) (inr t) = rw (s.0, t.0) (omega (arith, within))
      by (inr s) t = rw (s.0) (omega (arith, within))

  done_room : (v : Verb) (given : ℕ) → IsVerbOfWork v → refusal_of m v ≡ None → load (done m v given) d q ≤ most
  unfolding stored
  done_room (verbs.Store o address bytes) given t e = subst (λ (n : ℕ). n ≤ most) (sym (regions_load m o.context (replaced (λ r. r.name) o.name (overwritten (region_of m o) address bytes) (regions_of m o.context)) d q)) within
  done_room (verbs.Load o address count) given t e = within
  done_room (verbs.PostSend o r) given t e = let more = posted_load m o d q r in let fits = one_fits o.context (end_of m o).send_queue (request_last _ _ _ _ _ _ _ e) in omega (arith, more, fits)
  done_room (verbs.PostRecv o v) given t e = let more = received_load m o d q v in let fits = one_fits o.context (end_of m o).receive_queue (receive_last _ _ _ _ _ _ e) in omega (arith, more, fits)
  done_room (verbs.Poll o count) given t e = let less = polled_load m o count d q in omega (arith, less, within)
  done_room v given t e = absurd t

  pub verb_room : (v : Verb) (given : ℕ) → IsVerbOfWork v → load (after_verb m v given) d q ≤ most
  verb_room v given t = by (refusal_of m v) refl
    where
      by : (r : Option Refusal) → refusal_of m v ≡ r → load (after_answer r m v given) d q ≤ most
      by (Some r) e = within
      by None e = done_room v given t e
