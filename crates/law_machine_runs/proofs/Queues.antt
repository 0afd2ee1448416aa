-- A step of the machine leaves a completion queue as it is, or may change it.
use Rattle.std.proofs.Common.{◌≡◌, ◌⊎◌, ℕ, List, [], ◌∷◌, ◌++◌, true, false, Bool, refl, sym, ap, ◌∙◌, subst, inl, inr}
use Rattle.std.specs.Prelude.{Option, Some, None, drop, if◌then◌else◌, slice_get, ◌==◌}
use Rattle.rdma_types.specs.declared.names.Name.{Name}
use Rattle.rdma_types.specs.declared.names.ObjName.{ObjName}
use Rattle.rdma_types.specs.declared.requests.Completion.{Completion}
use Rattle.rdma_types.specs.declared.requests.Receive.{Receive}
use Rattle.rdma_types.specs.declared.requests.Request.{Request}
use Rattle.rdma_types.specs.declared.requests.Terms.{Terms}
use Rattle.rdma_types.specs.declared.requests.WcKind.TheVariants as wc_kinds
use Rattle.rdma_types.specs.declared.requests.WcStatus.{WcStatus}
use Rattle.rdma_types.specs.declared.requests.WcStatus.TheVariants as statuses
use Rattle.rdma_types.specs.declared.answers.Refusal.{Refusal}
use Rattle.rdma_types.specs.declared.answers.RefusalReason.{RefusalReason}
use Rattle.rdma_types.specs.declared.verbs.Verb.{Verb}
use Rattle.rdma_types.specs.declared.verbs.Verb.TheVariants as verbs
use Rattle.rdma_types.specs.Kinds.{receive_done, request_done}
use Rattle.rdma_types.specs.Lists.{named}
use Rattle.rdma_types.specs.Objects.{CompletionQueue, no_queue}
use Rattle.packetless_machine.specs.declared.reply.Reply.{Reply}
use Rattle.packetless_machine.specs.declared.reply.Reply.TheVariants.{Finished, OldValue, Denied}
use Rattle.packetless_machine.specs.declared.steps.MachineStep.{MachineStep}
use Rattle.packetless_machine.specs.declared.steps.MachineStep.TheVariants as steps
use Rattle.packetless_machine.specs.Tables.{replaced}
use Rattle.packetless_machine.specs.Machine.{Machine, Context, End, no_context, context_of, end_of, queue_of, with_queues, with_queue, with_queue_in, completing, completed, longer, in_end}
use Rattle.packetless_machine.specs.Steps as ideal
use Rattle.packetless_machine.specs.Steps.{acted_with, advanced, arrivals, closed, current, denied, dried_at, ended_with, expired, failed_queues, failed_receives, failed_requests, fills, placing, put_old, receives_of, receiving, refused_entries, refused_queues, refused_receives, success, told_one, untold, waited, with_known}
use Rattle.packetless_machine.specs.Verbs as verbal
use Rattle.packetless_machine.specs.Legal.{effect}
use Rattle.law_simulation.proofs.relation.Tables.{name_or_not}
use Rattle.law_simulation.proofs.runs.Acting.{pushed}
use Rattle.law_machine_runs.specs.Changes.{CompletesInto, IsVerbOfQueue, MayChangePair, MayChangeQueue}
use Rattle.law_machine_runs.proofs.Bytes.{object_is}
use Rattle.law_machine_runs.proofs.Kept.{placing_queues, queues_kept, queues_regions}
use Rattle.law_machine_runs.proofs.Parts.{AreKept, context_cases, context_kept, kept_then, others_found, pushed_found}

abbrev AreQueuesKept : Machine → Machine → Type 0
AreQueuesKept m m' = AreKept (λ x. x.queues) m m'

abbrev by_name : Name → List CompletionQueue → CompletionQueue
by_name n qs = named (λ z. z.name) no_queue n qs

-- ---- lists of queues

-- the queue n stays, or one of the queues of e has that name
abbrev IsOfEnd : End → Name → List CompletionQueue → List CompletionQueue → Type 0
IsOfEnd e n old new = (by_name n new ≡ by_name n old) ⊎ ((e.send_queue ≡ n) ⊎ (e.receive_queue ≡ n))

completed_found : (q : Name) (more : List Completion) (qs : List CompletionQueue) (n : Name) → (by_name n (completed q more qs) ≡ by_name n qs) ⊎ (q ≡ n)
unfolding completed
completed_found q more qs n = elim (name_or_not n q) [
  | inl is ↦ inr (sym is)
  | inr far ↦ inl (others_found (λ z. z.name) no_queue no_queue q n (longer (by_name q qs) more) qs far refl)
]

into_sends : (e : End) (more : List Completion) (qs : List CompletionQueue) (n : Name) → IsOfEnd e n qs (completed e.send_queue more qs)
into_sends e more qs n = elim (completed_found e.send_queue more qs n) [ inl same ↦ inl same | inr is ↦ inr (inl is) ]

into_receives : (e : End) (more : List Completion) (qs : List CompletionQueue) (n : Name) → IsOfEnd e n qs (completed e.receive_queue more qs)
into_receives e more qs n = elim (completed_found e.receive_queue more qs n) [ inl same ↦ inl same | inr is ↦ inr (inr is) ]

then_of : (e : End) (n : Name) (a b c : List CompletionQueue) → IsOfEnd e n a b → IsOfEnd e n b c → IsOfEnd e n a c
then_of e n a b c (inl h) (inl g) = inl (g ∙ h)
then_of e n a b c (inr h) g = inr h
then_of e n a b c (inl h) (inr g) = inr g

failed_of : (e : End) (status : WcStatus) (vs : List Receive) (qs : List CompletionQueue) (n : Name) → IsOfEnd e n qs (failed_queues e status vs qs)
unfolding failed_queues
failed_of e status vs qs n =
    let first : List CompletionQueue = completed e.send_queue (failed_requests e.number status (untold e)) qs in
    then_of e n qs first _ (into_sends e (failed_requests e.number status (untold e)) qs n) (into_receives e (failed_receives e.number vs) first n)

refused_of : (x : End) (why : RefusalReason) (qs : List CompletionQueue) (n : Name) → IsOfEnd x n qs (refused_queues x why qs)
unfolding refused_queues
refused_of x why qs n =
    let first : List CompletionQueue = completed x.receive_queue (refused_entries x why) qs in
    then_of x n qs first _ (into_receives x (refused_entries x why) qs n) (failed_of x statuses.Flush (refused_receives x why) first n)

-- ---- the machine

-- the queue o stays, or p puts its completions there
abbrev IsInto : Machine → Machine → ObjName → ObjName → Type 0
IsInto m m' p o = (queue_of m' o.context o.name ≡ queue_of m o.context o.name) ⊎ CompletesInto m p o

same_queue : (m m' : Machine) → AreQueuesKept m m' → (o : ObjName) → queue_of m' o.context o.name ≡ queue_of m o.context o.name
unfolding queue_of
same_queue m m' same o = ap (by_name o.name) (same o.context)

-- the queues of one context become others
module _ (m m' : Machine) (same : AreQueuesKept m m') (c : Name) (qs : List CompletionQueue) (o : ObjName) where
  pub queues_there : (P : Type 0) → (o.context ≡ c → (by_name o.name qs ≡ by_name o.name (context_of m c).queues) ⊎ P) → (queue_of (with_queues m' c qs) o.context o.name ≡ queue_of m o.context o.name) ⊎ P
  unfolding with_queues queue_of
  queues_there P h = elim (context_cases m' c (record (context_of m' c) { queues = qs }) o.context refl) [
    | inl kept ↦ inl (ap (λ (x : Context). by_name o.name x.queues) kept ∙ ap (by_name o.name) (same o.context))
    | inr here ↦ elim (h here.0) [
      | inl kept ↦ inl (ap (λ (x : Context). by_name o.name x.queues) here.1 ∙ (kept ∙ ap (λ j. by_name o.name (context_of m j).queues) (sym here.0)))
      | inr p ↦ inr p
    ]
  ]

  -- .. by those of an end p of that context
  pub end_queues : (p : ObjName) → p.context ≡ c → ((n : Name) → IsOfEnd (end_of m p) n (context_of m c).queues qs) → IsInto m (with_queues m' c qs) p o
  end_queues p is h = queues_there (CompletesInto m p o) (λ there. elim (h o.name) [ inl kept ↦ inl kept | inr one ↦ inr (record { context = is ∙ sym there; queue = one }) ])

completing_is : (m : Machine) (c q : Name) (more : List Completion) → completing m c q more ≡ with_queues m c (completed q more (context_of m c).queues)
unfolding completing with_queue with_queue_in with_queues queue_of completed
completing_is m c q more = refl

-- completions of p
pub completing_sends : (m : Machine) (p : ObjName) (more : List Completion) (o : ObjName) → IsInto m (completing m p.context (end_of m p).send_queue more) p o
completing_sends m p more o = subst (λ z. IsInto m z p o) (sym (completing_is m p.context (end_of m p).send_queue more)) (end_queues m m (λ k. refl) p.context _ o p refl (into_sends (end_of m p) more (context_of m p.context).queues))

completing_receives : (m : Machine) (p : ObjName) (more : List Completion) (o : ObjName) → IsInto m (completing m p.context (end_of m p).receive_queue more) p o
completing_receives m p more o = subst (λ z. IsInto m z p o) (sym (completing_is m p.context (end_of m p).receive_queue more)) (end_queues m m (λ k. refl) p.context _ o p refl (into_receives (end_of m p) more (context_of m p.context).queues))

then_kept : (m m' m'' : Machine) (p o : ObjName) → AreQueuesKept m' m'' → IsInto m m' p o → IsInto m m'' p o
then_kept m m' m'' p o same (inl h) = inl (same_queue m' m'' same o ∙ h)
then_kept m m' m'' p o same (inr h) = inr h

-- ---- the inner steps

ended_into : (m : Machine) (q : ObjName) (status : WcStatus) (o : ObjName) → IsInto m (ended_with m q status) q o
unfolding ended_with
ended_into m q status o = end_queues m (in_end m q closed) (queues_kept m q (closed (end_of m q))) q.context _ o q refl (failed_of (end_of m q) status (receives_of (end_of m q)) (context_of m q.context).queues)

run_into : (m : Machine) (q : ObjName) (n : ℕ) (o : ObjName) → IsInto m (ideal.run m q n) (end_of m q).peer o
unfolding ideal.run ideal.run_towards
run_into m q n o =
    let e : End = end_of m q in
    let x : End = ideal.peer_of m q in
    let first : Machine = in_end m q (λ y. advanced y n) in
    let put : Machine = placing first e.peer.context e x (ideal.next_bytes e n) in
    let last : Machine = in_end put e.peer (receiving (current e).request.shape (fills e n)) in
    end_queues m last
    (kept_then (λ z. z.queues) m put last (kept_then (λ z. z.queues) m first put (queues_kept m q (advanced e n)) (placing_queues first e.peer.context e x (ideal.next_bytes e n))) (queues_kept put e.peer _))
    e.peer.context _ o e.peer refl (into_receives x (arrivals e n x) (context_of m e.peer.context).queues)

refuse_into : (m : Machine) (q : ObjName) (why : RefusalReason) (o : ObjName) → IsInto m (ideal.refuse m q why) (end_of m q).peer o
unfolding ideal.refuse ideal.refuse_at
refuse_into m q why o =
    let e : End = end_of m q in
    let first : Machine = in_end m q (λ y. denied y why) in
    let last : Machine = in_end first e.peer closed in
    end_queues m last (kept_then (λ z. z.queues) m first last (queues_kept m q (denied e why)) (queues_kept first e.peer _)) e.peer.context _ o e.peer refl (refused_of (ideal.peer_of m q) why (context_of m e.peer.context).queues)

old_queues : (m : Machine) (c : Name) (r : Request) (a : Option Reply) → AreQueuesKept m (put_old m c r a)
unfolding put_old
old_queues m c r None k = refl
old_queues m c r (Some Finished) k = refl
old_queues m c r (Some (OldValue value)) k = queues_regions m c _ k
old_queues m c r (Some (Denied why)) k = refl

tell_into : (m : Machine) (q o : ObjName) → IsInto m (ideal.tell m q) q o
unfolding ideal.tell ideal.tell_at
tell_into m q o =
    let e : End = end_of m q in
    let noted : Machine = completing m q.context e.send_queue (success e (ideal.front e)) in
    let put : Machine = put_old noted q.context (ideal.front e).request (slice_get e.answers e.told) in
    then_kept m noted (ideal.tell m q) q o (kept_then (λ z. z.queues) noted put _ (old_queues noted q.context _ _) (queues_kept put q (told_one (end_of put q)))) (completing_sends m q (success e (ideal.front e)) o)

expire_into : (m : Machine) (q o : ObjName) → IsInto m (ideal.expire m q) q o
unfolding ideal.expire
expire_into m q o = by ((end_of m q).spent == (end_of m q).retry)
  where
    by : (b : Bool) → IsInto m (if b then ended_with m q statuses.RetryExceeded else in_end m q expired) q o
    by true = ended_into m q statuses.RetryExceeded o
    by false = inl (same_queue m _ (queues_kept m q (expired (end_of m q))) o)

wait_into : (m : Machine) (q o : ObjName) → IsInto m (ideal.wait m q) q o
unfolding ideal.wait
wait_into m q o = by ((end_of m q).rnr == 7) ((end_of m q).waits == (end_of m q).rnr)
  where
    by : (a b : Bool) → IsInto m (if a then m else if b then ended_with m q statuses.RnrExceeded else in_end m q waited) q o
    by true b = inl refl
    by false true = ended_into m q statuses.RnrExceeded o
    by false false = inl (same_queue m _ (queues_kept m q (waited (end_of m q))) o)

bounce_into : (m : Machine) (q o : ObjName) → IsInto m (ideal.bounce m q) q o
unfolding ideal.bounce
bounce_into m q o = ended_into m q _ o

atom_queues : (m : Machine) (q : ObjName) → AreQueuesKept m (ideal.atom m q)
unfolding ideal.atom ideal.atom_on
atom_queues m q = kept_then (λ z. z.queues) m _ _ (queues_kept m q _) (queues_regions _ _ _)

turn_queues : (m : Machine) (q : ObjName) → AreQueuesKept m (ideal.read_turn m q)
unfolding ideal.read_turn
turn_queues m q = queues_kept m q _

dry_queues : (m : Machine) (q : ObjName) → AreQueuesKept m (ideal.dried m q)
unfolding ideal.dried
dry_queues m q = queues_kept m q _

offer_queues : (m : Machine) (q : ObjName) (i off n : ℕ) → AreQueuesKept m (ideal.offered m q i off n)
unfolding ideal.offered
offer_queues m q i off n = queues_kept m q _

land_queues : (m : Machine) (q : ObjName) (i : ℕ) → AreQueuesKept m (ideal.landed m q i)
unfolding ideal.landed ideal.land_at
land_queues m q i = kept_then (λ z. z.queues) m _ _ (queues_regions m _ _) (queues_kept _ q _)

know_queues : (m : Machine) (q : ObjName) (bytes : ℕ) → AreQueuesKept m (ideal.knowing m q bytes)
unfolding ideal.knowing
know_queues m q bytes = queues_kept m q _

-- ---- verbs

posted_into : (m : Machine) (s : ObjName) (r : Request) (o : ObjName) → IsInto m (verbal.posted m s r) s o
unfolding verbal.posted
posted_into m s r o = by (end_of m s).ended
  where
    by : (b : Bool) → IsInto m (if b then completing m s.context (end_of m s).send_queue (request_done (end_of m s).number (verbal.taken m s r) statuses.Flush 0 ∷ []) else in_end m s (verbal.with_request (verbal.taken m s r))) s o
    by true = completing_sends m s _ o
    by false = inl (same_queue m _ (queues_kept m s _) o)

received_into : (m : Machine) (s : ObjName) (v : Receive) (o : ObjName) → IsInto m (verbal.received m s v) s o
unfolding verbal.received
received_into m s v o = by (end_of m s).ended
  where
    by : (b : Bool) → IsInto m (if b then completing m s.context (end_of m s).receive_queue (receive_done (end_of m s).number v wc_kinds.Recv statuses.Flush 0 None ∷ []) else in_end m s (verbal.with_receive v)) s o
    by true = completing_receives m s _ o
    by false = inl (same_queue m _ (queues_kept m s _) o)

-- a queue is made, or polled
made_queue : (m : Machine) (s : ObjName) (capacity : ℕ) (o : ObjName) → (queue_of (verbal.made_queue m s capacity) o.context o.name ≡ queue_of m o.context o.name) ⊎ (s ≡ o)
unfolding verbal.made_queue with_queues
made_queue m s capacity o =
    queues_there m m (λ k. refl) s.context ((context_of m s.context).queues ++ record { name = s.name; capacity = capacity; entries = [] } ∷ []) o (s ≡ o)
    (λ there. elim (pushed_found (λ z. z.name) no_queue o.name (record { name = s.name; capacity = capacity; entries = [] }) (context_of m s.context).queues) [
      | inl kept ↦ inl kept
      | inr is ↦ inr (object_is s o (sym there) is)
    ])

polled_queue : (m : Machine) (s : ObjName) (max : ℕ) (o : ObjName) → (queue_of (verbal.polled m s max) o.context o.name ≡ queue_of m o.context o.name) ⊎ (s ≡ o)
unfolding verbal.polled with_queue with_queue_in with_queues queue_of
polled_queue m s max o =
    let new : CompletionQueue = record (by_name s.name (context_of m s.context).queues) { entries = drop max (by_name s.name (context_of m s.context).queues).entries } in
    queues_there m m (λ k. refl) s.context (replaced (λ z. z.name) s.name new (context_of m s.context).queues) o (s ≡ o)
    (λ there. elim (name_or_not o.name s.name) [
      | inl is ↦ inr (object_is s o (sym there) (sym is))
      | inr far ↦ inl (others_found (λ z. z.name) no_queue no_queue s.name o.name new (context_of m s.context).queues far refl)
    ])

connected_queues : (m : Machine) (one two : ObjName) (terms : Terms) → AreQueuesKept m (verbal.connected_pair m one two terms)
unfolding verbal.connected_pair
connected_queues m one two terms =
    let first : Machine = in_end m one (verbal.joined two terms) in
    kept_then (λ z. z.queues) m first (in_end first two (verbal.joined one terms)) (queues_kept m one (verbal.joined two terms (end_of m one))) (queues_kept first two (verbal.joined one terms (end_of first two)))

-- the verb is none of a queue, and posts nothing
abbrev IsQuiet : Verb → Type 0
IsQuiet (verbs.MakeCq name capacity) = ⊥
IsQuiet (verbs.PostSend name request) = ⊥
IsQuiet (verbs.PostRecv name receive) = ⊥
IsQuiet (verbs.Poll name max) = ⊥
IsQuiet other = Unit {0}

done_queues : (m : Machine) (v : Verb) (given : ℕ) → IsQuiet v → AreQueuesKept m (verbal.done m v given)
unfolding verbal.with_domain verbal.made_region verbal.made_end verbal.stored context_of
done_queues m (verbs.Context name made) given h k = pushed (λ x. x.queues) (λ x. x.name) (no_context k) k (no_context name) m.contexts refl
done_queues m (verbs.Connect one two terms) given h k = connected_queues m one two terms k
done_queues m (verbs.MakeDomain s) given h k = context_kept (λ z. z.queues) m s.context _ refl refl k
done_queues m (verbs.MakeRegion s domain base count rights) given h k = queues_regions (record m { keys = m.keys ++ given ∷ [] }) s.context _ k
done_queues m (verbs.MakeCq s capacity) given h k = absurd h
done_queues m (verbs.MakeQp s domain send_cq recv_cq send_depth recv_depth) given h k = context_kept (λ z. z.queues) (record m { numbers = m.numbers ++ given ∷ [] }) s.context _ refl refl k
done_queues m (verbs.DropRegion s) given h k = queues_regions m s.context _ k
done_queues m (verbs.Store s address bytes) given h k = queues_regions m s.context _ k
done_queues m (verbs.Load s address count) given h k = refl
done_queues m (verbs.PostSend s r) given h k = absurd h
done_queues m (verbs.PostRecv s v) given h k = absurd h
done_queues m (verbs.Poll s max) given h k = absurd h

-- ---- each step

-- the step may change p, which puts its completions there
into_may : (m m' : Machine) (s : MachineStep) (p o : ObjName) → MayChangePair m s p → IsInto m m' p o → (queue_of m' o.context o.name ≡ queue_of m o.context o.name) ⊎ MayChangeQueue m s o
into_may m m' s p o may (inl same) = inl same
into_may m m' s p o may (inr into) = inr (inr (p, may, into))

verb_may : (m m' : Machine) (s : MachineStep) (o : ObjName) (P : Type 0) → (P → IsVerbOfQueue s o) → (queue_of m' o.context o.name ≡ queue_of m o.context o.name) ⊎ P → (queue_of m' o.context o.name ≡ queue_of m o.context o.name) ⊎ MayChangeQueue m s o
verb_may m m' s o P is (inl same) = inl same
verb_may m m' s o P is (inr p) = inr (inl (is p))

done_queue : (m : Machine) (v : Verb) (given : ℕ) (o : ObjName) → (queue_of (verbal.done m v given) o.context o.name ≡ queue_of m o.context o.name) ⊎ MayChangeQueue m (steps.Verb v given) o
done_queue m (verbs.MakeCq s capacity) given o = verb_may m _ (steps.Verb (verbs.MakeCq s capacity) given) o (s ≡ o) (λ is. is) (made_queue m s capacity o)
done_queue m (verbs.Poll s max) given o = verb_may m _ (steps.Verb (verbs.Poll s max) given) o (s ≡ o) (λ is. is) (polled_queue m s max o)
done_queue m (verbs.PostSend s r) given o = into_may m _ (steps.Verb (verbs.PostSend s r) given) s o refl (posted_into m s r o)
done_queue m (verbs.PostRecv s v) given o = into_may m _ (steps.Verb (verbs.PostRecv s v) given) s o refl (received_into m s v o)
done_queue m (verbs.Context name made) given o = inl (same_queue m _ (done_queues m (verbs.Context name made) given tt) o)
done_queue m (verbs.Connect one two terms) given o = inl (same_queue m _ (done_queues m (verbs.Connect one two terms) given tt) o)
done_queue m (verbs.MakeDomain s) given o = inl (same_queue m _ (done_queues m (verbs.MakeDomain s) given tt) o)
done_queue m (verbs.MakeRegion s domain base count rights) given o = inl (same_queue m _ (done_queues m (verbs.MakeRegion s domain base count rights) given tt) o)
done_queue m (verbs.MakeQp s domain send_cq recv_cq send_depth recv_depth) given o = inl (same_queue m _ (done_queues m (verbs.MakeQp s domain send_cq recv_cq send_depth recv_depth) given tt) o)
done_queue m (verbs.DropRegion s) given o = inl (same_queue m _ (done_queues m (verbs.DropRegion s) given tt) o)
done_queue m (verbs.Store s address bytes) given o = inl (same_queue m _ (done_queues m (verbs.Store s address bytes) given tt) o)
done_queue m (verbs.Load s address count) given o = inl (same_queue m _ (done_queues m (verbs.Load s address count) given tt) o)

verb_queue : (m : Machine) (v : Verb) (given : ℕ) (r : Option Refusal) (o : ObjName) → (queue_of (verbal.after_answer r m v given) o.context o.name ≡ queue_of m o.context o.name) ⊎ MayChangeQueue m (steps.Verb v given) o
verb_queue m v given None o = done_queue m v given o
verb_queue m v given (Some r) o = inl refl

pub step_queue : (m : Machine) (s : MachineStep) (o : ObjName) → (queue_of (effect m s) o.context o.name ≡ queue_of m o.context o.name) ⊎ MayChangeQueue m s o
step_queue m (steps.Verb v given) o = verb_queue m v given (verbal.refusal_of m v) o
step_queue m (steps.Run q n) o = into_may m _ (steps.Run q n) (end_of m q).peer o (inr refl) (run_into m q n o)
step_queue m (steps.Atom q) o = inl (same_queue m _ (atom_queues m q) o)
step_queue m (steps.ReadTurn q) o = inl (same_queue m _ (turn_queues m q) o)
step_queue m (steps.Refuse q why) o = into_may m _ (steps.Refuse q why) (end_of m q).peer o (inr refl) (refuse_into m q why o)
step_queue m (steps.Dry q) o = inl (same_queue m _ (dry_queues m q) o)
step_queue m (steps.Offer q i off n) o = inl (same_queue m _ (offer_queues m q i off n) o)
step_queue m (steps.Land q i) o = inl (same_queue m _ (land_queues m q i) o)
step_queue m (steps.Known q bytes) o = inl (same_queue m _ (know_queues m q bytes) o)
step_queue m (steps.Tell q) o = into_may m _ (steps.Tell q) q o refl (tell_into m q o)
step_queue m (steps.Expire q) o = into_may m _ (steps.Expire q) q o refl (expire_into m q o)
step_queue m (steps.Wait q) o = into_may m _ (steps.Wait q) q o refl (wait_into m q o)
step_queue m (steps.Bounce q) o = into_may m _ (steps.Bounce q) q o refl (bounce_into m q o)
