-- What each step of the machine adds to the entries of queues: completions with the usual statuses, apart from a last expiry and a last wait.
use Rattle.std.proofs.Common.{arith, ◌≡◌, ◌≢◌, ℕ, List, [], ◌∷◌, ◌++◌, drop, true, false, Bool, refl, sym, ap, ◌∙◌, subst, inl, inr}
use Rattle.std.specs.Prelude.{◌⊎◌, All, Option, Some, None, if◌then◌else◌, ◌==◌}
use Rattle.std.proofs.lemmas.Bool.Decides.{nat_tests, eqb_tells}
use Rattle.std.proofs.lemmas.List.Elements.{All-nil, All-cons}
use Rattle.rdma_types.specs.declared.names.Name.{Name}
use Rattle.rdma_types.specs.declared.names.ObjName.{ObjName}
use Rattle.rdma_types.specs.declared.requests.Completion.{Completion}
use Rattle.rdma_types.specs.declared.requests.Receive.{Receive}
use Rattle.rdma_types.specs.declared.requests.Request.{Request}
use Rattle.rdma_types.specs.declared.requests.WcKind.TheVariants as wc_kinds
use Rattle.rdma_types.specs.declared.requests.WcStatus.{WcStatus}
use Rattle.rdma_types.specs.declared.requests.WcStatus.TheVariants as statuses
use Rattle.rdma_types.specs.declared.answers.Refusal.{Refusal}
use Rattle.rdma_types.specs.declared.answers.RefusalReason.{RefusalReason}
use Rattle.rdma_types.specs.declared.answers.RefusalReason.TheVariants as whys
use Rattle.rdma_types.specs.declared.verbs.Verb.{Verb}
use Rattle.rdma_types.specs.declared.verbs.Verb.TheVariants as verbs
use Rattle.rdma_types.specs.Kinds.{is_send, kind_of, receive_done, request_done, size_of}
use Rattle.rdma_types.specs.Lists.{named}
use Rattle.rdma_types.specs.Objects.{CompletionQueue, Posted, Region, no_queue}
use Rattle.packetless_machine.specs.declared.reply.Reply.{Reply}
use Rattle.packetless_machine.specs.declared.reply.Reply.TheVariants.{Finished, OldValue, Denied}
use Rattle.packetless_machine.specs.declared.steps.MachineStep.{MachineStep}
use Rattle.packetless_machine.specs.declared.steps.MachineStep.TheVariants as steps
use Rattle.packetless_machine.specs.Tables.{replaced}
use Rattle.packetless_machine.specs.Machine.{Machine, Context, End, no_context, new_end, context_of, end_of, queue_of, with_context, with_end, with_end_in, with_regions, with_queues, with_queue, with_queue_in, completing, completed, longer, in_end}
use Rattle.packetless_machine.specs.Steps as ideal
use Rattle.packetless_machine.specs.Steps.{arrivals, fills, received_whole, used_by, placing, put_in_receive, put_in_range, receive_for, current, run, run_towards, atom, atom_on, read_turn, refuse, refuse_at, refused_queues, refused_entries, too_long, dried, offered, landed, land_at, knowing, tell, tell_at, put_old, success, expire, expired, ended_with, failed_queues, failed_requests, failed_receives, wait, waited, bounce, bounce_status}
use Rattle.packetless_machine.specs.Verbs as verbal
use Rattle.packetless_machine.specs.Verbs.{refusal_of, after_answer, done}
use Rattle.packetless_machine.specs.Legal.{effect}
use Rattle.law_simulation.specs.Spent.{IsLastExpiry, IsLastWait}
use Rattle.law_simulation.proofs.runs.Acting.{related, pushed}

-- ---- queues of a machine that stay

abbrev pub AreQueuesKept : Machine → Machine → Type 0
AreQueuesKept m m' = (c : Name) → (context_of m' c).queues ≡ (context_of m c).queues

kept_then : (a b c : Machine) → AreQueuesKept a b → AreQueuesKept b c → AreQueuesKept a c
kept_then a b c first second n = second n ∙ first n

context_kept : (m : Machine) (c : Name) (x : Context) → x.name ≡ (context_of m c).name → x.queues ≡ (context_of m c).queues → AreQueuesKept m (with_context m c x)
unfolding context_of with_context
context_kept m c x n h k = related (λ a b. a.queues ≡ b.queues) (λ a. refl) (λ z. z.name) (no_context c) (no_context k) c k x m.contexts n h

pub end_kept : (m : Machine) (o : ObjName) (e : End) → AreQueuesKept m (with_end m o e)
unfolding with_end with_end_in
end_kept m o e = context_kept m o.context _ refl refl

regions_kept : (m : Machine) (c : Name) (rs : List Region) → AreQueuesKept m (with_regions m c rs)
unfolding with_regions
regions_kept m c rs = context_kept m c _ refl refl

receive_kept : (m : Machine) (c : Name) (into : ℕ) (new : List ℕ) (v : Option Receive) → AreQueuesKept m (put_in_receive m c into new v)
unfolding put_in_receive
receive_kept m c into new None k = refl
receive_kept m c into new (Some v) k = regions_kept m c _ k

placing_kept : (m : Machine) (c : Name) (e x : End) (new : List ℕ) → AreQueuesKept m (placing m c e x new)
unfolding placing
placing_kept m c e x new k = by (is_send (kind_of (current e)))
  where
    by : (b : Bool) → (context_of (if b then put_in_receive m c e.into new (receive_for x) else put_in_range m c e.into new (current e)) k).queues ≡ (context_of m k).queues
    by true = receive_kept m c e.into new (receive_for x) k
    by false = regions_kept m c _ k

old_kept : (m : Machine) (c : Name) (r : Request) (a : Option Reply) → AreQueuesKept m (put_old m c r a)
unfolding put_old
old_kept m c r None k = refl
old_kept m c r (Some Finished) k = refl
old_kept m c r (Some (OldValue value)) k = regions_kept m c _ k
old_kept m c r (Some (Denied why)) k = refl

made_kept : (m : Machine) (o : ObjName) (domain send_cq recv_cq : Name) (send_depth recv_depth given : ℕ) → AreQueuesKept m (verbal.made_end m o domain send_cq recv_cq send_depth recv_depth given)
unfolding verbal.made_end context_of with_context
made_kept m o domain send_cq recv_cq send_depth recv_depth given k =
    related (λ a b. a.queues ≡ b.queues) (λ a. refl) (λ z. z.name) (no_context o.context) (no_context k) o.context k
    (record (context_of m o.context) { ends = (context_of m o.context).ends ++ new_end o given domain send_cq recv_cq send_depth recv_depth ∷ [] }) m.contexts refl refl

keys_kept : (m : Machine) (keys : List ℕ) → AreQueuesKept m (record m { keys = keys })
unfolding context_of
keys_kept m keys k = refl

pushed_kept : (m : Machine) (name : Name) → AreQueuesKept m (record m { contexts = m.contexts ++ no_context name ∷ [] })
unfolding context_of
pushed_kept m name k = pushed (λ x. x.queues) (λ x. x.name) (no_context k) k (no_context name) m.contexts refl

-- ---- tests of numbers

pub eq : (a b : ℕ) → (a == b) ≡ true → a ≡ b
eq a b t = grind (arith, nat_tests, eqb_tells a b, t)

ne : (a b : ℕ) → (a == b) ≡ false → a ≢ b
ne a b t h = grind (arith, nat_tests, eqb_tells a b, t, h)

-- ---- what a relation between the entries before and after a step has to admit

-- entries that stay, that come in turn, that are added and that are polled; and the statuses that the usual steps add
pub record Admits (New : List Completion → List Completion → Type 0) (IsUsual : WcStatus → Type 0) : Type 0 where
  pub same : (xs : List Completion) → New xs xs
  pub turn : (a b c : List Completion) → New a b → New b c → New a c
  pub more : (old more : List Completion) → All (λ x. IsUsual x.status) more → New old (old ++ more)
  pub polled : (n : ℕ) (xs : List Completion) → New xs (drop n xs)
  pub success : IsUsual statuses.Success
  pub flush : IsUsual statuses.Flush
  pub length : IsUsual statuses.LocalLength
  pub invalid : IsUsual statuses.RemoteInvalid
  pub access : IsUsual statuses.RemoteAccess

-- a step of this kind adds a usual status, or is one that is told apart
abbrev pub IsUsualUnless : Type 0 → (Machine → MachineStep → Type 0) → (Machine → MachineStep → Type 0) → Type 0
IsUsualUnless Usual IsKind IsLast = (m : Machine) (s : MachineStep) → IsKind m s → Usual ⊎ IsLast m s

module _ (New : List Completion → List Completion → Type 0) (IsUsual : WcStatus → Type 0) (admits : Admits New IsUsual) where
  abbrev AreUsual : List Completion → Type 0
  AreUsual xs = All (λ x. IsUsual x.status) xs

  abbrev NewIn : List CompletionQueue → List CompletionQueue → Type 0
  NewIn qs qs' = (k : Name) → New (named (λ z. z.name) no_queue k qs).entries (named (λ z. z.name) no_queue k qs').entries

  abbrev pub NewAt : Machine → Machine → Type 0
  NewAt m m' = (c k : Name) → New (queue_of m c k).entries (queue_of m' c k).entries

  as_is : (a b : List Completion) → b ≡ a → New a b
  as_is a b h = subst (New a) (sym h) (admits.same a)

  none_usual : AreUsual []
  none_usual = All-nil (λ x. IsUsual x.status)

  one_usual : (y : Completion) (ys : List Completion) → IsUsual y.status → AreUsual ys → AreUsual (y ∷ ys)
  one_usual y ys usual rest = All-cons (λ x. IsUsual x.status) y ys usual rest

  -- ---- entries of queues

  completed_new : (q : Name) (more : List Completion) (qs : List CompletionQueue) → AreUsual more → NewIn qs (completed q more qs)
  unfolding completed
  completed_new q more qs usual k =
      related (λ a b. New b.entries a.entries) (λ a. admits.same _) (λ z. z.name) no_queue no_queue q k (longer (named (λ z. z.name) no_queue q qs) more) qs refl (admits.more _ more usual)

  context_new : (m : Machine) (c : Name) (x : Context) → x.name ≡ (context_of m c).name → NewIn (context_of m c).queues x.queues → NewAt m (with_context m c x)
  unfolding queue_of context_of with_context
  context_new m c x n h c' k =
      related (λ a b. New (named (λ z. z.name) no_queue k b.queues).entries (named (λ z. z.name) no_queue k a.queues).entries) (λ a. admits.same _) (λ z. z.name) (no_context c) (no_context c') c c' x m.contexts n (h k)

  kept_new : (m m' : Machine) → AreQueuesKept m m' → NewAt m m'
  unfolding queue_of
  kept_new m m' same c k = as_is _ _ (ap (λ qs. (named (λ z. z.name) no_queue k qs).entries) (same c))

  queues_new : (m m' : Machine) (c : Name) (qs : List CompletionQueue) → AreQueuesKept m m' → NewIn (context_of m c).queues qs → NewAt m (with_queues m' c qs)
  unfolding with_queues
  queues_new m m' c qs same h c' k =
      admits.turn _ _ _ (kept_new m m' same c' k) (context_new m' c (record (context_of m' c) { queues = qs }) refl (subst (λ z. NewIn z qs) (sym (same c)) h) c' k)

  completing_new : (m : Machine) (c q : Name) (more : List Completion) → AreUsual more → NewAt m (completing m c q more)
  unfolding completing with_queue with_queue_in queue_of
  completing_new m c q more usual =
      context_new m c (record (context_of m c) { queues = replaced (λ z. z.name) q (longer (named (λ z. z.name) no_queue q (context_of m c).queues) more) (context_of m c).queues }) refl
      (λ k. related (λ a b. New b.entries a.entries) (λ a. admits.same _) (λ z. z.name) no_queue no_queue q k (longer (named (λ z. z.name) no_queue q (context_of m c).queues) more) (context_of m c).queues refl (admits.more _ more usual))

  polled_new : (m : Machine) (cq : ObjName) (max : ℕ) → NewAt m (verbal.polled m cq max)
  unfolding verbal.polled with_queue with_queue_in queue_of
  polled_new m cq max =
      context_new m cq.context
      (record (context_of m cq.context) { queues = replaced (λ z. z.name) cq.name (record (named (λ z. z.name) no_queue cq.name (context_of m cq.context).queues) { entries = drop max (named (λ z. z.name) no_queue cq.name (context_of m cq.context).queues).entries }) (context_of m cq.context).queues })
      refl
      (λ k. related (λ a b. New b.entries a.entries) (λ a. admits.same _) (λ z. z.name) no_queue no_queue cq.name k (record (named (λ z. z.name) no_queue cq.name (context_of m cq.context).queues) { entries = drop max (named (λ z. z.name) no_queue cq.name (context_of m cq.context).queues).entries }) (context_of m cq.context).queues refl
      (admits.polled max _))

  queue_made : (m : Machine) (o : ObjName) (capacity : ℕ) → NewAt m (verbal.made_queue m o capacity)
  unfolding verbal.made_queue
  queue_made m o capacity =
      context_new m o.context _ refl
      (λ k. as_is _ _ (pushed (λ z. z.entries) (λ z. z.name) no_queue k (record { name = o.name; capacity = capacity; entries = [] }) (context_of m o.context).queues refl))

  -- ---- an end fails

  requests_usual : (number : ℕ) (status : WcStatus) (rs : List Posted) → IsUsual status → AreUsual (failed_requests number status rs)
  unfolding failed_requests request_done
  requests_usual number status [] usual = none_usual
  requests_usual number status (r ∷ rs) usual = one_usual (request_done number r status 0) (failed_requests number statuses.Flush rs) usual (requests_usual number statuses.Flush rs admits.flush)

  receives_usual : (number : ℕ) (vs : List Receive) → AreUsual (failed_receives number vs)
  unfolding failed_receives receive_done
  receives_usual number [] = none_usual
  receives_usual number (v ∷ vs) = one_usual (receive_done number v wc_kinds.Recv statuses.Flush 0 None) (failed_receives number vs) admits.flush (receives_usual number vs)

  failed_new : (e : End) (status : WcStatus) (vs : List Receive) (qs : List CompletionQueue) → IsUsual status → NewIn qs (failed_queues e status vs qs)
  unfolding failed_queues
  failed_new e status vs qs usual k =
      admits.turn _ _ _ (completed_new e.send_queue (failed_requests e.number status (ideal.untold e)) qs (requests_usual e.number status (ideal.untold e) usual) k)
      (completed_new e.receive_queue (failed_receives e.number vs) (completed e.send_queue (failed_requests e.number status (ideal.untold e)) qs) (receives_usual e.number vs) k)

  ended_new : (m : Machine) (o : ObjName) (status : WcStatus) → IsUsual status → NewAt m (ended_with m o status)
  unfolding ended_with
  ended_new m o status usual = queues_new m (in_end m o ideal.closed) o.context _ (end_kept m o _) (failed_new (end_of m o) status _ (context_of m o.context).queues usual)

  -- ---- the inner steps

  whole_usual : (number : ℕ) (r : Posted) (v : Option Receive) → AreUsual (received_whole number r v)
  unfolding received_whole receive_done
  whole_usual number r None = none_usual
  whole_usual number r (Some v) = one_usual _ [] admits.success none_usual

  arrivals_usual : (e : End) (n : ℕ) (x : End) → AreUsual (arrivals e n x)
  unfolding arrivals
  arrivals_usual e n x = by (fills e n)
    where
      by : (b : Bool) → AreUsual (if b then received_whole x.number (current e) (used_by (current e) x) else [])
      by true = whole_usual x.number (current e) (used_by (current e) x)
      by false = none_usual

  run_new : (m : Machine) (o : ObjName) (n : ℕ) → NewAt m (run m o n)
  unfolding run run_towards
  run_new m o n =
      queues_new m _ (end_of m o).peer.context _ (kept_then m _ _ (end_kept m o _) (kept_then _ _ _ (placing_kept _ _ _ _ _) (end_kept _ _ _)))
      (completed_new (ideal.peer_of m o).receive_queue (arrivals (end_of m o) n (ideal.peer_of m o)) (context_of m (end_of m o).peer.context).queues (arrivals_usual (end_of m o) n (ideal.peer_of m o)))

  atom_new : (m : Machine) (o : ObjName) → NewAt m (atom m o)
  unfolding atom atom_on
  atom_new m o = kept_new m _ (kept_then m _ _ (end_kept m o _) (regions_kept _ _ _))

  turn_new : (m : Machine) (o : ObjName) → NewAt m (read_turn m o)
  unfolding read_turn
  turn_new m o = kept_new m _ (end_kept m o _)

  too_long_usual : (number : ℕ) (v : Option Receive) → AreUsual (too_long number v)
  unfolding too_long receive_done
  too_long_usual number None = none_usual
  too_long_usual number (Some v) = one_usual _ [] admits.length none_usual

  entries_usual : (x : End) (why : RefusalReason) → AreUsual (refused_entries x why)
  unfolding refused_entries
  entries_usual x whys.Invalid = none_usual
  entries_usual x whys.Access = none_usual
  entries_usual x whys.Length = too_long_usual x.number (receive_for x)

  refused_new : (x : End) (why : RefusalReason) (qs : List CompletionQueue) → NewIn qs (refused_queues x why qs)
  unfolding refused_queues
  refused_new x why qs k =
      admits.turn _ _ _ (completed_new x.receive_queue (refused_entries x why) qs (entries_usual x why) k)
      (failed_new x statuses.Flush (ideal.refused_receives x why) (completed x.receive_queue (refused_entries x why) qs) admits.flush k)

  refuse_new : (m : Machine) (o : ObjName) (why : RefusalReason) → NewAt m (refuse m o why)
  unfolding refuse refuse_at
  refuse_new m o why = queues_new m _ (end_of m o).peer.context _ (kept_then m _ _ (end_kept m o _) (end_kept _ _ _)) (refused_new (ideal.peer_of m o) why (context_of m (end_of m o).peer.context).queues)

  dry_new : (m : Machine) (o : ObjName) → NewAt m (dried m o)
  unfolding dried
  dry_new m o = kept_new m _ (end_kept m o _)

  offer_new : (m : Machine) (o : ObjName) (i off n : ℕ) → NewAt m (offered m o i off n)
  unfolding offered
  offer_new m o i off n = kept_new m _ (end_kept m o _)

  land_new : (m : Machine) (o : ObjName) (i : ℕ) → NewAt m (landed m o i)
  unfolding landed land_at
  land_new m o i = kept_new m _ (kept_then m _ _ (regions_kept m _ _) (end_kept _ o _))

  know_new : (m : Machine) (o : ObjName) (bytes : ℕ) → NewAt m (knowing m o bytes)
  unfolding knowing
  know_new m o bytes = kept_new m _ (end_kept m o _)

  success_usual : (e : End) (r : Posted) → AreUsual (success e r)
  unfolding success request_done
  success_usual e r = by r.request.signaled
    where
      by : (b : Bool) → AreUsual (if b then request_done e.number r statuses.Success (size_of r) ∷ [] else [])
      by true = one_usual _ [] admits.success none_usual
      by false = none_usual

  tell_new : (m : Machine) (o : ObjName) → NewAt m (tell m o)
  unfolding tell tell_at
  tell_new m o c k =
      admits.turn _ _ _ (completing_new m o.context (end_of m o).send_queue (success (end_of m o) (ideal.front (end_of m o))) (success_usual (end_of m o) (ideal.front (end_of m o))) c k)
      (kept_new _ _ (kept_then _ _ _ (old_kept _ _ _ _) (end_kept _ o _)) c k)

  bounce_usual : (a : Option Reply) → IsUsual (bounce_status a)
  unfolding bounce_status
  bounce_usual None = admits.invalid
  bounce_usual (Some Finished) = admits.invalid
  bounce_usual (Some (OldValue value)) = admits.invalid
  bounce_usual (Some (Denied whys.Access)) = admits.access
  bounce_usual (Some (Denied whys.Invalid)) = admits.invalid
  bounce_usual (Some (Denied whys.Length)) = admits.invalid

  bounce_new : (m : Machine) (o : ObjName) → NewAt m (bounce m o)
  unfolding bounce
  bounce_new m o = ended_new m o _ (bounce_usual _)

  -- ---- verbs

  posted_new : (m : Machine) (o : ObjName) (r : Request) → NewAt m (verbal.posted m o r)
  unfolding verbal.posted request_done
  posted_new m o r = by (end_of m o).ended
    where
      by : (b : Bool) → NewAt m (if b then completing m o.context (end_of m o).send_queue (request_done (end_of m o).number (verbal.taken m o r) statuses.Flush 0 ∷ []) else in_end m o (verbal.with_request (verbal.taken m o r)))
      by true = completing_new m o.context (end_of m o).send_queue _ (one_usual _ [] admits.flush none_usual)
      by false = kept_new m _ (end_kept m o _)

  received_new : (m : Machine) (o : ObjName) (v : Receive) → NewAt m (verbal.received m o v)
  unfolding verbal.received receive_done
  received_new m o v = by (end_of m o).ended
    where
      by : (b : Bool) → NewAt m (if b then completing m o.context (end_of m o).receive_queue (receive_done (end_of m o).number v wc_kinds.Recv statuses.Flush 0 None ∷ []) else in_end m o (verbal.with_receive v))
      by true = completing_new m o.context (end_of m o).receive_queue _ (one_usual _ [] admits.flush none_usual)
      by false = kept_new m _ (end_kept m o _)

  done_new : (m : Machine) (v : Verb) (given : ℕ) → NewAt m (done m v given)
  unfolding verbal.connected_pair verbal.with_domain verbal.made_region verbal.stored
  done_new m (verbs.Context name made) given = kept_new m _ (pushed_kept m name)
  done_new m (verbs.Connect one two terms) given = kept_new m _ (kept_then m _ _ (end_kept m one _) (end_kept _ two _))
  done_new m (verbs.MakeDomain o) given = kept_new m _ (context_kept m o.context _ refl refl)
  done_new m (verbs.MakeRegion o domain base count rights) given = kept_new m _ (kept_then m _ _ (keys_kept m (m.keys ++ given ∷ [])) (regions_kept (record m { keys = m.keys ++ given ∷ [] }) o.context _))
  done_new m (verbs.MakeCq o capacity) given = queue_made m o capacity
  done_new m (verbs.MakeQp o domain send_cq recv_cq send_depth recv_depth) given = kept_new m _ (made_kept m o (verbal.word_or_none domain) (verbal.word_or_none send_cq) (verbal.word_or_none recv_cq) send_depth recv_depth given)
  done_new m (verbs.DropRegion o) given = kept_new m _ (regions_kept m o.context _)
  done_new m (verbs.Store o address bytes) given = kept_new m _ (regions_kept m o.context _)
  done_new m (verbs.Load o address count) given = λ c k. admits.same _
  done_new m (verbs.PostSend o r) given = posted_new m o r
  done_new m (verbs.PostRecv o v) given = received_new m o v
  done_new m (verbs.Poll cq max) given = polled_new m cq max

  verb_new : (m : Machine) (v : Verb) (given : ℕ) (r : Option Refusal) → NewAt m (after_answer r m v given)
  verb_new m v given None = done_new m v given
  verb_new m v given (Some r) = λ c k. admits.same _

  -- ---- each step

  module _ (IsLast : Machine → MachineStep → Type 0) (expiring : IsUsualUnless (IsUsual statuses.RetryExceeded) IsLastExpiry IsLast) (waiting : IsUsualUnless (IsUsual statuses.RnrExceeded) IsLastWait IsLast) where
    failing_new : (m : Machine) (o : ObjName) (status : WcStatus) (s : MachineStep) → IsUsual status ⊎ IsLast m s → NewAt m (ended_with m o status) ⊎ IsLast m s
    failing_new m o status s h = elim h [ inl usual ↦ inl (ended_new m o status usual) | inr last ↦ inr last ]

    expire_new : (m : Machine) (o : ObjName) → NewAt m (expire m o) ⊎ IsLast m (steps.Expire o)
    unfolding expire
    expire_new m o = by ((end_of m o).spent == (end_of m o).retry) refl
      where
        by : (b : Bool) → ((end_of m o).spent == (end_of m o).retry) ≡ b → NewAt m (if b then ended_with m o statuses.RetryExceeded else in_end m o expired) ⊎ IsLast m (steps.Expire o)
        by true t = failing_new m o statuses.RetryExceeded (steps.Expire o) (expiring m (steps.Expire o) (eq _ _ t))
        by false t = inl (kept_new m _ (end_kept m o _))

    wait_new : (m : Machine) (o : ObjName) → NewAt m (wait m o) ⊎ IsLast m (steps.Wait o)
    unfolding wait
    wait_new m o = by ((end_of m o).rnr == 7) ((end_of m o).waits == (end_of m o).rnr) refl refl
      where
        by : (a b : Bool) → ((end_of m o).rnr == 7) ≡ a → ((end_of m o).waits == (end_of m o).rnr) ≡ b → NewAt m (if a then m else if b then ended_with m o statuses.RnrExceeded else in_end m o waited) ⊎ IsLast m (steps.Wait o)
        by true b s t = inl (λ c k. admits.same _)
        by false true s t = failing_new m o statuses.RnrExceeded (steps.Wait o) (waiting m (steps.Wait o) (ne _ _ s, eq _ _ t))
        by false false s t = inl (kept_new m _ (end_kept m o _))

    pub step_new : (m : Machine) (s : MachineStep) → NewAt m (effect m s) ⊎ IsLast m s
    step_new m (steps.Verb v given) = inl (verb_new m v given (refusal_of m v))
    step_new m (steps.Run o n) = inl (run_new m o n)
    step_new m (steps.Atom o) = inl (atom_new m o)
    step_new m (steps.ReadTurn o) = inl (turn_new m o)
    step_new m (steps.Refuse o why) = inl (refuse_new m o why)
    step_new m (steps.Dry o) = inl (dry_new m o)
    step_new m (steps.Offer o i off n) = inl (offer_new m o i off n)
    step_new m (steps.Land o i) = inl (land_new m o i)
    step_new m (steps.Known o bytes) = inl (know_new m o bytes)
    step_new m (steps.Tell o) = inl (tell_new m o)
    step_new m (steps.Expire o) = expire_new m o
    step_new m (steps.Wait o) = wait_new m o
    step_new m (steps.Bounce o) = inl (bounce_new m o)
