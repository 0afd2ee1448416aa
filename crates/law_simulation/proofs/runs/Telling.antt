-- The count of the requests that are finished for their owner, after each step of the machine.
use Rattle.std.proofs.Common.{◌≡◌, ◌+◌, ℕ, suc, List, [], ◌∷◌, ◌++◌, drop, true, false, Bool, refl, sym, ap, ◌∙◌, subst, inl, inr}
use Rattle.std.specs.Prelude.{◌⊎◌, Option, Some, None, if◌then◌else◌, ◌==◌, is_some, ◌&&◌, slice_get}
use Rattle.rdma_types.specs.declared.names.Name.{Name}
use Rattle.rdma_types.specs.declared.names.ObjName.{ObjName}
use Rattle.rdma_types.specs.declared.requests.Receive.{Receive}
use Rattle.rdma_types.specs.declared.requests.Request.{Request}
use Rattle.rdma_types.specs.declared.requests.Shape.{Shape}
use Rattle.rdma_types.specs.declared.requests.WcStatus.{WcStatus}
use Rattle.rdma_types.specs.declared.requests.WcStatus.TheVariants as statuses
use Rattle.rdma_types.specs.declared.answers.Refusal.{Refusal}
use Rattle.rdma_types.specs.declared.answers.RefusalReason.{RefusalReason}
use Rattle.rdma_types.specs.declared.verbs.Verb.{Verb}
use Rattle.rdma_types.specs.declared.verbs.Verb.TheVariants as verbs
use Rattle.rdma_types.specs.declared.requests.WcKind.TheVariants as wc_kinds
use Rattle.rdma_types.specs.Kinds.{is_send, kind_of, receive_done, request_done}
use Rattle.rdma_types.specs.Lists.{named}
use Rattle.rdma_types.specs.Objects.{CompletionQueue, Region}
use Rattle.packetless_machine.specs.declared.reply.Reply.TheVariants.{Finished}
use Rattle.packetless_machine.specs.declared.steps.MachineStep.{MachineStep}
use Rattle.packetless_machine.specs.declared.steps.MachineStep.TheVariants as steps
use Rattle.packetless_machine.specs.Machine.{Machine, Context, End, no_context, nobody, new_end, context_of, end_of, with_context, with_end, with_regions, with_queues, with_queue, with_queue_in, completing, in_end}
use Rattle.packetless_machine.specs.Steps as ideal
use Rattle.packetless_machine.specs.Steps.{advanced, acted_with, fills, receiving, placing, put_in_receive, put_in_range, run_towards, run, atom, atom_on, read_turn, refuse, refuse_at, denied, closed, dried, dried_at, offered, with_offer, landed, land_at, with_known, knowing, tell, tell_at, told_one, expire, expired, ended_with, wait, waited, bounce, peer_of, receive_for, current, put_old}
use Rattle.packetless_machine.specs.Verbs as verbal
use Rattle.packetless_machine.specs.Verbs.{refusal_of, after_answer, done}
use Rattle.packetless_machine.proofs.Views.{end_of-with_context, end_of-with_regions, end_of-completing, end_of-put_old}
use Rattle.law_simulation.specs.Told.{told_of, IsTellOf, AreAllTold, TellsByOne}
use Rattle.law_simulation.proofs.runs.Acting.{related, pushed, end_related, end_other, object_or_not}

-- ---- one end changes

told_kept : (m : Machine) (o : ObjName) (e : End) (q : ObjName) → e.name ≡ (end_of m o).name → e.told ≡ (end_of m o).told → told_of (with_end m o e) q ≡ told_of m q
told_kept m o e q n h = end_related (λ a b. a.told ≡ b.told) (λ a. refl) m o e q n h

-- the count stays, or the end failed
abbrev StaysOrFails : Machine → Machine → ObjName → Type 0
StaysOrFails m m' q = (told_of m' q ≡ told_of m q) ⊎ AreAllTold (end_of m' q)

fails_at : (m : Machine) (o : ObjName) (e : End) (q : ObjName) → e.name ≡ (end_of m o).name → AreAllTold e → StaysOrFails m (with_end m o e) q
fails_at m o e q n h = end_related (λ a b. (a.told ≡ b.told) ⊎ AreAllTold a) (λ a. inl refl) m o e q n (inr h)

-- the count stays, or is one more where it is that of o
tells_at : (m : Machine) (o : ObjName) (e : End) (q : ObjName) → e.name ≡ (end_of m o).name → e.told ≡ suc (end_of m o).told → (told_of (with_end m o e) q ≡ told_of m q) ⊎ ((o ≡ q) × (told_of (with_end m o e) q ≡ suc (told_of m q)))
tells_at m o e q n h = elim (object_or_not q o) [
  | inl same ↦ elim (end_related (λ a b. (a.told ≡ b.told) ⊎ (a.told ≡ suc b.told)) (λ a. inl refl) m o e q n (inr h)) [ inl k ↦ inl k | inr k ↦ inr (sym same, k) ]
  | inr far ↦ inl (ap (λ z. z.told) (end_other m o e q n far))
]

-- ---- other parts of the machine

context_kept : (m : Machine) (c : Name) (x : Context) (q : ObjName) → x.name ≡ (context_of m c).name → x.ends ≡ (context_of m c).ends → told_of (with_context m c x) q ≡ told_of m q
context_kept m c x q n h = ap (λ e. e.told) (end_of-with_context m c x q n h)

queues_same : (m : Machine) (c : Name) (qs : List CompletionQueue) (q : ObjName) → end_of (with_queues m c qs) q ≡ end_of m q
unfolding with_queues
queues_same m c qs q = end_of-with_context m c _ q refl refl

queues_kept : (m : Machine) (c : Name) (qs : List CompletionQueue) (q : ObjName) → told_of (with_queues m c qs) q ≡ told_of m q
queues_kept m c qs q = ap (λ e. e.told) (queues_same m c qs q)

regions_kept : (m : Machine) (c : Name) (rs : List Region) (q : ObjName) → told_of (with_regions m c rs) q ≡ told_of m q
regions_kept m c rs q = ap (λ e. e.told) (end_of-with_regions m c rs q)

completing_kept : (m : Machine) (c n : Name) (more : _) (q : ObjName) → told_of (completing m c n more) q ≡ told_of m q
completing_kept m c n more q = ap (λ e. e.told) (end_of-completing m c n more q)

-- ---- the inner steps

ended_fails : (m : Machine) (o : ObjName) (status : WcStatus) (q : ObjName) → StaysOrFails m (ended_with m o status) q
unfolding ended_with closed
ended_fails m o status q = elim (fails_at m o (closed (end_of m o)) q refl (refl, refl)) [
  | inl h ↦ inl (queues_kept _ _ _ q ∙ h)
  | inr h ↦ inr (subst AreAllTold (sym (queues_same _ _ _ q)) h)
]

receive_kept : (m : Machine) (c : Name) (into : ℕ) (new : List ℕ) (v : Option Receive) (q : ObjName) → told_of (put_in_receive m c into new v) q ≡ told_of m q
unfolding put_in_receive
receive_kept m c into new None q = refl
receive_kept m c into new (Some v) q = regions_kept m c _ q

placing_kept : (m : Machine) (c : Name) (e x : End) (new : List ℕ) (q : ObjName) → told_of (placing m c e x new) q ≡ told_of m q
unfolding placing
placing_kept m c e x new q = by (is_send (kind_of (current e)))
  where
    by : (b : Bool) → told_of (if b then put_in_receive m c e.into new (receive_for x) else put_in_range m c e.into new (current e)) q ≡ told_of m q
    by true = receive_kept m c e.into new (receive_for x) q
    by false = regions_kept m c _ q

receiving_kept : (shape : Shape) (whole : Bool) (x : End) → ((receiving shape whole x).name ≡ x.name) × ((receiving shape whole x).told ≡ x.told)
unfolding receiving
receiving_kept shape whole x = by (is_send shape.kind) (is_some shape.imm && whole)
  where
    by : (a b : Bool) → ((if a then record x { in_use = if whole then None else receive_for x; unused = ideal.unused_after x } else if b then record x { unused = drop 1 x.unused } else x).name ≡ x.name) × ((if a then record x { in_use = if whole then None else receive_for x; unused = ideal.unused_after x } else if b then record x { unused = drop 1 x.unused } else x).told ≡ x.told)
    by true b = (refl, refl)
    by false true = (refl, refl)
    by false false = (refl, refl)

advancing : (e : End) (n : ℕ) → ((advanced e n).name ≡ e.name) × ((advanced e n).told ≡ e.told)
unfolding advanced acted_with
advancing e n = by (fills e n)
  where
    by : (b : Bool) → ((if b then acted_with e Finished else record e { into = e.into + n }).name ≡ e.name) × ((if b then acted_with e Finished else record e { into = e.into + n }).told ≡ e.told)
    by true = (refl, refl)
    by false = (refl, refl)

run_kept : (m : Machine) (o : ObjName) (n : ℕ) (q : ObjName) → told_of (run m o n) q ≡ told_of m q
unfolding run run_towards
run_kept m o n q =
    let a = advancing (end_of m o) n in
    let r = receiving_kept (current (end_of m o)).request.shape (fills (end_of m o) n) in
    queues_kept _ _ _ q ∙ (told_kept _ _ _ q (r _).0 (r _).1 ∙ (placing_kept _ _ _ _ _ q ∙ told_kept m o (advanced (end_of m o) n) q a.0 a.1))

atom_kept : (m : Machine) (o q : ObjName) → told_of (atom m o) q ≡ told_of m q
unfolding atom atom_on acted_with
atom_kept m o q = regions_kept _ _ _ q ∙ told_kept m o _ q refl refl

turn_kept : (m : Machine) (o q : ObjName) → told_of (read_turn m o) q ≡ told_of m q
unfolding read_turn acted_with
turn_kept m o q = told_kept m o _ q refl refl

refuse_fails : (m : Machine) (o : ObjName) (why : RefusalReason) (q : ObjName) → StaysOrFails m (refuse m o why) q
unfolding refuse refuse_at denied closed
refuse_fails m o why q = elim (fails_at _ (end_of m o).peer (closed (end_of (in_end m o (λ e. denied e why)) (end_of m o).peer)) q refl (refl, refl)) [
  | inl h ↦ inl (queues_kept _ _ _ q ∙ (h ∙ told_kept m o _ q refl refl))
  | inr h ↦ inr (subst AreAllTold (sym (queues_same _ _ _ q)) h)
]

dry_kept : (m : Machine) (o q : ObjName) → told_of (dried m o) q ≡ told_of m q
unfolding dried dried_at
dry_kept m o q = told_kept m o _ q refl refl

offer_kept : (m : Machine) (o : ObjName) (i off n : ℕ) (q : ObjName) → told_of (offered m o i off n) q ≡ told_of m q
unfolding offered with_offer
offer_kept m o i off n q = told_kept m o _ q refl refl

land_kept : (m : Machine) (o : ObjName) (i : ℕ) (q : ObjName) → told_of (landed m o i) q ≡ told_of m q
unfolding landed land_at with_known
land_kept m o i q = told_kept _ o _ q refl refl ∙ regions_kept m o.context _ q

know_kept : (m : Machine) (o : ObjName) (bytes : ℕ) (q : ObjName) → told_of (knowing m o bytes) q ≡ told_of m q
unfolding knowing with_known
know_kept m o bytes q = told_kept m o _ q refl refl

tell_tells : (m : Machine) (o q : ObjName) → (told_of (tell m o) q ≡ told_of m q) ⊎ ((o ≡ q) × (told_of (tell m o) q ≡ suc (told_of m q)))
unfolding tell tell_at told_one
tell_tells m o q =
    let before : Machine = put_old (completing m o.context (end_of m o).send_queue (ideal.success (end_of m o) (ideal.front (end_of m o)))) o.context (ideal.front (end_of m o)).request (slice_get (end_of m o).answers (end_of m o).told) in
    let same : told_of before q ≡ told_of m q = ap (λ e. e.told) (end_of-put_old _ _ _ _ q) ∙ completing_kept m o.context _ _ q in
    elim (tells_at before o (told_one (end_of before o)) q refl refl) [ inl h ↦ inl (h ∙ same) | inr h ↦ inr (h.0, h.1 ∙ ap suc same) ]

expire_fails : (m : Machine) (o q : ObjName) → StaysOrFails m (expire m o) q
unfolding expire expired
expire_fails m o q = by ((end_of m o).spent == (end_of m o).retry)
  where
    by : (b : Bool) → StaysOrFails m (if b then ended_with m o statuses.RetryExceeded else in_end m o expired) q
    by true = ended_fails m o statuses.RetryExceeded q
    by false = inl (told_kept m o _ q refl refl)

wait_fails : (m : Machine) (o q : ObjName) → StaysOrFails m (wait m o) q
unfolding wait waited
wait_fails m o q = by ((end_of m o).rnr == 7) ((end_of m o).waits == (end_of m o).rnr)
  where
    by : (a b : Bool) → StaysOrFails m (if a then m else if b then ended_with m o statuses.RnrExceeded else in_end m o waited) q
    by true b = inl refl
    by false true = ended_fails m o statuses.RnrExceeded q
    by false false = inl (told_kept m o _ q refl refl)

bounce_fails : (m : Machine) (o q : ObjName) → StaysOrFails m (bounce m o) q
unfolding bounce
bounce_fails m o q = ended_fails m o _ q

-- ---- verbs

made_kept : (m : Machine) (o : ObjName) (domain send_cq recv_cq : Name) (send_depth recv_depth given : ℕ) (q : ObjName) → told_of (verbal.made_end m o domain send_cq recv_cq send_depth recv_depth given) q ≡ told_of m q
unfolding verbal.made_end end_of context_of with_context
made_kept m o domain send_cq recv_cq send_depth recv_depth given q =
    related (λ x y. (named (λ u. u.name) (nobody q) q.name x.ends).told ≡ (named (λ u. u.name) (nobody q) q.name y.ends).told) (λ x. refl) (λ x. x.name) (no_context o.context) (no_context q.context) o.context q.context
    (record (context_of m o.context) { ends = (context_of m o.context).ends ++ new_end o given domain send_cq recv_cq send_depth recv_depth ∷ [] }) m.contexts refl
    (pushed (λ u. u.told) (λ u. u.name) (nobody q) q.name (new_end o given domain send_cq recv_cq send_depth recv_depth) (context_of m o.context).ends refl)

keys_kept : (m : Machine) (keys : List ℕ) (q : ObjName) → told_of (record m { keys = keys }) q ≡ told_of m q
unfolding end_of context_of
keys_kept m keys q = refl

context_pushed : (m : Machine) (name : Name) (q : ObjName) → told_of (record m { contexts = m.contexts ++ no_context name ∷ [] }) q ≡ told_of m q
unfolding end_of context_of named
context_pushed m name q = pushed (λ x. (named (λ u. u.name) (nobody q) q.name x.ends).told) (λ x. x.name) (no_context q.context) q.context (no_context name) m.contexts refl

posted_kept : (m : Machine) (o : ObjName) (r : Request) (q : ObjName) → told_of (verbal.posted m o r) q ≡ told_of m q
unfolding verbal.posted
posted_kept m o r q = by (end_of m o).ended
  where
    by : (b : Bool) → told_of (if b then completing m o.context (end_of m o).send_queue (request_done (end_of m o).number (verbal.taken m o r) statuses.Flush 0 ∷ []) else in_end m o (verbal.with_request (verbal.taken m o r))) q ≡ told_of m q
    by true = completing_kept m o.context _ _ q
    by false = told_kept m o _ q refl refl

received_kept : (m : Machine) (o : ObjName) (v : Receive) (q : ObjName) → told_of (verbal.received m o v) q ≡ told_of m q
unfolding verbal.received
received_kept m o v q = by (end_of m o).ended
  where
    by : (b : Bool) → told_of (if b then completing m o.context (end_of m o).receive_queue (receive_done (end_of m o).number v wc_kinds.Recv statuses.Flush 0 None ∷ []) else in_end m o (verbal.with_receive v)) q ≡ told_of m q
    by true = completing_kept m o.context _ _ q
    by false = told_kept m o _ q refl refl

done_kept : (m : Machine) (v : Verb) (given : ℕ) (q : ObjName) → told_of (done m v given) q ≡ told_of m q
unfolding verbal.connected_pair verbal.joined verbal.with_domain verbal.made_region verbal.made_queue verbal.stored verbal.polled with_queue with_queue_in
done_kept m (verbs.Context name made) given q = context_pushed m name q
done_kept m (verbs.Connect one two terms) given q = told_kept _ two _ q refl refl ∙ told_kept m one _ q refl refl
done_kept m (verbs.MakeDomain o) given q = context_kept m o.context _ q refl refl
done_kept m (verbs.MakeRegion o domain base count rights) given q = regions_kept (record m { keys = m.keys ++ given ∷ [] }) o.context _ q ∙ keys_kept m (m.keys ++ given ∷ []) q
done_kept m (verbs.MakeCq o capacity) given q = context_kept m o.context _ q refl refl
done_kept m (verbs.MakeQp o domain send_cq recv_cq send_depth recv_depth) given q = made_kept m o (verbal.word_or_none domain) (verbal.word_or_none send_cq) (verbal.word_or_none recv_cq) send_depth recv_depth given q
done_kept m (verbs.DropRegion o) given q = regions_kept m o.context _ q
done_kept m (verbs.Store o address bytes) given q = regions_kept m o.context _ q
done_kept m (verbs.Load o address count) given q = refl
done_kept m (verbs.PostSend o r) given q = posted_kept m o r q
done_kept m (verbs.PostRecv o v) given q = received_kept m o v q
done_kept m (verbs.Poll cq max) given q = context_kept m cq.context _ q refl refl

verb_kept : (m : Machine) (v : Verb) (given : ℕ) (r : Option Refusal) (q : ObjName) → told_of (after_answer r m v given) q ≡ told_of m q
verb_kept m v given None q = done_kept m v given q
verb_kept m v given (Some r) q = refl

-- ---- each step

still : (m m' : Machine) (s : MachineStep) (q : ObjName) → StaysOrFails m m' q → (told_of m' q ≡ told_of m q) ⊎ (IsTellOf q s × (told_of m' q ≡ suc (told_of m q))) ⊎ AreAllTold (end_of m' q)
still m m' s q (inl h) = inl h
still m m' s q (inr h) = inr (inr h)

pub tells_by_one : TellsByOne
tells_by_one m (steps.Verb v given) q = inl (verb_kept m v given (refusal_of m v) q)
tells_by_one m (steps.Run o n) q = inl (run_kept m o n q)
tells_by_one m (steps.Atom o) q = inl (atom_kept m o q)
tells_by_one m (steps.ReadTurn o) q = inl (turn_kept m o q)
tells_by_one m (steps.Refuse o why) q = still m (refuse m o why) (steps.Refuse o why) q (refuse_fails m o why q)
tells_by_one m (steps.Dry o) q = inl (dry_kept m o q)
tells_by_one m (steps.Offer o i off n) q = inl (offer_kept m o i off n q)
tells_by_one m (steps.Land o i) q = inl (land_kept m o i q)
tells_by_one m (steps.Known o bytes) q = inl (know_kept m o bytes q)
tells_by_one m (steps.Tell o) q = elim (tell_tells m o q) [ inl h ↦ inl h | inr h ↦ inr (inl h) ]
tells_by_one m (steps.Expire o) q = still m (expire m o) (steps.Expire o) q (expire_fails m o q)
tells_by_one m (steps.Wait o) q = still m (wait m o) (steps.Wait o) q (wait_fails m o q)
tells_by_one m (steps.Bounce o) q = still m (bounce m o) (steps.Bounce o) q (bounce_fails m o q)
