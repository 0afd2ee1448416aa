-- How many packet numbers the machine's posted requests have: no more than those of the postings that were heard.
use Rattle.std.proofs.Common.{arith, ◌≡◌, ◌≤◌, ◌+◌, ℕ, List, [], ◌∷◌, ◌++◌, drop, true, false, Bool, Option, Some, None, refl, ap, ◌∙◌, if◌then◌else◌}
use Rattle.std.specs.Prelude.{◌==◌, is_some, ◌&&◌}
use Rattle.rdma_types.specs.declared.names.Name.{Name}
use Rattle.rdma_types.specs.declared.names.ObjName.{ObjName}
use Rattle.rdma_types.specs.declared.requests.Receive.{Receive}
use Rattle.rdma_types.specs.declared.requests.Request.{Request}
use Rattle.rdma_types.specs.declared.requests.Shape.{Shape}
use Rattle.rdma_types.specs.declared.requests.WcStatus.{WcStatus}
use Rattle.rdma_types.specs.declared.requests.WcStatus.TheVariants as statuses
use Rattle.rdma_types.specs.declared.answers.Answer.{Answer}
use Rattle.rdma_types.specs.declared.answers.Answer.TheVariants as answers
use Rattle.rdma_types.specs.declared.answers.Refusal.{Refusal}
use Rattle.rdma_types.specs.declared.answers.RefusalReason.{RefusalReason}
use Rattle.rdma_types.specs.declared.verbs.Verb.{Verb}
use Rattle.rdma_types.specs.declared.verbs.Verb.TheVariants as verbs
use Rattle.rdma_types.specs.declared.requests.WcKind.TheVariants as wc_kinds
use Rattle.rdma_types.specs.Kinds.{is_send, kind_of, receive_done, request_done}
use Rattle.rdma_types.specs.Lists.{named}
use Rattle.rdma_types.specs.Objects.{CompletionQueue, Posted, Region}
use Rattle.rdma_types.specs.Spans.{end_number, span, span_of}
use Rattle.packetless_machine.specs.declared.reply.Reply.TheVariants.{Finished, OldValue}
use Rattle.packetless_machine.specs.declared.steps.MachineStep.{MachineStep}
use Rattle.packetless_machine.specs.declared.steps.MachineStep.TheVariants as steps
use Rattle.packetless_machine.specs.Machine.{Machine, Context, End, empty, no_context, nobody, new_end, context_of, end_of, with_context, with_end, with_regions, with_queues, with_queue, with_queue_in, completing, in_end}
use Rattle.packetless_machine.specs.Steps as ideal
use Rattle.packetless_machine.specs.Steps.{advanced, acted_with, fills, receiving, placing, put_in_receive, put_in_range, run_towards, run, atom, atom_on, read_turn, refuse, refuse_at, denied, closed, dried, dried_at, offered, with_offer, landed, land_at, with_known, knowing, tell, tell_at, told_one, expire, expired, ended_with, wait, waited, bounce, receive_for, current}
use Rattle.packetless_machine.specs.Verbs as verbal
use Rattle.packetless_machine.specs.Verbs.{refusal_of, after_answer, answered, done}
use Rattle.packetless_machine.specs.Legal.{after, effect, seen, seen_of}
use Rattle.packetless_machine.proofs.Views.{end_of-with_context, end_of-with_regions, end_of-completing, end_of-put_old}
use Rattle.law_simulation.proofs.runs.Acting.{end_related, pushed, related}

-- the requests of an end
abbrev pub posted_of : Machine → ObjName → List Posted
posted_of m q = (end_of m q).posted

end_kept : (m : Machine) (o : ObjName) (e : End) (q : ObjName) → e.name ≡ (end_of m o).name → e.posted ≡ (end_of m o).posted → posted_of (with_end m o e) q ≡ posted_of m q
end_kept m o e q n h = end_related (λ a b. a.posted ≡ b.posted) (λ a. refl) m o e q n h

-- ---- other parts of the machine

context_kept : (m : Machine) (c : Name) (x : Context) (q : ObjName) → x.name ≡ (context_of m c).name → x.ends ≡ (context_of m c).ends → posted_of (with_context m c x) q ≡ posted_of m q
context_kept m c x q n h = ap (λ e. e.posted) (end_of-with_context m c x q n h)

queues_kept : (m : Machine) (c : Name) (qs : List CompletionQueue) (q : ObjName) → posted_of (with_queues m c qs) q ≡ posted_of m q
unfolding with_queues
queues_kept m c qs q = context_kept m c _ q refl refl

regions_kept : (m : Machine) (c : Name) (rs : List Region) (q : ObjName) → posted_of (with_regions m c rs) q ≡ posted_of m q
regions_kept m c rs q = ap (λ e. e.posted) (end_of-with_regions m c rs q)

completing_kept : (m : Machine) (c n : Name) (more : _) (q : ObjName) → posted_of (completing m c n more) q ≡ posted_of m q
completing_kept m c n more q = ap (λ e. e.posted) (end_of-completing m c n more q)

-- ---- the inner steps

ended_kept : (m : Machine) (o : ObjName) (status : WcStatus) (q : ObjName) → posted_of (ended_with m o status) q ≡ posted_of m q
unfolding ended_with closed
ended_kept m o status q = queues_kept _ _ _ q ∙ end_kept m o _ q refl refl

receive_kept : (m : Machine) (c : Name) (into : ℕ) (new : List ℕ) (v : Option Receive) (q : ObjName) → posted_of (put_in_receive m c into new v) q ≡ posted_of m q
unfolding put_in_receive
receive_kept m c into new None q = refl
receive_kept m c into new (Some v) q = regions_kept m c _ q

placing_kept : (m : Machine) (c : Name) (e x : End) (new : List ℕ) (q : ObjName) → posted_of (placing m c e x new) q ≡ posted_of m q
unfolding placing
placing_kept m c e x new q = by (is_send (kind_of (current e)))
  where
    by : (b : Bool) → posted_of (if b then put_in_receive m c e.into new (receive_for x) else put_in_range m c e.into new (current e)) q ≡ posted_of m q
    by true = receive_kept m c e.into new (receive_for x) q
    by false = regions_kept m c _ q

receiving_kept : (shape : Shape) (whole : Bool) (x : End) → ((receiving shape whole x).name ≡ x.name) × ((receiving shape whole x).posted ≡ x.posted)
unfolding receiving
receiving_kept shape whole x = by (is_send shape.kind) (is_some shape.imm && whole)
  where
    by : (a b : Bool) → ((if a then record x { in_use = if whole then None else receive_for x; unused = ideal.unused_after x } else if b then record x { unused = drop 1 x.unused } else x).name ≡ x.name) × ((if a then record x { in_use = if whole then None else receive_for x; unused = ideal.unused_after x } else if b then record x { unused = drop 1 x.unused } else x).posted ≡ x.posted)
    by true b = (refl, refl)
    by false true = (refl, refl)
    by false false = (refl, refl)

advancing : (e : End) (n : ℕ) → ((advanced e n).name ≡ e.name) × ((advanced e n).posted ≡ e.posted)
unfolding advanced acted_with
advancing e n = by (fills e n)
  where
    by : (b : Bool) → ((if b then acted_with e Finished else record e { into = e.into + n }).name ≡ e.name) × ((if b then acted_with e Finished else record e { into = e.into + n }).posted ≡ e.posted)
    by true = (refl, refl)
    by false = (refl, refl)

run_kept : (m : Machine) (o : ObjName) (n : ℕ) (q : ObjName) → posted_of (run m o n) q ≡ posted_of m q
unfolding run run_towards
run_kept m o n q =
    let a = advancing (end_of m o) n in
    let r = receiving_kept (current (end_of m o)).request.shape (fills (end_of m o) n) in
    queues_kept _ _ _ q ∙ (end_kept _ _ _ q (r _).0 (r _).1 ∙ (placing_kept _ _ _ _ _ q ∙ end_kept m o (advanced (end_of m o) n) q a.0 a.1))

atom_kept : (m : Machine) (o q : ObjName) → posted_of (atom m o) q ≡ posted_of m q
unfolding atom atom_on acted_with
atom_kept m o q = regions_kept _ _ _ q ∙ end_kept m o (acted_with (end_of m o) (OldValue (ideal.word_there (current (end_of m o)) (ideal.peer_regions m o)))) q refl refl

turn_kept : (m : Machine) (o q : ObjName) → posted_of (read_turn m o) q ≡ posted_of m q
unfolding read_turn acted_with
turn_kept m o q = end_kept m o _ q refl refl

refuse_kept : (m : Machine) (o : ObjName) (why : RefusalReason) (q : ObjName) → posted_of (refuse m o why) q ≡ posted_of m q
unfolding refuse refuse_at denied closed
refuse_kept m o why q = queues_kept _ _ _ q ∙ (end_kept _ _ _ q refl refl ∙ end_kept m o _ q refl refl)

dry_kept : (m : Machine) (o q : ObjName) → posted_of (dried m o) q ≡ posted_of m q
unfolding dried dried_at
dry_kept m o q = end_kept m o _ q refl refl

offer_kept : (m : Machine) (o : ObjName) (i off n : ℕ) (q : ObjName) → posted_of (offered m o i off n) q ≡ posted_of m q
unfolding offered with_offer
offer_kept m o i off n q = end_kept m o _ q refl refl

land_kept : (m : Machine) (o : ObjName) (i : ℕ) (q : ObjName) → posted_of (landed m o i) q ≡ posted_of m q
unfolding landed land_at with_known
land_kept m o i q = end_kept _ o _ q refl refl ∙ regions_kept m o.context _ q

know_kept : (m : Machine) (o : ObjName) (bytes : ℕ) (q : ObjName) → posted_of (knowing m o bytes) q ≡ posted_of m q
unfolding knowing with_known
know_kept m o bytes q = end_kept m o _ q refl refl

tell_kept : (m : Machine) (o q : ObjName) → posted_of (tell m o) q ≡ posted_of m q
unfolding tell tell_at told_one
tell_kept m o q = end_kept _ o _ q refl refl ∙ (ap (λ e. e.posted) (end_of-put_old _ _ _ _ q) ∙ completing_kept m o.context _ _ q)

expire_kept : (m : Machine) (o q : ObjName) → posted_of (expire m o) q ≡ posted_of m q
unfolding expire expired
expire_kept m o q = by ((end_of m o).spent == (end_of m o).retry)
  where
    by : (b : Bool) → posted_of (if b then ended_with m o statuses.RetryExceeded else in_end m o expired) q ≡ posted_of m q
    by true = ended_kept m o statuses.RetryExceeded q
    by false = end_kept m o _ q refl refl

wait_kept : (m : Machine) (o q : ObjName) → posted_of (wait m o) q ≡ posted_of m q
unfolding wait waited
wait_kept m o q = by ((end_of m o).rnr == 7) ((end_of m o).waits == (end_of m o).rnr)
  where
    by : (a b : Bool) → posted_of (if a then m else if b then ended_with m o statuses.RnrExceeded else in_end m o waited) q ≡ posted_of m q
    by true b = refl
    by false true = ended_kept m o statuses.RnrExceeded q
    by false false = end_kept m o _ q refl refl

bounce_kept : (m : Machine) (o q : ObjName) → posted_of (bounce m o) q ≡ posted_of m q
unfolding bounce
bounce_kept m o q = ended_kept m o _ q

-- ---- verbs

made_kept : (m : Machine) (o : ObjName) (domain send_cq recv_cq : Name) (send_depth recv_depth given : ℕ) (q : ObjName) → posted_of (verbal.made_end m o domain send_cq recv_cq send_depth recv_depth given) q ≡ posted_of m q
unfolding verbal.made_end end_of context_of with_context
made_kept m o domain send_cq recv_cq send_depth recv_depth given q =
    related (λ x y. (named (λ u. u.name) (nobody q) q.name x.ends).posted ≡ (named (λ u. u.name) (nobody q) q.name y.ends).posted) (λ x. refl) (λ x. x.name) (no_context o.context) (no_context q.context) o.context q.context
    (record (context_of m o.context) { ends = (context_of m o.context).ends ++ new_end o given domain send_cq recv_cq send_depth recv_depth ∷ [] }) m.contexts refl
    (pushed (λ u. u.posted) (λ u. u.name) (nobody q) q.name (new_end o given domain send_cq recv_cq send_depth recv_depth) (context_of m o.context).ends refl)

keys_kept : (m : Machine) (keys : List ℕ) (q : ObjName) → posted_of (record m { keys = keys }) q ≡ posted_of m q
unfolding end_of context_of
keys_kept m keys q = refl

context_pushed : (m : Machine) (name : Name) (q : ObjName) → posted_of (record m { contexts = m.contexts ++ no_context name ∷ [] }) q ≡ posted_of m q
unfolding end_of context_of named
context_pushed m name q = pushed (λ x. (named (λ u. u.name) (nobody q) q.name x.ends).posted) (λ x. x.name) (no_context q.context) q.context (no_context name) m.contexts refl

-- ---- a posting

-- the numbers of the requests of an end
abbrev pub numbers_of : ℕ → Machine → ObjName → ℕ
numbers_of t m q = end_number (posted_of m q) t

numbers-push : (ps : List Posted) (p : Posted) (t : ℕ) → end_number (ps ++ p ∷ []) t ≡ end_number ps t + span_of p t
unfolding end_number
numbers-push [] p t = omega arith
numbers-push (x ∷ ps) p t = omega (arith, numbers-push ps p t)

post_grows : (m : Machine) (o : ObjName) (r : Request) (q : ObjName) (t : ℕ) → numbers_of t (verbal.posted m o r) q ≤ numbers_of t m q + span r.shape t
unfolding verbal.posted verbal.taken
post_grows m o r q t = by (end_of m o).ended
  where
    by : (b : Bool) → numbers_of t (if b then completing m o.context (end_of m o).send_queue (request_done (end_of m o).number (verbal.taken m o r) statuses.Flush 0 ∷ []) else in_end m o (verbal.with_request (verbal.taken m o r))) q ≤ numbers_of t m q + span r.shape t
    by true = omega (arith, ap (λ ps. end_number ps t) (completing_kept m o.context (end_of m o).send_queue (request_done (end_of m o).number (verbal.taken m o r) statuses.Flush 0 ∷ []) q))
    by false =
        end_related (λ a b. end_number a.posted t ≤ end_number b.posted t + span r.shape t) (λ a. omega arith) m o (verbal.with_request (verbal.taken m o r) (end_of m o)) q refl
        (let pushed_one : end_number (verbal.with_request (verbal.taken m o r) (end_of m o)).posted t ≡ end_number (end_of m o).posted t + span r.shape t = numbers-push (end_of m o).posted (verbal.taken m o r) t in omega (arith, pushed_one))

received_kept : (m : Machine) (o : ObjName) (v : Receive) (q : ObjName) → posted_of (verbal.received m o v) q ≡ posted_of m q
unfolding verbal.received
received_kept m o v q = by (end_of m o).ended
  where
    by : (b : Bool) → posted_of (if b then completing m o.context (end_of m o).receive_queue (receive_done (end_of m o).number v wc_kinds.Recv statuses.Flush 0 None ∷ []) else in_end m o (verbal.with_receive v)) q ≡ posted_of m q
    by true = completing_kept m o.context _ _ q
    by false = end_kept m o _ q refl refl

-- how many numbers a posting takes that was made
abbrev pub span_answered : Answer → ℕ → ℕ
span_answered answers.Done n = n
span_answered other n = 0

-- .. a verb with its answer
abbrev pub span_heard : ℕ → Verb → Answer → ℕ
span_heard t (verbs.PostSend o r) a = span_answered a (span r.shape t)
span_heard t other a = 0

-- .. verbs with their answers
unfoldable pub spans : ℕ → List (Verb × Answer) → ℕ
spans t [] = 0
spans t (x ∷ xs) = span_heard t x.0 x.1 + spans t xs

pub spans-both : (t : ℕ) (xs ys : List (Verb × Answer)) → spans t (xs ++ ys) ≡ spans t xs + spans t ys
unfolding spans
spans-both t [] ys = omega arith
spans-both t (x ∷ xs) ys = omega (arith, spans-both t xs ys)

kept_grows : (t : ℕ) (m m' : Machine) (q : ObjName) (n : ℕ) → posted_of m' q ≡ posted_of m q → numbers_of t m' q ≤ numbers_of t m q + n
kept_grows t m m' q n same = omega (arith, ap (λ ps. end_number ps t) same)

done_grows : (m : Machine) (v : Verb) (given : ℕ) (q : ObjName) (t : ℕ) → numbers_of t (done m v given) q ≤ numbers_of t m q + span_heard t v (verbal.granted_answer m v given)
unfolding verbal.connected_pair verbal.joined verbal.with_domain verbal.made_region verbal.made_queue verbal.stored verbal.polled with_queue with_queue_in
done_grows m (verbs.Context name made) given q t = kept_grows t m _ q _ (context_pushed m name q)
done_grows m (verbs.Connect one two terms) given q t = kept_grows t m _ q _ (end_kept _ two _ q refl refl ∙ end_kept m one _ q refl refl)
done_grows m (verbs.MakeDomain o) given q t = kept_grows t m _ q _ (context_kept m o.context _ q refl refl)
done_grows m (verbs.MakeRegion o domain base count rights) given q t = kept_grows t m _ q _ (regions_kept (record m { keys = m.keys ++ given ∷ [] }) o.context _ q ∙ keys_kept m (m.keys ++ given ∷ []) q)
done_grows m (verbs.MakeCq o capacity) given q t = kept_grows t m _ q _ (context_kept m o.context _ q refl refl)
done_grows m (verbs.MakeQp o domain send_cq recv_cq send_depth recv_depth) given q t = kept_grows t m _ q _ (made_kept m o (verbal.word_or_none domain) (verbal.word_or_none send_cq) (verbal.word_or_none recv_cq) send_depth recv_depth given q)
done_grows m (verbs.DropRegion o) given q t = kept_grows t m _ q _ (regions_kept m o.context _ q)
done_grows m (verbs.Store o address bytes) given q t = kept_grows t m _ q _ (regions_kept m o.context _ q)
done_grows m (verbs.Load o address count) given q t = kept_grows t m m q _ refl
done_grows m (verbs.PostSend o r) given q t = post_grows m o r q t
done_grows m (verbs.PostRecv o v) given q t = kept_grows t m _ q _ (received_kept m o v q)
done_grows m (verbs.Poll cq max) given q t = kept_grows t m _ q _ (context_kept m cq.context _ q refl refl)

verb_grows : (m : Machine) (v : Verb) (given : ℕ) (r : Option Refusal) (q : ObjName) (t : ℕ) → numbers_of t (after_answer r m v given) q ≤ numbers_of t m q + span_heard t v (answered r m v given)
verb_grows m v given None q t = done_grows m v given q t
verb_grows m v given (Some r) q t = kept_grows t m m q _ refl

step_grows : (m : Machine) (s : MachineStep) (q : ObjName) (t : ℕ) → numbers_of t (effect m s) q ≤ numbers_of t m q + spans t (seen_of m s)
unfolding spans
step_grows m (steps.Verb v given) q t = let h = verb_grows m v given (refusal_of m v) q t in omega (arith, h)
step_grows m (steps.Run o n) q t = kept_grows t m _ q _ (run_kept m o n q)
step_grows m (steps.Atom o) q t = kept_grows t m _ q _ (atom_kept m o q)
step_grows m (steps.ReadTurn o) q t = kept_grows t m _ q _ (turn_kept m o q)
step_grows m (steps.Refuse o why) q t = kept_grows t m _ q _ (refuse_kept m o why q)
step_grows m (steps.Dry o) q t = kept_grows t m _ q _ (dry_kept m o q)
step_grows m (steps.Offer o i off n) q t = kept_grows t m _ q _ (offer_kept m o i off n q)
step_grows m (steps.Land o i) q t = kept_grows t m _ q _ (land_kept m o i q)
step_grows m (steps.Known o bytes) q t = kept_grows t m _ q _ (know_kept m o bytes q)
step_grows m (steps.Tell o) q t = kept_grows t m _ q _ (tell_kept m o q)
step_grows m (steps.Expire o) q t = kept_grows t m _ q _ (expire_kept m o q)
step_grows m (steps.Wait o) q t = kept_grows t m _ q _ (wait_kept m o q)
step_grows m (steps.Bounce o) q t = kept_grows t m _ q _ (bounce_kept m o q)

pub run_grows : (m : Machine) (ss : List MachineStep) (q : ObjName) (t : ℕ) → numbers_of t (after m ss) q ≤ numbers_of t m q + spans t (seen m ss)
unfolding spans
run_grows m [] q t = omega arith
run_grows m (s ∷ ss) q t = omega (arith, run_grows (effect m s) ss q t, step_grows m s q t, spans-both t (seen_of m s) (seen (effect m s) ss))

nothing_posted : (q : ObjName) (t : ℕ) → numbers_of t empty q ≡ 0
unfolding end_of context_of named end_number
nothing_posted q t = refl

-- .. from the empty machine
pub heard_grows : (ss : List MachineStep) (q : ObjName) (t : ℕ) → numbers_of t (after empty ss) q ≤ spans t (seen empty ss)
heard_grows ss q t = omega (arith, run_grows empty ss q t, nothing_posted q t)
