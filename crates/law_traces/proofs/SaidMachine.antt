-- Names in the machine are those that lines gave, and the numbers in its completion queues are within their bits.
use Rattle.std.proofs.Common.{arith, ◌≡◌, ℕ, zero, suc, ◌+◌, ◌<◌, ◌^◌, List, [], ◌∷◌, ◌++◌, length, drop, true, false, Bool, refl, sym, ap, ◌∙◌, subst}
use Rattle.std.specs.Prelude.{All, IfSome, Option, Some, None, if◌then◌else◌, slice_get, is_some, option_to_list, nat_lt, ◌&&◌, ◌==◌}
use Rattle.std.proofs.lemmas.Bool.Decides.{nat_tests}
use Rattle.std.proofs.lemmas.List.Elements.{All-append, All-cons, All-drop, All-head, All-map, All-nil, All-push, All-tail, All-weaker}
use Rattle.rdma_types.specs.declared.answers.Refusal.{Refusal}
use Rattle.rdma_types.specs.declared.answers.RefusalReason.{RefusalReason}
use Rattle.rdma_types.specs.declared.answers.RefusalReason.TheVariants as whys
use Rattle.rdma_types.specs.declared.names.Name.{Name}
use Rattle.rdma_types.specs.declared.names.ObjName.{ObjName}
use Rattle.rdma_types.specs.declared.requests.Completion.{Completion}
use Rattle.rdma_types.specs.declared.requests.Receive.{Receive}
use Rattle.rdma_types.specs.declared.requests.Request.{Request}
use Rattle.rdma_types.specs.declared.requests.Shape.{Shape}
use Rattle.rdma_types.specs.declared.requests.Terms.{Terms}
use Rattle.rdma_types.specs.declared.requests.WcKind.TheVariants as wc_kinds
use Rattle.rdma_types.specs.declared.requests.WcStatus.{WcStatus}
use Rattle.rdma_types.specs.declared.requests.WcStatus.TheVariants as statuses
use Rattle.rdma_types.specs.declared.rights.Rights.{Rights}
use Rattle.rdma_types.specs.declared.verbs.Verb.{Verb}
use Rattle.rdma_types.specs.declared.verbs.Verb.TheVariants as verbs
use Rattle.rdma_types.specs.Kinds.{is_send, kind_of, receive_done, request_done, size_of}
use Rattle.rdma_types.specs.Lists.{has_name, named}
use Rattle.rdma_types.specs.Objects.{CompletionQueue, Posted, Region, no_queue}
use Rattle.rdma_types.specs.Spelled.{is_name}
use Rattle.packetless_machine.specs.declared.reply.Reply.{Reply}
use Rattle.packetless_machine.specs.declared.reply.Reply.TheVariants as replies
use Rattle.packetless_machine.specs.declared.steps.MachineStep.{MachineStep}
use Rattle.packetless_machine.specs.declared.steps.MachineStep.TheVariants as steps
use Rattle.packetless_machine.specs.Legal.{after, effect, is_enabled}
use Rattle.packetless_machine.specs.Machine.{Context, End, Machine, completed, completing, context_of, end_of, in_end, longer, no_context, nobody, posted_at, queue_of, with_context, with_end, with_end_in, with_queue, with_queue_in, with_queues, with_regions}
use Rattle.packetless_machine.specs.Steps as ideal
use Rattle.packetless_machine.specs.Steps.{acted_with, advanced, arrivals, atom, atom_on, bounce, closed, current, denied, dried, dried_at, ended_with, expire, expired, failed_queues, failed_receives, failed_requests, fills, first_receive, front, has_current, has_peer, has_untold, knowing, land_at, landed, may_atom, may_bounce, may_dry, may_know, may_land, may_offer, may_read, may_refuse, may_run, may_tell, may_wait, offered, peer_of, placing, put_in_receive, put_in_range, put_old, read_turn, receive_for, received_whole, receiving, refuse, refuse_at, refused_entries, refused_queues, refused_receives, run, run_towards, success, tell, tell_at, told_one, too_long, untold, unused_after, used_by, wait, waited, with_known, with_offer}
use Rattle.packetless_machine.specs.Tables.{place, replaced}
use Rattle.packetless_machine.specs.Verbs as verbal
use Rattle.packetless_machine.specs.Verbs.{after_answer, connected_pair, done, joined, made_end, made_queue, made_region, polled, posted, received, refusal_of, stored, taken, with_domain}
use Rattle.packetless_machine.proofs.Places.{has_name_is, replaced_nowhere}
use Rattle.law_simulation.proofs.relation.Tables.{All-named, All-store, name-named_there, named-absent, replaced-stored}
use Rattle.law_script_words.proofs.Spoken.{left}
use Rattle.law_traces.proofs.SaidSteps.{IsNamed, IsSpelled}

-- ---- what is claimed

-- a posted request, and a receive, as lines give them
pub record IsFitRequest (r : Posted) : Type 0 where
  pub id : r.request.id < 2 ^ 64
  pub size : size_of r < 2 ^ 32

abbrev pub IsFitReceive : Receive → Type 0
IsFitReceive v = v.id < 2 ^ 64

-- the work of an end
pub record HasFitWork (e : End) : Type 0 where
  pub posted : All IsFitRequest e.posted
  pub unused : All IsFitReceive e.unused
  pub in_use : IfSome e.in_use IsFitReceive

-- an end
pub record IsFitEnd (e : End) : Type 0 where
  pub name : is_name e.name ≡ true
  pub work : HasFitWork e

-- a completion
pub record IsFitEntry (c : Completion) : Type 0 where
  pub id : c.id < 2 ^ 64
  pub size : c.length < 2 ^ 32

-- a completion queue
pub record IsFitQueue (q : CompletionQueue) : Type 0 where
  pub entries : All IsFitEntry q.entries

-- the objects of an application
pub record IsFitContext (c : Context) : Type 0 where
  pub name : is_name c.name ≡ true
  pub ends : All IsFitEnd c.ends
  pub queues : All IsFitQueue c.queues

-- all of them
pub record IsFit (m : Machine) : Type 0 where
  pub contexts : All IsFitContext m.contexts

-- ---- lists

-- a thing in the place of another
replaced_all : {A : Type 0} (P : A → Type 0) (name : A → List ℕ) (k : List ℕ) (x : A) (xs : List A) → All P xs → (has_name name k xs ≡ true → P x) → All P (replaced name k x xs)
replaced_all P name k x xs all fits = by (has_name name k xs) refl
  where
    by : (b : Bool) → has_name name k xs ≡ b → All P (replaced name k x xs)
    by true e = subst (λ z. All P z) (sym (replaced-stored name k x xs e)) (All-store P name k x xs all (fits e))
    by false e =
        let past : nat_lt (place name k xs) (length xs) ≡ false = sym (has_name_is name k xs) ∙ e in
        subst (λ z. All P z) (sym (replaced_nowhere name k x xs (grind (arith, nat_tests)))) all

-- what is found, or stands where nothing is
named_or : {A : Type 0} (P : A → Type 0) (name : A → List ℕ) (none : A) (k : List ℕ) (xs : List A) → All P xs → P none → P (named name none k xs)
named_or P name none k xs all nothing = by (has_name name k xs) refl
  where
    by : (b : Bool) → has_name name k xs ≡ b → P (named name none k xs)
    by true e = All-named P name none k xs all e
    by false e = subst P (sym (named-absent name none k xs e)) nothing

-- request number i, where there is one
posted_fits : (posted : List Posted) (i : ℕ) → All IsFitRequest posted → IsFitRequest (posted_at posted i)
posted_fits [] i all = record { id = omega arith; size = omega arith }
posted_fits (r ∷ rs) zero all = All-head IsFitRequest r rs all
posted_fits (r ∷ rs) (suc i) all = posted_fits rs i (All-tail IsFitRequest r rs all)

-- a receive, where there is one
receive_at : (vs : List Receive) (i : ℕ) → All IsFitReceive vs → IfSome (slice_get vs i) IsFitReceive
receive_at [] i all = tt
receive_at (v ∷ vs) zero all = All-head IsFitReceive v vs all
receive_at (v ∷ vs) (suc i) all = receive_at vs i (All-tail IsFitReceive v vs all)

all_if : {A : Type 0} (P : A → Type 0) (b : Bool) (xs ys : List A) → All P xs → All P ys → All P (if b then xs else ys)
all_if P true xs ys h k = h
all_if P false xs ys h k = k

-- ---- what is in the machine

ends_fit : (m : Machine) → IsFit m → (c : Name) → All IsFitEnd (context_of m c).ends
unfolding context_of
ends_fit m fit c = named_or (λ x. All IsFitEnd x.ends) (λ x. x.name) (no_context c) c m.contexts (All-weaker IsFitContext (λ x. All IsFitEnd x.ends) (λ x is. is.ends) m.contexts fit.contexts) (All-nil IsFitEnd)

pub queues_fit : (m : Machine) → IsFit m → (c : Name) → All IsFitQueue (context_of m c).queues
unfolding context_of
queues_fit m fit c = named_or (λ x. All IsFitQueue x.queues) (λ x. x.name) (no_context c) c m.contexts (All-weaker IsFitContext (λ x. All IsFitQueue x.queues) (λ x is. is.queues) m.contexts fit.contexts) (All-nil IsFitQueue)

pub queue_fits : (m : Machine) → IsFit m → (c q : Name) → IsFitQueue (queue_of m c q)
unfolding queue_of
queue_fits m fit c q = named_or IsFitQueue (λ x. x.name) no_queue q (context_of m c).queues (queues_fit m fit c) (record { entries = All-nil IsFitEntry })

nobody_works : (o : ObjName) → HasFitWork (nobody o)
nobody_works o = record { posted = All-nil IsFitRequest; unused = All-nil IsFitReceive; in_use = tt }

work_fits : (m : Machine) → IsFit m → (o : ObjName) → HasFitWork (end_of m o)
unfolding end_of
work_fits m fit o = named_or HasFitWork (λ e. e.name) (nobody o) o.name (context_of m o.context).ends (All-weaker IsFitEnd HasFitWork (λ e is. is.work) (context_of m o.context).ends (ends_fit m fit o.context)) (nobody_works o)

context_named : (m : Machine) → IsFit m → (c : Name) → has_name (λ x. x.name) c m.contexts ≡ true → is_name (context_of m c).name ≡ true
unfolding context_of
context_named m fit c there = (All-named IsFitContext (λ x. x.name) (no_context c) c m.contexts fit.contexts there).name

end_named : (m : Machine) → IsFit m → (o : ObjName) → has_name (λ e. e.name) o.name (context_of m o.context).ends ≡ true → is_name (end_of m o).name ≡ true
unfolding end_of
end_named m fit o there = (All-named IsFitEnd (λ e. e.name) (nobody o) o.name (context_of m o.context).ends (ends_fit m fit o.context) there).name

-- ---- changes of it

-- another context of the same name
with_context_fits : (m : Machine) → IsFit m → (c : Name) (x : Context) → x.name ≡ (context_of m c).name → All IsFitEnd x.ends → All IsFitQueue x.queues → IsFit (with_context m c x)
unfolding with_context
with_context_fits m fit c x same ends queues = record {
  contexts = replaced_all IsFitContext (λ y. y.name) c x m.contexts fit.contexts (λ there. record {
    name = subst (λ n. is_name n ≡ true) (sym same) (context_named m fit c there);
    ends = ends;
    queues = queues;
  });
}

-- a change of an end that keeps its name, and adds no other work
record Keeps (f : End → End) : Type 0 where
  same : (e : End) → (f e).name ≡ e.name
  works : (e : End) → HasFitWork e → HasFitWork (f e)

-- an end, changed by f
in_end_fits : (m : Machine) → IsFit m → (o : ObjName) (f : End → End) → Keeps f → IsFit (in_end m o f)
unfolding with_end with_end_in
in_end_fits m fit o f keeps =
    with_context_fits m fit o.context _ refl
    (replaced_all IsFitEnd (λ e. e.name) o.name (f (end_of m o)) (context_of m o.context).ends (ends_fit m fit o.context) (λ there. record {
      name = subst (λ n. is_name n ≡ true) (sym (keeps.same (end_of m o))) (end_named m fit o there);
      work = keeps.works (end_of m o) (work_fits m fit o);
    }))
    (queues_fit m fit o.context)

with_regions_fits : (m : Machine) → IsFit m → (c : Name) (rs : List Region) → IsFit (with_regions m c rs)
unfolding with_regions
with_regions_fits m fit c rs = with_context_fits m fit c _ refl (ends_fit m fit c) (queues_fit m fit c)

with_queues_fits : (m : Machine) → IsFit m → (c : Name) (qs : List CompletionQueue) → All IsFitQueue qs → IsFit (with_queues m c qs)
unfolding with_queues
with_queues_fits m fit c qs are = with_context_fits m fit c _ refl (ends_fit m fit c) are

with_queue_fits : (m : Machine) → IsFit m → (c q : Name) (x : CompletionQueue) → IsFitQueue x → IsFit (with_queue m c q x)
unfolding with_queue with_queue_in
with_queue_fits m fit c q x is =
    with_context_fits m fit c _ refl (ends_fit m fit c)
    (replaced_all IsFitQueue (λ y. y.name) q x (context_of m c).queues (queues_fit m fit c) (λ there. is))

longer_fits : (x : CompletionQueue) (more : List Completion) → IsFitQueue x → All IsFitEntry more → IsFitQueue (longer x more)
longer_fits x more is are = record { entries = All-append IsFitEntry x.entries more is.entries are }

completed_fits : (q : Name) (more : List Completion) (qs : List CompletionQueue) → All IsFitEntry more → All IsFitQueue qs → All IsFitQueue (completed q more qs)
unfolding completed
completed_fits q more qs are all =
    replaced_all IsFitQueue (λ x. x.name) q _ qs all
    (λ there. longer_fits _ more (named_or IsFitQueue (λ x. x.name) no_queue q qs all (record { entries = All-nil IsFitEntry })) are)

completing_fits : (m : Machine) → IsFit m → (c q : Name) (more : List Completion) → All IsFitEntry more → IsFit (completing m c q more)
unfolding completing
completing_fits m fit c q more are = with_queue_fits m fit c q _ (longer_fits (queue_of m c q) more (queue_fits m fit c q) are)

-- ---- completions

request_fits : (number : ℕ) (r : Posted) (status : WcStatus) (n : ℕ) → IsFitRequest r → n < 2 ^ 32 → IsFitEntry (request_done number r status n)
unfolding request_done
request_fits number r status n is small = record { id = is.id; size = small }

one_entry : (c : Completion) → IsFitEntry c → All IsFitEntry (c ∷ [])
one_entry c is = All-cons IsFitEntry c [] is (All-nil IsFitEntry)

failed_requests_fit : (number : ℕ) (status : WcStatus) (rs : List Posted) → All IsFitRequest rs → All IsFitEntry (failed_requests number status rs)
unfolding failed_requests
failed_requests_fit number status [] all = All-nil IsFitEntry
failed_requests_fit number status (r ∷ rs) all =
    All-cons IsFitEntry _ _ (request_fits number r status 0 (All-head IsFitRequest r rs all) (omega arith))
    (failed_requests_fit number statuses.Flush rs (All-tail IsFitRequest r rs all))

failed_receives_fit : (number : ℕ) (vs : List Receive) → All IsFitReceive vs → All IsFitEntry (failed_receives number vs)
unfolding failed_receives receive_done
failed_receives_fit number vs all =
    All-map IsFitEntry (λ v. receive_done number v wc_kinds.Recv statuses.Flush 0 None) vs
    (All-weaker IsFitReceive (λ v. IsFitEntry (receive_done number v wc_kinds.Recv statuses.Flush 0 None)) (λ v is. record { id = is; size = omega arith }) vs all)

receives_fit : (e : End) → HasFitWork e → All IsFitReceive (ideal.receives_of e)
receives_fit e works = by e.in_use works.in_use
  where
    by : (o : Option Receive) → IfSome o IsFitReceive → All IsFitReceive (option_to_list o ++ e.unused)
    by None is = works.unused
    by (Some v) is = All-cons IsFitReceive v e.unused is works.unused

failed_queues_fit : (e : End) (status : WcStatus) (vs : List Receive) (qs : List CompletionQueue) → HasFitWork e → All IsFitReceive vs → All IsFitQueue qs → All IsFitQueue (failed_queues e status vs qs)
unfolding failed_queues untold
failed_queues_fit e status vs qs works are all =
    completed_fits e.receive_queue (failed_receives e.number vs) _ (failed_receives_fit e.number vs are)
    (completed_fits e.send_queue (failed_requests e.number status (untold e)) qs (failed_requests_fit e.number status (untold e) (All-drop IsFitRequest e.told e.posted works.posted)) all)

closed_keeps : Keeps closed
unfolding closed
closed_keeps = record { same = λ e. refl; works = λ e works. record { posted = works.posted; unused = All-nil IsFitReceive; in_use = tt } }

ended_with_fits : (m : Machine) → IsFit m → (o : ObjName) (status : WcStatus) → IsFit (ended_with m o status)
unfolding ended_with
ended_with_fits m fit o status =
    with_queues_fits (in_end m o closed) (in_end_fits m fit o closed closed_keeps) o.context _
    (failed_queues_fit (end_of m o) status (ideal.receives_of (end_of m o)) (context_of m o.context).queues (work_fits m fit o) (receives_fit (end_of m o) (work_fits m fit o)) (queues_fit m fit o.context))

-- ---- inner steps

-- the same work
same_work : (e x : End) → x.posted ≡ e.posted → x.unused ≡ e.unused → x.in_use ≡ e.in_use → HasFitWork e → HasFitWork x
same_work e x a b c works = record {
  posted = subst (λ z. All IsFitRequest z) (sym a) works.posted;
  unused = subst (λ z. All IsFitReceive z) (sym b) works.unused;
  in_use = subst (λ z. IfSome z IsFitReceive) (sym c) works.in_use;
}

acted_keeps : (reply : Reply) → Keeps (λ e. acted_with e reply)
unfolding acted_with
acted_keeps reply = record { same = λ e. refl; works = λ e works. same_work e (acted_with e reply) refl refl refl works }

advanced_named : (n : ℕ) (e : End) → (advanced e n).name ≡ e.name
unfolding advanced acted_with
advanced_named n e = by (fills e n)
  where
    by : (b : Bool) → (if b then acted_with e replies.Finished else record e { into = e.into + n }).name ≡ e.name
    by true = refl
    by false = refl

advanced_works : (n : ℕ) (e : End) → HasFitWork e → HasFitWork (advanced e n)
unfolding advanced
advanced_works n e works = by (fills e n)
  where
    by : (b : Bool) → HasFitWork (if b then acted_with e replies.Finished else record e { into = e.into + n })
    by true = (acted_keeps replies.Finished).works e works
    by false = same_work e (record e { into = e.into + n }) refl refl refl works

advanced_keeps : (n : ℕ) → Keeps (λ e. advanced e n)
advanced_keeps n = record { same = advanced_named n; works = advanced_works n }

receive_for_fits : (e : End) → HasFitWork e → IfSome (receive_for e) IsFitReceive
unfolding receive_for first_receive
receive_for_fits e works = by e.in_use works.in_use
  where
    by : (o : Option Receive) → IfSome o IsFitReceive → IfSome (first_receive o e.unused) IsFitReceive
    by None is = receive_at e.unused 0 works.unused
    by (Some v) is = is

unused_after_fits : (e : End) → HasFitWork e → All IsFitReceive (unused_after e)
unfolding unused_after
unused_after_fits e works = all_if IsFitReceive (is_some e.in_use) e.unused (drop 1 e.unused) works.unused (All-drop IsFitReceive 1 e.unused works.unused)

some_if : (b : Bool) (o p : Option Receive) → IfSome o IsFitReceive → IfSome p IsFitReceive → IfSome (if b then o else p) IsFitReceive
some_if true o p h k = h
some_if false o p h k = k

receiving_named : (s : Shape) (whole : Bool) (e : End) → (receiving s whole e).name ≡ e.name
unfolding receiving
receiving_named s whole e = by (is_send s.kind) (is_some s.imm && whole)
  where
    by : (a b : Bool) → (if a then record e { in_use = if whole then None else receive_for e; unused = unused_after e } else if b then record e { unused = drop 1 e.unused } else e).name ≡ e.name
    by true b = refl
    by false true = refl
    by false false = refl

receiving_works : (s : Shape) (whole : Bool) (e : End) → HasFitWork e → HasFitWork (receiving s whole e)
unfolding receiving
receiving_works s whole e works = by (is_send s.kind) (is_some s.imm && whole)
  where
    by : (a b : Bool) → HasFitWork (if a then record e { in_use = if whole then None else receive_for e; unused = unused_after e } else if b then record e { unused = drop 1 e.unused } else e)
    by true b = record { posted = works.posted; unused = unused_after_fits e works; in_use = some_if whole None (receive_for e) tt (receive_for_fits e works) }
    by false true = record { posted = works.posted; unused = All-drop IsFitReceive 1 e.unused works.unused; in_use = works.in_use }
    by false false = works

receiving_keeps : (s : Shape) (whole : Bool) → Keeps (receiving s whole)
receiving_keeps s whole = record { same = receiving_named s whole; works = receiving_works s whole }

used_by_fits : (r : Posted) (e : End) → HasFitWork e → IfSome (used_by r e) IsFitReceive
unfolding used_by
used_by_fits r e works =
    some_if (is_send (kind_of r)) (receive_for e) _ (receive_for_fits e works)
    (some_if (is_some r.request.shape.imm) (slice_get e.unused 0) None (receive_at e.unused 0 works.unused) tt)

received_whole_fits : (number : ℕ) (r : Posted) (o : Option Receive) → IsFitRequest r → IfSome o IsFitReceive → All IsFitEntry (received_whole number r o)
unfolding received_whole receive_done
received_whole_fits number r None is used = All-nil IsFitEntry
received_whole_fits number r (Some v) is used = one_entry _ (record { id = used; size = is.size })

arrivals_fit : (e : End) (n : ℕ) (x : End) → HasFitWork e → HasFitWork x → All IsFitEntry (arrivals e n x)
unfolding arrivals
arrivals_fit e n x works there =
    all_if IsFitEntry (fills e n) (received_whole x.number (current e) (used_by (current e) x)) []
    (received_whole_fits x.number (current e) (used_by (current e) x) (posted_fits e.posted e.acted works.posted) (used_by_fits (current e) x there))
    (All-nil IsFitEntry)

put_in_receive_fits : (m : Machine) → IsFit m → (c : Name) (into : ℕ) (new : List ℕ) (o : Option Receive) → IsFit (put_in_receive m c into new o)
unfolding put_in_receive
put_in_receive_fits m fit c into new None = fit
put_in_receive_fits m fit c into new (Some v) = with_regions_fits m fit c _

placing_fits : (m : Machine) → IsFit m → (c : Name) (e x : End) (new : List ℕ) → IsFit (placing m c e x new)
unfolding placing
placing_fits m fit c e x new = by (is_send (kind_of (current e)))
  where
    by : (b : Bool) → IsFit (if b then put_in_receive m c e.into new (receive_for x) else put_in_range m c e.into new (current e))
    by true = put_in_receive_fits m fit c e.into new (receive_for x)
    by false = with_regions_fits m fit c _

run_fits : (m : Machine) → IsFit m → (q : ObjName) (n : ℕ) → IsFit (run m q n)
unfolding run run_towards
run_fits m fit q n =
    let e : End = end_of m q in
    let x : End = peer_of m q in
    with_queues_fits _
    (in_end_fits _
    (placing_fits (in_end m q (λ y. advanced y n)) (in_end_fits m fit q (λ y. advanced y n) (advanced_keeps n)) e.peer.context e x _)
    e.peer _ (receiving_keeps (current e).request.shape (fills e n)))
    e.peer.context _
    (completed_fits x.receive_queue (arrivals e n x) (context_of m e.peer.context).queues (arrivals_fit e n x (work_fits m fit q) (work_fits m fit e.peer)) (queues_fit m fit e.peer.context))

atom_fits : (m : Machine) → IsFit m → (q : ObjName) → IsFit (atom m q)
unfolding atom atom_on
atom_fits m fit q =
    let old : ℕ = ideal.word_there (current (end_of m q)) (ideal.peer_regions m q) in
    with_regions_fits (in_end m q (λ e. acted_with e (replies.OldValue old))) (in_end_fits m fit q _ (acted_keeps (replies.OldValue old))) (end_of m q).peer.context _

read_turn_fits : (m : Machine) → IsFit m → (q : ObjName) → IsFit (read_turn m q)
unfolding read_turn
read_turn_fits m fit q = in_end_fits m fit q _ (acted_keeps replies.Finished)

denied_keeps : (why : RefusalReason) → Keeps (λ e. denied e why)
unfolding denied
denied_keeps why = record { same = λ e. refl; works = λ e works. same_work e (denied e why) refl refl refl works }

too_long_fits : (number : ℕ) (o : Option Receive) → IfSome o IsFitReceive → All IsFitEntry (too_long number o)
unfolding too_long receive_done
too_long_fits number None is = All-nil IsFitEntry
too_long_fits number (Some v) is = one_entry _ (record { id = is; size = omega arith })

refused_entries_fit : (x : End) (why : RefusalReason) → HasFitWork x → All IsFitEntry (refused_entries x why)
unfolding refused_entries
refused_entries_fit x whys.Invalid works = All-nil IsFitEntry
refused_entries_fit x whys.Access works = All-nil IsFitEntry
refused_entries_fit x whys.Length works = too_long_fits x.number (receive_for x) (receive_for_fits x works)

refused_receives_fit : (x : End) (why : RefusalReason) → HasFitWork x → All IsFitReceive (refused_receives x why)
unfolding refused_receives
refused_receives_fit x whys.Invalid works = receives_fit x works
refused_receives_fit x whys.Access works = receives_fit x works
refused_receives_fit x whys.Length works = unused_after_fits x works

refuse_fits : (m : Machine) → IsFit m → (q : ObjName) (why : RefusalReason) → IsFit (refuse m q why)
unfolding refuse refuse_at refused_queues
refuse_fits m fit q why =
    let p : ObjName = (end_of m q).peer in
    let x : End = peer_of m q in
    let works = work_fits m fit p in
    with_queues_fits _
    (in_end_fits _ (in_end_fits m fit q (λ e. denied e why) (denied_keeps why)) p closed closed_keeps)
    p.context _
    (failed_queues_fit x statuses.Flush (refused_receives x why) _ works (refused_receives_fit x why works)
    (completed_fits x.receive_queue (refused_entries x why) (context_of m p.context).queues (refused_entries_fit x why works) (queues_fit m fit p.context)))

dried_keeps : Keeps dried_at
unfolding dried_at
dried_keeps = record { same = λ e. refl; works = λ e works. same_work e (dried_at e) refl refl refl works }

dried_fits : (m : Machine) → IsFit m → (q : ObjName) → IsFit (dried m q)
unfolding dried
dried_fits m fit q = in_end_fits m fit q dried_at dried_keeps

offer_keeps : (i off : ℕ) (bytes : List ℕ) → Keeps (λ e. with_offer e i off bytes)
unfolding with_offer
offer_keeps i off bytes = record { same = λ e. refl; works = λ e works. same_work e (with_offer e i off bytes) refl refl refl works }

offered_fits : (m : Machine) → IsFit m → (q : ObjName) (i off n : ℕ) → IsFit (offered m q i off n)
unfolding offered
offered_fits m fit q i off n = in_end_fits m fit q _ (offer_keeps i off (ideal.bytes_there (posted_at (end_of m q).posted i) off n (ideal.peer_regions m q)))

known_keeps : (f : End → ℕ) → Keeps (λ e. with_known e (f e))
unfolding with_known
known_keeps f = record { same = λ e. refl; works = λ e works. same_work e (with_known e (f e)) refl refl refl works }

landed_fits : (m : Machine) → IsFit m → (q : ObjName) (o : ℕ) → IsFit (landed m q o)
unfolding landed land_at
landed_fits m fit q o =
    let e : End = end_of m q in
    let bytes : List ℕ = ideal.bytes_of (slice_get e.offers o) in
    in_end_fits _ (with_regions_fits m fit q.context _) q _ (known_keeps (λ x. e.known + length bytes))

knowing_fits : (m : Machine) → IsFit m → (q : ObjName) (n : ℕ) → IsFit (knowing m q n)
unfolding knowing
knowing_fits m fit q n = in_end_fits m fit q _ (known_keeps (λ x. n))

success_fits : (e : End) (r : Posted) → IsFitRequest r → All IsFitEntry (success e r)
unfolding success
success_fits e r is = all_if IsFitEntry r.request.signaled _ [] (one_entry _ (request_fits e.number r statuses.Success (size_of r) is is.size)) (All-nil IsFitEntry)

put_old_fits : (m : Machine) → IsFit m → (c : Name) (r : Request) (o : Option Reply) → IsFit (put_old m c r o)
unfolding put_old
put_old_fits m fit c r None = fit
put_old_fits m fit c r (Some replies.Finished) = fit
put_old_fits m fit c r (Some (replies.OldValue value)) = with_regions_fits m fit c _
put_old_fits m fit c r (Some (replies.Denied why)) = fit

told_keeps : Keeps told_one
unfolding told_one
told_keeps = record { same = λ e. refl; works = λ e works. same_work e (told_one e) refl refl refl works }

tell_fits : (m : Machine) → IsFit m → (q : ObjName) → IsFit (tell m q)
unfolding tell tell_at
tell_fits m fit q =
    let e : End = end_of m q in
    in_end_fits _
    (put_old_fits _
    (completing_fits m fit q.context e.send_queue (success e (front e)) (success_fits e (front e) (posted_fits e.posted e.told (work_fits m fit q).posted)))
    q.context (front e).request (slice_get e.answers e.told))
    q told_one told_keeps

expired_keeps : Keeps expired
unfolding expired
expired_keeps = record { same = λ e. refl; works = λ e works. same_work e (expired e) refl refl refl works }

expire_fits : (m : Machine) → IsFit m → (q : ObjName) → IsFit (expire m q)
unfolding expire
expire_fits m fit q = by ((end_of m q).spent == (end_of m q).retry)
  where
    by : (b : Bool) → IsFit (if b then ended_with m q statuses.RetryExceeded else in_end m q expired)
    by true = ended_with_fits m fit q statuses.RetryExceeded
    by false = in_end_fits m fit q expired expired_keeps

waited_keeps : Keeps waited
unfolding waited
waited_keeps = record { same = λ e. refl; works = λ e works. same_work e (waited e) refl refl refl works }

wait_fits : (m : Machine) → IsFit m → (q : ObjName) → IsFit (wait m q)
unfolding wait
wait_fits m fit q = by ((end_of m q).rnr == 7) ((end_of m q).waits == (end_of m q).rnr)
  where
    by : (a b : Bool) → IsFit (if a then m else if b then ended_with m q statuses.RnrExceeded else in_end m q waited)
    by true b = fit
    by false true = ended_with_fits m fit q statuses.RnrExceeded
    by false false = in_end_fits m fit q waited waited_keeps

bounce_fits : (m : Machine) → IsFit m → (q : ObjName) → IsFit (bounce m q)
unfolding bounce
bounce_fits m fit q = ended_with_fits m fit q _

-- ---- verbs

-- what a verb names is spelled, and its numbers are within their bits
abbrev pub IsFitVerb : Verb → Type 0
IsFitVerb (verbs.Context name made) = is_name name ≡ true
IsFitVerb (verbs.MakeQp o domain send_cq recv_cq send_depth recv_depth) = is_name o.name ≡ true
IsFitVerb (verbs.PostSend o r) = (r.id < 2 ^ 64) × (r.shape.length < 2 ^ 32)
IsFitVerb (verbs.PostRecv o v) = v.id < 2 ^ 64
IsFitVerb other = Unit {0}

context_made : (m : Machine) → IsFit m → (name : Name) (made : Bool) (given : ℕ) → is_name name ≡ true → IsFit (done m (verbs.Context name made) given)
context_made m fit name made given is = record {
  contexts = All-push IsFitContext m.contexts (no_context name) fit.contexts (record { name = is; ends = All-nil IsFitEnd; queues = All-nil IsFitQueue });
}

joined_keeps : (peer : ObjName) (terms : Terms) → Keeps (joined peer terms)
unfolding joined
joined_keeps peer terms = record { same = λ e. refl; works = λ e works. same_work e (joined peer terms e) refl refl refl works }

pair_fits : (m : Machine) → IsFit m → (one two : ObjName) (terms : Terms) → IsFit (connected_pair m one two terms)
unfolding connected_pair
pair_fits m fit one two terms =
    in_end_fits (in_end m one (joined two terms)) (in_end_fits m fit one (joined two terms) (joined_keeps two terms)) two (joined one terms) (joined_keeps one terms)

domain_fits : (m : Machine) → IsFit m → (o : ObjName) → IsFit (with_domain m o)
unfolding with_domain
domain_fits m fit o = with_context_fits m fit o.context _ refl (ends_fit m fit o.context) (queues_fit m fit o.context)

region_fits : (m : Machine) → IsFit m → (o : ObjName) (domain : Name) (base count : ℕ) (rights : Rights) (given : ℕ) → IsFit (made_region m o domain base count rights given)
unfolding made_region
region_fits m fit o domain base count rights given = with_regions_fits (record m { keys = m.keys ++ given ∷ [] }) (record { contexts = fit.contexts }) o.context _

queue_made : (m : Machine) → IsFit m → (o : ObjName) (capacity : ℕ) → IsFit (made_queue m o capacity)
unfolding made_queue
queue_made m fit o capacity =
    with_context_fits m fit o.context _ refl (ends_fit m fit o.context)
    (All-push IsFitQueue (context_of m o.context).queues _ (queues_fit m fit o.context) (record { entries = All-nil IsFitEntry }))

context_given : (m : Machine) (numbers : List ℕ) (c : Name) → (let x : Machine = record m { numbers = numbers } in context_of x c) ≡ context_of m c
unfolding context_of
context_given m numbers c = refl

end_made : (m : Machine) → IsFit m → (o : ObjName) (domain send_cq recv_cq : Name) (send_depth recv_depth given : ℕ) → is_name o.name ≡ true → IsFit (made_end m o domain send_cq recv_cq send_depth recv_depth given)
unfolding made_end
end_made m fit o domain send_cq recv_cq send_depth recv_depth given is =
    with_context_fits (record m { numbers = m.numbers ++ given ∷ [] }) (record { contexts = fit.contexts }) o.context _
    (ap (λ (c : Context). c.name) (sym (context_given m (m.numbers ++ given ∷ []) o.context)))
    (All-push IsFitEnd (context_of m o.context).ends _ (ends_fit m fit o.context) (record { name = is; work = record { posted = All-nil IsFitRequest; unused = All-nil IsFitReceive; in_use = tt } }))
    (queues_fit m fit o.context)

stored_fits : (m : Machine) → IsFit m → (o : ObjName) (address : ℕ) (bytes : List ℕ) → IsFit (stored m o address bytes)
unfolding stored
stored_fits m fit o address bytes = with_regions_fits m fit o.context _

posted_verb : (m : Machine) → IsFit m → (o : ObjName) (r : Request) → r.id < 2 ^ 64 → r.shape.length < 2 ^ 32 → IsFit (posted m o r)
unfolding posted taken
posted_verb m fit o r id size = by (end_of m o).ended
  where
    by : (b : Bool) → IsFit (if b then completing m o.context (end_of m o).send_queue (request_done (end_of m o).number (taken m o r) statuses.Flush 0 ∷ []) else in_end m o (verbal.with_request (taken m o r)))
    by true = completing_fits m fit o.context (end_of m o).send_queue _ (one_entry _ (request_fits (end_of m o).number (taken m o r) statuses.Flush 0 (record { id = id; size = size }) (omega arith)))
    by false =
        in_end_fits m fit o (verbal.with_request (taken m o r)) (record {
          same = λ e. refl;
          works = λ e works. record { posted = All-push IsFitRequest e.posted (taken m o r) works.posted (record { id = id; size = size }); unused = works.unused; in_use = works.in_use };
        })

received_verb : (m : Machine) → IsFit m → (o : ObjName) (v : Receive) → v.id < 2 ^ 64 → IsFit (received m o v)
unfolding received receive_done
received_verb m fit o v id = by (end_of m o).ended
  where
    by : (b : Bool) → IsFit (if b then completing m o.context (end_of m o).receive_queue (receive_done (end_of m o).number v wc_kinds.Recv statuses.Flush 0 None ∷ []) else in_end m o (verbal.with_receive v))
    by true = completing_fits m fit o.context (end_of m o).receive_queue _ (one_entry _ (record { id = id; size = omega arith }))
    by false =
        in_end_fits m fit o (verbal.with_receive v) (record {
          same = λ e. refl;
          works = λ e works. record { posted = works.posted; unused = All-push IsFitReceive e.unused v works.unused id; in_use = works.in_use };
        })

polled_fits : (m : Machine) → IsFit m → (o : ObjName) (max : ℕ) → IsFit (polled m o max)
unfolding polled
polled_fits m fit o max =
    with_queue_fits m fit o.context o.name _ (record { entries = All-drop IsFitEntry max (queue_of m o.context o.name).entries (queue_fits m fit o.context o.name).entries })

done_fits : (m : Machine) → IsFit m → (v : Verb) (given : ℕ) → IsFitVerb v → IsFit (done m v given)
done_fits m fit (verbs.Context name made) given is = context_made m fit name made given is
done_fits m fit (verbs.Connect one two terms) given is = pair_fits m fit one two terms
done_fits m fit (verbs.MakeDomain o) given is = domain_fits m fit o
done_fits m fit (verbs.MakeRegion o domain base count rights) given is = region_fits m fit o _ base count rights given
done_fits m fit (verbs.MakeCq o capacity) given is = queue_made m fit o capacity
done_fits m fit (verbs.MakeQp o domain send_cq recv_cq send_depth recv_depth) given is = end_made m fit o _ _ _ send_depth recv_depth given is
done_fits m fit (verbs.DropRegion o) given is = with_regions_fits m fit o.context _
done_fits m fit (verbs.Store o address bytes) given is = stored_fits m fit o address bytes
done_fits m fit (verbs.Load o address count) given is = fit
done_fits m fit (verbs.PostSend o r) given is = posted_verb m fit o r is.0 is.1
done_fits m fit (verbs.PostRecv o v) given is = received_verb m fit o v is
done_fits m fit (verbs.Poll o max) given is = polled_fits m fit o max

verb_fits : (o : Option Refusal) (m : Machine) → IsFit m → (v : Verb) (given : ℕ) → IsFitVerb v → IsFit (after_answer o m v given)
verb_fits None m fit v given is = done_fits m fit v given is
verb_fits (Some r) m fit v given is = fit

-- ---- runs

-- of a step only its verb matters
abbrev pub IsFitStep : MachineStep → Type 0
IsFitStep (steps.Verb v given) = IsFitVerb v
IsFitStep other = Unit {0}

abbrev pub AreFitSteps : List MachineStep → Type 0
AreFitSteps [] = Unit {0}
AreFitSteps (s ∷ ss) = IsFitStep s × AreFitSteps ss

pub effect_fits : (m : Machine) → IsFit m → (s : MachineStep) → IsFitStep s → IsFit (effect m s)
effect_fits m fit (steps.Verb v given) is = verb_fits (refusal_of m v) m fit v given is
effect_fits m fit (steps.Run q n) is = run_fits m fit q n
effect_fits m fit (steps.Atom q) is = atom_fits m fit q
effect_fits m fit (steps.ReadTurn q) is = read_turn_fits m fit q
effect_fits m fit (steps.Refuse q why) is = refuse_fits m fit q why
effect_fits m fit (steps.Dry q) is = dried_fits m fit q
effect_fits m fit (steps.Offer q i off n) is = offered_fits m fit q i off n
effect_fits m fit (steps.Land q o) is = landed_fits m fit q o
effect_fits m fit (steps.Known q n) is = knowing_fits m fit q n
effect_fits m fit (steps.Tell q) is = tell_fits m fit q
effect_fits m fit (steps.Expire q) is = expire_fits m fit q
effect_fits m fit (steps.Wait q) is = wait_fits m fit q
effect_fits m fit (steps.Bounce q) is = bounce_fits m fit q

pub after_fits : (m : Machine) → IsFit m → (ss : List MachineStep) → AreFitSteps ss → IsFit (after m ss)
after_fits m fit [] are = fit
after_fits m fit (s ∷ ss) are = after_fits (effect m s) (effect_fits m fit s are.0) ss are.1

-- ---- the ends of inner steps

nobody_connects : (m : Machine) (q : ObjName) → has_name (λ e. e.name) q.name (context_of m q.context).ends ≡ false → (end_of m q).connected ≡ false
unfolding end_of
nobody_connects m q none = ap (λ (e : End). e.connected) (named-absent (λ e. e.name) (nobody q) q.name (context_of m q.context).ends none)

no_ends : (m : Machine) (q : ObjName) → has_name (λ x. x.name) q.context m.contexts ≡ false → has_name (λ e. e.name) q.name (context_of m q.context).ends ≡ false
unfolding context_of has_name
no_ends m q none = ap (λ (c : Context). has_name (λ e. e.name) q.name c.ends) (named-absent (λ x. x.name) (no_context q.context) q.context m.contexts none)

end_called : (m : Machine) (q : ObjName) → has_name (λ e. e.name) q.name (context_of m q.context).ends ≡ true → (end_of m q).name ≡ q.name
unfolding end_of
end_called m q there = name-named_there (λ e. e.name) (nobody q) q.name (context_of m q.context).ends there

context_called : (m : Machine) (c : Name) → has_name (λ x. x.name) c m.contexts ≡ true → (context_of m c).name ≡ c
unfolding context_of
context_called m c there = name-named_there (λ x. x.name) (no_context c) c m.contexts there

-- a connected end is one that was made, and so its names are spelled
connected_spelled : (m : Machine) → IsFit m → (q : ObjName) → (end_of m q).connected ≡ true → IsSpelled q
connected_spelled m fit q joins = record { context = one (has_name (λ x. x.name) q.context m.contexts) refl; name = two (has_name (λ e. e.name) q.name (context_of m q.context).ends) refl }
  where
    one : (b : Bool) → has_name (λ x. x.name) q.context m.contexts ≡ b → is_name q.context ≡ true
    one true e = subst (λ n. is_name n ≡ true) (context_called m q.context e) (context_named m fit q.context e)
    one false e = let no = nobody_connects m q (no_ends m q e) in cc

    two : (b : Bool) → has_name (λ e. e.name) q.name (context_of m q.context).ends ≡ b → is_name q.name ≡ true
    two true e = subst (λ n. is_name n ≡ true) (end_called m q e) (end_named m fit q e)
    two false e = let no = nobody_connects m q e in cc

peer_connected : (m : Machine) (q : ObjName) → has_peer m q ≡ true → (end_of m q).connected ≡ true
unfolding has_peer
peer_connected m q h = left _ _ h

current_connected : (m : Machine) (q : ObjName) → has_current m q ≡ true → (end_of m q).connected ≡ true
unfolding has_current
current_connected m q h = peer_connected m q (left _ _ h)

untold_connected : (m : Machine) (q : ObjName) → has_untold m q ≡ true → (end_of m q).connected ≡ true
unfolding has_untold
untold_connected m q h = left _ _ h

abbrev pub IsInner : MachineStep → Type 0
IsInner (steps.Verb v given) = ⊥
IsInner other = Unit {0}

-- the end of an inner step that may be made is spelled
pub enabled_named : (m : Machine) → IsFit m → (s : MachineStep) → IsInner s → is_enabled m s ≡ true → IsNamed s
unfolding may_run may_atom may_read may_refuse may_dry may_offer may_land may_know may_tell may_wait may_bounce
enabled_named m fit (steps.Verb v given) inner may = absurd inner
enabled_named m fit (steps.Run q n) inner may = connected_spelled m fit q (current_connected m q (left _ _ may))
enabled_named m fit (steps.Atom q) inner may = connected_spelled m fit q (current_connected m q (left _ _ may))
enabled_named m fit (steps.ReadTurn q) inner may = connected_spelled m fit q (current_connected m q (left _ _ may))
enabled_named m fit (steps.Refuse q why) inner may = connected_spelled m fit q (current_connected m q (left _ _ may))
enabled_named m fit (steps.Dry q) inner may = connected_spelled m fit q (current_connected m q (left _ _ may))
enabled_named m fit (steps.Offer q i off n) inner may = connected_spelled m fit q (peer_connected m q (left _ _ may))
enabled_named m fit (steps.Land q o) inner may = connected_spelled m fit q (untold_connected m q (left _ _ may))
enabled_named m fit (steps.Known q n) inner may = connected_spelled m fit q (untold_connected m q (left _ _ may))
enabled_named m fit (steps.Tell q) inner may = connected_spelled m fit q (untold_connected m q (left _ _ may))
enabled_named m fit (steps.Expire q) inner may = connected_spelled m fit q (untold_connected m q may)
enabled_named m fit (steps.Wait q) inner may = connected_spelled m fit q (untold_connected m q (left _ _ may))
enabled_named m fit (steps.Bounce q) inner may = connected_spelled m fit q (untold_connected m q (left _ _ may))
