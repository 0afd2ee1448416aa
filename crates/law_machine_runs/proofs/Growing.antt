-- What a step of the machine does to the requests of an end, to the count of those that acted, and to the bytes in place.
use Rattle.std.proofs.Common.{◌≡◌, ℕ, List, [], ◌∷◌, ◌++◌, drop, true, false, Bool, refl, sym, ap, ◌∙◌, subst}
use Rattle.std.specs.Prelude.{Option, Some, None, if◌then◌else◌, ◌==◌, is_some, ◌&&◌}
use Rattle.std.proofs.lemmas.List.{append-nil, append_assoc}
use Rattle.rdma_types.specs.declared.names.Name.{Name}
use Rattle.rdma_types.specs.declared.names.ObjName.{ObjName}
use Rattle.rdma_types.specs.declared.requests.Receive.{Receive}
use Rattle.rdma_types.specs.declared.requests.Request.{Request}
use Rattle.rdma_types.specs.declared.requests.Shape.{Shape}
use Rattle.rdma_types.specs.declared.requests.Completion.{Completion}
use Rattle.rdma_types.specs.declared.requests.WcStatus.{WcStatus}
use Rattle.rdma_types.specs.declared.requests.WcStatus.TheVariants as statuses
use Rattle.rdma_types.specs.declared.answers.Refusal.{Refusal}
use Rattle.rdma_types.specs.declared.answers.RefusalReason.{RefusalReason}
use Rattle.rdma_types.specs.declared.verbs.Verb.{Verb}
use Rattle.rdma_types.specs.declared.verbs.Verb.TheVariants as verbs
use Rattle.rdma_types.specs.declared.requests.WcKind.TheVariants as wc_kinds
use Rattle.rdma_types.specs.Kinds.{is_send, kind_of, receive_done, request_done}
use Rattle.rdma_types.specs.Lists.{named}
use Rattle.rdma_types.specs.Objects.{CompletionQueue, Posted, Region}
use Rattle.packetless_machine.specs.declared.reply.Reply.TheVariants.{OldValue}
use Rattle.packetless_machine.specs.Machine.{Machine, Context, End, no_context, nobody, new_end, context_of, end_of, with_context, with_end, with_regions, with_queues, with_queue, with_queue_in, completing, in_end}
use Rattle.packetless_machine.specs.Steps as ideal
use Rattle.packetless_machine.specs.Steps.{advanced, acted_with, fills, receiving, placing, put_in_receive, put_in_range, run_towards, run, atom, atom_on, read_turn, refuse, refuse_at, denied, closed, dried, dried_at, offered, with_offer, landed, land_at, with_known, knowing, tell, tell_at, told_one, expire, expired, ended_with, wait, waited, bounce, peer_of, receive_for, current, put_old, in_place}
use Rattle.packetless_machine.specs.Verbs as verbal
use Rattle.packetless_machine.specs.Verbs.{refusal_of, after_answer, done}
use Rattle.packetless_machine.proofs.Views.{end_of-with_context, end_of-with_regions, end_of-completing, end_of-put_old}
use Rattle.law_simulation.proofs.runs.Acting.{related, pushed, end_related}

-- an end after a step that puts nothing of it: more is posted, at most
pub record Grows (old new : End) : Type 0 where
  pub more : List Posted
  pub posted : new.posted ≡ old.posted ++ more
  pub acted : new.acted ≡ old.acted
  pub into : new.into ≡ old.into

pub same : (e : End) → Grows e e
same e = record { more = []; posted = sym (append-nil e.posted); acted = refl; into = refl }

like : (a b : End) → b.posted ≡ a.posted → b.acted ≡ a.acted → b.into ≡ a.into → Grows a b
like a b p q r = record { more = []; posted = p ∙ sym (append-nil a.posted); acted = q; into = r }

as_is : (a b : End) → b ≡ a → Grows a b
as_is a b h = subst (Grows a) (sym h) (same a)

pub on : (a b c : End) → Grows b c → Grows a b → Grows a c
on a b c h k = record { more = k.more ++ h.more; posted = h.posted ∙ (ap (λ xs. xs ++ h.more) k.posted ∙ append_assoc a.posted k.more h.more); acted = h.acted ∙ k.acted; into = h.into ∙ k.into }

abbrev pub GrowsAt : Machine → Machine → ObjName → Type 0
GrowsAt m m' q = Grows (end_of m q) (end_of m' q)

then_on : (m m' m'' : Machine) (q : ObjName) → GrowsAt m' m'' q → GrowsAt m m' q → GrowsAt m m'' q
then_on m m' m'' q h k = on (end_of m q) (end_of m' q) (end_of m'' q) h k

-- ---- one end changes

end_grown : (m : Machine) (o : ObjName) (e : End) (q : ObjName) → e.name ≡ (end_of m o).name → Grows (end_of m o) e → GrowsAt m (with_end m o e) q
end_grown m o e q n r = end_related (λ a b. Grows b a) same m o e q n r

-- ---- other parts of the machine

context_grown : (m : Machine) (c : Name) (x : Context) (q : ObjName) → x.name ≡ (context_of m c).name → x.ends ≡ (context_of m c).ends → GrowsAt m (with_context m c x) q
context_grown m c x q n h = as_is (end_of m q) (end_of (with_context m c x) q) (end_of-with_context m c x q n h)

queues_grown : (m : Machine) (c : Name) (qs : List CompletionQueue) (q : ObjName) → GrowsAt m (with_queues m c qs) q
unfolding with_queues
queues_grown m c qs q = context_grown m c _ q refl refl

regions_grown : (m : Machine) (c : Name) (rs : List Region) (q : ObjName) → GrowsAt m (with_regions m c rs) q
regions_grown m c rs q = as_is (end_of m q) (end_of (with_regions m c rs) q) (end_of-with_regions m c rs q)

completing_grown : (m : Machine) (c n : Name) (more : List Completion) (q : ObjName) → GrowsAt m (completing m c n more) q
completing_grown m c n more q = as_is (end_of m q) (end_of (completing m c n more) q) (end_of-completing m c n more q)

-- ---- the inner steps

ended_grown : (m : Machine) (o : ObjName) (status : WcStatus) (q : ObjName) → GrowsAt m (ended_with m o status) q
unfolding ended_with closed
ended_grown m o status q = then_on m (in_end m o closed) _ q (queues_grown _ _ _ q) (end_grown m o (closed (end_of m o)) q refl (like (end_of m o) (closed (end_of m o)) refl refl refl))

receive_grown : (m : Machine) (c : Name) (into : ℕ) (new : List ℕ) (v : Option Receive) (q : ObjName) → GrowsAt m (put_in_receive m c into new v) q
unfolding put_in_receive
receive_grown m c into new None q = same (end_of m q)
receive_grown m c into new (Some v) q = regions_grown m c _ q

placing_grown : (m : Machine) (c : Name) (e x : End) (new : List ℕ) (q : ObjName) → GrowsAt m (placing m c e x new) q
unfolding placing
placing_grown m c e x new q = by (is_send (kind_of (current e)))
  where
    by : (b : Bool) → GrowsAt m (if b then put_in_receive m c e.into new (receive_for x) else put_in_range m c e.into new (current e)) q
    by true = receive_grown m c e.into new (receive_for x) q
    by false = regions_grown m c _ q

record IsLike (x y : End) : Type 0 where
  name : y.name ≡ x.name
  grows : Grows x y

receiving_like : (shape : Shape) (whole : Bool) (x : End) → IsLike x (receiving shape whole x)
unfolding receiving
receiving_like shape whole x = by (is_send shape.kind) (is_some shape.imm && whole)
  where
    by : (a b : Bool) → IsLike x (if a then record x { in_use = if whole then None else receive_for x; unused = ideal.unused_after x } else if b then record x { unused = drop 1 x.unused } else x)
    by true b = record { name = refl; grows = like _ _ refl refl refl }
    by false true = record { name = refl; grows = like _ _ refl refl refl }
    by false false = record { name = refl; grows = same x }

-- a Run, after its own end changed
pub run_grown : (m : Machine) (o : ObjName) (n : ℕ) (q : ObjName) → GrowsAt (in_end m o (λ y. advanced y n)) (run m o n) q
unfolding run run_towards
run_grown m o n q =
    let r : IsLike _ _ = receiving_like (current (end_of m o)).request.shape (fills (end_of m o) n) _ in
    then_on _ _ _ q (queues_grown _ _ _ q) (then_on _ _ _ q (end_grown _ _ _ q r.name r.grows) (placing_grown _ _ _ _ _ q))

pub atom_grown : (m : Machine) (o q : ObjName) → GrowsAt (in_end m o (λ e. acted_with e (OldValue (ideal.word_there (current (end_of m o)) (ideal.peer_regions m o))))) (atom m o) q
unfolding atom atom_on
atom_grown m o q = regions_grown _ _ _ q

pub refuse_grown : (m : Machine) (o : ObjName) (why : RefusalReason) (q : ObjName) → GrowsAt m (refuse m o why) q
unfolding refuse refuse_at denied closed
refuse_grown m o why q = then_on m _ _ q (queues_grown _ _ _ q) (then_on m (in_end m o (λ e. denied e why)) _ q (end_grown _ _ _ q refl (like _ _ refl refl refl)) (end_grown m o _ q refl (like _ _ refl refl refl)))

pub dry_grown : (m : Machine) (o q : ObjName) → GrowsAt m (dried m o) q
unfolding dried dried_at
dry_grown m o q = end_grown m o _ q refl (like _ _ refl refl refl)

pub offer_grown : (m : Machine) (o : ObjName) (i off n : ℕ) (q : ObjName) → GrowsAt m (offered m o i off n) q
unfolding offered with_offer
offer_grown m o i off n q = end_grown m o _ q refl (like _ _ refl refl refl)

pub land_grown : (m : Machine) (o : ObjName) (i : ℕ) (q : ObjName) → GrowsAt m (landed m o i) q
unfolding landed land_at with_known
land_grown m o i q = then_on m _ _ q (end_grown _ o _ q refl (like _ _ refl refl refl)) (regions_grown m o.context _ q)

pub know_grown : (m : Machine) (o : ObjName) (bytes : ℕ) (q : ObjName) → GrowsAt m (knowing m o bytes) q
unfolding knowing with_known
know_grown m o bytes q = end_grown m o _ q refl (like _ _ refl refl refl)

pub tell_grown : (m : Machine) (o q : ObjName) → GrowsAt m (tell m o) q
unfolding tell tell_at told_one
tell_grown m o q =
    then_on m _ _ q (end_grown _ o _ q refl (like _ _ refl refl refl))
    (then_on m _ _ q (as_is _ _ (end_of-put_old _ _ _ _ q)) (completing_grown m o.context _ _ q))

pub expire_grown : (m : Machine) (o q : ObjName) → GrowsAt m (expire m o) q
unfolding expire expired
expire_grown m o q = by ((end_of m o).spent == (end_of m o).retry)
  where
    by : (b : Bool) → GrowsAt m (if b then ended_with m o statuses.RetryExceeded else in_end m o expired) q
    by true = ended_grown m o statuses.RetryExceeded q
    by false = end_grown m o _ q refl (like _ _ refl refl refl)

pub wait_grown : (m : Machine) (o q : ObjName) → GrowsAt m (wait m o) q
unfolding wait waited
wait_grown m o q = by ((end_of m o).rnr == 7) ((end_of m o).waits == (end_of m o).rnr)
  where
    by : (a b : Bool) → GrowsAt m (if a then m else if b then ended_with m o statuses.RnrExceeded else in_end m o waited) q
    by true b = same (end_of m q)
    by false true = ended_grown m o statuses.RnrExceeded q
    by false false = end_grown m o _ q refl (like _ _ refl refl refl)

pub bounce_grown : (m : Machine) (o q : ObjName) → GrowsAt m (bounce m o) q
unfolding bounce
bounce_grown m o q = ended_grown m o _ q

-- ---- verbs

made_grown : (m : Machine) (o : ObjName) (domain send_cq recv_cq : Name) (send_depth recv_depth given : ℕ) (q : ObjName) → GrowsAt m (verbal.made_end m o domain send_cq recv_cq send_depth recv_depth given) q
unfolding verbal.made_end end_of context_of with_context
made_grown m o domain send_cq recv_cq send_depth recv_depth given q =
    related (λ x y. Grows (named (λ u. u.name) (nobody q) q.name y.ends) (named (λ u. u.name) (nobody q) q.name x.ends)) (λ x. same _) (λ x. x.name) (no_context o.context) (no_context q.context) o.context q.context
    (record (context_of m o.context) { ends = (context_of m o.context).ends ++ new_end o given domain send_cq recv_cq send_depth recv_depth ∷ [] }) m.contexts refl
    (like _ _
    (pushed (λ u. u.posted) (λ u. u.name) (nobody q) q.name (new_end o given domain send_cq recv_cq send_depth recv_depth) (context_of m o.context).ends refl)
    (pushed (λ u. u.acted) (λ u. u.name) (nobody q) q.name (new_end o given domain send_cq recv_cq send_depth recv_depth) (context_of m o.context).ends refl)
    (pushed (λ u. u.into) (λ u. u.name) (nobody q) q.name (new_end o given domain send_cq recv_cq send_depth recv_depth) (context_of m o.context).ends refl))

keys_grown : (m : Machine) (keys : List ℕ) (q : ObjName) → GrowsAt m (record m { keys = keys }) q
unfolding end_of context_of
keys_grown m keys q = same _

context_pushed : (m : Machine) (name : Name) (q : ObjName) → GrowsAt m (record m { contexts = m.contexts ++ no_context name ∷ [] }) q
unfolding end_of context_of named
context_pushed m name q = as_is _ _ (pushed (λ x. named (λ u. u.name) (nobody q) q.name x.ends) (λ x. x.name) (no_context q.context) q.context (no_context name) m.contexts refl)

posted_grown : (m : Machine) (o : ObjName) (r : Request) (q : ObjName) → GrowsAt m (verbal.posted m o r) q
unfolding verbal.posted
posted_grown m o r q = by (end_of m o).ended
  where
    by : (b : Bool) → GrowsAt m (if b then completing m o.context (end_of m o).send_queue (request_done (end_of m o).number (verbal.taken m o r) statuses.Flush 0 ∷ []) else in_end m o (verbal.with_request (verbal.taken m o r))) q
    by true = completing_grown m o.context _ _ q
    by false = end_grown m o _ q refl (record { more = verbal.taken m o r ∷ []; posted = refl; acted = refl; into = refl })

received_grown : (m : Machine) (o : ObjName) (v : Receive) (q : ObjName) → GrowsAt m (verbal.received m o v) q
unfolding verbal.received
received_grown m o v q = by (end_of m o).ended
  where
    by : (b : Bool) → GrowsAt m (if b then completing m o.context (end_of m o).receive_queue (receive_done (end_of m o).number v wc_kinds.Recv statuses.Flush 0 None ∷ []) else in_end m o (verbal.with_receive v)) q
    by true = completing_grown m o.context _ _ q
    by false = end_grown m o _ q refl (like _ _ refl refl refl)

done_grown : (m : Machine) (v : Verb) (given : ℕ) (q : ObjName) → GrowsAt m (done m v given) q
unfolding verbal.connected_pair verbal.joined verbal.with_domain verbal.made_region verbal.made_queue verbal.stored verbal.polled with_queue with_queue_in
done_grown m (verbs.Context name made) given q = context_pushed m name q
done_grown m (verbs.Connect one two terms) given q = then_on m _ _ q (end_grown _ two _ q refl (like _ _ refl refl refl)) (end_grown m one _ q refl (like _ _ refl refl refl))
done_grown m (verbs.MakeDomain o) given q = context_grown m o.context _ q refl refl
done_grown m (verbs.MakeRegion o domain base count rights) given q = then_on m (record m { keys = m.keys ++ given ∷ [] }) _ q (regions_grown (record m { keys = m.keys ++ given ∷ [] }) o.context _ q) (keys_grown m (m.keys ++ given ∷ []) q)
done_grown m (verbs.MakeCq o capacity) given q = context_grown m o.context _ q refl refl
done_grown m (verbs.MakeQp o domain send_cq recv_cq send_depth recv_depth) given q = made_grown m o (verbal.word_or_none domain) (verbal.word_or_none send_cq) (verbal.word_or_none recv_cq) send_depth recv_depth given q
done_grown m (verbs.DropRegion o) given q = regions_grown m o.context _ q
done_grown m (verbs.Store o address bytes) given q = regions_grown m o.context _ q
done_grown m (verbs.Load o address count) given q = same _
done_grown m (verbs.PostSend o r) given q = posted_grown m o r q
done_grown m (verbs.PostRecv o v) given q = received_grown m o v q
done_grown m (verbs.Poll cq max) given q = context_grown m cq.context _ q refl refl

pub verb_grown : (m : Machine) (v : Verb) (given : ℕ) (r : Option Refusal) (q : ObjName) → GrowsAt m (after_answer r m v given) q
verb_grown m v given None q = done_grown m v given q
verb_grown m v given (Some r) q = same _
