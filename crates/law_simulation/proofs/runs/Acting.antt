-- The count of the requests that acted, after each step of the machine.
use Rattle.std.proofs.Common.{arith, ◌≡◌, ◌≢◌, ◌+◌, ℕ, suc, List, [], ◌∷◌, ◌++◌, drop, true, false, Bool, refl, sym, ap, ◌∙◌, inl, inr}
use Rattle.std.specs.Prelude.{◌⊎◌, Option, Some, None, bytes_eq, if◌then◌else◌, ◌==◌, is_some, ◌&&◌}
use Rattle.std.proofs.lemmas.Bool.Decides.{nat_tests, eqb_tells}
use Rattle.rdma_types.specs.declared.names.Name.{Name}
use Rattle.rdma_types.specs.declared.names.ObjName.{ObjName}
use Rattle.rdma_types.specs.declared.requests.Receive.{Receive}
use Rattle.rdma_types.specs.declared.requests.Request.{Request}
use Rattle.rdma_types.specs.declared.requests.Shape.{Shape}
use Rattle.rdma_types.specs.declared.requests.WcStatus.{WcStatus}
use Rattle.rdma_types.specs.declared.requests.WcStatus.TheVariants as statuses
use Rattle.rdma_types.specs.declared.answers.Refusal.{Refusal}
use Rattle.rdma_types.specs.declared.answers.RefusalReason.{RefusalReason}
use Rattle.rdma_types.specs.declared.verbs.Verb.{Verb}
use Rattle.rdma_types.specs.declared.verbs.Verb.TheVariants as verbs
use Rattle.rdma_types.specs.declared.requests.WcKind.TheVariants as wc_kinds
use Rattle.rdma_types.specs.Kinds.{is_send, kind_of, receive_done, request_done}
use Rattle.rdma_types.specs.Lists.{named}
use Rattle.rdma_types.specs.Objects.{CompletionQueue, Region}
use Rattle.packetless_machine.specs.declared.reply.Reply.TheVariants.{Finished, OldValue}
use Rattle.packetless_machine.specs.declared.steps.MachineStep.TheVariants as steps
use Rattle.packetless_machine.specs.Tables.{place_where, replaced}
use Rattle.packetless_machine.specs.Machine.{Machine, Context, End, no_context, nobody, new_end, context_of, end_of, with_context, with_end, with_end_in, with_regions, with_queues, with_queue, with_queue_in, completing, in_end}
use Rattle.packetless_machine.specs.Steps as ideal
use Rattle.packetless_machine.specs.Steps.{advanced, acted_with, fills, receiving, placing, put_in_receive, put_in_range, run_towards, run, atom, atom_on, read_turn, refuse, refuse_at, denied, closed, dried, dried_at, offered, with_offer, landed, land_at, with_known, knowing, tell, tell_at, told_one, expire, expired, ended_with, wait, waited, bounce, peer_of, receive_for, current, put_old}
use Rattle.packetless_machine.specs.Verbs as verbal
use Rattle.packetless_machine.specs.Verbs.{refusal_of, after_answer, done}
use Rattle.packetless_machine.specs.Legal.{effect}
use Rattle.packetless_machine.proofs.Views.{end_of-with_context, end_of-with_regions, end_of-completing, end_of-put_old}
use Rattle.law_simulation.proofs.relation.Tables.{name_or_not, name_tells}
use Rattle.law_simulation.specs.Once.{acted_of, ActsByOne, ActsOnce}

-- ---- things in lists

-- one thing is replaced by one of the same name: what is found of each name stands in the relation
pub related : {A : Type 0} (R : A → A → Type 0) (same : (a : A) → R a a) (name : A → List ℕ) (none other : A) (k j : List ℕ) (x : A) (xs : List A) → name x ≡ name (named name none k xs) → R x (named name none k xs) → R (named name other j (replaced name k x xs)) (named name other j xs)
unfolding named replaced place_where
related R same name none other k j x [] n r = same other
related R same name none other k j x (y ∷ ys) n r = by (bytes_eq (name y) k) refl n r (related R same name none other k j x ys)
  where
    by : (b : Bool) → bytes_eq (name y) k ≡ b → name x ≡ name (named name none k (y ∷ ys)) → R x (named name none k (y ∷ ys)) → (name x ≡ name (named name none k ys) → R x (named name none k ys) → R (named name other j (replaced name k x ys)) (named name other j ys)) → R (named name other j (replaced name k x (y ∷ ys))) (named name other j (y ∷ ys))
    by true e n r ih = let same' : name x ≡ name y = rw e at n in let part : R x y = rw e at r in rw (e, same') (there (bytes_eq (name y) j) part)
      where
        there : (b : Bool) → R x y → R (if b then x else named name other j ys) (if b then y else named name other j ys)
        there true q = q
        there false q = same (named name other j ys)
    by false e n r ih = let rest = ih (rw e at n) (rw e at r) in rw e (there (bytes_eq (name y) j) rest)
      where
        there : (b : Bool) → R (named name other j (replaced name k x ys)) (named name other j ys) → R (if b then y else named name other j (replaced name k x ys)) (if b then y else named name other j ys)
        there true q = same y
        there false q = q

-- .. and of another name it is the same
other_found : {A : Type 0} (name : A → List ℕ) (none other : A) (k j : List ℕ) (x : A) (xs : List A) → j ≢ k → name x ≡ name (named name none k xs) → named name other j (replaced name k x xs) ≡ named name other j xs
unfolding named replaced place_where
other_found name none other k j x [] ne n = refl
other_found name none other k j x (y ∷ ys) ne n = by (bytes_eq (name y) k) refl n (other_found name none other k j x ys ne)
  where
    apart : bytes_eq (name y) k ≡ true → bytes_eq (name y) j ≡ false
    apart e = elim (name_tells (name y) k) [
      | inl h ↦ elim (name_tells (name y) j) [ inl g ↦ absurd (ne (sym g.1 ∙ h.1)) | inr g ↦ g.0 ]
      | inr h ↦ absurd (cc (e, h.0))
    ]

    by : (b : Bool) → bytes_eq (name y) k ≡ b → name x ≡ name (named name none k (y ∷ ys)) → (name x ≡ name (named name none k ys) → named name other j (replaced name k x ys) ≡ named name other j ys) → named name other j (replaced name k x (y ∷ ys)) ≡ named name other j (y ∷ ys)
    by true e n ih = let same' : name x ≡ name y = rw e at n in let far : bytes_eq (name y) j ≡ false = apart e in rw (e, same', far) refl
    by false e n ih = let rest = ih (rw e at n) in rw e (ap (λ z. if bytes_eq (name y) j then y else z) rest)

-- one thing more, which says of itself what nothing would
pub pushed : {A B : Type 0} (f : A → B) (name : A → List ℕ) (none : A) (n : List ℕ) (y : A) (xs : List A) → f y ≡ f none → f (named name none n (xs ++ y ∷ [])) ≡ f (named name none n xs)
unfolding named
pushed f name none n y [] h = by (bytes_eq (name y) n)
  where
    by : (b : Bool) → f (if b then y else none) ≡ f none
    by true = h
    by false = refl
pushed f name none n y (x ∷ xs) h = by (bytes_eq (name x) n) (pushed f name none n y xs h)
  where
    by : (b : Bool) → f (named name none n (xs ++ y ∷ [])) ≡ f (named name none n xs) → f (if b then x else named name none n (xs ++ y ∷ [])) ≡ f (if b then x else named name none n xs)
    by true rest = refl
    by false rest = rest

-- ---- one end changes

pub end_related : (R : End → End → Type 0) (same : (e : End) → R e e) (m : Machine) (o : ObjName) (e : End) (q : ObjName) → e.name ≡ (end_of m o).name → R e (end_of m o) → R (end_of (with_end m o e) q) (end_of m q)
unfolding end_of context_of with_end with_end_in with_context
end_related R same m o e q n r =
    related (λ x y. R (named (λ u. u.name) (nobody q) q.name x.ends) (named (λ u. u.name) (nobody q) q.name y.ends)) (λ x. same (named (λ u. u.name) (nobody q) q.name x.ends)) (λ x. x.name) (no_context o.context) (no_context q.context) o.context q.context
    (with_end_in (context_of m o.context) o.name e) m.contexts refl
    (related R same (λ u. u.name) (nobody o) (nobody q) o.name q.name e (context_of m o.context).ends n r)

pub end_other : (m : Machine) (o : ObjName) (e : End) (q : ObjName) → e.name ≡ (end_of m o).name → q ≢ o → end_of (with_end m o e) q ≡ end_of m q
unfolding end_of context_of with_end with_end_in with_context
end_other m o e q n ne = elim (name_or_not q.name o.name) [
  | inl same ↦
      let far : q.context ≢ o.context = λ c. ne (λ i. record { context = c i; name = same i }) in
      ap (λ x. named (λ u. u.name) (nobody q) q.name x.ends) (other_found (λ x. x.name) (no_context o.context) (no_context q.context) o.context q.context (with_end_in (context_of m o.context) o.name e) m.contexts far refl)
  | inr far ↦
      related (λ x y. named (λ u. u.name) (nobody q) q.name x.ends ≡ named (λ u. u.name) (nobody q) q.name y.ends) (λ x. refl) (λ x. x.name) (no_context o.context) (no_context q.context) o.context q.context
      (with_end_in (context_of m o.context) o.name e) m.contexts refl
      (other_found (λ u. u.name) (nobody o) (nobody q) o.name q.name e (context_of m o.context).ends far n)
]

pub object_or_not : (a b : ObjName) → (a ≡ b) ⊎ (a ≢ b)
object_or_not a b = elim (name_or_not a.context b.context) [
  | inl c ↦ elim (name_or_not a.name b.name) [ inl n ↦ inl (λ i. record { context = c i; name = n i }) | inr f ↦ inr (λ h. f (ap (λ z. z.name) h)) ]
  | inr f ↦ inr (λ h. f (ap (λ z. z.context) h))
]

acted_kept : (m : Machine) (o : ObjName) (e : End) (q : ObjName) → e.name ≡ (end_of m o).name → e.acted ≡ (end_of m o).acted → acted_of (with_end m o e) q ≡ acted_of m q
acted_kept m o e q n h = end_related (λ a b. a.acted ≡ b.acted) (λ a. refl) m o e q n h

-- the count stays, or is one more where it is that of o
abbrev ActsAt : ObjName → Machine → Machine → ObjName → Type 0
ActsAt o m m' q = (acted_of m' q ≡ acted_of m q) ⊎ ((o ≡ q) × (acted_of m' q ≡ suc (acted_of m q)))

acts_at : (m : Machine) (o : ObjName) (e : End) (q : ObjName) → e.name ≡ (end_of m o).name → (e.acted ≡ (end_of m o).acted) ⊎ (e.acted ≡ suc (end_of m o).acted) → ActsAt o m (with_end m o e) q
acts_at m o e q n h = elim (object_or_not q o) [
  | inl same ↦ elim (end_related (λ a b. (a.acted ≡ b.acted) ⊎ (a.acted ≡ suc b.acted)) (λ a. inl refl) m o e q n h) [ inl k ↦ inl k | inr k ↦ inr (sym same, k) ]
  | inr far ↦ inl (ap (λ z. z.acted) (end_other m o e q n far))
]

then_kept : (o : ObjName) (m m' m'' : Machine) (q : ObjName) → acted_of m'' q ≡ acted_of m' q → ActsAt o m m' q → ActsAt o m m'' q
then_kept o m m' m'' q same (inl h) = inl (same ∙ h)
then_kept o m m' m'' q same (inr h) = inr (h.0, same ∙ h.1)

-- ---- other parts of the machine

context_kept : (m : Machine) (c : Name) (x : Context) (q : ObjName) → x.name ≡ (context_of m c).name → x.ends ≡ (context_of m c).ends → acted_of (with_context m c x) q ≡ acted_of m q
context_kept m c x q n h = ap (λ e. e.acted) (end_of-with_context m c x q n h)

queues_kept : (m : Machine) (c : Name) (qs : List CompletionQueue) (q : ObjName) → acted_of (with_queues m c qs) q ≡ acted_of m q
unfolding with_queues
queues_kept m c qs q = context_kept m c _ q refl refl

regions_kept : (m : Machine) (c : Name) (rs : List Region) (q : ObjName) → acted_of (with_regions m c rs) q ≡ acted_of m q
regions_kept m c rs q = ap (λ e. e.acted) (end_of-with_regions m c rs q)

completing_kept : (m : Machine) (c n : Name) (more : _) (q : ObjName) → acted_of (completing m c n more) q ≡ acted_of m q
completing_kept m c n more q = ap (λ e. e.acted) (end_of-completing m c n more q)

-- ---- the inner steps

ended_kept : (m : Machine) (o : ObjName) (status : WcStatus) (q : ObjName) → acted_of (ended_with m o status) q ≡ acted_of m q
unfolding ended_with closed
ended_kept m o status q = queues_kept _ _ _ q ∙ acted_kept m o _ q refl refl

receive_kept : (m : Machine) (c : Name) (into : ℕ) (new : List ℕ) (v : Option Receive) (q : ObjName) → acted_of (put_in_receive m c into new v) q ≡ acted_of m q
unfolding put_in_receive
receive_kept m c into new None q = refl
receive_kept m c into new (Some v) q = regions_kept m c _ q

placing_kept : (m : Machine) (c : Name) (e x : End) (new : List ℕ) (q : ObjName) → acted_of (placing m c e x new) q ≡ acted_of m q
unfolding placing
placing_kept m c e x new q = by (is_send (kind_of (current e)))
  where
    by : (b : Bool) → acted_of (if b then put_in_receive m c e.into new (receive_for x) else put_in_range m c e.into new (current e)) q ≡ acted_of m q
    by true = receive_kept m c e.into new (receive_for x) q
    by false = regions_kept m c _ q

receiving_kept : (shape : Shape) (whole : Bool) (x : End) → ((receiving shape whole x).name ≡ x.name) × ((receiving shape whole x).acted ≡ x.acted)
unfolding receiving
receiving_kept shape whole x = by (is_send shape.kind) (is_some shape.imm && whole)
  where
    by : (a b : Bool) → ((if a then record x { in_use = if whole then None else receive_for x; unused = ideal.unused_after x } else if b then record x { unused = drop 1 x.unused } else x).name ≡ x.name) × ((if a then record x { in_use = if whole then None else receive_for x; unused = ideal.unused_after x } else if b then record x { unused = drop 1 x.unused } else x).acted ≡ x.acted)
    by true b = (refl, refl)
    by false true = (refl, refl)
    by false false = (refl, refl)

advancing : (e : End) (n : ℕ) → ((advanced e n).name ≡ e.name) × (((advanced e n).acted ≡ e.acted) ⊎ ((advanced e n).acted ≡ suc e.acted))
unfolding advanced acted_with
advancing e n = by (fills e n)
  where
    by : (b : Bool) → ((if b then acted_with e Finished else record e { into = e.into + n }).name ≡ e.name) × (((if b then acted_with e Finished else record e { into = e.into + n }).acted ≡ e.acted) ⊎ ((if b then acted_with e Finished else record e { into = e.into + n }).acted ≡ suc e.acted))
    by true = (refl, inr refl)
    by false = (refl, inl refl)

run_acts : (m : Machine) (o : ObjName) (n : ℕ) (q : ObjName) → ActsAt o m (run m o n) q
unfolding run run_towards
run_acts m o n q =
    let a = advancing (end_of m o) n in
    let r = receiving_kept (current (end_of m o)).request.shape (fills (end_of m o) n) in
    then_kept o m (in_end m o (λ y. advanced y n)) _ q
    (queues_kept _ _ _ q ∙ (acted_kept _ _ _ q (r _).0 (r _).1 ∙ placing_kept _ _ _ _ _ q))
    (acts_at m o (advanced (end_of m o) n) q a.0 a.1)

atom_acts : (m : Machine) (o q : ObjName) → ActsAt o m (atom m o) q
unfolding atom atom_on acted_with
atom_acts m o q =
    then_kept o m (in_end m o (λ e. acted_with e (OldValue (ideal.word_there (current (end_of m o)) (ideal.peer_regions m o))))) _ q (regions_kept _ _ _ q)
    (acts_at m o (acted_with (end_of m o) (OldValue (ideal.word_there (current (end_of m o)) (ideal.peer_regions m o)))) q refl (inr refl))

turn_acts : (m : Machine) (o q : ObjName) → ActsAt o m (read_turn m o) q
unfolding read_turn acted_with
turn_acts m o q = acts_at m o _ q refl (inr refl)

refuse_kept : (m : Machine) (o : ObjName) (why : RefusalReason) (q : ObjName) → acted_of (refuse m o why) q ≡ acted_of m q
unfolding refuse refuse_at denied closed
refuse_kept m o why q = queues_kept _ _ _ q ∙ (acted_kept _ _ _ q refl refl ∙ acted_kept m o _ q refl refl)

dry_kept : (m : Machine) (o q : ObjName) → acted_of (dried m o) q ≡ acted_of m q
unfolding dried dried_at
dry_kept m o q = acted_kept m o _ q refl refl

offer_kept : (m : Machine) (o : ObjName) (i off n : ℕ) (q : ObjName) → acted_of (offered m o i off n) q ≡ acted_of m q
unfolding offered with_offer
offer_kept m o i off n q = acted_kept m o _ q refl refl

land_kept : (m : Machine) (o : ObjName) (i : ℕ) (q : ObjName) → acted_of (landed m o i) q ≡ acted_of m q
unfolding landed land_at with_known
land_kept m o i q = acted_kept _ o _ q refl refl ∙ regions_kept m o.context _ q

know_kept : (m : Machine) (o : ObjName) (bytes : ℕ) (q : ObjName) → acted_of (knowing m o bytes) q ≡ acted_of m q
unfolding knowing with_known
know_kept m o bytes q = acted_kept m o _ q refl refl

tell_kept : (m : Machine) (o q : ObjName) → acted_of (tell m o) q ≡ acted_of m q
unfolding tell tell_at told_one
tell_kept m o q = acted_kept _ o _ q refl refl ∙ (ap (λ e. e.acted) (end_of-put_old _ _ _ _ q) ∙ completing_kept m o.context _ _ q)

expire_kept : (m : Machine) (o q : ObjName) → acted_of (expire m o) q ≡ acted_of m q
unfolding expire expired
expire_kept m o q = by ((end_of m o).spent == (end_of m o).retry)
  where
    by : (b : Bool) → acted_of (if b then ended_with m o statuses.RetryExceeded else in_end m o expired) q ≡ acted_of m q
    by true = ended_kept m o statuses.RetryExceeded q
    by false = acted_kept m o _ q refl refl

wait_kept : (m : Machine) (o q : ObjName) → acted_of (wait m o) q ≡ acted_of m q
unfolding wait waited
wait_kept m o q = by ((end_of m o).rnr == 7) ((end_of m o).waits == (end_of m o).rnr)
  where
    by : (a b : Bool) → acted_of (if a then m else if b then ended_with m o statuses.RnrExceeded else in_end m o waited) q ≡ acted_of m q
    by true b = refl
    by false true = ended_kept m o statuses.RnrExceeded q
    by false false = acted_kept m o _ q refl refl

bounce_kept : (m : Machine) (o q : ObjName) → acted_of (bounce m o) q ≡ acted_of m q
unfolding bounce
bounce_kept m o q = ended_kept m o _ q

-- ---- verbs

made_kept : (m : Machine) (o : ObjName) (domain send_cq recv_cq : Name) (send_depth recv_depth given : ℕ) (q : ObjName) → acted_of (verbal.made_end m o domain send_cq recv_cq send_depth recv_depth given) q ≡ acted_of m q
unfolding verbal.made_end end_of context_of with_context
made_kept m o domain send_cq recv_cq send_depth recv_depth given q =
    related (λ x y. (named (λ u. u.name) (nobody q) q.name x.ends).acted ≡ (named (λ u. u.name) (nobody q) q.name y.ends).acted) (λ x. refl) (λ x. x.name) (no_context o.context) (no_context q.context) o.context q.context
    (record (context_of m o.context) { ends = (context_of m o.context).ends ++ new_end o given domain send_cq recv_cq send_depth recv_depth ∷ [] }) m.contexts refl
    (pushed (λ u. u.acted) (λ u. u.name) (nobody q) q.name (new_end o given domain send_cq recv_cq send_depth recv_depth) (context_of m o.context).ends refl)

keys_kept : (m : Machine) (keys : List ℕ) (q : ObjName) → acted_of (record m { keys = keys }) q ≡ acted_of m q
unfolding end_of context_of
keys_kept m keys q = refl

context_pushed : (m : Machine) (name : Name) (q : ObjName) → acted_of (record m { contexts = m.contexts ++ no_context name ∷ [] }) q ≡ acted_of m q
unfolding end_of context_of named
context_pushed m name q = pushed (λ x. (named (λ u. u.name) (nobody q) q.name x.ends).acted) (λ x. x.name) (no_context q.context) q.context (no_context name) m.contexts refl

posted_kept : (m : Machine) (o : ObjName) (r : Request) (q : ObjName) → acted_of (verbal.posted m o r) q ≡ acted_of m q
unfolding verbal.posted
posted_kept m o r q = by (end_of m o).ended
  where
    by : (b : Bool) → acted_of (if b then completing m o.context (end_of m o).send_queue (request_done (end_of m o).number (verbal.taken m o r) statuses.Flush 0 ∷ []) else in_end m o (verbal.with_request (verbal.taken m o r))) q ≡ acted_of m q
    by true = completing_kept m o.context _ _ q
    by false = acted_kept m o _ q refl refl

received_kept : (m : Machine) (o : ObjName) (v : Receive) (q : ObjName) → acted_of (verbal.received m o v) q ≡ acted_of m q
unfolding verbal.received
received_kept m o v q = by (end_of m o).ended
  where
    by : (b : Bool) → acted_of (if b then completing m o.context (end_of m o).receive_queue (receive_done (end_of m o).number v wc_kinds.Recv statuses.Flush 0 None ∷ []) else in_end m o (verbal.with_receive v)) q ≡ acted_of m q
    by true = completing_kept m o.context _ _ q
    by false = acted_kept m o _ q refl refl

done_kept : (m : Machine) (v : Verb) (given : ℕ) (q : ObjName) → acted_of (done m v given) q ≡ acted_of m q
unfolding verbal.connected_pair verbal.joined verbal.with_domain verbal.made_region verbal.made_queue verbal.stored verbal.polled with_queue with_queue_in
done_kept m (verbs.Context name made) given q = context_pushed m name q
done_kept m (verbs.Connect one two terms) given q = acted_kept _ two _ q refl refl ∙ acted_kept m one _ q refl refl
done_kept m (verbs.MakeDomain o) given q = context_kept m o.context _ q refl refl
done_kept m (verbs.MakeRegion o domain base count rights) given q = regions_kept (record m { keys = m.keys ++ given ∷ [] }) o.context _ q ∙ keys_kept m (m.keys ++ given ∷ []) q
done_kept m (verbs.MakeCq o capacity) given q = context_kept m o.context _ q refl refl
done_kept m (verbs.MakeQp o domain send_cq recv_cq send_depth recv_depth) given q = made_kept m o (verbal.word_or_none domain) (verbal.word_or_none send_cq) (verbal.word_or_none recv_cq) send_depth recv_depth given q
done_kept m (verbs.DropRegion o) given q = regions_kept m o.context _ q
done_kept m (verbs.Store o address bytes) given q = regions_kept m o.context _ q
done_kept m (verbs.Load o address count) given q = refl
done_kept m (verbs.PostSend o r) given q = posted_kept m o r q
done_kept m (verbs.PostRecv o v) given q = received_kept m o v q
done_kept m (verbs.Poll cq max) given q = context_kept m cq.context _ q refl refl

verb_kept : (m : Machine) (v : Verb) (given : ℕ) (r : Option Refusal) (q : ObjName) → acted_of (after_answer r m v given) q ≡ acted_of m q
verb_kept m v given None q = done_kept m v given q
verb_kept m v given (Some r) q = refl

-- ---- each step, and each run

pub acts_by_one : ActsByOne
acts_by_one m (steps.Verb v given) q = inl (verb_kept m v given (refusal_of m v) q)
acts_by_one m (steps.Run o n) q = run_acts m o n q
acts_by_one m (steps.Atom o) q = atom_acts m o q
acts_by_one m (steps.ReadTurn o) q = turn_acts m o q
acts_by_one m (steps.Refuse o why) q = inl (refuse_kept m o why q)
acts_by_one m (steps.Dry o) q = inl (dry_kept m o q)
acts_by_one m (steps.Offer o i off n) q = inl (offer_kept m o i off n q)
acts_by_one m (steps.Land o i) q = inl (land_kept m o i q)
acts_by_one m (steps.Known o bytes) q = inl (know_kept m o bytes q)
acts_by_one m (steps.Tell o) q = inl (tell_kept m o q)
acts_by_one m (steps.Expire o) q = inl (expire_kept m o q)
acts_by_one m (steps.Wait o) q = inl (wait_kept m o q)
acts_by_one m (steps.Bounce o) q = inl (bounce_kept m o q)

one_turn : (a b : ℕ) {T : Type 0} → (a ≡ b) ⊎ (T × (a ≡ suc b)) → a ≡ b + (if a == b then 0 else 1)
one_turn a b (inl h) = grind (arith, nat_tests, eqb_tells a b, h)
one_turn a b (inr h) = let more : a ≡ suc b = h.1 in grind (arith, nat_tests, eqb_tells a b, more)

pub acts_once : ActsOnce
acts_once m [] q = omega arith
acts_once m (s ∷ ss) q = omega (arith, one_turn (acted_of (effect m s) q) (acted_of m q) (acts_by_one m s q), acts_once (effect m s) ss q)
