-- What the inner steps of the machine leave of each context: the parts that no end, no entry of a queue and no byte is in.
use Rattle.std.proofs.Common.{◌≡◌, ◌+◌, ℕ, List, true, false, Bool, refl, sym, ◌∙◌, subst}
use Rattle.std.specs.Prelude.{Option, Some, None, if◌then◌else◌, ◌==◌, is_some, ◌&&◌, drop, []}
use Rattle.rdma_types.specs.declared.names.Name.{Name}
use Rattle.rdma_types.specs.declared.names.ObjName.{ObjName}
use Rattle.rdma_types.specs.declared.requests.Completion.{Completion}
use Rattle.rdma_types.specs.declared.requests.Receive.{Receive}
use Rattle.rdma_types.specs.declared.requests.Request.{Request}
use Rattle.rdma_types.specs.declared.requests.Shape.{Shape}
use Rattle.rdma_types.specs.declared.requests.WcStatus.{WcStatus}
use Rattle.rdma_types.specs.declared.requests.WcStatus.TheVariants as statuses
use Rattle.rdma_types.specs.declared.answers.RefusalReason.{RefusalReason}
use Rattle.rdma_types.specs.Kinds.{is_send, kind_of}
use Rattle.rdma_types.specs.Lists.{named}
use Rattle.rdma_types.specs.Objects.{CompletionQueue, Region}
use Rattle.packetless_machine.specs.declared.reply.Reply.{Reply}
use Rattle.packetless_machine.specs.declared.reply.Reply.TheVariants.{Finished, OldValue, Denied}
use Rattle.packetless_machine.specs.Tables.{replaced}
use Rattle.packetless_machine.specs.Machine.{Machine, Context, End, nobody, context_of, end_of, queue_of, regions_of, with_end, with_end_in, with_regions, with_queues, with_queue, with_queue_in, completing, completed, put_at, in_end}
use Rattle.packetless_machine.specs.Steps as ideal
use Rattle.packetless_machine.specs.Steps.{acted_with, advanced, arrivals, atom, atom_on, bounce, closed, current, denied, dried, dried_at, ended_with, expire, expired, failed_queues, failed_receives, failed_requests, fills, knowing, land_at, landed, offered, placing, put_in_range, put_in_receive, put_old, read_turn, receive_for, receives_of, receiving, refuse, refuse_at, refused_entries, refused_queues, refused_receives, run, run_towards, success, tell, tell_at, told_one, untold, wait, waited, with_known, with_offer}
use Rattle.law_machine_runs.proofs.Parts.{AreKept, context_kept, kept_then}

-- an end but for what inner steps change, the offers apart
abbrev pub fixed : End → End
fixed e = record e { told = 0; known = 0; acted = 0; into = 0; answers = []; dry = []; spent = 0; waits = 0; unused = []; in_use = None; ended = false }

-- ---- what they do to an end

pub closed_fixed : (e : End) → fixed (closed e) ≡ fixed e
unfolding closed
closed_fixed e = refl

pub acted_fixed : (e : End) (reply : Reply) → fixed (acted_with e reply) ≡ fixed e
unfolding acted_with
acted_fixed e reply = refl

pub advanced_fixed : (e : End) (n : ℕ) → fixed (advanced e n) ≡ fixed e
unfolding advanced acted_with
advanced_fixed e n = by (fills e n)
  where
    by : (b : Bool) → fixed (if b then acted_with e Finished else record e { into = e.into + n }) ≡ fixed e
    by true = refl
    by false = refl

pub receiving_fixed : (shape : Shape) (whole : Bool) (x : End) → fixed (receiving shape whole x) ≡ fixed x
unfolding receiving
receiving_fixed shape whole x = by (is_send shape.kind) (is_some shape.imm && whole)
  where
    by : (a b : Bool) → fixed (if a then record x { in_use = if whole then None else receive_for x; unused = ideal.unused_after x } else if b then record x { unused = drop 1 x.unused } else x) ≡ fixed x
    by true b = refl
    by false true = refl
    by false false = refl

pub denied_fixed : (e : End) (why : RefusalReason) → fixed (denied e why) ≡ fixed e
unfolding denied
denied_fixed e why = refl

pub dried_fixed : (e : End) → fixed (dried_at e) ≡ fixed e
unfolding dried_at
dried_fixed e = refl

pub known_fixed : (e : End) (bytes : ℕ) → fixed (with_known e bytes) ≡ fixed e
unfolding with_known
known_fixed e bytes = refl

pub told_fixed : (e : End) → fixed (told_one e) ≡ fixed e
unfolding told_one
told_fixed e = refl

pub expired_fixed : (e : End) → fixed (expired e) ≡ fixed e
unfolding expired
expired_fixed e = refl

pub waited_fixed : (e : End) → fixed (waited e) ≡ fixed e
unfolding waited
waited_fixed e = refl

pub queues_kept : (m : Machine) (o : ObjName) (e : End) → AreKept (λ x. x.queues) m (with_end m o e)
unfolding with_end with_end_in
queues_kept m o e = context_kept (λ x. x.queues) m o.context _ refl refl

pub queues_regions : (m : Machine) (c : Name) (rs : List Region) → AreKept (λ x. x.queues) m (with_regions m c rs)
unfolding with_regions
queues_regions m c rs = context_kept (λ x. x.queues) m c _ refl refl

receive_queues : (m : Machine) (c : Name) (into : ℕ) (new : List ℕ) (v : Option Receive) → AreKept (λ x. x.queues) m (put_in_receive m c into new v)
unfolding put_in_receive
receive_queues m c into new None k = refl
receive_queues m c into new (Some v) k = queues_regions m c _ k

pub placing_queues : (m : Machine) (c : Name) (e x : End) (new : List ℕ) → AreKept (λ z. z.queues) m (placing m c e x new)
unfolding placing
placing_queues m c e x new k = by (is_send (kind_of (current e)))
  where
    by : (b : Bool) → (context_of (if b then put_in_receive m c e.into new (receive_for x) else put_in_range m c e.into new (current e)) k).queues ≡ (context_of m k).queues
    by true = receive_queues m c e.into new (receive_for x) k
    by false = queues_regions m c _ k

-- a part that does not see what inner steps change of ends, nor the entries of queues
pub record IsPart {B : Type 0} (f : Context → B) : Type 0 where
  pub ends : (c : Context) (none e : End) (n : Name) → fixed e ≡ fixed (named (λ z. z.name) none n c.ends) → f (record c { ends = replaced (λ z. z.name) n e c.ends }) ≡ f c
  pub queues : (c : Context) (q : Name) (more : List Completion) → f (record c { queues = completed q more c.queues }) ≡ f c

-- .. nor bytes that are put into regions
abbrev pub IsBlind : {B : Type 0} → (Context → B) → Type 0
IsBlind f = (c : Context) (key_of : Region → ℕ) (key address : ℕ) (new : List ℕ) → f (record c { regions = put_at key_of key address new c.regions }) ≡ f c

-- the machine where a Run has put its bytes
abbrev pub run_put : Machine → ObjName → ℕ → Machine
run_put m o n = placing (in_end m o (λ y. advanced y n)) (end_of m o).peer.context (end_of m o) (ideal.peer_of m o) (ideal.next_bytes (end_of m o) n)

module _ {B : Type 0} (f : Context → B) (part : IsPart f) where
  pub end_kept : (m : Machine) (o : ObjName) (e : End) → fixed e ≡ fixed (end_of m o) → AreKept f m (with_end m o e)
  unfolding with_end with_end_in end_of
  end_kept m o e h = context_kept f m o.context (record (context_of m o.context) { ends = replaced (λ z. z.name) o.name e (context_of m o.context).ends }) refl (part.ends (context_of m o.context) (nobody o) e o.name h)

  -- ---- completions

  twice : (x : Context) (q q' : Name) (more more' : List Completion) → f (record x { queues = completed q more (completed q' more' x.queues) }) ≡ f x
  twice x q q' more more' = part.queues (record x { queues = completed q' more' x.queues }) q more ∙ part.queues x q' more'

  pub completed_kept : (m : Machine) (c q : Name) (more : List Completion) (qs : List CompletionQueue) → qs ≡ (context_of m c).queues → AreKept f m (with_queues m c (completed q more qs))
  unfolding with_queues
  completed_kept m c q more qs h =
      context_kept f m c (record (context_of m c) { queues = completed q more qs }) refl
      (subst (λ z. f (record (context_of m c) { queues = completed q more z }) ≡ f (context_of m c)) (sym h) (part.queues (context_of m c) q more))

  failed_kept : (m : Machine) (c : Name) (e : End) (status : WcStatus) (vs : List Receive) (qs : List CompletionQueue) → qs ≡ (context_of m c).queues → AreKept f m (with_queues m c (failed_queues e status vs qs))
  unfolding with_queues failed_queues
  failed_kept m c e status vs qs h =
      context_kept f m c (record (context_of m c) { queues = failed_queues e status vs qs }) refl
      (subst (λ z. f (record (context_of m c) { queues = failed_queues e status vs z }) ≡ f (context_of m c)) (sym h) (twice (context_of m c) e.receive_queue e.send_queue (failed_receives e.number vs) (failed_requests e.number status (untold e))))

  refused_kept : (m : Machine) (c : Name) (x : End) (why : RefusalReason) (qs : List CompletionQueue) → qs ≡ (context_of m c).queues → AreKept f m (with_queues m c (refused_queues x why qs))
  unfolding with_queues refused_queues failed_queues
  refused_kept m c x why qs h =
      context_kept f m c (record (context_of m c) { queues = refused_queues x why qs }) refl
      (subst (λ z. f (record (context_of m c) { queues = refused_queues x why z }) ≡ f (context_of m c)) (sym h)
      (twice (record (context_of m c) { queues = completed x.receive_queue (refused_entries x why) (context_of m c).queues }) x.receive_queue x.send_queue (failed_receives x.number (refused_receives x why)) (failed_requests x.number statuses.Flush (untold x))
      ∙ part.queues (context_of m c) x.receive_queue (refused_entries x why)))

  pub completing_kept : (m : Machine) (c q : Name) (more : List Completion) → AreKept f m (completing m c q more)
  unfolding completing with_queue with_queue_in queue_of completed
  completing_kept m c q more = context_kept f m c (record (context_of m c) { queues = completed q more (context_of m c).queues }) refl (part.queues (context_of m c) q more)

  -- ---- the steps that put no bytes

  ended_kept : (m : Machine) (o : ObjName) (status : WcStatus) → AreKept f m (ended_with m o status)
  unfolding ended_with
  ended_kept m o status =
      kept_then f m (in_end m o closed) _ (end_kept m o (closed (end_of m o)) (closed_fixed (end_of m o)))
      (failed_kept (in_end m o closed) o.context (end_of m o) status (receives_of (end_of m o)) (context_of m o.context).queues (sym (queues_kept m o (closed (end_of m o)) o.context)))

  pub turn_kept : (m : Machine) (o : ObjName) → AreKept f m (read_turn m o)
  unfolding read_turn
  turn_kept m o = end_kept m o (acted_with (end_of m o) Finished) (acted_fixed (end_of m o) Finished)

  pub refuse_kept : (m : Machine) (o : ObjName) (why : RefusalReason) → AreKept f m (refuse m o why)
  unfolding refuse refuse_at
  refuse_kept m o why =
      let p : ObjName = (end_of m o).peer in
      let first : Machine = in_end m o (λ e. denied e why) in
      let second : Machine = in_end first p closed in
      kept_then f m second _ (kept_then f m first second (end_kept m o (denied (end_of m o) why) (denied_fixed (end_of m o) why)) (end_kept first p (closed (end_of first p)) (closed_fixed (end_of first p))))
      (refused_kept second p.context (ideal.peer_of m o) why (context_of m p.context).queues
      (sym (queues_kept first p (closed (end_of first p)) p.context ∙ queues_kept m o (denied (end_of m o) why) p.context)))

  pub dry_kept : (m : Machine) (o : ObjName) → AreKept f m (dried m o)
  unfolding dried
  dry_kept m o = end_kept m o (dried_at (end_of m o)) (dried_fixed (end_of m o))

  pub know_kept : (m : Machine) (o : ObjName) (bytes : ℕ) → AreKept f m (knowing m o bytes)
  unfolding knowing
  know_kept m o bytes = end_kept m o (with_known (end_of m o) bytes) (known_fixed (end_of m o) bytes)

  pub expire_kept : (m : Machine) (o : ObjName) → AreKept f m (expire m o)
  unfolding expire
  expire_kept m o k = by ((end_of m o).spent == (end_of m o).retry)
    where
      by : (b : Bool) → f (context_of (if b then ended_with m o statuses.RetryExceeded else in_end m o expired) k) ≡ f (context_of m k)
      by true = ended_kept m o statuses.RetryExceeded k
      by false = end_kept m o (expired (end_of m o)) (expired_fixed (end_of m o)) k

  pub wait_kept : (m : Machine) (o : ObjName) → AreKept f m (wait m o)
  unfolding wait
  wait_kept m o k = by ((end_of m o).rnr == 7) ((end_of m o).waits == (end_of m o).rnr)
    where
      by : (a b : Bool) → f (context_of (if a then m else if b then ended_with m o statuses.RnrExceeded else in_end m o waited) k) ≡ f (context_of m k)
      by true b = refl
      by false true = ended_kept m o statuses.RnrExceeded k
      by false false = end_kept m o (waited (end_of m o)) (waited_fixed (end_of m o)) k

  pub bounce_kept : (m : Machine) (o : ObjName) → AreKept f m (bounce m o)
  unfolding bounce
  bounce_kept m o = ended_kept m o _

  -- ---- the steps that put bytes, up to those

  -- before a Run puts its bytes
  pub run_before : (m : Machine) (o : ObjName) (n : ℕ) → AreKept f m (in_end m o (λ y. advanced y n))
  run_before m o n = end_kept m o (advanced (end_of m o) n) (advanced_fixed (end_of m o) n)

  -- .. and after it has put them
  pub run_after : (m : Machine) (o : ObjName) (n : ℕ) → AreKept f (run_put m o n) (run m o n)
  unfolding run run_towards
  run_after m o n =
      let e : End = end_of m o in
      let x : End = ideal.peer_of m o in
      let first : Machine = in_end m o (λ y. advanced y n) in
      let put : Machine = run_put m o n in
      let used : Machine = in_end put e.peer (receiving (current e).request.shape (fills e n)) in
      kept_then f put used _ (end_kept put e.peer (receiving (current e).request.shape (fills e n) (end_of put e.peer)) (receiving_fixed (current e).request.shape (fills e n) (end_of put e.peer)))
      (completed_kept used e.peer.context x.receive_queue (arrivals e n x) (context_of m e.peer.context).queues
      (sym (queues_kept put e.peer _ e.peer.context ∙ (placing_queues first e.peer.context e x (ideal.next_bytes e n) e.peer.context ∙ queues_kept m o (advanced e n) e.peer.context))))

  -- before an Atom puts its word
  pub atom_before : (m : Machine) (o : ObjName) (old : ℕ) → AreKept f m (in_end m o (λ e. acted_with e (OldValue old)))
  atom_before m o old = end_kept m o (acted_with (end_of m o) (OldValue old)) (acted_fixed (end_of m o) (OldValue old))

  -- after bytes landed
  pub land_after : (m : Machine) (o : ObjName) (bytes : ℕ) → AreKept f m (in_end m o (λ e. with_known e bytes))
  land_after m o bytes = end_kept m o (with_known (end_of m o) bytes) (known_fixed (end_of m o) bytes)

  -- after an old value landed
  pub tell_after : (m : Machine) (o : ObjName) → AreKept f m (in_end m o told_one)
  tell_after m o = end_kept m o (told_one (end_of m o)) (told_fixed (end_of m o))

  -- ---- .. and all of them, where the part sees no bytes

  module _ (blind : IsBlind f) where
    put_kept : (m : Machine) (c : Name) (key_of : Region → ℕ) (key address : ℕ) (new : List ℕ) → AreKept f m (with_regions m c (put_at key_of key address new (regions_of m c)))
    unfolding with_regions
    put_kept m c key_of key address new = context_kept f m c (record (context_of m c) { regions = put_at key_of key address new (regions_of m c) }) refl (blind (context_of m c) key_of key address new)

    receive_kept : (m : Machine) (c : Name) (into : ℕ) (new : List ℕ) (v : Option Receive) → AreKept f m (put_in_receive m c into new v)
    unfolding put_in_receive
    receive_kept m c into new None k = refl
    receive_kept m c into new (Some v) k = put_kept m c _ _ _ new k

    placing_kept : (m : Machine) (c : Name) (e x : End) (new : List ℕ) → AreKept f m (placing m c e x new)
    unfolding placing
    placing_kept m c e x new k = by (is_send (kind_of (current e)))
      where
        by : (b : Bool) → f (context_of (if b then put_in_receive m c e.into new (receive_for x) else put_in_range m c e.into new (current e)) k) ≡ f (context_of m k)
        by true = receive_kept m c e.into new (receive_for x) k
        by false = put_kept m c _ _ _ new k

    pub run_kept : (m : Machine) (o : ObjName) (n : ℕ) → AreKept f m (run m o n)
    run_kept m o n =
        kept_then f m (run_put m o n) (run m o n)
        (kept_then f m (in_end m o (λ y. advanced y n)) (run_put m o n) (run_before m o n) (placing_kept (in_end m o (λ y. advanced y n)) (end_of m o).peer.context (end_of m o) (ideal.peer_of m o) (ideal.next_bytes (end_of m o) n)))
        (run_after m o n)

    pub atom_kept : (m : Machine) (o : ObjName) → AreKept f m (atom m o)
    unfolding atom atom_on
    atom_kept m o =
        let old : ℕ = ideal.word_there (current (end_of m o)) (ideal.peer_regions m o) in
        let first : Machine = in_end m o (λ e. acted_with e (OldValue old)) in
        kept_then f m first _ (atom_before m o old) (put_kept first (end_of m o).peer.context _ _ _ _)

    pub land_kept : (m : Machine) (o : ObjName) (i : ℕ) → AreKept f m (landed m o i)
    unfolding landed land_at
    land_kept m o i = kept_then f m _ _ (put_kept m o.context _ _ _ _) (land_after _ o _)

    old_kept : (m : Machine) (c : Name) (r : Request) (a : Option Reply) → AreKept f m (put_old m c r a)
    unfolding put_old
    old_kept m c r None k = refl
    old_kept m c r (Some Finished) k = refl
    old_kept m c r (Some (OldValue value)) k = put_kept m c _ _ _ _ k
    old_kept m c r (Some (Denied why)) k = refl

    pub tell_kept : (m : Machine) (o : ObjName) → AreKept f m (tell m o)
    unfolding tell tell_at
    tell_kept m o = kept_then f m _ _ (kept_then f m _ _ (completing_kept m o.context (end_of m o).send_queue (success (end_of m o) (ideal.front (end_of m o)))) (old_kept _ o.context _ _)) (tell_after _ o)
