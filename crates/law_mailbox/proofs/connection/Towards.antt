-- What a Run of a Send changes of the machine, as its parts are seen.
use Rattle.std.proofs.Common.{◌≡◌, ◌≢◌, ℕ, ◌+◌, List, drop, true, false, Bool, refl, sym, subst, ap, ◌∙◌, Some, None, inl, inr}
use Rattle.std.specs.Prelude.{if◌then◌else◌, is_some, ◌&&◌}
use Rattle.rdma_types.specs.declared.names.Name.{Name}
use Rattle.rdma_types.specs.declared.names.ObjName.{ObjName}
use Rattle.rdma_types.specs.declared.requests.Completion.{Completion}
use Rattle.rdma_types.specs.declared.requests.Receive.{Receive}
use Rattle.rdma_types.specs.declared.requests.Shape.{Shape}
use Rattle.rdma_types.specs.Kinds.{is_send, kind_of}
use Rattle.rdma_types.specs.Lists.{has_name, named, store_named}
use Rattle.rdma_types.specs.Memory.{local_key}
use Rattle.rdma_types.specs.Objects.{CompletionQueue, Region, no_queue}
use Rattle.packetless_machine.specs.declared.reply.Reply.TheVariants.{Finished}
use Rattle.packetless_machine.specs.Machine.{Context, End, Machine, completed, context_of, end_of, has_end, longer, nobody, put_at, queue_of, regions_of, with_end}
use Rattle.packetless_machine.specs.Steps.{acted_with, advanced, arrivals, current, fills, next_bytes, receive_for, receiving, run, unused_after}
use Rattle.packetless_machine.specs.Verbs.{has_queue}
use Rattle.law_simulation.proofs.relation.Linked.{there_kept}
use Rattle.law_simulation.proofs.relation.Machines.{MachineChanged, context_here, context_other, end_part_same, part_same, there_same}
use Rattle.law_simulation.proofs.relation.Tables.{has_name-store, name_or_not, named-store_other, named-store_same}
use Rattle.law_simulation.proofs.requests.Running.{run_send}
use Rattle.law_simulation.proofs.runs.Acting.{object_or_not}
use Rattle.mailbox_rules.specs.Opening.{queue_name}
use Rattle.law_mailbox.proofs.connection.Ends.{longer_here, still_named}
use Rattle.law_mailbox.proofs.connection.Opens.{IsAlike, alike_itself}
use Rattle.law_mailbox.proofs.connection.Quiet.{end_name}
use Rattle.law_mailbox.proofs.connection.Sights.{IsEndChanged, changed, context_there, end_is_changed}
use Rattle.law_mailbox.proofs.connection.Tells.{queue_named}

-- ---- one end is another; and so is an end of another context, with regions and completion queues there

abbrev pub met_with : Machine → ObjName → End → List Region → List CompletionQueue → Context
met_with m p f rs qs = record (context_of m p.context) { regions = rs; ends = store_named (λ z. z.name) p.name f (context_of m p.context).ends; queues = qs }

pub record IsMet (m m' : Machine) (q p : ObjName) (g f : End) (rs : List Region) (qs : List CompletionQueue) : Type 0 where
  pub stepped : end_of m' q ≡ g
  pub met : end_of m' p ≡ f
  pub others : (o : ObjName) → o ≢ q → o ≢ p → end_of m' o ≡ end_of m o
  pub there : (o : ObjName) → has_end m' o ≡ has_end m o
  pub regions_here : regions_of m' p.context ≡ rs
  pub regions_elsewhere : (c : Name) → c ≢ p.context → regions_of m' c ≡ regions_of m c
  pub queues_here : (context_of m' p.context).queues ≡ qs
  pub queues_elsewhere : (c : Name) → c ≢ p.context → (context_of m' c).queues ≡ (context_of m c).queues

found : (m : Machine) (o : ObjName) → has_end m o ≡ true → has_name (λ z. z.name) o.name (context_of m o.context).ends ≡ true
unfolding has_end
found m o there = there

module _ (m m' : Machine) (q p : ObjName) (g f : End) (rs : List Region) (qs : List CompletionQueue) (q_there : has_end m q ≡ true) (p_there : has_end m p ≡ true) (apart : q.context ≢ p.context)
    (g_name : g.name ≡ q.name) (f_name : f.name ≡ p.name) (second : MachineChanged (with_end m q g) m' p.context (met_with m p f rs qs)) where
  first : IsEndChanged m (with_end m q g) q g
  first = end_is_changed m q g q_there g_name (g_name ∙ sym (end_name m q))

  -- the context of p, once q is g
  context_then : context_of (with_end m q g) p.context ≡ context_of m p.context
  context_then = context_other m (with_end m q g) q.context (record (context_of m q.context) { ends = store_named (λ z. z.name) q.name g (context_of m q.context).ends })
      (changed m q g q_there g_name (g_name ∙ sym (end_name m q))) p.context (λ e. apart (sym e))

  here : context_of m' p.context ≡ met_with m p f rs qs
  here = context_here (with_end m q g) m' p.context (met_with m p f rs qs) second

  elsewhere : (c : Name) → c ≢ p.context → context_of m' c ≡ context_of (with_end m q g) c
  elsewhere c other = context_other (with_end m q g) m' p.context (met_with m p f rs qs) second c other

  stepped_is : end_of m' q ≡ g
  unfolding end_of
  stepped_is = ap (λ (x : Context). named (λ u. u.name) (nobody q) q.name x.ends) (elsewhere q.context apart) ∙ first.here

  met_is : end_of m' p ≡ f
  unfolding end_of
  met_is = ap (λ (x : Context). named (λ u. u.name) (nobody p) p.name x.ends) here ∙ named-store_same (λ u. u.name) (nobody p) p.name f (context_of m p.context).ends f_name

  others_are : (o : ObjName) → o ≢ q → o ≢ p → end_of m' o ≡ end_of m o
  others_are o a b =
      end_part_same (with_end m q g) m' p.context (met_with m p f rs qs) second (λ z. z) o
      (λ c. named-store_other (λ z. z.name) (nobody o) p.name o.name f (context_of m p.context).ends f_name (λ h. b (λ k. record { context = c k; name = h k }))
      ∙ ap (λ (x : Context). named (λ z. z.name) (nobody o) o.name x.ends) (sym context_then))
      ∙ first.others o a

  there_is : (o : ObjName) → has_end m' o ≡ has_end m o
  there_is o =
      there_same (with_end m q g) m' p.context (met_with m p f rs qs) second o
      (λ n. has_name-store (λ z. z.name) p.name n f (context_of m p.context).ends (found m p p_there) f_name ∙ ap (λ (x : Context). has_name (λ z. z.name) n x.ends) (sym context_then))
      ∙ there_kept m q o g (context_there m q q_there) (found m q q_there) g_name

  queues_stay : (c : Name) → (context_of (with_end m q g) c).queues ≡ (context_of m c).queues
  queues_stay c = part_same m (with_end m q g) q.context (record (context_of m q.context) { ends = store_named (λ z. z.name) q.name g (context_of m q.context).ends })
      (changed m q g q_there g_name (g_name ∙ sym (end_name m q))) (λ x. x.queues) c refl

  pub is_met : IsMet m m' q p g f rs qs
  is_met = record {
    stepped = stepped_is;
    met = met_is;
    others = others_are;
    there = there_is;
    regions_here = ap (λ (x : Context). x.regions) here;
    regions_elsewhere = λ c other. ap (λ (x : Context). x.regions) (elsewhere c other) ∙ first.regions c;
    queues_here = ap (λ (x : Context). x.queues) here;
    queues_elsewhere = λ c other. ap (λ (x : Context). x.queues) (elsewhere c other) ∙ queues_stay c;
  }

-- ---- a Run of a Send

-- the end q has a Send as its current request, and its peer p, in another context, a receive v
pub record IsTowards (m : Machine) (q p : ObjName) (v : Receive) : Type 0 where
  pub peer : (end_of m q).peer ≡ p
  pub apart : q.context ≢ p.context
  pub q_there : has_end m q ≡ true
  pub p_there : has_end m p ≡ true
  pub sends : is_send (kind_of (current (end_of m q))) ≡ true
  pub receive : receive_for (end_of m p) ≡ Some v

abbrev pub met_end : Machine → ObjName → ObjName → ℕ → End
met_end m q p n = receiving (current (end_of m q)).request.shape (fills (end_of m q) n) (end_of m p)

abbrev pub met_regions : Machine → ObjName → ObjName → Receive → ℕ → List Region
met_regions m q p v n = put_at local_key v.lkey (v.local + (end_of m q).into) (next_bytes (end_of m q) n) (regions_of m p.context)

abbrev pub met_queues : Machine → ObjName → ObjName → ℕ → List CompletionQueue
met_queues m q p n = completed (end_of m p).receive_queue (arrivals (end_of m q) n (end_of m p)) (context_of m p.context).queues

pub advanced_name : (e : End) (n : ℕ) → (advanced e n).name ≡ e.name
unfolding advanced acted_with
advanced_name e n = by (fills e n)
  where
    by : (b : Bool) → (if b then acted_with e Finished else record e { into = e.into + n }).name ≡ e.name
    by true = refl
    by false = refl

pub received_name : (shape : Shape) (whole : Bool) (x : End) → (receiving shape whole x).name ≡ x.name
unfolding receiving
received_name shape whole x = by (is_send shape.kind) (is_some shape.imm && whole)
  where
    by : (a b : Bool) → (if a then record x { in_use = if whole then None else receive_for x; unused = unused_after x } else if b then record x { unused = drop 1 x.unused } else x).name ≡ x.name
    by true b = refl
    by false true = refl
    by false false = refl

-- a Run of q towards p
abbrev pub RunsTowards : Machine → ObjName → ObjName → Receive → ℕ → Type 0
RunsTowards m q p v n = IsMet m (run m q n) q p (advanced (end_of m q) n) (met_end m q p n) (met_regions m q p v n) (met_queues m q p n)

of_peer : (m : Machine) (p : ObjName) (v : Receive) (n : ℕ) → IsTowards m (end_of m p).peer p v → RunsTowards m (end_of m p).peer p v n
of_peer m p v n t =
    let q : ObjName = (end_of m p).peer in
    is_met m (run m q n) q p (advanced (end_of m q) n) (met_end m q p n) (met_regions m q p v n) (met_queues m q p n) t.q_there t.p_there t.apart
    (advanced_name (end_of m q) n ∙ end_name m q) (received_name (current (end_of m q)).request.shape (fills (end_of m q) n) (end_of m p) ∙ end_name m p)
    (run_send m p n (found m p t.p_there) (advanced (end_of m q) n) t.peer t.apart (found m q t.q_there) (context_there m q t.q_there) v refl t.sends t.receive)

pub runs_towards : (m : Machine) (q p : ObjName) (v : Receive) (n : ℕ) → (end_of m p).peer ≡ q → IsTowards m q p v → RunsTowards m q p v n
runs_towards m q p v n back t = subst (λ (o : ObjName). IsTowards m o p v → RunsTowards m o p v n) back (of_peer m p v n) t

-- ---- what is seen of it

-- the ends are joined as before
pub advanced_alike : (e : End) (n : ℕ) → IsAlike (advanced e n) e
unfolding advanced acted_with
advanced_alike e n = by (fills e n)
  where
    by : (b : Bool) → IsAlike (if b then acted_with e Finished else record e { into = e.into + n }) e
    by true = record { connected = refl; peer = refl; domain = refl; send_queue = refl; receive_queue = refl; send_depth = refl; receive_depth = refl }
    by false = record { connected = refl; peer = refl; domain = refl; send_queue = refl; receive_queue = refl; send_depth = refl; receive_depth = refl }

pub received_alike : (shape : Shape) (whole : Bool) (x : End) → IsAlike (receiving shape whole x) x
unfolding receiving
received_alike shape whole x = by (is_send shape.kind) (is_some shape.imm && whole)
  where
    by : (a b : Bool) → IsAlike (if a then record x { in_use = if whole then None else receive_for x; unused = unused_after x } else if b then record x { unused = drop 1 x.unused } else x) x
    by true b = record { connected = refl; peer = refl; domain = refl; send_queue = refl; receive_queue = refl; send_depth = refl; receive_depth = refl }
    by false true = record { connected = refl; peer = refl; domain = refl; send_queue = refl; receive_queue = refl; send_depth = refl; receive_depth = refl }
    by false false = alike_itself x

module _ (m m' : Machine) (q p : ObjName) (g f : End) (rs : List Region) (more : List Completion) (k : IsMet m m' q p g f rs (completed (end_of m p).receive_queue more (context_of m p.context).queues)) where
  pub met_alike : IsAlike g (end_of m q) → IsAlike f (end_of m p) → (o : ObjName) → IsAlike (end_of m' o) (end_of m o)
  met_alike a b o = elim (object_or_not o q) [
    | inl e ↦ subst (λ (z : ObjName). IsAlike (end_of m' z) (end_of m z)) (sym e) (subst (λ (z : End). IsAlike z (end_of m q)) (sym k.stepped) a)
    | inr apart ↦ elim (object_or_not o p) [
      | inl e ↦ subst (λ (z : ObjName). IsAlike (end_of m' z) (end_of m z)) (sym e) (subst (λ (z : End). IsAlike z (end_of m p)) (sym k.met) b)
      | inr far ↦ subst (λ (z : End). IsAlike z (end_of m o)) (sym (k.others o apart far)) (alike_itself (end_of m o))
    ]
  ]

  module _ (queue : (end_of m p).receive_queue ≡ queue_name) (there : has_queue m p.context queue_name ≡ true) where
    listed : (named (λ z. z.name) no_queue queue_name (context_of m p.context).queues).name ≡ queue_name
    unfolding queue_of
    listed = queue_named m p.context there

    queues_are : (context_of m' p.context).queues ≡ completed queue_name more (context_of m p.context).queues
    queues_are = k.queues_here ∙ ap (λ (n : Name). completed n more (context_of m p.context).queues) queue

    -- more stands in the queue of the context
    pub queue_more : queue_of m' p.context queue_name ≡ longer (queue_of m p.context queue_name) more
    unfolding queue_of
    queue_more = ap (named (λ z. z.name) no_queue queue_name) queues_are ∙ longer_here queue_name more (context_of m p.context).queues there listed

    pub queue_others : (c : Name) → c ≢ p.context → queue_of m' c queue_name ≡ queue_of m c queue_name
    unfolding queue_of
    queue_others c other = ap (named (λ z. z.name) no_queue queue_name) (k.queues_elsewhere c other)

    pub queues_still : (c : Name) → has_queue m' c queue_name ≡ has_queue m c queue_name
    queues_still c = elim (name_or_not c p.context) [
      | inl e ↦
          subst (λ (d : Name). has_queue m' d queue_name ≡ has_queue m d queue_name) (sym e)
          (ap (has_name (λ z. z.name) queue_name) queues_are ∙ still_named queue_name queue_name more (context_of m p.context).queues there listed)
      | inr other ↦ ap (has_name (λ z. z.name) queue_name) (k.queues_elsewhere c other)
    ]
