-- Changes of the machine, one after the other, at one context; and what a Run is.
use Rattle.std.proofs.Common.{arith, ◌≡◌, ◌≢◌, ◌+◌, ℕ, suc, List, [], ◌∷◌, ◌++◌, true, false, Bool, refl, sym, ap, ◌∙◌, subst}
use Rattle.std.specs.Prelude.{if◌then◌else◌, Option, Some, None}
use Rattle.rdma_types.specs.declared.names.Name.{Name}
use Rattle.rdma_types.specs.declared.names.ObjName.{ObjName}
use Rattle.rdma_types.specs.Lists.{named, has_name, store_named}
use Rattle.rdma_types.specs.Kinds as kinds
use Rattle.rdma_types.specs.Kinds.{kind_of}
use Rattle.rdma_types.specs.Memory.{remote_key, local_key}
use Rattle.rdma_types.specs.Objects.{CompletionQueue, Region}
use Rattle.rdma_types.specs.declared.requests.Receive.{Receive}
use Rattle.packetless_machine.specs.declared.reply.Reply.TheVariants.{Finished}
use Rattle.packetless_machine.specs.Machine as machine
use Rattle.packetless_machine.specs.Machine.{Machine, Context, End, has_context, has_end, end_of, regions_of, nobody, put_at}
use Rattle.packetless_machine.specs.Steps as steps
use Rattle.packetless_machine.specs.Steps.{advanced, fills, current, receiving, arrivals, next_bytes, run, run_towards, placing, acted_with, receive_for}
use Rattle.law_simulation.proofs.relation.Tables.{name_tells, has_name-store, same_name}
use Rattle.law_simulation.proofs.relation.Machines as machines
use Rattle.law_simulation.proofs.relation.Machines.{MachineChanged, context_name, with_context_changed, end_stored}
use Rattle.law_simulation.proofs.relation.Linked.{context_with, end_changed}
use Rattle.law_simulation.proofs.requests.Advancing.{moved_on}
use Rattle.law_simulation.proofs.requests.Responding.{machine_again, made_there}

stored_twice : {A : Type 0} (name : A → List ℕ) (n : List ℕ) (a b : A) (xs : List A) → name a ≡ n → store_named name n b (store_named name n a xs) ≡ store_named name n b xs
unfolding store_named
stored_twice name n a b [] h = grind (arith, same_name n)
stored_twice name n a b (x ∷ xs) h = grind (arith, same_name n, name_tells (name x) n, stored_twice name n a b xs h)

pub changed_twice : (m m' m'' : Machine) (c : Name) (y z : Context) → MachineChanged m m' c y → MachineChanged m' m'' c z → MachineChanged m m'' c z
changed_twice m m' m'' c y z a b = record {
  named = b.named;
  there = a.there;
  contexts = b.contexts ∙ (ap (store_named (λ x. x.name) c z) a.contexts ∙ stored_twice (λ x. x.name) c y z m.contexts a.named);
}

pub there_after : (m m' : Machine) (c : Name) (y : Context) → MachineChanged m m' c y → has_context m' c ≡ true
unfolding has_context
there_after m m' c y a = ap (has_name (λ x. x.name) c) a.contexts ∙ (has_name-store (λ x. x.name) c c y m.contexts a.there a.named ∙ a.there)

-- another change of the same context
again : (m m' : Machine) (c : Name) (y z : Context) → z.name ≡ c → MachineChanged m m' c y → MachineChanged m (machine.with_context m' c z) c z
again m m' c y z named a = changed_twice m m' (machine.with_context m' c z) c y z a (with_context_changed m' c z named (there_after m m' c y a))

pub regions_changed : (m m' : Machine) (c : Name) (y : Context) (rs : List Region) → MachineChanged m m' c y → MachineChanged m (machine.with_regions m' c rs) c (record y { regions = rs })
unfolding machine.with_regions
regions_changed m m' c y rs a =
    subst (λ z. MachineChanged m (machine.with_context m' c (record z { regions = rs })) c (record y { regions = rs })) (sym (machines.context_here m m' c y a)) (again m m' c y (record y { regions = rs }) a.named a)

pub queues_changed : (m m' : Machine) (c : Name) (y : Context) (qs : List CompletionQueue) → MachineChanged m m' c y → MachineChanged m (machine.with_queues m' c qs) c (record y { queues = qs })
unfolding machine.with_queues
queues_changed m m' c y qs a =
    subst (λ z. MachineChanged m (machine.with_context m' c (record z { queues = qs })) c (record y { queues = qs })) (sym (machines.context_here m m' c y a)) (again m m' c y (record y { queues = qs }) a.named a)

pub one_end_changed : (m m' : Machine) (o : ObjName) (y : Context) (f : End) → has_name (λ z. z.name) o.name y.ends ≡ true → MachineChanged m m' o.context y → MachineChanged m (machine.with_end m' o f) o.context (record y { ends = store_named (λ z. z.name) o.name f y.ends })
one_end_changed m m' o y f found a =
    let here : machine.context_of m' o.context ≡ y = machines.context_here m m' o.context y a in
    subst (λ k. MachineChanged m k o.context (record y { ends = store_named (λ z. z.name) o.name f y.ends })) (sym (end_stored m' o f (ap (λ z. has_name (λ u. u.name) o.name z.ends) here ∙ found)))
    (subst (λ z. MachineChanged m (machine.with_context m' o.context (record z { ends = store_named (λ u. u.name) o.name f z.ends })) o.context (record y { ends = store_named (λ u. u.name) o.name f y.ends })) (sym here)
    (again m m' o.context y (record y { ends = store_named (λ z. z.name) o.name f y.ends }) a.named a))

-- ---- the counts of a Run

pub advanced_filled : (e : End) (n : ℕ) → fills e n ≡ true → advanced e n ≡ moved_on e (suc e.acted) 0 (e.answers ++ Finished ∷ []) e.offers e.dry
unfolding advanced acted_with
advanced_filled e n h = ap (λ b. if b then moved_on e (suc e.acted) 0 (e.answers ++ Finished ∷ []) e.offers e.dry else moved_on e e.acted (e.into + n) e.answers e.offers e.dry) h

pub advanced_more : (e : End) (n : ℕ) → fills e n ≡ false → advanced e n ≡ moved_on e e.acted (e.into + n) e.answers e.offers e.dry
unfolding advanced acted_with
advanced_more e n h = ap (λ b. if b then moved_on e (suc e.acted) 0 (e.answers ++ Finished ∷ []) e.offers e.dry else moved_on e e.acted (e.into + n) e.answers e.offers e.dry) h

-- ---- what was given stays

placed_numbers : (m : Machine) (c : Name) (e x : End) (new : List ℕ) → (placing m c e x new).numbers ≡ m.numbers
unfolding placing steps.put_in_receive machine.with_regions machine.with_context
placed_numbers m c e x new = by_kind (kinds.is_send (kind_of (current e))) (receive_for x)
  where
    by_kind : (b : Bool) (r : Option Receive) → (if b then steps.put_in_receive m c e.into new r else steps.put_in_range m c e.into new (current e)).numbers ≡ m.numbers
    by_kind true None = refl
    by_kind true (Some v) = refl
    by_kind false r = refl

placed_keys : (m : Machine) (c : Name) (e x : End) (new : List ℕ) → (placing m c e x new).keys ≡ m.keys
unfolding placing steps.put_in_receive machine.with_regions machine.with_context
placed_keys m c e x new = by_kind (kinds.is_send (kind_of (current e))) (receive_for x)
  where
    by_kind : (b : Bool) (r : Option Receive) → (if b then steps.put_in_receive m c e.into new r else steps.put_in_range m c e.into new (current e)).keys ≡ m.keys
    by_kind true None = refl
    by_kind true (Some v) = refl
    by_kind false r = refl

-- ---- a Run

module _ (m : Machine) (o : ObjName) (n : ℕ) (found : has_name (λ z. z.name) o.name (machine.context_of m o.context).ends ≡ true) (g : End) (back : (end_of m (end_of m o).peer).peer ≡ o) (apart : (end_of m o).peer.context ≢ o.context)
    (q_found : has_name (λ z. z.name) (end_of m o).peer.name (machine.context_of m (end_of m o).peer.context).ends ≡ true) (q_context : has_context m (end_of m o).peer.context ≡ true) where
  abbrev q : ObjName
  q = (end_of m o).peer

  abbrev e : End
  e = end_of m q

  abbrev x : End
  x = end_of m o

  abbrev y : Context
  y = machine.context_of m o.context

  -- the requests are now g
  abbrev m1 : Machine
  m1 = machine.with_end m q g

  pub first_change : MachineChanged m m1 q.context (context_with m q g)
  first_change = end_changed m q g q_context q_found

  y_same : machine.context_of m1 o.context ≡ y
  y_same = machines.context_other m m1 q.context (context_with m q g) first_change o.context (λ h. apart (sym h))

  o_context : has_context m1 o.context ≡ true
  unfolding has_end
  o_context = made_there m1 o (ap (λ z. has_name (λ u. u.name) o.name z.ends) y_same ∙ found)

  pub start_change : MachineChanged m1 m1 o.context y
  start_change = subst (MachineChanged m1 m1 o.context) y_same (machine_again m1 o.context o_context)

  -- bytes are put in the regions of o's context, its end becomes f, and its queues qs
  pub then_changed : (rs : List Region) (f : End) (qs : List CompletionQueue) → MachineChanged m1 (machine.with_queues (machine.with_end (machine.with_regions m1 o.context rs) o f) o.context qs) o.context (record y { regions = rs; ends = store_named (λ z. z.name) o.name f y.ends; queues = qs })
  then_changed rs f qs =
      queues_changed m1 (machine.with_end (machine.with_regions m1 o.context rs) o f) o.context (record y { regions = rs; ends = store_named (λ z. z.name) o.name f y.ends }) qs
      (one_end_changed m1 (machine.with_regions m1 o.context rs) o (record y { regions = rs }) f found (regions_changed m1 m1 o.context y rs start_change))

  regions_same : regions_of m1 o.context ≡ regions_of m o.context
  regions_same = ap (λ z. z.regions) y_same

  end_same : (rs : List Region) → end_of (machine.with_regions m1 o.context rs) o ≡ x
  unfolding end_of
  end_same rs = ap (λ z. named (λ u. u.name) (nobody o) o.name z.ends) (machines.context_here m1 (machine.with_regions m1 o.context rs) o.context (record y { regions = rs }) (regions_changed m1 m1 o.context y rs start_change))

  -- a Run of a Write
  abbrev write_regions : List Region
  write_regions = put_at remote_key (current e).request.shape.rkey ((current e).request.shape.remote + e.into) (next_bytes e n) (regions_of m o.context)

  abbrev write_end : End
  write_end = receiving (current e).request.shape (fills e n) x

  abbrev run_queues : List CompletionQueue
  run_queues = machine.completed x.receive_queue (arrivals e n x) y.queues

  -- what a Run does once its bytes are in place
  abbrev rest_of : Machine → Machine
  rest_of z = machine.with_queues (machine.in_end z o (receiving (current e).request.shape (fills e n))) o.context run_queues

  abbrev towards : ObjName → Machine
  towards p =
      machine.with_queues
      (machine.in_end (placing (machine.in_end m q (λ u. advanced u n)) p.context e (end_of m p) (next_bytes e n)) p (receiving (current e).request.shape (fills e n)))
      p.context (machine.completed (end_of m p).receive_queue (arrivals e n (end_of m p)) (machine.context_of m p.context).queues)

  run_is : run m q n ≡ towards o
  unfolding run run_towards
  run_is = ap towards back

  rest_is : (rs : List Region) → rest_of (machine.with_regions m1 o.context rs) ≡ machine.with_queues (machine.with_end (machine.with_regions m1 o.context rs) o write_end) o.context run_queues
  rest_is rs = ap (λ k. machine.with_queues (machine.with_end (machine.with_regions m1 o.context rs) o (receiving (current e).request.shape (fills e n) k)) o.context run_queues) (end_same rs)

  -- bytes in the range of a Write
  placed_write : advanced e n ≡ g → kinds.is_send (kind_of (current e)) ≡ false → placing (machine.in_end m q (λ u. advanced u n)) o.context e x (next_bytes e n) ≡ machine.with_regions m1 o.context write_regions
  unfolding placing
  placed_write moved write =
      ap (λ z. if kinds.is_send (kind_of (current e)) then steps.put_in_receive (machine.with_end m q z) o.context e.into (next_bytes e n) (receive_for x) else steps.put_in_range (machine.with_end m q z) o.context e.into (next_bytes e n) (current e)) moved
      ∙ (ap (λ b. if b then steps.put_in_receive m1 o.context e.into (next_bytes e n) (receive_for x) else steps.put_in_range m1 o.context e.into (next_bytes e n) (current e)) write
      ∙ ap (λ rs. machine.with_regions m1 o.context (put_at remote_key (current e).request.shape.rkey ((current e).request.shape.remote + e.into) (next_bytes e n) rs)) regions_same)

  pub run_write : advanced e n ≡ g → kinds.is_send (kind_of (current e)) ≡ false → MachineChanged m1 (run m q n) o.context (record y { regions = write_regions; ends = store_named (λ z. z.name) o.name write_end y.ends; queues = run_queues })
  run_write moved write =
      subst (λ k. MachineChanged m1 k o.context (record y { regions = write_regions; ends = store_named (λ z. z.name) o.name write_end y.ends; queues = run_queues })) (sym (run_is ∙ (ap rest_of (placed_write moved write) ∙ rest_is write_regions)))
      (then_changed write_regions write_end run_queues)

  -- bytes in the receive v of a Send
  abbrev send_regions : Receive → List Region
  send_regions v = put_at local_key v.lkey (v.local + e.into) (next_bytes e n) (regions_of m o.context)

  placed_send : (v : Receive) → advanced e n ≡ g → kinds.is_send (kind_of (current e)) ≡ true → receive_for x ≡ Some v → placing (machine.in_end m q (λ u. advanced u n)) o.context e x (next_bytes e n) ≡ machine.with_regions m1 o.context (send_regions v)
  unfolding placing steps.put_in_receive
  placed_send v moved send received =
      ap (λ z. if kinds.is_send (kind_of (current e)) then steps.put_in_receive (machine.with_end m q z) o.context e.into (next_bytes e n) (receive_for x) else steps.put_in_range (machine.with_end m q z) o.context e.into (next_bytes e n) (current e)) moved
      ∙ (ap (λ b. if b then steps.put_in_receive m1 o.context e.into (next_bytes e n) (receive_for x) else steps.put_in_range m1 o.context e.into (next_bytes e n) (current e)) send
      ∙ (ap (steps.put_in_receive m1 o.context e.into (next_bytes e n)) received
      ∙ ap (λ rs. machine.with_regions m1 o.context (put_at local_key v.lkey (v.local + e.into) (next_bytes e n) rs)) regions_same))

  pub run_send : (v : Receive) → advanced e n ≡ g → kinds.is_send (kind_of (current e)) ≡ true → receive_for x ≡ Some v → MachineChanged m1 (run m q n) o.context (record y { regions = send_regions v; ends = store_named (λ z. z.name) o.name write_end y.ends; queues = run_queues })
  run_send v moved send received =
      subst (λ k. MachineChanged m1 k o.context (record y { regions = send_regions v; ends = store_named (λ z. z.name) o.name write_end y.ends; queues = run_queues })) (sym (run_is ∙ (ap rest_of (placed_send v moved send received) ∙ rest_is (send_regions v))))
      (then_changed (send_regions v) write_end run_queues)

  pub run_numbers : (run m q n).numbers ≡ m.numbers
  unfolding run run_towards machine.with_queues machine.with_end machine.with_regions machine.with_context
  run_numbers = placed_numbers (machine.in_end m q (λ u. advanced u n)) e.peer.context e (end_of m e.peer) (next_bytes e n)

  pub run_keys : (run m q n).keys ≡ m.keys
  unfolding run run_towards machine.with_queues machine.with_end machine.with_regions machine.with_context
  run_keys = placed_keys (machine.in_end m q (λ u. advanced u n)) e.peer.context e (end_of m e.peer) (next_bytes e n)
