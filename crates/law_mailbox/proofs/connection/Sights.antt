-- What is seen of a connection where one end of the machine is another.
use Rattle.std.proofs.Common.{◌≡◌, ◌≢◌, ℕ, List, [], ◌∷◌, ◌++◌, true, false, Bool, refl, sym, subst, ap, ◌∙◌}
use Rattle.std.specs.Prelude.{bytes_eq, ◌||◌, if◌then◌else◌}
use Rattle.rdma_types.specs.declared.names.Name.{Name}
use Rattle.rdma_types.specs.declared.names.ObjName.{ObjName}
use Rattle.rdma_types.specs.Lists.{has_name, named, store_named}
use Rattle.rdma_types.specs.Objects.{Region, no_queue, no_region}
use Rattle.packetless_machine.specs.Machine.{Context, End, Machine, context_of, end_of, has_context, has_end, no_context, nobody, queue_of, regions_of, with_end}
use Rattle.packetless_machine.specs.Verbs.{region_of}
use Rattle.law_simulation.proofs.relation.Machines.{MachineChanged, context_here, context_name, end_stored, part_same, with_context_changed}
use Rattle.law_simulation.proofs.relation.Tables.{named-store_same}
use Rattle.law_simulation.proofs.runs.Acting.{end_other}
use Rattle.mailbox_rules.specs.declared.due.Due.{Due}
use Rattle.mailbox_rules.specs.Opening.{queue_name, receiver, receiver_end, receiver_region, sender, sender_end, sender_region}
use Rattle.law_mailbox.specs.Kept.{dues_of, sight_of}

-- ---- one end is another, and all else is as before

pub record IsEndChanged (m m' : Machine) (o : ObjName) (e : End) : Type 0 where
  pub here : end_of m' o ≡ e
  pub others : (q : ObjName) → q ≢ o → end_of m' q ≡ end_of m q
  pub regions : (c : Name) → regions_of m' c ≡ regions_of m c
  pub queues : (c q : Name) → queue_of m' c q ≡ queue_of m c q

pub nowhere : {A : Type 0} (name : A → List ℕ) (none : A) (n : List ℕ) (xs : List A) → has_name name n xs ≡ false → named name none n xs ≡ none
unfolding has_name named
nowhere name none n [] h = refl
nowhere name none n (x ∷ xs) h = by (bytes_eq (name x) n) (nowhere name none n xs) h
  where
    by : (b : Bool) → (has_name name n xs ≡ false → named name none n xs ≡ none) → (b || has_name name n xs) ≡ false → (if b then x else named name none n xs) ≡ none
    by true rest f = cc
    by false rest f = rest f

-- an end that is there is in a context that is there
pub context_there : (m : Machine) (o : ObjName) → has_end m o ≡ true → has_context m o.context ≡ true
unfolding has_end has_context context_of has_name
context_there m o there = by (has_name (λ x. x.name) o.context m.contexts) refl
  where
    by : (b : Bool) → has_name (λ x. x.name) o.context m.contexts ≡ b → has_name (λ x. x.name) o.context m.contexts ≡ true
    by true e = e
    by false e =
        let none : named (λ x. x.name) (no_context o.context) o.context m.contexts ≡ no_context o.context = nowhere (λ x. x.name) (no_context o.context) o.context m.contexts e in
        let no_end : false ≡ true = ap (λ (c : Context). has_name (λ x. x.name) o.name c.ends) (sym none) ∙ there in
        cc

module _ (m : Machine) (o : ObjName) (e : End) (there : has_end m o ≡ true) (name : e.name ≡ o.name) (same : e.name ≡ (end_of m o).name) where
  pub end_there : has_name (λ z. z.name) o.name (context_of m o.context).ends ≡ true
  unfolding has_end
  end_there = there

  pub changed : MachineChanged m (with_end m o e) o.context (record (context_of m o.context) { ends = store_named (λ z. z.name) o.name e (context_of m o.context).ends })
  changed =
      subst (λ (k : Machine). MachineChanged m k o.context (record (context_of m o.context) { ends = store_named (λ z. z.name) o.name e (context_of m o.context).ends })) (sym (end_stored m o e end_there))
      (with_context_changed m o.context (record (context_of m o.context) { ends = store_named (λ z. z.name) o.name e (context_of m o.context).ends }) (context_name m o.context) (context_there m o there))

  end_here : end_of (with_end m o e) o ≡ e
  unfolding end_of
  end_here =
      ap (λ (z : Context). named (λ u. u.name) (nobody o) o.name z.ends) (context_here m (with_end m o e) o.context (record (context_of m o.context) { ends = store_named (λ z. z.name) o.name e (context_of m o.context).ends }) changed)
      ∙ named-store_same (λ u. u.name) (nobody o) o.name e (context_of m o.context).ends name

  queues_same : (c q : Name) → queue_of (with_end m o e) c q ≡ queue_of m c q
  unfolding queue_of
  queues_same c q = ap (named (λ x. x.name) no_queue q) (part_same m (with_end m o e) o.context (record (context_of m o.context) { ends = store_named (λ z. z.name) o.name e (context_of m o.context).ends }) changed (λ x. x.queues) c refl)

  pub end_is_changed : IsEndChanged m (with_end m o e) o e
  end_is_changed = record {
    here = end_here;
    others = λ q other. end_other m o e q same other;
    regions = λ c. part_same m (with_end m o e) o.context (record (context_of m o.context) { ends = store_named (λ z. z.name) o.name e (context_of m o.context).ends }) changed (λ x. x.regions) c refl;
    queues = queues_same;
  }

-- ---- what is seen of it

pub region_same : (m m' : Machine) (o : ObjName) → regions_of m' o.context ≡ regions_of m o.context → region_of m' o ≡ region_of m o
unfolding region_of
region_same m m' o e = ap (λ (rs : List Region). named (λ r. r.name) no_region o.name rs) e

pub ends_apart : (i : ℕ) → receiver_end i ≢ sender_end i
ends_apart i e = let contexts : receiver ≡ sender i = ap (λ (o : ObjName). o.context) e in cc

module _ (m m' : Machine) (owed : List Due) (i : ℕ) (e : End) where
  pub sees_sender : IsEndChanged m m' (sender_end i) e → sight_of m' owed i ≡ record (sight_of m owed i) { sender = e }
  sees_sender g = λ k. record {
    sender = g.here k;
    receiver = g.others (receiver_end i) (ends_apart i) k;
    stored = (region_same m m' (sender_region i) (g.regions (sender i)) k).bytes;
    landed = (region_same m m' (receiver_region i) (g.regions receiver) k).bytes;
    dues = owed ++ (dues_of 0 (g.queues receiver queue_name k).entries ++ dues_of i (g.queues (sender i) queue_name k).entries);
  }

  pub sees_receiver : IsEndChanged m m' (receiver_end i) e → sight_of m' owed i ≡ record (sight_of m owed i) { receiver = e }
  sees_receiver g = λ k. record {
    sender = g.others (sender_end i) (λ h. ends_apart i (sym h)) k;
    receiver = g.here k;
    stored = (region_same m m' (sender_region i) (g.regions (sender i)) k).bytes;
    landed = (region_same m m' (receiver_region i) (g.regions receiver) k).bytes;
    dues = owed ++ (dues_of 0 (g.queues receiver queue_name k).entries ++ dues_of i (g.queues (sender i) queue_name k).entries);
  }

  -- another end is not seen
  pub sees_nothing : (o : ObjName) → sender_end i ≢ o → receiver_end i ≢ o → IsEndChanged m m' o e → sight_of m' owed i ≡ sight_of m owed i
  sees_nothing o a b g = λ k. record {
    sender = g.others (sender_end i) a k;
    receiver = g.others (receiver_end i) b k;
    stored = (region_same m m' (sender_region i) (g.regions (sender i)) k).bytes;
    landed = (region_same m m' (receiver_region i) (g.regions receiver) k).bytes;
    dues = owed ++ (dues_of 0 (g.queues receiver queue_name k).entries ++ dues_of i (g.queues (sender i) queue_name k).entries);
  }
