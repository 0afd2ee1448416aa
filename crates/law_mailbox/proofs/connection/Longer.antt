-- What is seen of a connection where a completion queue has more entries that make nothing due.
use Rattle.std.proofs.Common.{◌≡◌, ◌≢◌, ◌⊎◌, inl, inr, ℕ, ◌+◌, List, [], ◌∷◌, ◌++◌, true, refl, sym, subst, ap, ◌∙◌, append_assoc, append-nil}
use Rattle.rdma_types.specs.declared.names.Name.{Name}
use Rattle.rdma_types.specs.declared.names.ObjName.{ObjName}
use Rattle.rdma_types.specs.declared.requests.Completion.{Completion}
use Rattle.rdma_types.specs.Lists.{has_name, named, store_named}
use Rattle.rdma_types.specs.Objects.{CompletionQueue, Region, no_queue}
use Rattle.packetless_machine.specs.Machine.{Context, End, Machine, completing, context_of, has_context, has_end, longer, queue_of, regions_of}
use Rattle.packetless_machine.specs.Verbs.{has_queue}
use Rattle.packetless_machine.proofs.Views.{end_of-completing}
use Rattle.law_simulation.proofs.relation.Machines.{MachineChanged, context_here, context_name, context_other, part_same, queue_stored, there_same, with_context_changed}
use Rattle.law_simulation.proofs.relation.Tables.{has_name-store, name_or_not, named-store_same}
use Rattle.mailbox_rules.specs.declared.due.Due.{Due}
use Rattle.rdma_types.specs.Limits.{most_bytes}
use Rattle.mailbox_rules.specs.Opening.{place_address, place_bytes, queue_name, receiver, receiver_end, receiver_key, receiver_region, sender, sender_end, sender_key, sender_region, staging_address}
use Rattle.law_mailbox.specs.Kept.{IsJoined, IsKeyedOnce, IsOpened, IsRegion, dues_by, dues_of, landing_offset, sight_of}
use Rattle.law_mailbox.proofs.connection.Sights.{region_same}

-- the dues of two lists
pub dues_both : (n : ℕ) (xs ys : List Completion) → dues_of n (xs ++ ys) ≡ dues_of n xs ++ dues_of n ys
dues_both n [] ys = refl
dues_both n (x ∷ xs) ys = ap (λ (ds : List Due). dues_by n x ++ ds) (dues_both n xs ys) ∙ sym (append_assoc (dues_by n x) (dues_of n xs) (dues_of n ys))

-- more entries that make nothing due
pub dues_same : (n : ℕ) (xs ys : List Completion) → dues_of n ys ≡ [] → dues_of n (xs ++ ys) ≡ dues_of n xs
dues_same n xs ys none = dues_both n xs ys ∙ (ap (λ (ds : List Due). dues_of n xs ++ ds) none ∙ append-nil (dues_of n xs))

module _ (m : Machine) (c q : Name) (more : List Completion) (context : has_context m c ≡ true) (there : has_queue m c q ≡ true) (same : (queue_of m c q).name ≡ q) where
  changed : MachineChanged m (completing m c q more) c (record (context_of m c) { queues = store_named (λ z. z.name) q (longer (queue_of m c q) more) (context_of m c).queues })
  unfolding completing
  changed =
      subst (λ (k : Machine). MachineChanged m k c (record (context_of m c) { queues = store_named (λ z. z.name) q (longer (queue_of m c q) more) (context_of m c).queues })) (sym (queue_stored m c q (longer (queue_of m c q) more) there))
      (with_context_changed m c (record (context_of m c) { queues = store_named (λ z. z.name) q (longer (queue_of m c q) more) (context_of m c).queues }) (context_name m c) context)

  pub queue_here : queue_of (completing m c q more) c q ≡ longer (queue_of m c q) more
  unfolding queue_of
  queue_here =
      ap (λ (x : Context). named (λ z. z.name) no_queue q x.queues) (context_here m (completing m c q more) c (record (context_of m c) { queues = store_named (λ z. z.name) q (longer (queue_of m c q) more) (context_of m c).queues }) changed)
      ∙ named-store_same (λ z. z.name) no_queue q (longer (queue_of m c q) more) (context_of m c).queues same

  pub queue_elsewhere : (d p : Name) → d ≢ c → queue_of (completing m c q more) d p ≡ queue_of m d p
  unfolding queue_of
  queue_elsewhere d p other = ap (λ (x : Context). named (λ z. z.name) no_queue p x.queues) (context_other m (completing m c q more) c (record (context_of m c) { queues = store_named (λ z. z.name) q (longer (queue_of m c q) more) (context_of m c).queues }) changed d other)

  pub regions_there : (d : Name) → regions_of (completing m c q more) d ≡ regions_of m d
  regions_there d = part_same m (completing m c q more) c (record (context_of m c) { queues = store_named (λ z. z.name) q (longer (queue_of m c q) more) (context_of m c).queues }) changed (λ x. x.regions) d refl

-- a queue of contexts of letters that is longer, by entries that make nothing due for context n
module _ (m : Machine) (owed : List Due) (i : ℕ) (c : Name) (more : List Completion) (context : has_context m c ≡ true) (there : has_queue m c queue_name ≡ true) (same : (queue_of m c queue_name).name ≡ queue_name) where
  -- what stands in the queue of context d makes the same due
  standing_same : (n : ℕ) (d : Name) → (d ≡ c → dues_of n more ≡ []) → (d ≡ c) ⊎ (d ≢ c) → dues_of n (queue_of (completing m c queue_name more) d queue_name).entries ≡ dues_of n (queue_of m d queue_name).entries
  standing_same n d none (inl here) =
      subst (λ (x : Name). dues_of n (queue_of (completing m c queue_name more) x queue_name).entries ≡ dues_of n (queue_of m x queue_name).entries) (sym here)
      (ap (λ (x : CompletionQueue). dues_of n x.entries) (queue_here m c queue_name more context there same) ∙ dues_same n (queue_of m c queue_name).entries more (none here))
  standing_same n d none (inr other) = ap (λ (x : CompletionQueue). dues_of n x.entries) (queue_elsewhere m c queue_name more context there same d queue_name other)

  pub sees_longer : (receiver ≡ c → dues_of 0 more ≡ []) → (sender i ≡ c → dues_of i more ≡ []) → sight_of (completing m c queue_name more) owed i ≡ sight_of m owed i
  sees_longer at_receiver at_sender = λ k. record {
    sender = end_of-completing m c queue_name more (sender_end i) k;
    receiver = end_of-completing m c queue_name more (receiver_end i) k;
    stored = (region_same m (completing m c queue_name more) (sender_region i) (regions_there m c queue_name more context there same (sender i)) k).bytes;
    landed = (region_same m (completing m c queue_name more) (receiver_region i) (regions_there m c queue_name more context there same receiver) k).bytes;
    dues = owed ++ (standing_same 0 receiver at_receiver (name_or_not receiver c) k ++ standing_same i (sender i) at_sender (name_or_not (sender i) c) k);
  }

-- more stands in the receiver's queue
pub sees_more : (m : Machine) (owed : List Due) (i : ℕ) (more : List Completion) → has_context m receiver ≡ true → has_queue m receiver queue_name ≡ true → (queue_of m receiver queue_name).name ≡ queue_name → sender i ≢ receiver →
    sight_of (completing m receiver queue_name more) owed i ≡ record (sight_of m owed i) { dues = owed ++ ((dues_of 0 (queue_of m receiver queue_name).entries ++ dues_of 0 more) ++ dues_of i (queue_of m (sender i) queue_name).entries) }
sees_more m owed i more context there same apart =
    let here : dues_of 0 (queue_of (completing m receiver queue_name more) receiver queue_name).entries ≡ dues_of 0 (queue_of m receiver queue_name).entries ++ dues_of 0 more =
    ap (λ (x : CompletionQueue). dues_of 0 x.entries) (queue_here m receiver queue_name more context there same) ∙ dues_both 0 (queue_of m receiver queue_name).entries more in
    let other : dues_of i (queue_of (completing m receiver queue_name more) (sender i) queue_name).entries ≡ dues_of i (queue_of m (sender i) queue_name).entries =
    ap (λ (x : CompletionQueue). dues_of i x.entries) (queue_elsewhere m receiver queue_name more context there same (sender i) queue_name apart) in
    λ k. record {
      sender = end_of-completing m receiver queue_name more (sender_end i) k;
      receiver = end_of-completing m receiver queue_name more (receiver_end i) k;
      stored = (region_same m (completing m receiver queue_name more) (sender_region i) (regions_there m receiver queue_name more context there same (sender i)) k).bytes;
      landed = (region_same m (completing m receiver queue_name more) (receiver_region i) (regions_there m receiver queue_name more context there same receiver) k).bytes;
      dues = owed ++ (here k ++ other k);
    }

-- ---- what the opening made stays

module _ (m : Machine) (c q : Name) (more : List Completion) (context : has_context m c ≡ true) (there : has_queue m c q ≡ true) (same : (queue_of m c q).name ≡ q) where
  ends_there : (o : ObjName) → has_end (completing m c q more) o ≡ has_end m o
  ends_there o = there_same m (completing m c q more) c (record (context_of m c) { queues = store_named (λ z. z.name) q (longer (queue_of m c q) more) (context_of m c).queues }) (changed m c q more context there same) o (λ n. refl)

  queues_there : (d p : Name) → has_queue (completing m c q more) d p ≡ has_queue m d p
  queues_there d p = part_same m (completing m c q more) c (record (context_of m c) { queues = store_named (λ z. z.name) q (longer (queue_of m c q) more) (context_of m c).queues }) (changed m c q more context there same) (λ x. has_name (λ z. z.name) p x.queues) d
      (has_name-store (λ z. z.name) q p (longer (queue_of m c q) more) (context_of m c).queues there same)

  pub opened_longer : (i : ℕ) → IsOpened m i → IsOpened (completing m c q more) i
  opened_longer i x = record {
    sender_there = ends_there (sender_end i) ∙ x.sender_there;
    receiver_there = ends_there (receiver_end i) ∙ x.receiver_there;
    sender_joined = subst (λ (e : End). IsJoined e (receiver_end i)) (sym (end_of-completing m c q more (sender_end i))) x.sender_joined;
    receiver_joined = subst (λ (e : End). IsJoined e (sender_end i)) (sym (end_of-completing m c q more (receiver_end i))) x.receiver_joined;
    sender_queue = queues_there (sender i) queue_name ∙ x.sender_queue;
    receiver_queue = queues_there receiver queue_name ∙ x.receiver_queue;
    sender_region_there = ap (λ (rs : List Region). has_name (λ z. z.name) (sender_region i).name rs) (regions_there m c q more context there same (sender i)) ∙ x.sender_region_there;
    receiver_region_there = ap (λ (rs : List Region). has_name (λ z. z.name) (receiver_region i).name rs) (regions_there m c q more context there same receiver) ∙ x.receiver_region_there;
    sender_region_is = subst (λ (r : Region). IsRegion r staging_address (place_bytes + most_bytes) 5 (sender_key i)) (sym (region_same m (completing m c q more) (sender_region i) (regions_there m c q more context there same (sender i)))) x.sender_region_is;
    receiver_region_is = subst (λ (r : Region). IsRegion r (place_address i 0) (landing_offset + most_bytes) 1 (receiver_key i)) (sym (region_same m (completing m c q more) (receiver_region i) (regions_there m c q more context there same receiver))) x.receiver_region_is;
    sender_keyed = subst (λ (rs : List Region). IsKeyedOnce rs (sender_key i)) (sym (regions_there m c q more context there same (sender i))) x.sender_keyed;
    receiver_keyed = subst (λ (rs : List Region). IsKeyedOnce rs (receiver_key i)) (sym (regions_there m c q more context there same receiver)) x.receiver_keyed;
  }
