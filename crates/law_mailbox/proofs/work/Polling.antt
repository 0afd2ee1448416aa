-- What is held stays held, where a context is polled.
use Rattle.std.proofs.Common.{arith, ◌≡◌, ◌≢◌, ℕ, ◌+◌, ◌≤◌, List, [], ◌++◌, drop, take, true, refl, sym, subst, ap, ◌∙◌, Some, None, Option, ◌⊎◌, inl, inr, append_assoc}
use Rattle.std.proofs.lemmas.List.{take-append-drop}
use Rattle.std.proofs.lemmas.List.Elements.{All-append, All-weaker}
use Rattle.std.specs.Prelude.{not}
use Rattle.rdma_types.specs.declared.answers.Answer.{Answer}
use Rattle.rdma_types.specs.declared.answers.Answer.TheVariants as answers
use Rattle.rdma_types.specs.declared.answers.Refusal.{Refusal}
use Rattle.rdma_types.specs.declared.answers.Refusal.TheVariants as refusals
use Rattle.rdma_types.specs.declared.names.Name.{Name}
use Rattle.rdma_types.specs.declared.names.ObjName.{ObjName}
use Rattle.rdma_types.specs.declared.requests.Completion.{Completion}
use Rattle.rdma_types.specs.declared.verbs.Verb.TheVariants as verbs
use Rattle.rdma_types.specs.Limits.{most_bytes}
use Rattle.rdma_types.specs.Lists.{has_name, named, store_named}
use Rattle.rdma_types.specs.Objects.{CompletionQueue, Region, no_queue}
use Rattle.protocol.specs.declared.events.Event.TheVariants as events
use Rattle.protocol.specs.declared.events.WorldEvent.TheVariants as world_events
use Rattle.protocol.specs.WorldStep.{world_step}
use Rattle.packetless_machine.specs.Machine.{Context, End, Machine, context_of, end_of, has_context, has_end, queue_of, regions_of, with_queue, with_queue_in}
use Rattle.packetless_machine.specs.Verbs.{after_answer, after_verb, answered, has_queue, lacks_context, polled, refusal_of, verb_answer}
use Rattle.packetless_machine.proofs.Views.{end_of-with_context}
use Rattle.law_simulation.proofs.relation.Machines.{MachineChanged, context_here, context_name, context_other, part_same, queue_stored, there_same, with_context_changed}
use Rattle.law_simulation.proofs.relation.Refusing.{first_no, later_no, not_lacking}
use Rattle.law_simulation.proofs.relation.Tables.{has_name-store, name-named_there, named-store_same}
use Rattle.law_simulation.specs.Kept.{is_unmade, verb_in}
use Rattle.law_simulation.specs.Named.{EventsFollowByName}
use Rattle.law_simulation.specs.Stands.{Stands}
use Rattle.mailbox_rules.specs.declared.due.Due.{Due}
use Rattle.mailbox_rules.specs.Opening.{end_name, object, place_address, place_bytes, queue_name, receiver, receiver_end, receiver_key, receiver_region, sender, sender_end, sender_key, sender_region, staging_address}
use Rattle.mailbox_rules.specs.State.{Mail, context_at}
use Rattle.mailbox_rules.specs.Working.{asking, entries_in, most_polled, poll_event}
use Rattle.law_mailbox.specs.Held.{AreOfSenders, connection_in}
use Rattle.law_mailbox.specs.Kept.{IsJoined, IsKeyedOnce, IsOpened, IsRegion, dues_of, landing_offset, pending, sight_of, standing}
use Rattle.law_mailbox.proofs.work.Asking.{Asks, Made, Unmade, asks}
use Rattle.law_mailbox.proofs.connection.Longer.{dues_both}
use Rattle.law_mailbox.proofs.work.Noting.{all_of_sender, other_polled, receiver_polled, sender_polled}
use Rattle.law_mailbox.proofs.connection.Places.{all_back, all_front}
use Rattle.law_mailbox.proofs.connection.Posting.{senders_apart}
use Rattle.law_mailbox.proofs.connection.Sights.{region_same}

-- ---- another queue of a context

-- the queue of letters of context c has other entries, and all else is as before
pub record AreEntriesChanged (m m' : Machine) (c : Name) (entries : List Completion) : Type 0 where
  pub here : standing m' c ≡ entries
  pub elsewhere : (d : Name) → d ≢ c → standing m' d ≡ standing m d
  pub ends : (o : ObjName) → end_of m' o ≡ end_of m o
  pub regions : (d : Name) → regions_of m' d ≡ regions_of m d
  pub ends_there : (o : ObjName) → has_end m' o ≡ has_end m o
  pub queues_there : (d q : Name) → has_queue m' d q ≡ has_queue m d q

module _ (m : Machine) (c q : Name) (x : CompletionQueue) (context : has_context m c ≡ true) (there : has_queue m c q ≡ true) (same : x.name ≡ q) where
  changed : MachineChanged m (with_queue m c q x) c (record (context_of m c) { queues = store_named (λ z. z.name) q x (context_of m c).queues })
  changed =
      subst (λ (k : Machine). MachineChanged m k c (record (context_of m c) { queues = store_named (λ z. z.name) q x (context_of m c).queues })) (sym (queue_stored m c q x there))
      (with_context_changed m c (record (context_of m c) { queues = store_named (λ z. z.name) q x (context_of m c).queues }) (context_name m c) context)

  queue_here : queue_of (with_queue m c q x) c q ≡ x
  unfolding queue_of
  queue_here =
      ap (λ (z : Context). named (λ y. y.name) no_queue q z.queues) (context_here m (with_queue m c q x) c (record (context_of m c) { queues = store_named (λ z. z.name) q x (context_of m c).queues }) changed)
      ∙ named-store_same (λ z. z.name) no_queue q x (context_of m c).queues same

  queue_elsewhere : (d p : Name) → d ≢ c → queue_of (with_queue m c q x) d p ≡ queue_of m d p
  unfolding queue_of
  queue_elsewhere d p other = ap (λ (z : Context). named (λ y. y.name) no_queue p z.queues) (context_other m (with_queue m c q x) c (record (context_of m c) { queues = store_named (λ z. z.name) q x (context_of m c).queues }) changed d other)

  ends_as : (o : ObjName) → end_of (with_queue m c q x) o ≡ end_of m o
  unfolding with_queue with_queue_in
  ends_as o = end_of-with_context m c _ o refl refl

module _ (m : Machine) (c : Name) (x : CompletionQueue) (context : has_context m c ≡ true) (there : has_queue m c queue_name ≡ true) (same : x.name ≡ queue_name) where
  entries_changed : AreEntriesChanged m (with_queue m c queue_name x) c x.entries
  entries_changed = record {
    here = ap (λ (z : CompletionQueue). z.entries) (queue_here m c queue_name x context there same);
    elsewhere = λ d other. ap (λ (z : CompletionQueue). z.entries) (queue_elsewhere m c queue_name x context there same d queue_name other);
    ends = ends_as m c queue_name x context there same;
    regions = λ d. part_same m (with_queue m c queue_name x) c (record (context_of m c) { queues = store_named (λ z. z.name) queue_name x (context_of m c).queues }) (changed m c queue_name x context there same) (λ y. y.regions) d refl;
    ends_there = λ o. there_same m (with_queue m c queue_name x) c (record (context_of m c) { queues = store_named (λ z. z.name) queue_name x (context_of m c).queues }) (changed m c queue_name x context there same) o (λ n. refl);
    queues_there = λ d p. part_same m (with_queue m c queue_name x) c (record (context_of m c) { queues = store_named (λ z. z.name) queue_name x (context_of m c).queues }) (changed m c queue_name x context there same) (λ y. has_name (λ z. z.name) p y.queues) d
        (has_name-store (λ z. z.name) queue_name p x (context_of m c).queues there same);
  }

-- what the opening made stays
pub opened_polled : (m m' : Machine) (c : Name) (entries : List Completion) → AreEntriesChanged m m' c entries → (i : ℕ) → IsOpened m i → IsOpened m' i
opened_polled m m' c entries g i x = record {
  sender_there = g.ends_there (sender_end i) ∙ x.sender_there;
  receiver_there = g.ends_there (receiver_end i) ∙ x.receiver_there;
  sender_joined = subst (λ (e : End). IsJoined e (receiver_end i)) (sym (g.ends (sender_end i))) x.sender_joined;
  receiver_joined = subst (λ (e : End). IsJoined e (sender_end i)) (sym (g.ends (receiver_end i))) x.receiver_joined;
  sender_queue = g.queues_there (sender i) queue_name ∙ x.sender_queue;
  receiver_queue = g.queues_there receiver queue_name ∙ x.receiver_queue;
  sender_region_there = ap (λ (rs : List Region). has_name (λ z. z.name) (sender_region i).name rs) (g.regions (sender i)) ∙ x.sender_region_there;
  receiver_region_there = ap (λ (rs : List Region). has_name (λ z. z.name) (receiver_region i).name rs) (g.regions receiver) ∙ x.receiver_region_there;
  sender_region_is = subst (λ (r : Region). IsRegion r staging_address (place_bytes + most_bytes) 5 (sender_key i)) (sym (region_same m m' (sender_region i) (g.regions (sender i)))) x.sender_region_is;
  receiver_region_is = subst (λ (r : Region). IsRegion r (place_address i 0) (landing_offset + most_bytes) 1 (receiver_key i)) (sym (region_same m m' (receiver_region i) (g.regions receiver))) x.receiver_region_is;
  sender_keyed = subst (λ (rs : List Region). IsKeyedOnce rs (sender_key i)) (sym (g.regions (sender i))) x.sender_keyed;
  receiver_keyed = subst (λ (rs : List Region). IsKeyedOnce rs (receiver_key i)) (sym (g.regions receiver)) x.receiver_keyed;
}

-- ---- a poll of the machine

-- some of the entries were polled, and the others stand
pub record IsPolled (m m' : Machine) (c : Name) (xs : List Completion) : Type 0 where
  pub behind : List Completion
  pub whole : standing m c ≡ xs ++ behind
  pub changed : AreEntriesChanged m m' c behind

nothing_polled : (m : Machine) (c : Name) → IsPolled m m c []
nothing_polled m c = record { behind = standing m c; whole = refl; changed = record { here = refl; elsewhere = λ d other. refl; ends = λ o. refl; regions = λ d. refl; ends_there = λ o. refl; queues_there = λ d q. refl } }

queue_is_named : (m : Machine) (c : Name) → has_queue m c queue_name ≡ true → (queue_of m c queue_name).name ≡ queue_name
unfolding queue_of
queue_is_named m c there = name-named_there (λ z. z.name) no_queue queue_name (context_of m c).queues there

some_polled : (m : Machine) (c : Name) (most : ℕ) → has_context m c ≡ true → has_queue m c queue_name ≡ true → IsPolled m (polled m (object c queue_name) most) c (take most (standing m c))
unfolding polled
some_polled m c most context there = record {
  behind = drop most (standing m c);
  whole = sym (take-append-drop most (standing m c));
  changed = entries_changed m c (record (queue_of m c queue_name) { entries = drop most (queue_of m c queue_name).entries }) context there (queue_is_named m c there);
}

-- what the answer has of it
verb_polled : (m : Machine) (c : Name) (most given : ℕ) → IsPolled m (after_verb m (verbs.Poll (object c queue_name) most) given) c (entries_in (verb_answer m (verbs.Poll (object c queue_name) most) given))
verb_polled m c most given = by (refusal_of m (verbs.Poll (object c queue_name) most)) refl
  where
    by : (r : Option Refusal) → refusal_of m (verbs.Poll (object c queue_name) most) ≡ r → IsPolled m (after_answer r m (verbs.Poll (object c queue_name) most) given) c (entries_in (answered r m (verbs.Poll (object c queue_name) most) given))
    by None e =
        some_polled m c most (not_lacking (has_context m c) (first_no refusals.NoSuch (lacks_context m c) _ e))
        (not_lacking (has_queue m c queue_name) (first_no refusals.NoSuch (not (has_queue m c queue_name)) [] (later_no refusals.NoSuch (lacks_context m c) _ e)))
    by (Some r) e = nothing_polled m c

unmade_empty : (a : Answer) → is_unmade a ≡ true → entries_in a ≡ []
unfolding is_unmade
unmade_empty (answers.Polled es) h = cc
unmade_empty a h = refl

-- ---- a poll of a context

-- what a poll leaves, and what it is answered
pub record IsPollAsked (m : Mail) (machine : Machine) (n : ℕ) : Type 0 where
  pub machine' : Machine
  pub stands : Stands (asking m (poll_event n)).mail.world machine'
  pub polled : IsPolled machine machine' (context_at n) (entries_in (asking m (poll_event n)).answer)

pub poll_verb : (o : ObjName) (most : ℕ) → verb_in (events.Poll o most) ≡ Some (verbs.Poll o most)
unfolding verb_in
poll_verb o most = refl

pub poll_asked : EventsFollowByName → (m : Mail) (machine : Machine) (n : ℕ) → Stands m.world machine → IsPollAsked m machine n
unfolding asking
poll_asked follow m machine n stands = by (asks follow m.world machine (poll_event n) (verbs.Poll (object (context_at n) queue_name) most_polled) (poll_verb (object (context_at n) queue_name) most_polled) (λ a. refl) tt stands)
  where
    by : Asks m.world machine (poll_event n) (verbs.Poll (object (context_at n) queue_name) most_polled) → IsPollAsked m machine n
    by (Unmade u s) =
        record {
          machine' = machine;
          stands = s;
          polled = subst (λ (xs : List Completion). IsPolled machine machine (context_at n) xs) (sym (unmade_empty (world_step m.world (world_events.At (poll_event n))).answer u)) (nothing_polled machine (context_at n));
        }
    by (Made given a s) =
        record {
          machine' = after_verb machine (verbs.Poll (object (context_at n) queue_name) most_polled) given;
          stands = s;
          polled = subst (λ (x : Answer). IsPolled machine (after_verb machine (verbs.Poll (object (context_at n) queue_name) most_polled) given) (context_at n) (entries_in x)) (sym a) (verb_polled machine (context_at n) most_polled given);
        }

-- ---- what is due then

pub sender_names_apart : (i j : ℕ) → i ≤ 8 → j ≤ 8 → i ≢ j → sender i ≢ sender j
sender_names_apart i j low high apart e = senders_apart i j low high apart (ap (λ (c : Name). object c end_name) e)

module _ (peers : ℕ) (small : peers ≤ 8) (machine machine' : Machine) (owed : List Due) (xs : List Completion) where
  -- after a poll of the receiver
  module _ (p : IsPolled machine machine' receiver xs) where
    at_receiver : dues_of 0 (standing machine receiver) ≡ dues_of 0 xs ++ dues_of 0 (standing machine' receiver)
    at_receiver = ap (dues_of 0) p.whole ∙ (dues_both 0 xs p.behind ∙ ap (λ (ys : List Completion). dues_of 0 xs ++ dues_of 0 ys) (sym p.changed.here))

    pub receiver_due : (i : ℕ) → pending i ((owed ++ dues_of 0 xs) ++ (sight_of machine' [] i).dues) ≡ pending i (owed ++ (sight_of machine [] i).dues)
    receiver_due i =
        ap (λ (ys : List Completion). pending i ((owed ++ dues_of 0 xs) ++ (dues_of 0 (standing machine' receiver) ++ dues_of i ys))) (p.changed.elsewhere (sender i) (λ e. cc))
        ∙ (receiver_polled i owed (dues_of 0 xs) (dues_of 0 (standing machine' receiver)) (dues_of i (standing machine (sender i)))
        ∙ ap (λ (ds : List Due). pending i (owed ++ (ds ++ dues_of i (standing machine (sender i))))) (sym at_receiver))

    pub receiver_known : AreOfSenders peers (owed ++ dues_of 0 (standing machine receiver)) → AreOfSenders peers ((owed ++ dues_of 0 xs) ++ dues_of 0 (standing machine' receiver))
    receiver_known known =
        subst (AreOfSenders peers) (ap (λ (ds : List Due). owed ++ ds) at_receiver ∙ sym (append_assoc owed (dues_of 0 xs) (dues_of 0 (standing machine' receiver)))) known

  -- after a poll of a sender
  module _ (n : ℕ) (positive : 1 ≤ n) (within : n ≤ peers) (p : IsPolled machine machine' (sender n) xs) where
    receiver_same : standing machine' receiver ≡ standing machine receiver
    receiver_same = p.changed.elsewhere receiver (λ e. cc)

    own_due : pending n ((owed ++ dues_of n xs) ++ (sight_of machine' [] n).dues) ≡ pending n (owed ++ (sight_of machine [] n).dues)
    own_due =
        ap (λ (ys : List Completion). pending n ((owed ++ dues_of n xs) ++ (dues_of 0 ys ++ dues_of n (standing machine' (sender n))))) receiver_same
        ∙ (sender_polled n positive owed xs (standing machine receiver) (dues_of n (standing machine' (sender n)))
        ∙ ap (λ (ds : List Due). pending n (owed ++ (dues_of 0 (standing machine receiver) ++ ds))) (sym (ap (dues_of n) p.whole ∙ (dues_both n xs p.behind ∙ ap (λ (ys : List Completion). dues_of n xs ++ dues_of n ys) (sym p.changed.here)))))

    other_due : (i : ℕ) → i ≤ peers → n ≢ i → pending i ((owed ++ dues_of n xs) ++ (sight_of machine' [] i).dues) ≡ pending i (owed ++ (sight_of machine [] i).dues)
    other_due i high apart =
        ap (λ (ys : List Completion). pending i ((owed ++ dues_of n xs) ++ (dues_of 0 ys ++ dues_of i (standing machine' (sender i))))) receiver_same
        ∙ (ap (λ (ys : List Completion). pending i ((owed ++ dues_of n xs) ++ (dues_of 0 (standing machine receiver) ++ dues_of i ys))) (p.changed.elsewhere (sender i) (λ e. sender_names_apart i n (omega (arith, high, small)) (omega (arith, within, small)) (λ f. apart (sym f)) e))
        ∙ other_polled i n positive apart owed xs (dues_of 0 (standing machine receiver) ++ dues_of i (standing machine (sender i))))

    pub sender_due : (i : ℕ) → i ≤ peers → (n ≡ i) ⊎ (n ≢ i) → pending i ((owed ++ dues_of n xs) ++ (sight_of machine' [] i).dues) ≡ pending i (owed ++ (sight_of machine [] i).dues)
    sender_due i high (inl e) = subst (λ (x : ℕ). pending x ((owed ++ dues_of n xs) ++ (sight_of machine' [] x).dues) ≡ pending x (owed ++ (sight_of machine [] x).dues)) e own_due
    sender_due i high (inr apart) = other_due i high apart

    pub sender_known : AreOfSenders peers (owed ++ dues_of 0 (standing machine receiver)) → AreOfSenders peers ((owed ++ dues_of n xs) ++ dues_of 0 (standing machine' receiver))
    sender_known known =
        let P : Due → Type 0 = λ d. (1 ≤ connection_in d) × (connection_in d ≤ peers) in
        All-append (λ d. (1 ≤ connection_in d) × (connection_in d ≤ peers)) (owed ++ dues_of n xs) (dues_of 0 (standing machine' receiver))
        (All-append (λ d. (1 ≤ connection_in d) × (connection_in d ≤ peers)) owed (dues_of n xs)
        (all_front (λ d. (1 ≤ connection_in d) × (connection_in d ≤ peers)) owed (dues_of 0 (standing machine receiver)) known)
        (All-weaker (λ d. connection_in d ≡ n) (λ d. (1 ≤ connection_in d) × (connection_in d ≤ peers)) (λ d e. subst (λ (i : ℕ). (1 ≤ i) × (i ≤ peers)) (sym e) (positive, within)) (dues_of n xs) (all_of_sender n positive xs)))
        (subst (λ (ys : List Completion). AreOfSenders peers (dues_of 0 ys)) (sym receiver_same) (all_back (λ d. (1 ≤ connection_in d) × (connection_in d ≤ peers)) owed (dues_of 0 (standing machine receiver)) known))
