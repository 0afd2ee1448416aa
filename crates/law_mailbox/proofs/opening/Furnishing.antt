-- What contexts consist of stays as the opening made it, through events of the network and through work.
use Rattle.std.proofs.Common.{arith, ◌≡◌, ℕ, zero, suc, ◌<◌, ◌≤◌, List, [], ◌∷◌, length, map, true, false, Bool, refl, sym, subst, ap, ◌∙◌, Some, None, Option}
use Rattle.std.specs.Prelude.{All, if◌then◌else◌, nat_lt, position, slice_get}
use Rattle.std.proofs.lemmas.List.Elements.{All-nil}
use Rattle.std.proofs.lemmas.Option.{same_Some}
use Rattle.rdma_types.specs.declared.answers.Answer.{Answer}
use Rattle.rdma_types.specs.declared.names.Name.{Name}
use Rattle.rdma_types.specs.declared.requests.Completion.{Completion}
use Rattle.rdma_types.specs.declared.requests.Kind.TheVariants as kind
use Rattle.rdma_types.specs.declared.verbs.Verb.{Verb}
use Rattle.rdma_types.specs.declared.verbs.Verb.TheVariants as verbs
use Rattle.protocol.specs.declared.events.Event.{Event}
use Rattle.protocol.specs.declared.events.Event.TheVariants as events
use Rattle.protocol.specs.declared.events.WorldEvent.TheVariants as world_events
use Rattle.protocol.specs.State.{World}
use Rattle.protocol.specs.WorldStep.{world_step}
use Rattle.packetless_machine.specs.declared.steps.MachineStep.{MachineStep}
use Rattle.packetless_machine.specs.Legal.{IsRun, after, effect, seen, seen_of}
use Rattle.packetless_machine.specs.Machine.{End, Machine, context_of, queue_of}
use Rattle.packetless_machine.specs.Verbs.{after_verb}
use Rattle.law_simulation.specs.Kept.{verb_in}
use Rattle.law_simulation.specs.Law.{IsEventInRange}
use Rattle.law_simulation.specs.Named.{EventsFollowByName, FollowsByName, steps_by, turn_steps}
use Rattle.law_simulation.specs.Stands.{Stands}
use Rattle.law_simulation.specs.Views.{owned}
use Rattle.law_simulation.proofs.relation.Worlds.{is_there}
use Rattle.mailbox_rules.specs.declared.due.Due.{Due}
use Rattle.mailbox_rules.specs.declared.due.Due.TheVariants as due
use Rattle.mailbox_rules.specs.declared.due.Side.{Side}
use Rattle.mailbox_rules.specs.declared.due.Side.TheVariants.{AtReceiver, AtSender}
use Rattle.mailbox_rules.specs.declared.faults.MailFault.TheVariants as fault
use Rattle.mailbox_rules.specs.declared.letters.Letter.{Letter}
use Rattle.mailbox_rules.specs.Calls.{IsSent, Refused, message_of, posts_letter, replies, send_event, sending, slotted, staged, storing}
use Rattle.mailbox_rules.specs.Histories.{Turn}
use Rattle.mailbox_rules.specs.Letters.{is_rendezvous}
use Rattle.mailbox_rules.specs.Opening.{landing_address, object, place_address, queue_name, receiver, receiver_end, receiver_key, receiver_receive, receiver_receives, receiver_region, sender, sender_end, sender_receive, sender_receives, sender_region, slot_address, staging_address, receiver_capacity, sender_capacity}
use Rattle.mailbox_rules.specs.State.{Mail, channel, context_at, ending, has_ended, with_channel}
use Rattle.mailbox_rules.specs.Wanting.{AllStored, BodyStored, IsPartlyStored, NotStored}
use Rattle.mailbox_rules.specs.Working.{Working, asking, begun, doing, doing_at, entries_in, free_event, heard_of, is_too_many, may_be_done, most_polled, poll_event, polled, posted, posting, read_event, request, stepping, work_step, worked}
use Rattle.law_mailbox.specs.Answered.{EventsLeaveFurnished, IsFurnished, IsFurnishedFor, SendsLeaveFurnished, StoresLeaveFurnished, WorksLeaveFurnished, Plan}
use Rattle.law_mailbox.specs.Held.{IsHeld, MayBeSent, connection_in}
use Rattle.law_mailbox.specs.Plans.{IsVerbOfWork}
use Rattle.law_mailbox.proofs.work.Asking.{Asks, Made, Unmade, asks}
use Rattle.law_mailbox.proofs.work.DueSteps.{fetch_key, free_in_range, read_in_range, receive_verb, send_verb}
use Rattle.law_mailbox.proofs.work.Doing.{one_of_senders}
use Rattle.law_mailbox.proofs.work.Copying.{load_verb}
use Rattle.law_mailbox.proofs.work.Noting.{noted_all}
use Rattle.law_mailbox.proofs.opening.Planned.{IsPlannedAs, inner_planned, planned_both, planned_itself, verb_planned}
use Rattle.law_mailbox.proofs.work.Held.{in_range, is_inner, no_parts, unheard}
use Rattle.law_mailbox.proofs.work.Sent.{letter_request, send_in_range}
use Rattle.law_mailbox.proofs.work.Staged.{message_said}
use Rattle.law_mailbox.proofs.work.Stored.{store_verb}
use Rattle.law_mailbox.specs.Kept.{standing}
use Rattle.law_mailbox.specs.Room.{load}
use Rattle.law_mailbox.specs.Short.{AreQueuesShort}
use Rattle.law_mailbox.proofs.connection.Listed.{one_listed}
use Rattle.law_mailbox.proofs.queue_room.RoomSteps.{steps_add_no_load}
use Rattle.law_mailbox.proofs.queue_room.RoomVerbs.{verb_room}
use Rattle.law_simulation.proofs.relation.Ends.{reserved_same}
use Rattle.law_simulation.specs.Views.{context_of as context_of_world}
use Rattle.rdma_types.specs.Lists.{named}
use Rattle.rdma_types.specs.Objects.{CompletionQueue, no_queue}
use Rattle.law_mailbox.proofs.work.Polling.{poll_verb}
use Rattle.law_mailbox.proofs.work.Worked.{context_is, goes_further, no_step, step_held, stops_there}

-- ---- the machine of a world

names_owned : (es : List End) → map (λ o. o.name) (map owned es) ≡ map (λ e. e.name) es
unfolding owned
names_owned [] = refl
names_owned (e ∷ es) = ap (λ (ns : List Name). e.name ∷ ns) (names_owned es)

-- all machines that a world stands for consist of the same
one_plan : (w : World) (m m' : Machine) → Stands w m → Stands w m' → IsPlannedAs m m'
one_plan w m m' s s' = record {
  contexts = λ c. is_there w m' c s'.placed ∙ sym (is_there w m c s.placed);
  plans = λ c.
      let regions = sym (s'.same c).regions ∙ (s.same c).regions in
      let queues = sym (s'.same c).queues ∙ (s.same c).queues in
      let ends : map owned (context_of m' c).ends ≡ map owned (context_of m c).ends = sym (s'.same c).ends ∙ (s.same c).ends in
      let names : map (λ e. e.name) (context_of m' c).ends ≡ map (λ e. e.name) (context_of m c).ends = sym (names_owned (context_of m' c).ends) ∙ (ap (map (λ o. o.name)) ends ∙ names_owned (context_of m c).ends) in
      λ k. record { regions = map (λ r. r.length) (regions k); queues = map (λ q. q.name) (queues k); capacities = map (λ q. q.capacity) (queues k); ends = names k };
}

-- what is within a queue's capacity stays so
pub record KeepsRoom (m m' : Machine) : Type 0 where
  pub within : (c : Name) (most : ℕ) → (queue_of m c queue_name).capacity ≡ most → load m c queue_name ≤ most → load m' c queue_name ≤ most

capacity_is : (m : Machine) (c : Name) (most : ℕ) → map (λ q. q.name) (context_of m c).queues ≡ queue_name ∷ [] → map (λ q. q.capacity) (context_of m c).queues ≡ most ∷ [] → (queue_of m c queue_name).capacity ≡ most
unfolding queue_of
capacity_is m c most names capacities =
    let one = one_listed (λ q. q.name) no_queue queue_name (context_of m c).queues names in
    let same : (named (λ q. q.name) no_queue queue_name (context_of m c).queues).capacity ∷ [] ≡ most ∷ [] = ap (λ (qs : List CompletionQueue). map (λ q. q.capacity) qs) (sym one) ∙ capacities in
    cc

pub receiver_capacity_is : (peers : ℕ) (m : Machine) → IsFurnished peers m → (queue_of m receiver queue_name).capacity ≡ receiver_capacity
receiver_capacity_is peers m f = capacity_is m receiver receiver_capacity (ap (λ (p : Plan). p.queues) f.at_receiver) (ap (λ (p : Plan). p.capacities) f.at_receiver)

pub furnished_as : (peers : ℕ) (m m' : Machine) → IsPlannedAs m m' → KeepsRoom m m' → IsFurnished peers m → IsFurnished peers m'
furnished_as peers m m' like keeps f = record {
  contexts = λ c there. f.contexts c (sym (like.contexts c) ∙ there);
  at_receiver = like.plans receiver ∙ f.at_receiver;
  at_sender = λ i low high. like.plans (sender i) ∙ f.at_sender i low high;
  receiver_room = keeps.within receiver receiver_capacity (receiver_capacity_is peers m f) f.receiver_room;
  sender_room = λ i low high.
      keeps.within (sender i) sender_capacity (capacity_is m (sender i) sender_capacity (ap (λ (p : Plan). p.queues) (f.at_sender i low high)) (ap (λ (p : Plan). p.capacities) (f.at_sender i low high))) (f.sender_room i low high);
}

-- the same stands and is reserved in all machines that a world stands for
pub one_load : (w : World) (m m' : Machine) → Stands w m → Stands w m' → (c : Name) → load m' c queue_name ≡ load m c queue_name
one_load w m m' s s' c =
    let queues = ap (λ (qs : List CompletionQueue). length (named (λ q. q.name) no_queue queue_name qs).entries) (sym (s'.same c).queues ∙ (s.same c).queues) in
    let reserved' = sym (reserved_same (context_of_world w c) (context_of m' c) queue_name (s'.same c)) ∙ reserved_same (context_of_world w c) (context_of m c) queue_name (s.same c) in
    omega (arith, queues, reserved')

one_room : (w : World) (m m' : Machine) → Stands w m → Stands w m' → KeepsRoom m m'
one_room w m m' s s' = record { within = λ c most capacity within. let same = one_load w m m' s s' c in omega (arith, same, within) }

pub furnished_machine : (peers : ℕ) (w : World) (m : Machine) → Stands w m → IsFurnishedFor peers w → IsFurnished peers m
furnished_machine peers w m s f = furnished_as peers f.machine m (one_plan w f.machine m f.stands s) (one_room w f.machine m f.stands s) f.furnished

-- so no queue has more completions than the receiver's may have
pub queues_short : (peers : ℕ) (m : Mail) → IsFurnishedFor peers m.world → AreQueuesShort peers m
unfolding queue_of
queues_short peers m f machine stands zero within = let room = (furnished_machine peers m.world machine stands f).receiver_room in omega (arith, room)
queues_short peers m f machine stands (suc n) within =
    let room = (furnished_machine peers m.world machine stands f).sender_room (suc n) (omega arith) within in
    subst (λ (c : Name). length (standing machine c) ≤ receiver_capacity) (sym (context_is (suc n) (omega arith))) (omega (arith, room))

-- ---- a context is asked

module _ (follow : EventsFollowByName) (peers : ℕ) where
  pub asked_furnished : (m : Mail) (e : Event) (v : Verb) → verb_in e ≡ Some v → ((a : Answer) → turn_steps e a ≡ []) → IsEventInRange e → IsVerbOfWork v → IsFurnishedFor peers m.world → IsFurnishedFor peers (asking m e).mail.world
  unfolding asking
  asked_furnished m e v is quiet range use' f = by (asks follow m.world f.machine e v is quiet range f.stands)
    where
      by : Asks m.world f.machine e v → IsFurnishedFor peers (world_step m.world (world_events.At e)).world
      by (Unmade u s) = record { machine = f.machine; stands = s; furnished = f.furnished }
      by (Made given a s) = record { machine = after_verb f.machine v given; stands = s; furnished = furnished_as peers f.machine (after_verb f.machine v given) (verb_planned f.machine v given use') (record { within = λ c most capacity within. verb_room f.machine c queue_name most capacity within v given use' }) f.furnished }

  posted_furnished : (m : Mail) (side : Side) (i : ℕ) (e : Event) (v : Verb) → verb_in e ≡ Some v → ((a : Answer) → turn_steps e a ≡ []) → IsEventInRange e → IsVerbOfWork v → IsFurnishedFor peers m.world → IsFurnishedFor peers (posting m side i e).world
  unfolding posting
  posted_furnished m side i e v is quiet range use' f = by (has_ended side (channel m i))
    where
      answered : (n : Mail) (b : Bool) → IsFurnishedFor peers n.world → IsFurnishedFor peers (if b then with_channel n i (ending side) else n).world
      answered n true g = g
      answered n false g = g

      by : (b : Bool) → IsFurnishedFor peers (if b then m else posted (asking m e) side i).world
      by true = f
      by false = answered (asking m e).mail (is_too_many (asking m e).answer) (asked_furnished m e v is quiet range use' f)

-- ---- work

module _ (follow : EventsFollowByName) (peers : ℕ) (small : peers ≤ 8) (ts : List Turn) where
  due_furnished : (m : Mail) → IsHeld peers ts m → (k : ℕ) (d : Due) → slice_get m.owed k ≡ Some d → IsFurnishedFor peers m.world → IsFurnishedFor peers (doing m k d).world
  unfolding doing
  due_furnished m h k (due.CopyMessage j place size) at f =
      asked_furnished follow peers m (events.Load (receiver_region j) (place_address j place) size) (verbs.Load (receiver_region j) (place_address j place) size) (load_verb (receiver_region j) (place_address j place) size) (λ a. refl) tt tt f
  due_furnished m h k (due.Repost j place fetch) at f =
      posted_furnished follow peers m AtReceiver j (receiver_receives j place) (verbs.PostRecv (receiver_end j) (receiver_receive j place)) (receive_verb (receiver_end j) (receiver_receive j place)) (λ a. refl) tt tt f
  due_furnished m h k (due.PostRead j g) at f =
      let range : (1 ≤ j) × (j ≤ peers) = one_of_senders peers ts m h k (due.PostRead j g) at None (All-nil (λ x. connection_in x ≡ j)) in
      let key = fetch_key follow peers small ts m h k j g at range in
      let high = range.1 in
      posted_furnished follow peers m AtReceiver j (read_event j g) (verbs.PostSend (receiver_end j) (request kind.Read (receiver_key j) (landing_address j) g.length slot_address g.rkey))
      (send_verb (receiver_end j) (request kind.Read (receiver_key j) (landing_address j) g.length slot_address g.rkey)) (λ a. refl) (read_in_range follow peers small ts m h k j g (omega (arith, key, high, small))) tt f
  due_furnished m h k (due.CopyBody j size) at f =
      asked_furnished follow peers m (events.Load (receiver_region j) (landing_address j) size) (verbs.Load (receiver_region j) (landing_address j) size) (load_verb (receiver_region j) (landing_address j) size) (λ a. refl) tt tt f
  due_furnished m h k (due.PostFree j) at f =
      posted_furnished follow peers m AtReceiver j (free_event j) (verbs.PostSend (receiver_end j) (request kind.Send 0 0 0 0 0)) (send_verb (receiver_end j) (request kind.Send 0 0 0 0 0)) (λ a. refl) (free_in_range follow peers small ts m h k j) tt f
  due_furnished m h k (due.FreeSlot j place) at f = f
  due_furnished m h k (due.RepostAtSender j place) at f =
      posted_furnished follow peers m AtSender j (sender_receives j place) (verbs.PostRecv (sender_end j) (sender_receive place)) (receive_verb (sender_end j) (sender_receive place)) (λ a. refl) tt tt f

  poll_furnished : (m : Mail) (n : ℕ) → IsFurnishedFor peers m.world → IsFurnishedFor peers (polled n (asking m (poll_event n))).mail.world
  poll_furnished m n f = by (asking m (poll_event n)).mail (entries_in (asking m (poll_event n)).answer) (asked_furnished follow peers m (poll_event n) (verbs.Poll (object (context_at n) queue_name) most_polled) (poll_verb (object (context_at n) queue_name) most_polled) (λ a. refl) tt tt f)
    where
      by : (m1 : Mail) (xs : List Completion) → IsFurnishedFor peers m1.world → IsFurnishedFor peers (heard_of n m1 xs).mail.world
      by m1 [] g = g
      by m1 (x ∷ xs) g = subst (λ (w : World). IsFurnishedFor peers w) (sym (noted_all n m1 (x ∷ xs)).world) g

  step_furnished : (w : Working) → IsHeld peers ts w.mail → IsFurnishedFor peers w.mail.world → (v : Working) → work_step w ≡ Some v → IsFurnishedFor peers v.mail.world
  unfolding work_step
  step_furnished w h f v e = by (position (may_be_done w.mail.world) w.mail.owed) refl e
    where
      polls : (b : Bool) → (if b then None else Some (polled w.next (asking w.mail (poll_event w.next)))) ≡ Some v → IsFurnishedFor peers v.mail.world
      polls true g = cc
      polls false g = subst (λ (x : Working). IsFurnishedFor peers x.mail.world) (same_Some (polled w.next (asking w.mail (poll_event w.next))) v g) (poll_furnished w.mail w.next f)

      does : (k : ℕ) (o : Option Due) → slice_get w.mail.owed k ≡ o → IsFurnishedFor peers (doing_at w k o).mail.world
      does k None at = f
      does k (Some d) at = due_furnished w.mail h k d at f

      by : (o : Option ℕ) → position (may_be_done w.mail.world) w.mail.owed ≡ o → stepping w o ≡ Some v → IsFurnishedFor peers v.mail.world
      by None none g = polls (nat_lt (length w.mail.channels) w.next) g
      by (Some k) first g = subst (λ (x : Working). IsFurnishedFor peers x.mail.world) (same_Some (doing_at w k (slice_get w.mail.owed k)) v g) (does k (slice_get w.mail.owed k) refl)

  pub steps_furnished : (n : ℕ) (w : Working) → IsHeld peers ts w.mail → IsFurnishedFor peers w.mail.world → IsFurnishedFor peers (worked n w).mail.world
  steps_furnished zero w h f = subst (λ (x : Working). IsFurnishedFor peers x.mail.world) (sym (no_step follow peers small ts w)) f
  steps_furnished (suc n) w h f = by (λ v. steps_furnished n v) (work_step w) refl
    where
      by : ((v : Working) → IsHeld peers ts v.mail → IsFurnishedFor peers v.mail.world → IsFurnishedFor peers (worked n v).mail.world) → (o : Option Working) → work_step w ≡ o → IsFurnishedFor peers (worked (suc n) w).mail.world
      by rest None e = subst (λ (x : Working). IsFurnishedFor peers x.mail.world) (sym (stops_there follow peers small ts n w e)) f
      by rest (Some v) e =
          subst (λ (x : Working). IsFurnishedFor peers x.mail.world) (sym (goes_further follow peers small ts n w v e))
          (rest v (step_held follow peers small ts w h v e) (step_furnished w h f v e))

pub works_furnished : EventsFollowByName → WorksLeaveFurnished
works_furnished follow peers small ts m n h f = steps_furnished follow peers small ts n (begun m) h f

-- ---- events of the network

run_planned : (machine : Machine) (ss : List MachineStep) → seen machine ss ≡ [] → IsPlannedAs machine (after machine ss)
run_planned machine [] unheard' = planned_itself machine
run_planned machine (s ∷ ss) unheard' =
    let quiet : (seen_of machine s ≡ []) × (seen (effect machine s) ss ≡ []) = no_parts (seen_of machine s) (seen (effect machine s) ss) unheard' in
    planned_both (inner_planned machine s (is_inner machine s quiet.0)) (run_planned (effect machine s) ss quiet.1)

run_load : (machine : Machine) (ss : List MachineStep) → IsRun machine ss → seen machine ss ≡ [] → (c q : Name) → load (after machine ss) c q ≤ load machine c q
run_load machine [] run unheard' c q = omega arith
run_load machine (s ∷ ss) run unheard' c q =
    let quiet : (seen_of machine s ≡ []) × (seen (effect machine s) ss ≡ []) = no_parts (seen_of machine s) (seen (effect machine s) ss) unheard' in
    let first = steps_add_no_load machine s (is_inner machine s quiet.0) run.0 c q in
    let later = run_load (effect machine s) ss run.1 quiet.1 c q in
    omega (arith, first, later)

pub events_furnished : EventsFollowByName → EventsLeaveFurnished
events_furnished follow peers w e net f =
    let x : FollowsByName w f.machine e = follow e w f.machine (in_range e net) f.stands in
    let ss : List MachineStep = steps_by w f.machine e (world_step w e).answer in
    record {
      machine = after f.machine ss;
      stands = x.stands;
      furnished = furnished_as peers f.machine (after f.machine ss) (run_planned f.machine ss (x.heard ∙ unheard w e (world_step w e).answer net))
          (record { within = λ c most capacity within. let less = run_load f.machine ss x.is_run (x.heard ∙ unheard w e (world_step w e).answer net) c queue_name in omega (arith, less, within) }) f.furnished;
    }

-- ---- a letter is stored and posted

module _ (follow : EventsFollowByName) (peers : ℕ) (i : ℕ) (l : Letter) (may : MayBeSent l) where
  store_furnished : (m : Mail) (address : ℕ) (bytes : List ℕ) → All (λ b. b < 256) bytes → IsFurnishedFor peers m.world → IsFurnishedFor peers (storing m i address bytes).world
  store_furnished m address bytes said f = asked_furnished follow peers m (events.Store (sender_region i) address bytes) (verbs.Store (sender_region i) address bytes) (store_verb (sender_region i) address bytes) (λ a. refl) said tt f

  staged_furnished : (m : Mail) → IsFurnishedFor peers m.world → IsFurnishedFor peers (staged m i l).world
  staged_furnished m f = store_furnished (slotted m i l) staging_address (message_of i l) (message_said i l may) (by (is_rendezvous l.body))
    where
      by : (b : Bool) → IsFurnishedFor peers (if b then storing m i slot_address l.body else m).world
      by true = store_furnished m slot_address l.body may.bytes f
      by false = f

  pub partly_furnished : (m : Mail) {m' : Mail} → IsPartlyStored m i l m' → IsFurnishedFor peers m.world → IsFurnishedFor peers m'.world
  partly_furnished m NotStored f = f
  partly_furnished m (BodyStored long) f = store_furnished m slot_address l.body may.bytes f
  partly_furnished m AllStored f = staged_furnished m f

  letter_posted : (n : Mail) (b : Bool) → IsFurnishedFor peers n.world → IsFurnishedFor peers (if b then replies (if b then with_channel n i (ending AtSender) else n) (Refused fault.Ended) else replies (with_channel (if b then with_channel n i (ending AtSender) else n) i (sending l)) IsSent).mail.world
  letter_posted n true g = g
  letter_posted n false g = g

  pub letter_furnished : (m : Mail) → IsFurnishedFor peers m.world → IsFurnishedFor peers (posts_letter m i l).mail.world
  unfolding posts_letter
  letter_furnished m f =
      letter_posted (asking (staged m i l) (send_event i (length (message_of i l)))).mail (is_too_many (asking (staged m i l) (send_event i (length (message_of i l)))).answer)
      (asked_furnished follow peers (staged m i l) (send_event i (length (message_of i l))) (verbs.PostSend (sender_end i) (letter_request i l)) (send_verb (sender_end i) (letter_request i l)) (λ a. refl) (send_in_range i l) tt (staged_furnished m f))

pub stores_furnished : EventsFollowByName → StoresLeaveFurnished
stores_furnished follow peers m i l m' may stored' f = partly_furnished follow peers i l may m stored' f

pub sends_furnished : EventsFollowByName → SendsLeaveFurnished
sends_furnished follow peers m i l may f = letter_furnished follow peers i l may m f
