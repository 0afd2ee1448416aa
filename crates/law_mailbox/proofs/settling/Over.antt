-- Work that stops has done all that it can: each context that lives was polled until its queue was empty.
use Rattle.std.proofs.Common.{arith, ◌≡◌, ◌≢◌, ℕ, zero, suc, ◌+◌, ◌<◌, ◌≤◌, List, [], ◌∷◌, ◌++◌, drop, get_or, length, take, true, false, Bool, refl, sym, subst, ap, ◌∙◌, Some, None, Option, ◌⊎◌, inl, inr, cond, eqb-true, ltb-true, ltb-false}
use Rattle.std.specs.List.{position_or_len}
use Rattle.std.specs.Prelude.{All, ◌==◌, if◌then◌else◌, nat_lt, not, option_to_list, position, slice_get}
use Rattle.std.proofs.lemmas.List.Elements.{All-append, All-cons, All-head, All-nil, All-tail, All-weaker}
use Rattle.std.proofs.lemmas.List.Quantifiers.{position-Some}
use Rattle.std.proofs.lemmas.List.Sums.{prefix_len_passes}
use Rattle.std.proofs.lemmas.Option.{same_Some, slice_get-get_or}
use Rattle.rdma_types.specs.declared.answers.Answer.{Answer}
use Rattle.rdma_types.specs.declared.names.Name.{Name}
use Rattle.rdma_types.specs.declared.requests.Completion.{Completion}
use Rattle.rdma_types.specs.declared.requests.Kind.TheVariants as kind
use Rattle.rdma_types.specs.declared.requests.WcKind.{WcKind}
use Rattle.rdma_types.specs.declared.requests.WcKind.TheVariants as wc
use Rattle.rdma_types.specs.declared.verbs.Verb.{Verb}
use Rattle.rdma_types.specs.declared.verbs.Verb.TheVariants as verbs
use Rattle.protocol.specs.declared.events.Event.{Event}
use Rattle.protocol.specs.declared.events.Event.TheVariants as events
use Rattle.protocol.specs.declared.events.WorldEvent.TheVariants as world_events
use Rattle.protocol.specs.State.{World}
use Rattle.protocol.specs.WorldStep.{world_step}
use Rattle.packetless_machine.specs.Machine.{Machine, has_context}
use Rattle.packetless_machine.specs.Verbs.{has_queue}
use Rattle.law_simulation.specs.Kept.{verb_in}
use Rattle.law_simulation.specs.Law.{IsEventInRange}
use Rattle.law_simulation.specs.Named.{EventsFollowByName, turn_steps}
use Rattle.law_simulation.specs.Stands.{Stands}
use Rattle.mailbox_rules.specs.declared.due.Due.{Due}
use Rattle.mailbox_rules.specs.declared.due.Due.TheVariants as due
use Rattle.mailbox_rules.specs.declared.due.Fetch.{Fetch}
use Rattle.mailbox_rules.specs.declared.due.Side.{Side}
use Rattle.mailbox_rules.specs.declared.due.Side.TheVariants.{AtReceiver, AtSender}
use Rattle.mailbox_rules.specs.Histories.{Turn}
use Rattle.mailbox_rules.specs.Opening.{landing_address, object, place_address, queue_name, receiver, receiver_end, receiver_key, receiver_receive, receiver_receives, receiver_region, sender, sender_end, sender_receive, sender_receives, slot_address}
use Rattle.mailbox_rules.specs.State.{Mail, channel, context_at, ending, has_ended, is_away, with_channel}
use Rattle.mailbox_rules.specs.Working.{Asked, Working, asking, begun, context_of, doing, doing_at, due_next, entries_in, heard, heard_of, is_success, most_polled, noting_all, place_in, poll_event, polled, received, stepping, work_step, worked, free_event, is_too_many, may_be_done, posting, read_due, read_event, request}
use Rattle.law_mailbox.specs.Held.{IsHeld, connection_in}
use Rattle.law_mailbox.specs.Kept.{dues_by, dues_of, standing}
use Rattle.law_mailbox.specs.Over.{IsWorkOver, StoppedWorkIsOver}
use Rattle.law_mailbox.proofs.work.Asking.{asks, lives}
use Rattle.law_mailbox.proofs.work.Changing.{one_or_not}
use Rattle.law_mailbox.proofs.work.Noting.{noted_all}
use Rattle.law_mailbox.proofs.connection.Sights.{context_there}
use Rattle.law_mailbox.proofs.connection.Tells.{not_true}
use Rattle.law_mailbox.proofs.work.Copying.{load_verb}
use Rattle.law_mailbox.proofs.work.Doing.{one_of_senders}
use Rattle.law_mailbox.proofs.work.DueSteps.{fetch_key, free_in_range, read_in_range, receive_verb, send_verb}
use Rattle.law_mailbox.proofs.work.Leaving.{IsAt, LoadAt, PollAt, ReceiveAt, SendAt, asks_elsewhere, load_carries, poll_carries, polls_entries, receive_carries, send_carries, waiting, waits_as}
use Rattle.law_mailbox.proofs.work.Dues.{next_is, split_at}
use Rattle.law_mailbox.proofs.connection.Places.{all_back, all_front}
use Rattle.law_mailbox.proofs.work.Polling.{IsPollAsked, poll_asked, poll_verb, sender_names_apart}
use Rattle.law_mailbox.proofs.work.Staged.{away_same}
use Rattle.law_mailbox.proofs.settling.Weights.{due_steps, flushes, owed_steps}
use Rattle.law_mailbox.proofs.work.Worked.{context_is, goes_further, no_step, step_held, stops_there}

-- ---- what a step leaves as it is

-- what waits in the queues of contexts other than c, and which images are carried
pub record Leaves (m m' : Mail) (c : Name) : Type 0 where
  pub elsewhere : (d : Name) → d ≢ c → waiting m'.world d ≡ waiting m.world d
  pub carried : m'.world.carried ≡ m.world.carried

nothing_left : (m m' : Mail) (c : Name) → m'.world ≡ m.world → Leaves m m' c
nothing_left m m' c same = record { elsewhere = λ d apart. ap (λ (w : World). waiting w d) same; carried = ap (λ (w : World). w.carried) same }

module _ (follow : EventsFollowByName) (m : Mail) (machine : Machine) (stands : Stands m.world machine) (c : Name) (e : Event) (v : Verb) (is : verb_in e ≡ Some v) (quiet : (a : Answer) → turn_steps e a ≡ []) (range : IsEventInRange e) (at : IsAt c v)
    (carries : (world_step m.world (world_events.At e)).world.carried ≡ m.world.carried) where
  pub asking_leaves : Leaves m (asking m e).mail c
  unfolding asking
  asking_leaves = record { elsewhere = asks_elsewhere m.world machine c e stands at (asks follow m.world machine e v is quiet range stands); carried = carries }

  pub posting_leaves_rest : (side : Side) (j : ℕ) → Leaves m (posting m side j e) c
  unfolding posting
  posting_leaves_rest side j = by (has_ended side (channel m j)) (is_too_many (asking m e).answer)
    where
      by : (b t : Bool) → Leaves m (if b then m else (if t then with_channel (asking m e).mail j (ending side) else (asking m e).mail)) c
      by true t = nothing_left m m c refl
      by false true = record { elsewhere = asking_leaves.elsewhere; carried = asking_leaves.carried }
      by false false = asking_leaves

module _ (follow : EventsFollowByName) (peers : ℕ) (small : peers ≤ 8) (ts : List Turn) (m : Mail) (h : IsHeld peers ts m) (k : ℕ) where
  pub doing_leaves : (d : Due) → slice_get m.owed k ≡ Some d → Leaves m (doing m k d) (context_at (context_of d))
  unfolding doing
  doing_leaves (due.CopyMessage j place size) at =
      let a = asking_leaves follow m h.machine h.stands receiver (events.Load (receiver_region j) (place_address j place) size) (verbs.Load (receiver_region j) (place_address j place) size) (load_verb (receiver_region j) (place_address j place) size) (λ x. refl) tt (LoadAt (receiver_region j) (place_address j place) size refl) (load_carries m.world (receiver_region j) (place_address j place) size) in
      record { elsewhere = a.elsewhere; carried = a.carried }
  doing_leaves (due.CopyBody j size) at =
      let a = asking_leaves follow m h.machine h.stands receiver (events.Load (receiver_region j) (landing_address j) size) (verbs.Load (receiver_region j) (landing_address j) size) (load_verb (receiver_region j) (landing_address j) size) (λ x. refl) tt (LoadAt (receiver_region j) (landing_address j) size refl) (load_carries m.world (receiver_region j) (landing_address j) size) in
      record { elsewhere = a.elsewhere; carried = a.carried }
  doing_leaves (due.Repost j place fetch) at =
      let a = posting_leaves_rest follow m h.machine h.stands receiver (receiver_receives j place) (verbs.PostRecv (receiver_end j) (receiver_receive j place)) (receive_verb (receiver_end j) (receiver_receive j place)) (λ x. refl) tt (ReceiveAt (receiver_end j) (receiver_receive j place) refl) (receive_carries m.world (receiver_end j) (receiver_receive j place)) AtReceiver j in
      record { elsewhere = a.elsewhere; carried = a.carried }
  doing_leaves (due.PostRead j f) at =
      let range : (1 ≤ j) × (j ≤ peers) = one_of_senders peers ts m h k (due.PostRead j f) at None (All-nil (λ x. connection_in x ≡ j)) in
      let high = range.1 in
      let key = fetch_key follow peers small ts m h k j f at range in
      let r = request kind.Read (receiver_key j) (landing_address j) f.length slot_address f.rkey in
      let a = posting_leaves_rest follow m h.machine h.stands receiver (read_event j f) (verbs.PostSend (receiver_end j) r) (send_verb (receiver_end j) r) (λ x. refl) (read_in_range follow peers small ts m h k j f (omega (arith, key, high, small))) (SendAt (receiver_end j) r refl) (send_carries m.world (receiver_end j) r) AtReceiver j in
      record { elsewhere = a.elsewhere; carried = a.carried }
  doing_leaves (due.PostFree j) at =
      let r = request kind.Send 0 0 0 0 0 in
      let a = posting_leaves_rest follow m h.machine h.stands receiver (free_event j) (verbs.PostSend (receiver_end j) r) (send_verb (receiver_end j) r) (λ x. refl) (free_in_range follow peers small ts m h k j) (SendAt (receiver_end j) r refl) (send_carries m.world (receiver_end j) r) AtReceiver j in
      record { elsewhere = a.elsewhere; carried = a.carried }
  doing_leaves (due.FreeSlot j place) at = nothing_left m _ (context_at j) refl
  doing_leaves (due.RepostAtSender j place) at =
      let range : (1 ≤ j) × (j ≤ peers) = one_of_senders peers ts m h k (due.RepostAtSender j place) at None (All-nil (λ x. connection_in x ≡ j)) in
      let a = posting_leaves_rest follow m h.machine h.stands (context_at j) (sender_receives j place) (verbs.PostRecv (sender_end j) (sender_receive place)) (receive_verb (sender_end j) (sender_receive place)) (λ x. refl) tt (ReceiveAt (sender_end j) (sender_receive place) (sym (context_is j range.0))) (receive_carries m.world (sender_end j) (sender_receive place)) AtSender j in
      record { elsewhere = a.elsewhere; carried = a.carried }

-- ---- contexts that were polled out

-- the contexts that were polled before are empty where they live, and nothing that is due there can be done
pub record IsPassed (m : Mail) (next : ℕ) : Type 0 where
  pub empty : (n : ℕ) → n < next → n ≤ 8 → is_away m.world n ≡ false → waiting m.world (context_at n) ≡ []
  pub idle : All (λ d. context_of d < next → may_be_done m.world d ≡ false) m.owed

pub contexts_apart : (n k : ℕ) → n ≤ 8 → k ≤ 8 → n ≢ k → context_at n ≢ context_at k
contexts_apart zero zero a b apart e = apart refl
contexts_apart zero (suc k) a b apart e = let f : receiver ≡ sender (suc k) = e ∙ context_is (suc k) (omega arith) in cc
contexts_apart (suc n) zero a b apart e = let f : receiver ≡ sender (suc n) = sym e ∙ context_is (suc n) (omega arith) in cc
contexts_apart (suc n) (suc k) a b apart e = sender_names_apart (suc n) (suc k) a b apart (sym (context_is (suc n) (omega arith)) ∙ (e ∙ context_is (suc k) (omega arith)))

may_same : (m m' : Mail) (d : Due) → m'.world.carried ≡ m.world.carried → may_be_done m'.world d ≡ may_be_done m.world d
may_same m m' d same = ap not (away_same m m' (context_of d) same)

-- .. and stay so, where another context is asked
stays_empty : (m m' : Mail) (next c : ℕ) → c ≤ 8 → next ≤ c → Leaves m m' (context_at c) → IsPassed m next → (n : ℕ) → n < next → n ≤ 8 → is_away m'.world n ≡ false → waiting m'.world (context_at n) ≡ []
stays_empty m m' next c few past l p n below small home =
    l.elsewhere (context_at n) (contexts_apart n c small few (λ e. omega (arith, e, below, past))) ∙ p.empty n below small (sym (away_same m m' n l.carried) ∙ home)

-- ---- a thing that is due

pub record IsNext (m m' : Mail) (k : ℕ) (d : Due) : Type 0 where
  pub next : Option Due
  pub owed : m'.owed ≡ due_next m.owed k next
  pub same : All (λ x. context_of x ≡ context_of d) (option_to_list next)
  pub less : owed_steps (option_to_list next) + flushes d < due_steps d

posting_owed : (m : Mail) (side : Side) (j : ℕ) (e : Event) → (posting m side j e).owed ≡ m.owed
unfolding posting asking
posting_owed m side j e = by (has_ended side (channel m j)) (is_too_many (asking m e).answer)
  where
    by : (b t : Bool) → (if b then m else (if t then with_channel (asking m e).mail j (ending side) else (asking m e).mail)).owed ≡ m.owed
    by true t = refl
    by false true = refl
    by false false = refl

none_next : (d : Due) → All (λ x. context_of x ≡ context_of d) []
none_next d = All-nil (λ x. context_of x ≡ context_of d)

one_next : (d x : Due) → context_of x ≡ context_of d → All (λ y. context_of y ≡ context_of d) (x ∷ [])
one_next d x e = All-cons (λ y. context_of y ≡ context_of d) x [] e (All-nil (λ y. context_of y ≡ context_of d))

read_less : (j place : ℕ) (fetch : Option Fetch) → owed_steps (option_to_list (read_due j fetch)) + 1 < due_steps (due.Repost j place fetch)
read_less j place None = omega arith
read_less j place (Some f) = omega arith

next_read : (j place : ℕ) (fetch : Option Fetch) → All (λ x. context_of x ≡ 0) (option_to_list (read_due j fetch))
next_read j place None = All-nil (λ x. context_of x ≡ 0)
next_read j place (Some f) = All-cons (λ x. context_of x ≡ 0) (due.PostRead j f) [] refl (All-nil (λ x. context_of x ≡ 0))

pub doing_next : (m : Mail) (k : ℕ) (d : Due) → IsNext m (doing m k d) k d
unfolding doing asking
doing_next m k (due.CopyMessage j place size) = record { next = Some (due.Repost j place _); owed = refl; same = one_next (due.CopyMessage j place size) (due.Repost j place _) refl; less = omega arith }
doing_next m k (due.CopyBody j size) = record { next = Some (due.PostFree j); owed = refl; same = one_next (due.CopyBody j size) (due.PostFree j) refl; less = omega arith }
doing_next m k (due.Repost j place fetch) = record { next = read_due j fetch; owed = ap (λ (xs : List Due). due_next xs k (read_due j fetch)) (posting_owed m AtReceiver j (receiver_receives j place)); same = next_read j place fetch; less = read_less j place fetch }
doing_next m k (due.PostRead j f) = record { next = None; owed = ap (λ (xs : List Due). due_next xs k None) (posting_owed m AtReceiver j (read_event j f)); same = none_next (due.PostRead j f); less = omega arith }
doing_next m k (due.PostFree j) = record { next = None; owed = ap (λ (xs : List Due). due_next xs k None) (posting_owed m AtReceiver j (free_event j)); same = none_next (due.PostFree j); less = omega arith }
doing_next m k (due.FreeSlot j place) = record { next = Some (due.RepostAtSender j place); owed = refl; same = one_next (due.FreeSlot j place) (due.RepostAtSender j place) refl; less = omega arith }
doing_next m k (due.RepostAtSender j place) = record { next = None; owed = ap (λ (xs : List Due). due_next xs k None) (posting_owed m AtSender j (sender_receives j place)); same = none_next (due.RepostAtSender j place); less = omega arith }

-- a thing that can be done is of a context that is not passed
not_passed : (m : Mail) (next : ℕ) (d : Due) → (context_of d < next → may_be_done m.world d ≡ false) → may_be_done m.world d ≡ true → next ≤ context_of d
not_passed m next d idle may = by (nat_lt (context_of d) next) refl
  where
    by : (b : Bool) → nat_lt (context_of d) next ≡ b → next ≤ context_of d
    by true e = let never : true ≡ false = sym may ∙ idle (ltb-true (context_of d) next e) in absurd (cc)
    by false e = ltb-false (context_of d) next e

due_passed : (m m' : Mail) (next k : ℕ) (d : Due) → slice_get m.owed k ≡ Some d → may_be_done m.world d ≡ true → context_of d ≤ 8 → Leaves m m' (context_at (context_of d)) → IsNext m m' k d → IsPassed m next → IsPassed m' next
due_passed m m' next k d at may few l x p =
    let whole : All (λ y. context_of y < next → may_be_done m.world y ≡ false) (take k m.owed ++ (d ∷ drop (suc k) m.owed)) = subst (All (λ y. context_of y < next → may_be_done m.world y ≡ false)) (split_at m.owed k d at) p.idle in
    let rest : All (λ y. context_of y < next → may_be_done m.world y ≡ false) (d ∷ drop (suc k) m.owed) = all_back (λ y. context_of y < next → may_be_done m.world y ≡ false) (take k m.owed) (d ∷ drop (suc k) m.owed) whole in
    let past : next ≤ context_of d = not_passed m next d (All-head (λ y. context_of y < next → may_be_done m.world y ≡ false) d (drop (suc k) m.owed) rest) may in
    let news : All (λ y. context_of y < next → may_be_done m.world y ≡ false) (option_to_list x.next) =
    All-weaker (λ y. context_of y ≡ context_of d) (λ y. context_of y < next → may_be_done m.world y ≡ false) (λ y e below. absurd (omega (arith, e, below, past))) (option_to_list x.next) x.same in
    let after : All (λ y. context_of y < next → may_be_done m.world y ≡ false) (take k m.owed ++ (option_to_list x.next ++ drop (suc k) m.owed)) =
    All-append (λ y. context_of y < next → may_be_done m.world y ≡ false) (take k m.owed) (option_to_list x.next ++ drop (suc k) m.owed)
    (all_front (λ y. context_of y < next → may_be_done m.world y ≡ false) (take k m.owed) (d ∷ drop (suc k) m.owed) whole)
    (All-append (λ y. context_of y < next → may_be_done m.world y ≡ false) (option_to_list x.next) (drop (suc k) m.owed) news (All-tail (λ y. context_of y < next → may_be_done m.world y ≡ false) d (drop (suc k) m.owed) rest)) in
    record {
      empty = stays_empty m m' next (context_of d) few past l p;
      idle = All-weaker (λ y. context_of y < next → may_be_done m.world y ≡ false) (λ y. context_of y < next → may_be_done m'.world y ≡ false) (λ y f below. may_same m m' y l.carried ∙ f below) m'.owed
          (subst (All (λ y. context_of y < next → may_be_done m.world y ≡ false)) (sym (x.owed ∙ next_is m.owed k d at x.next)) after);
    }

-- ---- a poll

received_context : (x : Completion) (k : WcKind) → All (λ d. context_of d ≡ 0) (option_to_list (received x k))
received_context x wc.Recv = All-cons (λ d. context_of d ≡ 0) _ [] refl (All-nil (λ d. context_of d ≡ 0))
received_context x wc.Read = All-cons (λ d. context_of d ≡ 0) _ [] refl (All-nil (λ d. context_of d ≡ 0))
received_context x wc.Send = All-nil (λ d. context_of d ≡ 0)
received_context x wc.Write = All-nil (λ d. context_of d ≡ 0)
received_context x wc.CompareSwap = All-nil (λ d. context_of d ≡ 0)
received_context x wc.FetchAdd = All-nil (λ d. context_of d ≡ 0)
received_context x wc.RecvImm = All-nil (λ d. context_of d ≡ 0)

heard_context : (n : ℕ) (x : Completion) (k : WcKind) → All (λ d. context_of d ≡ n) (option_to_list (heard n x k))
heard_context n x wc.Recv = All-cons (λ d. context_of d ≡ n) (due.FreeSlot n (place_in x)) [] refl (All-nil (λ d. context_of d ≡ n))
heard_context n x wc.Send = All-nil (λ d. context_of d ≡ n)
heard_context n x wc.Write = All-nil (λ d. context_of d ≡ n)
heard_context n x wc.Read = All-nil (λ d. context_of d ≡ n)
heard_context n x wc.CompareSwap = All-nil (λ d. context_of d ≡ n)
heard_context n x wc.FetchAdd = All-nil (λ d. context_of d ≡ n)
heard_context n x wc.RecvImm = All-nil (λ d. context_of d ≡ n)

pub dues_context : (n : ℕ) (xs : List Completion) → All (λ d. context_of d ≡ n) (dues_of n xs)
dues_context n [] = All-nil (λ d. context_of d ≡ n)
dues_context n (x ∷ xs) = All-append (λ d. context_of d ≡ n) (dues_by n x) (dues_of n xs) (by (is_success x.status) (n == 0) refl) (dues_context n xs)
  where
    by : (b z : Bool) → (n == 0) ≡ z → All (λ d. context_of d ≡ n) (if b then option_to_list (if z then received x x.kind else heard n x x.kind) else [])
    by true true e = let zero_is : n ≡ 0 = eqb-true n 0 e in All-weaker (λ d. context_of d ≡ 0) (λ d. context_of d ≡ n) (λ d f. f ∙ sym zero_is) (option_to_list (received x x.kind)) (received_context x x.kind)
    by true false e = heard_context n x x.kind
    by false z e = All-nil (λ d. context_of d ≡ n)

none_taken : (n : ℕ) (xs : List Completion) → 1 ≤ n → take n xs ≡ [] → xs ≡ []
none_taken n [] positive e = refl
none_taken zero (x ∷ xs) positive e = absurd (omega (arith, positive))
none_taken (suc n) (x ∷ xs) positive e = cc

module _ (follow : EventsFollowByName) (peers : ℕ) (some : 1 ≤ peers) (small : peers ≤ 8) (ts : List Turn) (m : Mail) (h : IsHeld peers ts m) (n : ℕ) (within : n ≤ peers) where
  abbrev asked : Asked
  asked = asking m (poll_event n)

  pub poll_leaves : Leaves m (asking m (poll_event n)).mail (context_at n)
  poll_leaves =
      asking_leaves follow m h.machine h.stands (context_at n) (poll_event n) (verbs.Poll (object (context_at n) queue_name) most_polled) (poll_verb (object (context_at n) queue_name) most_polled) (λ x. refl) tt
      (PollAt (object (context_at n) queue_name) most_polled refl) (poll_carries m.world (object (context_at n) queue_name) most_polled)

  -- the context is there, with its queue
  pub there : (k : ℕ) → k ≤ peers → (has_context h.machine (context_at k) ≡ true) × (has_queue h.machine (context_at k) queue_name ≡ true)
  there zero high = let o = h.all.opened 1 (omega arith) some in (context_there h.machine (receiver_end 1) o.receiver_there, o.receiver_queue)
  there (suc k) high =
      let o = h.all.opened (suc k) (omega arith) high in
      subst (λ (c : Name). (has_context h.machine c ≡ true) × (has_queue h.machine c queue_name ≡ true)) (sym (context_is (suc k) (omega arith))) (context_there h.machine (sender_end (suc k)) o.sender_there, o.sender_queue)

  -- a poll that hears nothing of a context that lives leaves its queue empty
  emptied : entries_in (asking m (poll_event n)).answer ≡ [] → is_away m.world n ≡ false → waiting (asking m (poll_event n)).mail.world (context_at n) ≡ []
  unfolding asking
  emptied nothing home =
      let p : IsPollAsked m h.machine n = poll_asked follow m h.machine n h.stands in
      let t = there n within in
      let live = lives m.world h.machine n h.stands t.0 home in
      let heard' : take most_polled (standing h.machine (context_at n)) ≡ [] =
      sym (ap entries_in (polls_entries m.world h.machine (object (context_at n) queue_name) most_polled h.stands live t.1)) ∙ nothing in
      let stood : standing h.machine (context_at n) ≡ [] = none_taken most_polled (standing h.machine (context_at n)) (omega arith) heard' in
      let behind : p.polled.behind ≡ [] = ap (λ (xs : List Completion). xs ++ p.polled.behind) (sym nothing) ∙ (sym p.polled.whole ∙ stood) in
      waits_as (asking m (poll_event n)).mail.world p.machine' (context_at n) p.stands ∙ (p.polled.changed.here ∙ behind)

  module _ (q : IsPassed m n) (idle : All (λ d. may_be_done m.world d ≡ false) m.owed) where
    idle_then : (m' : Mail) → m'.world.carried ≡ m.world.carried → (next : ℕ) → All (λ d. context_of d < next → may_be_done m'.world d ≡ false) m.owed
    idle_then m' carried next = All-weaker (λ d. may_be_done m.world d ≡ false) (λ d. context_of d < next → may_be_done m'.world d ≡ false) (λ d f below. may_same m m' d carried ∙ f) m.owed idle

    passes_on : entries_in (asking m (poll_event n)).answer ≡ [] → IsPassed (asking m (poll_event n)).mail (n + 1)
    unfolding asking
    passes_on nothing = record {
      empty = λ k below few home. by k below few home (one_or_not k n);
      idle = idle_then (asking m (poll_event n)).mail poll_leaves.carried (n + 1);
    }
      where
        by : (k : ℕ) → k < n + 1 → k ≤ 8 → is_away (asking m (poll_event n)).mail.world k ≡ false → (k ≡ n) ⊎ (k ≢ n) → waiting (asking m (poll_event n)).mail.world (context_at k) ≡ []
        by k below few home (inl e) =
            subst (λ (j : ℕ). waiting (asking m (poll_event n)).mail.world (context_at j) ≡ []) (sym e)
            (emptied nothing (sym (away_same m (asking m (poll_event n)).mail n poll_leaves.carried) ∙ subst (λ (j : ℕ). is_away (asking m (poll_event n)).mail.world j ≡ false) e home))
        by k below few home (inr apart) = stays_empty m (asking m (poll_event n)).mail n n (omega (arith, within, small)) (omega arith) poll_leaves q k (omega (arith, below, apart)) few home

    stays_at : (xs : List Completion) → IsPassed (noting_all n (asking m (poll_event n)).mail xs) n
    unfolding asking
    stays_at xs =
        let x = noted_all n (asking m (poll_event n)).mail xs in
        let m' : Mail = noting_all n (asking m (poll_event n)).mail xs in
        let carried : m'.world.carried ≡ m.world.carried = ap (λ (w : World). w.carried) x.world ∙ poll_leaves.carried in
        let l : Leaves m (noting_all n (asking m (poll_event n)).mail xs) (context_at n) = record { elsewhere = λ d apart. ap (λ (w : World). waiting w d) x.world ∙ poll_leaves.elsewhere d apart; carried = carried } in
        record {
          empty = stays_empty m (noting_all n (asking m (poll_event n)).mail xs) n n (omega (arith, within, small)) (omega arith) l q;
          idle = subst (All (λ d. context_of d < n → may_be_done (noting_all n (asking m (poll_event n)).mail xs).world d ≡ false)) (sym x.owed)
              (All-append (λ d. context_of d < n → may_be_done (noting_all n (asking m (poll_event n)).mail xs).world d ≡ false) m.owed (dues_of n xs) (idle_then (noting_all n (asking m (poll_event n)).mail xs) carried n)
              (All-weaker (λ d. context_of d ≡ n) (λ d. context_of d < n → may_be_done (noting_all n (asking m (poll_event n)).mail xs).world d ≡ false) (λ d e below. absurd (omega (arith, e, below))) (dues_of n xs) (dues_context n xs)));
        }

    poll_passed : IsPassed (polled n (asking m (poll_event n))).mail (polled n (asking m (poll_event n))).next
    poll_passed = by (entries_in (asking m (poll_event n)).answer) refl
      where
        by : (xs : List Completion) → entries_in (asking m (poll_event n)).answer ≡ xs → IsPassed (heard_of n (asking m (poll_event n)).mail xs).mail (heard_of n (asking m (poll_event n)).mail xs).next
        by [] e = passes_on e
        by (x ∷ xs) e = stays_at (x ∷ xs)

-- ---- any steps

pub none_passes : (test : Due → Bool) (xs : List Due) → position test xs ≡ None → All (λ d. test d ≡ false) xs
none_passes test xs none k d below = not_true (test (get_or xs k d)) (prefix_len_passes (λ x. not (test x)) xs k d (by (nat_lt (position_or_len test xs) (length xs)) refl none))
  where
    by : (b : Bool) → nat_lt (position_or_len test xs) (length xs) ≡ b → cond b (Some (position_or_len test xs)) None ≡ None → k < position_or_len test xs
    by true e f = cc
    by false e f = let all = ltb-false (position_or_len test xs) (length xs) e in omega (arith, all, below)

module _ (follow : EventsFollowByName) (peers : ℕ) (some : 1 ≤ peers) (small : peers ≤ 8) (ts : List Turn) where
  few_contexts : (m : Mail) → IsHeld peers ts m → (k : ℕ) (d : Due) → slice_get m.owed k ≡ Some d → context_of d ≤ 8
  few_contexts m h k d at = by d (one_of_senders peers ts m h k d at None (All-nil (λ x. connection_in x ≡ connection_in d))).1
    where
      by : (x : Due) → connection_in x ≤ peers → context_of x ≤ 8
      by (due.CopyMessage j place size) high = omega arith
      by (due.Repost j place fetch) high = omega arith
      by (due.PostRead j f) high = omega arith
      by (due.CopyBody j size) high = omega arith
      by (due.PostFree j) high = omega arith
      by (due.FreeSlot j place) high = omega (arith, high, small)
      by (due.RepostAtSender j place) high = omega (arith, high, small)

  step_passed : (w : Working) → IsHeld peers ts w.mail → IsPassed w.mail w.next → (v : Working) → work_step w ≡ Some v → IsPassed v.mail v.next
  unfolding work_step
  step_passed w h p v e = by (position (may_be_done w.mail.world) w.mail.owed) refl e
    where
      done : (k : ℕ) → position (may_be_done w.mail.world) w.mail.owed ≡ Some k → IsPassed (doing_at w k (slice_get w.mail.owed k)).mail (doing_at w k (slice_get w.mail.owed k)).next
      done k first =
          let found = position-Some (may_be_done w.mail.world) w.mail.owed k (due.PostFree 0) first in
          let d : Due = get_or w.mail.owed k (due.PostFree 0) in
          let at : slice_get w.mail.owed k ≡ Some (get_or w.mail.owed k (due.PostFree 0)) = slice_get-get_or w.mail.owed k (due.PostFree 0) found.0 in
          subst (λ (o : Option Due). IsPassed (doing_at w k o).mail (doing_at w k o).next) (sym at)
          (due_passed w.mail (doing w.mail k d) w.next k d at found.1 (few_contexts w.mail h k d at) (doing_leaves follow peers small ts w.mail h k d at) (doing_next w.mail k d) p)

      poll : position (may_be_done w.mail.world) w.mail.owed ≡ None → (b : Bool) → nat_lt (length w.mail.channels) w.next ≡ b → (if b then None else Some (polled w.next (asking w.mail (poll_event w.next)))) ≡ Some v → IsPassed v.mail v.next
      poll none true past f = cc
      poll none false below f =
          let few = ltb-false (length w.mail.channels) w.next below in
          let long = h.senders in
          subst (λ (x : Working). IsPassed x.mail x.next) (same_Some (polled w.next (asking w.mail (poll_event w.next))) v f)
          (poll_passed follow peers some small ts w.mail h w.next (omega (arith, few, long)) p (none_passes (may_be_done w.mail.world) w.mail.owed none))

      by : (o : Option ℕ) → position (may_be_done w.mail.world) w.mail.owed ≡ o → stepping w o ≡ Some v → IsPassed v.mail v.next
      by None none f = poll none (nat_lt (length w.mail.channels) w.next) refl f
      by (Some k) first f = subst (λ (x : Working). IsPassed x.mail x.next) (same_Some (doing_at w k (slice_get w.mail.owed k)) v f) (done k first)

  -- both, after any steps
  record IsUnderWay (w : Working) : Type 0 where
    held : IsHeld peers ts w.mail
    passed : IsPassed w.mail w.next

  steps_passed : (n : ℕ) (w : Working) → IsUnderWay w → IsUnderWay (worked n w)
  steps_passed zero w u = subst IsUnderWay (sym (no_step follow peers small ts w)) u
  steps_passed (suc n) w u = by (λ v. steps_passed n v) (work_step w) refl
    where
      by : ((v : Working) → IsUnderWay v → IsUnderWay (worked n v)) → (o : Option Working) → work_step w ≡ o → IsUnderWay (worked (suc n) w)
      by rest None e = subst IsUnderWay (sym (stops_there follow peers small ts n w e)) u
      by rest (Some v) e = subst IsUnderWay (sym (goes_further follow peers small ts n w v e)) (rest v (record { held = step_held follow peers small ts w u.held v e; passed = step_passed w u.held u.passed v e }))

  stopped : (w : Working) → IsUnderWay w → work_step w ≡ None → IsWorkOver peers w.mail
  unfolding work_step
  stopped w u e = by (position (may_be_done w.mail.world) w.mail.owed) refl e
    where
      over : position (may_be_done w.mail.world) w.mail.owed ≡ None → (b : Bool) → nat_lt (length w.mail.channels) w.next ≡ b → (if b then None else Some (polled w.next (asking w.mail (poll_event w.next)))) ≡ None → IsWorkOver peers w.mail
      over none true past f =
          let below = ltb-true (length w.mail.channels) w.next past in
          let long = u.held.senders in
          record {
            none_owed = none_passes (may_be_done w.mail.world) w.mail.owed none;
            none_standing = λ machine s n high home. sym (waits_as w.mail.world machine (context_at n) s) ∙ u.passed.empty n (omega (arith, below, long, high)) (omega (arith, high, small)) home;
          }
      over none false past f = cc

      by : (o : Option ℕ) → position (may_be_done w.mail.world) w.mail.owed ≡ o → stepping w o ≡ None → IsWorkOver peers w.mail
      by None none f = over none (nat_lt (length w.mail.channels) w.next) refl f
      by (Some k) first f = cc

pub stopped_is_over : EventsFollowByName → StoppedWorkIsOver
stopped_is_over follow peers some small ts m n h e =
    stopped follow peers some small ts (worked n (begun m))
    (steps_passed follow peers some small ts n (begun m) (record { held = h; passed = record { empty = λ k below. absurd (omega (arith, below)); idle = All-weaker (λ d. Unit {0}) (λ d. context_of d < 0 → may_be_done m.world d ≡ false) (λ d t below. absurd (omega (arith, below))) m.owed (λ k d below. tt) } })) e
