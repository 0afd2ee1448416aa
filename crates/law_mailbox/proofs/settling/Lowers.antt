-- Each step of work lowers the number of steps that are still to come.
use Rattle.std.proofs.Common.{arith, ◌≡◌, ℕ, suc, ◌+◌, ◌<◌, ◌≤◌, List, [], ◌∷◌, ◌++◌, drop, get_or, length, take, true, false, Bool, refl, sym, subst, ap, ◌∙◌, Some, None, Option, ltb-false}
use Rattle.std.specs.Prelude.{if◌then◌else◌, nat_lt, option_to_list, position, slice_get}
use Rattle.std.proofs.lemmas.List.Elements.{All-nil}
use Rattle.std.proofs.lemmas.List.Quantifiers.{position-Some}
use Rattle.std.proofs.lemmas.List.Sums.{sum_by-append, sum_by-cons}
use Rattle.std.proofs.lemmas.Option.{same_Some, slice_get-get_or}
use Rattle.rdma_types.specs.declared.names.Name.{Name}
use Rattle.rdma_types.specs.declared.requests.Completion.{Completion}
use Rattle.rdma_types.specs.declared.requests.Kind.TheVariants as kind
use Rattle.rdma_types.specs.declared.requests.Request.{Request}
use Rattle.rdma_types.specs.declared.verbs.Verb.TheVariants as verbs
use Rattle.protocol.specs.declared.events.Event.{Event}
use Rattle.protocol.specs.declared.events.Event.TheVariants as events
use Rattle.protocol.specs.declared.events.WorldEvent.TheVariants as world_events
use Rattle.protocol.specs.State.{World}
use Rattle.protocol.specs.WorldStep.{world_step}
use Rattle.law_simulation.specs.Law.{IsRequestInRange}
use Rattle.law_simulation.specs.Named.{EventsFollowByName}
use Rattle.mailbox_rules.specs.declared.due.Due.{Due}
use Rattle.mailbox_rules.specs.declared.due.Due.TheVariants as due
use Rattle.mailbox_rules.specs.declared.due.Side.TheVariants.{AtReceiver, AtSender}
use Rattle.mailbox_rules.specs.Histories.{Turn}
use Rattle.mailbox_rules.specs.Opening.{landing_address, place_address, receiver, receiver_end, receiver_key, receiver_receive, receiver_receives, receiver_region, sender, sender_end, sender_receive, sender_receives, slot_address}
use Rattle.mailbox_rules.specs.State.{Mail, context_at}
use Rattle.mailbox_rules.specs.Working.{Working, asking, context_of, doing, doing_at, due_next, entries_in, free_event, heard_of, may_be_done, noting_all, poll_event, polled, posting, read_event, request, stepping, work_step}
use Rattle.law_mailbox.specs.Held.{IsHeld, connection_in}
use Rattle.law_mailbox.specs.Kept.{dues_of}
use Rattle.law_mailbox.proofs.work.Asking.{asks}
use Rattle.law_mailbox.proofs.work.Copying.{load_verb}
use Rattle.law_mailbox.proofs.work.Doing.{one_of_senders}
use Rattle.law_mailbox.proofs.work.Dues.{next_is, split_at}
use Rattle.law_mailbox.proofs.work.DueSteps.{fetch_key, free_in_range, read_in_range, receive_verb, send_verb}
use Rattle.law_mailbox.proofs.connection.Flushing.{IsFlushed, asks_flushed, asks_same, flushed_steps, load_same, posting_flushed, receive_flushed, request_flushed}
use Rattle.law_mailbox.proofs.work.Leaving.{waiting, waits_as}
use Rattle.law_mailbox.proofs.work.Noting.{noted_all}
use Rattle.law_mailbox.proofs.settling.Over.{IsNext, Leaves, contexts_apart, doing_leaves, doing_next, poll_leaves}
use Rattle.law_mailbox.proofs.work.Polling.{IsPollAsked, poll_asked}
use Rattle.law_mailbox.proofs.queue_room.Totals.{total, total_changes}
use Rattle.law_mailbox.proofs.settling.Weights.{due_steps, flushes, owed_steps, queue_both, queue_steps, steps_left, waiting_steps}
use Rattle.law_mailbox.proofs.work.Worked.{context_is}

-- ---- what is owed

pub owed_goes : (owed : List Due) (k : ℕ) (d : Due) → slice_get owed k ≡ Some d → (next : Option Due) → owed_steps (due_next owed k next) + due_steps d ≡ owed_steps owed + owed_steps (option_to_list next)
owed_goes owed k d at next =
    let front : List Due = take k owed in
    let behind : List Due = drop (suc k) owed in
    let before : owed_steps owed ≡ owed_steps (take k owed ++ (d ∷ drop (suc k) owed)) = ap owed_steps (split_at owed k d at) in
    let after : owed_steps (due_next owed k next) ≡ owed_steps (take k owed ++ (option_to_list next ++ drop (suc k) owed)) = ap owed_steps (next_is owed k d at next) in
    omega (
      arith,
      before,
      after,
      sum_by-append due_steps (take k owed) (d ∷ drop (suc k) owed),
      sum_by-cons due_steps d (drop (suc k) owed),
      sum_by-append due_steps (take k owed) (option_to_list next ++ drop (suc k) owed),
      sum_by-append due_steps (option_to_list next) (drop (suc k) owed),
    )

-- ---- a thing that is due

module _ (follow : EventsFollowByName) (peers : ℕ) (small : peers ≤ 8) (ts : List Turn) (m : Mail) (h : IsHeld peers ts m) where
  -- a body or a message is copied: no queue changes
  loaded : (j at size : ℕ) → waiting_steps (world_step m.world (world_events.At (events.Load (receiver_region j) at size))).world 0 ≡ waiting_steps m.world 0
  loaded j at size =
      ap (queue_steps 0)
      (asks_same m.world h.machine receiver (events.Load (receiver_region j) at size) (verbs.Load (receiver_region j) at size) h.stands (λ given. load_same h.machine (receiver_region j) at size given receiver)
      (asks follow m.world h.machine (events.Load (receiver_region j) at size) (verbs.Load (receiver_region j) at size) (load_verb (receiver_region j) at size) (λ x. refl) tt h.stands))

  -- a receive or a request of an end of the receiver is posted
  receiver_posts : (j : ℕ) (e : Event) → IsFlushed (waiting m.world receiver) (waiting (world_step m.world (world_events.At e)).world receiver) → waiting_steps (posting m AtReceiver j e).world 0 ≤ waiting_steps m.world 0 + 1
  receiver_posts j e f = flushed_steps 0 (waiting m.world receiver) (waiting (posting m AtReceiver j e).world receiver) (posting_flushed m AtReceiver j e receiver f)

  requests : (j : ℕ) → 1 ≤ j → j ≤ peers → (r : Request) → IsRequestInRange r → IsFlushed (waiting m.world receiver) (waiting (world_step m.world (world_events.At (events.PostSend (receiver_end j) r))).world receiver)
  requests j low high r range =
      let opened = h.all.opened j low high in
      asks_flushed m.world h.machine receiver (events.PostSend (receiver_end j) r) (verbs.PostSend (receiver_end j) r) h.stands
      (λ given. request_flushed h.machine (receiver_end j) opened.receiver_there opened.receiver_queue r given opened.receiver_joined.send_queue)
      (asks follow m.world h.machine (events.PostSend (receiver_end j) r) (verbs.PostSend (receiver_end j) r) (send_verb (receiver_end j) r) (λ x. refl) range h.stands)

  -- what stands in the queue of the context where it is done
  queue_grows : (k : ℕ) (d : Due) → slice_get m.owed k ≡ Some d → waiting_steps (doing m k d).world (context_of d) ≤ waiting_steps m.world (context_of d) + flushes d
  unfolding doing asking
  queue_grows k (due.CopyMessage j place size) at = let same = loaded j (place_address j place) size in omega (arith, same)
  queue_grows k (due.CopyBody j size) at = let same = loaded j (landing_address j) size in omega (arith, same)
  queue_grows k (due.Repost j place fetch) at =
      let range : (1 ≤ j) × (j ≤ peers) = one_of_senders peers ts m h k (due.Repost j place fetch) at None (All-nil (λ x. connection_in x ≡ j)) in
      let opened = h.all.opened j range.0 range.1 in
      receiver_posts j (receiver_receives j place)
      (asks_flushed m.world h.machine receiver (receiver_receives j place) (verbs.PostRecv (receiver_end j) (receiver_receive j place)) h.stands
      (λ given. receive_flushed h.machine (receiver_end j) opened.receiver_there opened.receiver_queue (receiver_receive j place) given opened.receiver_joined.receive_queue)
      (asks follow m.world h.machine (receiver_receives j place) (verbs.PostRecv (receiver_end j) (receiver_receive j place)) (receive_verb (receiver_end j) (receiver_receive j place)) (λ x. refl) tt h.stands))
  queue_grows k (due.PostRead j f) at =
      let range : (1 ≤ j) × (j ≤ peers) = one_of_senders peers ts m h k (due.PostRead j f) at None (All-nil (λ x. connection_in x ≡ j)) in
      let high = range.1 in
      let key = fetch_key follow peers small ts m h k j f at range in
      receiver_posts j (read_event j f)
      (requests j range.0 range.1 (request kind.Read (receiver_key j) (landing_address j) f.length slot_address f.rkey) (read_in_range follow peers small ts m h k j f (omega (arith, key, high, small))))
  queue_grows k (due.PostFree j) at =
      let range : (1 ≤ j) × (j ≤ peers) = one_of_senders peers ts m h k (due.PostFree j) at None (All-nil (λ x. connection_in x ≡ j)) in
      receiver_posts j (free_event j) (requests j range.0 range.1 (request kind.Send 0 0 0 0 0) (free_in_range follow peers small ts m h k j))
  queue_grows k (due.FreeSlot j place) at = omega arith
  queue_grows k (due.RepostAtSender j place) at =
      let range : (1 ≤ j) × (j ≤ peers) = one_of_senders peers ts m h k (due.RepostAtSender j place) at None (All-nil (λ x. connection_in x ≡ j)) in
      let opened = h.all.opened j range.0 range.1 in
      let f : IsFlushed (waiting m.world (sender j)) (waiting (world_step m.world (world_events.At (sender_receives j place))).world (sender j)) =
      asks_flushed m.world h.machine (sender j) (sender_receives j place) (verbs.PostRecv (sender_end j) (sender_receive place)) h.stands
      (λ given. receive_flushed h.machine (sender_end j) opened.sender_there opened.sender_queue (sender_receive place) given opened.sender_joined.receive_queue)
      (asks follow m.world h.machine (sender_receives j place) (verbs.PostRecv (sender_end j) (sender_receive place)) (receive_verb (sender_end j) (sender_receive place)) (λ x. refl) tt h.stands) in
      flushed_steps j (waiting m.world (context_at j)) (waiting (posting m AtSender j (sender_receives j place)).world (context_at j))
      (posting_flushed m AtSender j (sender_receives j place) (context_at j)
      (subst (λ (c : Name). IsFlushed (waiting m.world c) (waiting (world_step m.world (world_events.At (sender_receives j place))).world c)) (sym (context_is j range.0)) f))

  -- a thing that is due is of a context of letters
  pub due_context : (k : ℕ) (d : Due) → slice_get m.owed k ≡ Some d → context_of d ≤ peers
  due_context k d at = by d (one_of_senders peers ts m h k d at None (All-nil (λ x. connection_in x ≡ connection_in d))).1
    where
      by : (x : Due) → connection_in x ≤ peers → context_of x ≤ peers
      by (due.CopyMessage j place size) high = omega arith
      by (due.Repost j place fetch) high = omega arith
      by (due.PostRead j f) high = omega arith
      by (due.CopyBody j size) high = omega arith
      by (due.PostFree j) high = omega arith
      by (due.FreeSlot j place) high = high
      by (due.RepostAtSender j place) high = high

  -- where one context is asked, the queues of the others are as before
  queues_change : (m' : Mail) (c : ℕ) → c ≤ peers → Leaves m m' (context_at c) → total (waiting_steps m'.world) peers + waiting_steps m.world c ≡ total (waiting_steps m.world) peers + waiting_steps m'.world c
  queues_change m' c few l =
      total_changes (waiting_steps m.world) (waiting_steps m'.world) c peers few
      (λ n below apart. ap (queue_steps n) (l.elsewhere (context_at n) (contexts_apart n c (omega (arith, below, small)) (omega (arith, few, small)) apart)))

  pub due_lowers : (k next : ℕ) (d : Due) → slice_get m.owed k ≡ Some d → steps_left peers (record { mail = doing m k d; next = next }) < steps_left peers (record { mail = m; next = next })
  due_lowers k next d at =
      let x : IsNext m (doing m k d) k d = doing_next m k d in
      let few = due_context k d at in
      let queues = queues_change (doing m k d) (context_of d) few (doing_leaves follow peers small ts m h k d at) in
      let grows = queue_grows k d at in
      let goes : owed_steps (doing m k d).owed + due_steps d ≡ owed_steps m.owed + owed_steps (option_to_list x.next) = ap (λ (ds : List Due). owed_steps ds + due_steps d) x.owed ∙ owed_goes m.owed k d at x.next in
      let less = x.less in
      omega (arith, queues, grows, goes, less)

  -- ---- a poll

  module _ (some : 1 ≤ peers) (n : ℕ) (within : n ≤ peers) where
    p : IsPollAsked m h.machine n
    p = poll_asked follow m h.machine n h.stands

    -- the queue has what was polled less
    polled_less : waiting_steps m.world n ≡ queue_steps n (entries_in (asking m (poll_event n)).answer) + waiting_steps (asking m (poll_event n)).mail.world n
    polled_less =
        let before : waiting_steps m.world n ≡ queue_steps n (entries_in (asking m (poll_event n)).answer ++ p.polled.behind) = ap (queue_steps n) (waits_as m.world h.machine (context_at n) h.stands ∙ p.polled.whole) in
        let after : waiting_steps (asking m (poll_event n)).mail.world n ≡ queue_steps n p.polled.behind = ap (queue_steps n) (waits_as (asking m (poll_event n)).mail.world p.machine' (context_at n) p.stands ∙ p.polled.changed.here) in
        omega (arith, before, after, queue_both n (entries_in (asking m (poll_event n)).answer) p.polled.behind)

    asked_owed : (asking m (poll_event n)).mail.owed ≡ m.owed
    unfolding asking
    asked_owed = refl

    pub poll_lowers : steps_left peers (polled n (asking m (poll_event n))) < steps_left peers (record { mail = m; next = n })
    poll_lowers = by (entries_in (asking m (poll_event n)).answer) refl
      where
        queues : total (waiting_steps (asking m (poll_event n)).mail.world) peers + waiting_steps m.world n ≡ total (waiting_steps m.world) peers + waiting_steps (asking m (poll_event n)).mail.world n
        queues = queues_change (asking m (poll_event n)).mail n within (poll_leaves follow peers some small ts m h n within)

        by : (xs : List Completion) → entries_in (asking m (poll_event n)).answer ≡ xs → steps_left peers (heard_of n (asking m (poll_event n)).mail xs) < steps_left peers (record { mail = m; next = n })
        by [] e =
            let less : waiting_steps m.world n ≡ 0 + waiting_steps (asking m (poll_event n)).mail.world n = polled_less ∙ ap (λ (ys : List Completion). queue_steps n ys + waiting_steps (asking m (poll_event n)).mail.world n) e in
            let owed : owed_steps (asking m (poll_event n)).mail.owed ≡ owed_steps m.owed = ap owed_steps asked_owed in
            let others = queues in
            omega (arith, less, owed, others, within)
        by (x ∷ xs) e =
            let noted = noted_all n (asking m (poll_event n)).mail (x ∷ xs) in
            let less : waiting_steps m.world n ≡ queue_steps n (x ∷ xs) + waiting_steps (asking m (poll_event n)).mail.world n = polled_less ∙ ap (λ (ys : List Completion). queue_steps n ys + waiting_steps (asking m (poll_event n)).mail.world n) e in
            let owed : owed_steps (noting_all n (asking m (poll_event n)).mail (x ∷ xs)).owed ≡ owed_steps m.owed + owed_steps (dues_of n (x ∷ xs)) =
            ap owed_steps (noted.owed ∙ ap (λ (ds : List Due). ds ++ dues_of n (x ∷ xs)) asked_owed) ∙ sum_by-append due_steps m.owed (dues_of n (x ∷ xs)) in
            let same : total (waiting_steps (noting_all n (asking m (poll_event n)).mail (x ∷ xs)).world) peers ≡ total (waiting_steps (asking m (poll_event n)).mail.world) peers = ap (λ (w : World). total (waiting_steps w) peers) noted.world in
            let others = queues in
            omega (arith, less, owed, same, others, within)

-- ---- one step

module _ (follow : EventsFollowByName) (peers : ℕ) (some : 1 ≤ peers) (small : peers ≤ 8) (ts : List Turn) where
  pub step_lowers : (w : Working) → IsHeld peers ts w.mail → (v : Working) → work_step w ≡ Some v → steps_left peers v < steps_left peers w
  unfolding work_step
  step_lowers w h v e = by (position (may_be_done w.mail.world) w.mail.owed) refl e
    where
      poll : (b : Bool) → nat_lt (length w.mail.channels) w.next ≡ b → (if b then None else Some (polled w.next (asking w.mail (poll_event w.next)))) ≡ Some v → steps_left peers v < steps_left peers w
      poll true past f = cc
      poll false below f =
          let few = ltb-false (length w.mail.channels) w.next below in
          let long = h.senders in
          subst (λ (x : Working). steps_left peers x < steps_left peers w) (same_Some (polled w.next (asking w.mail (poll_event w.next))) v f)
          (poll_lowers follow peers small ts w.mail h some w.next (omega (arith, few, long)))

      by : (o : Option ℕ) → position (may_be_done w.mail.world) w.mail.owed ≡ o → stepping w o ≡ Some v → steps_left peers v < steps_left peers w
      by None none f = poll (nat_lt (length w.mail.channels) w.next) refl f
      by (Some k) first f =
          let found = position-Some (may_be_done w.mail.world) w.mail.owed k (due.PostFree 0) first in
          let d : Due = get_or w.mail.owed k (due.PostFree 0) in
          let at : slice_get w.mail.owed k ≡ Some (get_or w.mail.owed k (due.PostFree 0)) = slice_get-get_or w.mail.owed k (due.PostFree 0) found.0 in
          subst (λ (x : Working). steps_left peers x < steps_left peers w) (same_Some (doing_at w k (slice_get w.mail.owed k)) v f)
          (subst (λ (o : Option Due). steps_left peers (doing_at w k o) < steps_left peers w) (sym at) (due_lowers follow peers small ts w.mail h k w.next d at))
