-- Steps of work keep it that each flag is set for a reason.
use Rattle.std.proofs.Common.{arith, ◌≡◌, ℕ, zero, suc, ◌≤◌, List, [], ◌∷◌, get_or, length, true, false, Bool, refl, sym, subst, ap, ◌∙◌, Some, None, Option, inl, inr, ltb-false, ne_eqb}
use Rattle.std.specs.Prelude.{All, if◌then◌else◌, nat_lt, position, slice_get}
use Rattle.std.proofs.lemmas.List.Elements.{All-cons, All-head, All-nil, All-tail, All-weaker}
use Rattle.std.proofs.lemmas.List.Quantifiers.{position-Some}
use Rattle.std.proofs.lemmas.Option.{same_Some, slice_get-get_or}
use Rattle.rdma_types.specs.declared.answers.Answer.{Answer}
use Rattle.rdma_types.specs.declared.names.Name.{Name}
use Rattle.rdma_types.specs.declared.names.ObjName.{ObjName}
use Rattle.rdma_types.specs.declared.requests.Completion.{Completion}
use Rattle.rdma_types.specs.declared.requests.Kind.TheVariants as kind
use Rattle.rdma_types.specs.declared.requests.Request.{Request}
use Rattle.rdma_types.specs.declared.verbs.Verb.{Verb}
use Rattle.rdma_types.specs.declared.verbs.Verb.TheVariants as verbs
use Rattle.protocol.specs.declared.events.Event.{Event}
use Rattle.protocol.specs.declared.events.Event.TheVariants as events
use Rattle.protocol.specs.State.{World}
use Rattle.packetless_machine.specs.Machine.{Machine, end_of}
use Rattle.packetless_machine.specs.Verbs.{after_verb}
use Rattle.law_simulation.specs.Kept.{verb_in}
use Rattle.law_simulation.specs.Law.{IsEventInRange}
use Rattle.law_simulation.specs.Named.{EventsFollowByName, turn_steps}
use Rattle.law_simulation.specs.Stands.{Stands}
use Rattle.mailbox_rules.specs.declared.due.Due.{Due}
use Rattle.mailbox_rules.specs.declared.due.Due.TheVariants as due
use Rattle.mailbox_rules.specs.declared.due.Side.{Side}
use Rattle.mailbox_rules.specs.declared.due.Side.TheVariants.{AtReceiver, AtSender}
use Rattle.mailbox_rules.specs.Histories.{Turn, placed_letters, sent_letters}
use Rattle.mailbox_rules.specs.Letters.{header_of}
use Rattle.mailbox_rules.specs.Opening.{connection_of, landing_address, place_address, receiver_end, receiver_key, receiver_receive, receiver_receives, receiver_region, sender, sender_end, sender_receive, sender_receives, slot_address}
use Rattle.mailbox_rules.specs.State.{Channel, Mail, channel, context_at, ending, has_ended, with_channel}
use Rattle.mailbox_rules.specs.Working.{Working, arriving, asking, begun, bytes_in, doing, doing_at, entries_in, fetch_of, filling, free_event, freeing, going_on, heard_of, is_too_many, loads, may_be_done, noting_all, poll_event, polled, polling, posted, posting, read_due, read_event, request, stepping, work_step, worked}
use Rattle.law_mailbox.specs.Few.{IsHeldFew}
use Rattle.law_mailbox.specs.Flagged.{has_failed, most_letters}
use Rattle.law_mailbox.specs.Held.{IsHeld, connection_in}
use Rattle.law_mailbox.specs.Kept.{IsKept, dues_of, sight_of, standing}
use Rattle.law_mailbox.proofs.connection.Places.{all_front}
use Rattle.law_mailbox.proofs.connection.Sights.{context_there}
use Rattle.law_mailbox.proofs.flags.Errors.{AreErrorsTrue, GoesTrue, IsTrueOf, goes_itself, load_goes, poll_goes, receive_verb_goes, request_verb_goes, sender_receive_verb_goes}
use Rattle.law_mailbox.proofs.flags.Setting.{FlagsFrom, Reason, ReasonBy, ReasonOf, flags_left, flags_same, flags_then, noting_all_flags, posting_flags}
use Rattle.law_mailbox.proofs.flags.Truth.{ChangesTrue, IsHeldTrue, ReceiverReason, SenderReason, failed_is, then_true}
use Rattle.law_mailbox.proofs.flags.UsedUp.{receiver_used_up, receives_never}
use Rattle.law_mailbox.proofs.queue_room.FewCounted.{AreKnown}
use Rattle.law_mailbox.proofs.queue_room.FewPolls.{to_held}
use Rattle.law_mailbox.proofs.queue_room.FewWorks.{step_few}
use Rattle.law_mailbox.proofs.work.Asking.{Asks, Made, Unmade, asks}
use Rattle.law_mailbox.proofs.work.Copying.{load_verb}
use Rattle.law_mailbox.proofs.work.Doing.{one_of_senders}
use Rattle.law_mailbox.proofs.work.DueSteps.{fetch_key, free_in_range, is_fetched, next_read_of, read_in_range, receive_verb, send_verb}
use Rattle.law_mailbox.proofs.work.Noting.{IsNoted, noted_all}
use Rattle.law_mailbox.proofs.work.Polling.{IsPollAsked, poll_asked}
use Rattle.law_mailbox.proofs.work.Postings.{IsFetchable, fetchable}
use Rattle.law_mailbox.proofs.work.Worked.{context_is, goes_further, no_step, stops_there}

module _ (follow : EventsFollowByName) (peers : ℕ) (small : peers ≤ 8) (ts : List Turn) (m : Mail) (h : IsHeldFew peers ts m) where
  -- ---- a verb, and a posting

  -- the machine that the world stands for after a verb
  record AsksTrue (m' : Mail) : Type 0 where
    machine' : Machine
    stands : Stands m'.world machine'
    goes : GoesTrue peers h.machine machine'

  asks_true : (ev : Event) (v : Verb) → verb_in ev ≡ Some v → ((a : Answer) → turn_steps ev a ≡ []) → IsEventInRange ev → ((given : ℕ) → GoesTrue peers h.machine (after_verb h.machine v given)) → AsksTrue (asking m ev).mail
  unfolding asking
  asks_true ev v is quiet range goes = by (asks follow m.world h.machine ev v is quiet range h.stands)
    where
      by : Asks m.world h.machine ev v → AsksTrue (asking m ev).mail
      by (Unmade u s) = record { machine' = h.machine; stands = s; goes = goes_itself peers h.machine }
      by (Made given a s) = record { machine' = after_verb h.machine v given; stands = s; goes = goes given }

  posting_true : (side : Side) (j : ℕ) (ev : Event) → 1 ≤ j → j ≤ peers → AsksTrue (asking m ev).mail → (is_too_many (asking m ev).answer ≡ true → most_letters ≤ length (sent_letters j ts)) → ChangesTrue peers ts m (posting m side j ev) h.machine
  unfolding posting asking
  posting_true side j ev low high x used = by (has_ended side (channel m j)) (is_too_many (asking m ev).answer) refl refl
    where
      reason : (s : Side) (w : World) → most_letters ≤ length (sent_letters j ts) → Reason peers (ReceiverReason w ts) (SenderReason w ts) s j
      reason AtReceiver w many = inr many
      reason AtSender w many = inr many

      flags : (w : World) → FlagsFrom peers (ReceiverReason w ts) (SenderReason w ts) m (posting m side j ev)
      flags w = posting_flags peers (ReceiverReason w ts) (SenderReason w ts) m h.senders side j ev low high (λ many. reason side w (used many))

      by : (b t : Bool) → has_ended side (channel m j) ≡ b → is_too_many (asking m ev).answer ≡ t → ChangesTrue peers ts m (if b then m else (if t then with_channel (asking m ev).mail j (ending side) else (asking m ev).mail)) h.machine
      by true t e f = record { machine' = h.machine; stands = h.stands; goes = goes_itself peers h.machine; flags = flags_same peers (ReceiverReason m.world ts) (SenderReason m.world ts) m m refl }
      by false true e f =
          record {
            machine' = x.machine';
            stands = x.stands;
            goes = x.goes;
            flags = subst (λ (n : Mail). FlagsFrom peers (ReceiverReason (asking m ev).mail.world ts) (SenderReason (asking m ev).mail.world ts) m n) (is_now e f) (flags (asking m ev).mail.world);
          }
        where
          is_now : has_ended side (channel m j) ≡ false → is_too_many (asking m ev).answer ≡ true → posting m side j ev ≡ with_channel (asking m ev).mail j (ending side)
          is_now a b = ap (λ (z : Bool). if z then m else posted (asking m ev) side j) a ∙ ap (λ (z : Bool). if z then with_channel (asking m ev).mail j (ending side) else (asking m ev).mail) b
      by false false e f = record { machine' = x.machine'; stands = x.stands; goes = x.goes; flags = flags_same peers (ReceiverReason (asking m ev).mail.world ts) (SenderReason (asking m ev).mail.world ts) m (asking m ev).mail refl }

  -- what is due then is not looked at
  goes_on : (m' : Mail) (k : ℕ) (next : Option Due) → ChangesTrue peers ts m m' h.machine → ChangesTrue peers ts m (going_on m' k next) h.machine
  goes_on m' k next c = record { machine' = c.machine'; stands = c.stands; goes = c.goes; flags = record { at_receiver = c.flags.at_receiver; at_sender = c.flags.at_sender; long = c.flags.long } }

  -- ---- a thing that is due

  held : IsHeld peers ts m
  held = to_held peers ts m h

  module _ (k j : ℕ) where
    none_next : All (λ x. connection_in x ≡ j) []
    none_next = All-nil (λ x. connection_in x ≡ j)

    one_next : (x : Due) → connection_in x ≡ j → All (λ y. connection_in y ≡ j) (x ∷ [])
    one_next x e = All-cons (λ y. connection_in y ≡ j) x [] e none_next

    module _ (low : 1 ≤ j) (high : j ≤ peers) where
      number : connection_of (end_of h.machine (receiver_end j)).number ≡ j
      number = (h.all.kept j low high).number

      kept : IsKept j (sight_of h.machine m.owed j) (channel m j) (sent_letters j ts) (placed_letters j ts)
      kept = h.all.kept j low high

      -- a request of the receiver's end is refused so only where many letters were sent
      used : (r : Request) → r.shape.length ≤ 1048576 → is_too_many (asking m (events.PostSend (receiver_end j) r)).answer ≡ true → most_letters ≤ length (sent_letters j ts)
      unfolding asking
      used r short many =
          let there = (h.all.opened j low high).receiver_there in
          receiver_used_up m.world h.machine h.stands (receiver_end j) (context_there h.machine (receiver_end j) there) there j (sent_letters j ts) r short many kept.letters kept.queue

      never : (o : ObjName) (v : _) → is_too_many (asking m (events.PostRecv o v)).answer ≡ true → most_letters ≤ length (sent_letters j ts)
      unfolding asking
      never o v many = absurd (receives_never m.world o v many)

      -- a change of the connection, behind a load
      loads_true : (address size : ℕ) (change : Channel → Channel) → ((c : Channel) → (change c).receiver_ended ≡ c.receiver_ended) → ((c : Channel) → (change c).sender_ended ≡ c.sender_ended) → ChangesTrue peers ts m (with_channel (loads m j address size).mail j change) h.machine
      unfolding asking
      loads_true address size change r s =
          let x = asks_true (events.Load (receiver_region j) address size) (verbs.Load (receiver_region j) address size) (load_verb (receiver_region j) address size) (λ a. refl) tt (load_goes peers h.machine (receiver_region j) address size) in
          let w : World = (loads m j address size).mail.world in
          record {
            machine' = x.machine';
            stands = x.stands;
            goes = x.goes;
            flags = flags_then peers (ReceiverReason w ts) (SenderReason w ts) m (loads m j address size).mail (with_channel (loads m j address size).mail j change) (flags_same peers (ReceiverReason w ts) (SenderReason w ts) m (loads m j address size).mail refl)
                (flags_left peers (ReceiverReason w ts) (SenderReason w ts) (loads m j address size).mail h.senders j low high change r s);
          }

  due_true : (k : ℕ) (d : Due) → slice_get m.owed k ≡ Some d → ChangesTrue peers ts m (doing m k d) h.machine
  unfolding doing
  due_true k (due.CopyMessage j place size) at =
      let bytes : List ℕ = bytes_in (loads m j (place_address j place) size).answer in
      let range : (1 ≤ j) × (j ≤ peers) = one_of_senders peers ts m held k (due.CopyMessage j place size) at None (none_next k j) in
      goes_on (with_channel (loads m j (place_address j place) size).mail j (arriving bytes)) k (Some (due.Repost j place (fetch_of (header_of bytes)))) (loads_true k j range.0 range.1 (place_address j place) size (arriving bytes) (λ c. refl) (λ c. refl))
  due_true k (due.CopyBody j size) at =
      let bytes : List ℕ = bytes_in (loads m j (landing_address j) size).answer in
      let range : (1 ≤ j) × (j ≤ peers) = one_of_senders peers ts m held k (due.CopyBody j size) at None (none_next k j) in
      goes_on (with_channel (loads m j (landing_address j) size).mail j (filling bytes)) k (Some (due.PostFree j)) (loads_true k j range.0 range.1 (landing_address j) size (filling bytes) (λ c. refl) (λ c. refl))
  due_true k (due.Repost j place fetch) at =
      let range : (1 ≤ j) × (j ≤ peers) = one_of_senders peers ts m held k (due.Repost j place fetch) at (read_due j fetch) (next_read_of j place fetch) in
      let x = asks_true (receiver_receives j place) (verbs.PostRecv (receiver_end j) (receiver_receive j place)) (receive_verb (receiver_end j) (receiver_receive j place)) (λ a. refl) tt
      (receive_verb_goes peers small h.machine j range.0 range.1 (h.all.opened j range.0 range.1) (number k j range.0 range.1) (receiver_receive j place)) in
      goes_on (posting m AtReceiver j (receiver_receives j place)) k (read_due j fetch) (posting_true AtReceiver j (receiver_receives j place) range.0 range.1 x (never k j range.0 range.1 (receiver_end j) (receiver_receive j place)))
  due_true k (due.PostRead j f) at =
      let range : (1 ≤ j) × (j ≤ peers) = one_of_senders peers ts m held k (due.PostRead j f) at None (none_next k j) in
      let high = range.1 in
      let key = fetch_key follow peers small ts m held k j f at range in
      let r : Request = request kind.Read (receiver_key j) (landing_address j) f.length slot_address f.rkey in
      let g = is_fetched j m.owed (sight_of h.machine [] j).dues k f at in
      let can : IsFetchable j f = fetchable j (sight_of h.machine m.owed j) (channel m j) (sent_letters j ts) (placed_letters j ts) f g.fetch.front g.fetch.behind g.fetch.with_them (kept k j range.0 range.1) in
      let x = asks_true (read_event j f) (verbs.PostSend (receiver_end j) r) (send_verb (receiver_end j) r) (λ a. refl) (read_in_range follow peers small ts m held k j f (omega (arith, key, high, small)))
      (request_verb_goes peers small h.machine j range.0 range.1 (h.all.opened j range.0 range.1) (number k j range.0 range.1) r) in
      goes_on (posting m AtReceiver j (read_event j f)) k None (posting_true AtReceiver j (read_event j f) range.0 range.1 x (used k j range.0 range.1 r can.fits))
  due_true k (due.PostFree j) at =
      let range : (1 ≤ j) × (j ≤ peers) = one_of_senders peers ts m held k (due.PostFree j) at None (none_next k j) in
      let r : Request = request kind.Send 0 0 0 0 0 in
      let x = asks_true (free_event j) (verbs.PostSend (receiver_end j) r) (send_verb (receiver_end j) r) (λ a. refl) (free_in_range follow peers small ts m held k j)
      (request_verb_goes peers small h.machine j range.0 range.1 (h.all.opened j range.0 range.1) (number k j range.0 range.1) r) in
      goes_on (posting m AtReceiver j (free_event j)) k None (posting_true AtReceiver j (free_event j) range.0 range.1 x (used k j range.0 range.1 r (omega arith)))
  due_true k (due.FreeSlot j place) at =
      let range : (1 ≤ j) × (j ≤ peers) = one_of_senders peers ts m held k (due.FreeSlot j place) at None (none_next k j) in
      goes_on (with_channel m j freeing) k (Some (due.RepostAtSender j place)) (record {
        machine' = h.machine;
        stands = h.stands;
        goes = goes_itself peers h.machine;
        flags = flags_left peers (ReceiverReason m.world ts) (SenderReason m.world ts) m h.senders j range.0 range.1 freeing (λ c. refl) (λ c. refl);
      })
  due_true k (due.RepostAtSender j place) at =
      let range : (1 ≤ j) × (j ≤ peers) = one_of_senders peers ts m held k (due.RepostAtSender j place) at None (none_next k j) in
      let x = asks_true (sender_receives j place) (verbs.PostRecv (sender_end j) (sender_receive place)) (receive_verb (sender_end j) (sender_receive place)) (λ a. refl) tt
      (sender_receive_verb_goes peers small h.machine j range.0 range.1 (h.all.opened j range.0 range.1) (number k j range.0 range.1) (sender_receive place)) in
      goes_on (posting m AtSender j (sender_receives j place)) k None (posting_true AtSender j (sender_receives j place) range.0 range.1 x (never k j range.0 range.1 (sender_end j) (sender_receive place)))

  -- ---- a poll

  -- each error says that its end has ended
  errors_of : (xs : List Completion) → AreKnown peers xs → ((i : ℕ) → 1 ≤ i → i ≤ peers → All (λ x. connection_of x.qp ≡ i → IsTrueOf h.machine (receiver_end i) x) xs) → All (λ x. IsTrueOf h.machine (receiver_end (connection_of x.qp)) x) xs
  errors_of [] known all = All-nil (λ x. IsTrueOf h.machine (receiver_end (connection_of x.qp)) x)
  errors_of (x ∷ xs) known all =
      let range : (1 ≤ connection_of x.qp) × (connection_of x.qp ≤ peers) = All-head (λ y. (1 ≤ connection_of y.qp) × (connection_of y.qp ≤ peers)) x xs known in
      All-cons (λ y. IsTrueOf h.machine (receiver_end (connection_of y.qp)) y) x xs
      (All-head (λ y. connection_of y.qp ≡ connection_of x.qp → IsTrueOf h.machine (receiver_end (connection_of x.qp)) y) x xs (all (connection_of x.qp) range.0 range.1) refl)
      (errors_of xs (All-tail (λ y. (1 ≤ connection_of y.qp) × (connection_of y.qp ≤ peers)) x xs known) (λ i low high. All-tail (λ y. connection_of y.qp ≡ i → IsTrueOf h.machine (receiver_end i) y) x xs (all i low high)))

  module _ (errors : AreErrorsTrue peers h.machine) (n : ℕ) (within : n ≤ peers) where
    xs : List Completion
    xs = entries_in (asking m (poll_event n)).answer

    abbrev m1 : Mail
    m1 = noting_all n (asking m (poll_event n)).mail (entries_in (asking m (poll_event n)).answer)

    p : IsPollAsked m h.machine n
    p = poll_asked follow m h.machine n h.stands

    noted : IsNoted n (asking m (poll_event n)).mail m1 (dues_of n (entries_in (asking m (poll_event n)).answer))
    noted = noted_all n (asking m (poll_event n)).mail (entries_in (asking m (poll_event n)).answer)

    stands_then : Stands m1.world p.machine'
    stands_then = subst (λ (w : World). Stands w p.machine') (sym noted.world) p.stands

    -- an end that has ended is in Error in the world then
    fails_then : (o : ObjName) → Rattle.packetless_machine.specs.Machine.has_end h.machine o ≡ true → (end_of h.machine o).ended ≡ true → has_failed m1.world o ≡ true
    fails_then o there ended =
        sym (failed_is m1.world p.machine' o stands_then (p.polled.changed.ends_there o ∙ there))
        ∙ (ap (λ e. e.ended) (p.polled.changed.ends o) ∙ ended)

    polled_front : (P : Completion → Type 0) → All P (standing h.machine (context_at n)) → All P (entries_in (asking m (poll_event n)).answer)
    polled_front P all = all_front P (entries_in (asking m (poll_event n)).answer) p.polled.behind (subst (All P) p.polled.whole all)

    known : n ≡ 0 → AreKnown peers (entries_in (asking m (poll_event n)).answer)
    known e = polled_front (λ x. (1 ≤ connection_of x.qp) × (connection_of x.qp ≤ peers)) (subst (λ (k : ℕ). AreKnown peers (standing h.machine (context_at k))) (sym e) h.few.known)

    reasons : (k : ℕ) → n ≡ k → All (ReasonOf peers (ReceiverReason m1.world ts) (SenderReason m1.world ts) k) (entries_in (asking m (poll_event n)).answer)
    reasons zero e =
        All-weaker (λ x. ((1 ≤ connection_of x.qp) × (connection_of x.qp ≤ peers)) × IsTrueOf h.machine (receiver_end (connection_of x.qp)) x) (ReasonOf peers (ReceiverReason m1.world ts) (SenderReason m1.world ts) 0)
        (λ x is error. inl (fails_then (receiver_end (connection_of x.qp)) (h.all.opened (connection_of x.qp) is.0.0 is.0.1).receiver_there (is.1 error)))
        (entries_in (asking m (poll_event n)).answer)
        (both_of (entries_in (asking m (poll_event n)).answer) (known e)
        (errors_of (entries_in (asking m (poll_event n)).answer) (known e)
        (λ i low high. polled_front (λ x. connection_of x.qp ≡ i → IsTrueOf h.machine (receiver_end i) x) (subst (λ (k : ℕ). All (λ x. connection_of x.qp ≡ i → IsTrueOf h.machine (receiver_end i) x) (standing h.machine (context_at k))) (sym e) (errors.receivers i low high)))))
      where
        both_of : (ys : List Completion) → AreKnown peers ys → All (λ x. IsTrueOf h.machine (receiver_end (connection_of x.qp)) x) ys → All (λ x. ((1 ≤ connection_of x.qp) × (connection_of x.qp ≤ peers)) × IsTrueOf h.machine (receiver_end (connection_of x.qp)) x) ys
        both_of [] a b = All-nil (λ x. ((1 ≤ connection_of x.qp) × (connection_of x.qp ≤ peers)) × IsTrueOf h.machine (receiver_end (connection_of x.qp)) x)
        both_of (y ∷ ys) a b =
            All-cons (λ x. ((1 ≤ connection_of x.qp) × (connection_of x.qp ≤ peers)) × IsTrueOf h.machine (receiver_end (connection_of x.qp)) x) y ys
            (All-head (λ x. (1 ≤ connection_of x.qp) × (connection_of x.qp ≤ peers)) y ys a, All-head (λ x. IsTrueOf h.machine (receiver_end (connection_of x.qp)) x) y ys b)
            (both_of ys (All-tail (λ x. (1 ≤ connection_of x.qp) × (connection_of x.qp ≤ peers)) y ys a) (All-tail (λ x. IsTrueOf h.machine (receiver_end (connection_of x.qp)) x) y ys b))
    reasons (suc k) e =
        let low : 1 ≤ suc k = omega arith in
        let high : suc k ≤ peers = subst (λ (i : ℕ). i ≤ peers) e within in
        let c : context_at n ≡ sender (suc k) = ap context_at e ∙ context_is (suc k) low in
        All-weaker (IsTrueOf h.machine (sender_end (suc k))) (ReasonOf peers (ReceiverReason m1.world ts) (SenderReason m1.world ts) (suc k))
        (λ x is error.
        subst (λ (b : Bool). ReasonBy peers (ReceiverReason m1.world ts) (SenderReason m1.world ts) b (suc k) x) (sym (ne_eqb (suc k) 0 (λ none. omega (arith, none))))
        (inl (fails_then (sender_end (suc k)) (h.all.opened (suc k) low high).sender_there (is error))))
        (entries_in (asking m (poll_event n)).answer)
        (polled_front (IsTrueOf h.machine (sender_end (suc k))) (subst (λ (d : Name). All (IsTrueOf h.machine (sender_end (suc k))) (standing h.machine d)) (sym c) (errors.senders (suc k) low high)))

    noted_true : ChangesTrue peers ts m m1 h.machine
    unfolding asking
    noted_true = record {
      machine' = p.machine';
      stands = stands_then;
      goes = poll_goes peers h.machine p.machine' (context_at n) (entries_in (asking m (poll_event n)).answer) p.polled;
      flags = flags_then peers (ReceiverReason m1.world ts) (SenderReason m1.world ts) m (asking m (poll_event n)).mail m1 (flags_same peers (ReceiverReason m1.world ts) (SenderReason m1.world ts) m (asking m (poll_event n)).mail refl)
          (noting_all_flags peers (ReceiverReason m1.world ts) (SenderReason m1.world ts) n within (asking m (poll_event n)).mail h.senders (entries_in (asking m (poll_event n)).answer) (reasons n refl) known);
    }

    heard_is : (m2 : Mail) (ys : List Completion) → (heard_of n m2 ys).mail ≡ noting_all n m2 ys
    unfolding noting_all
    heard_is m2 [] = refl
    heard_is m2 (y ∷ ys) = refl

    poll_true : ChangesTrue peers ts m (polled n (asking m (poll_event n))).mail h.machine
    poll_true = subst (λ (x : Mail). ChangesTrue peers ts m x h.machine) (sym (heard_is (asking m (poll_event n)).mail (entries_in (asking m (poll_event n)).answer))) noted_true

-- ---- any steps

module _ (follow : EventsFollowByName) (peers : ℕ) (small : peers ≤ 8) (ts : List Turn) where
  polling_true : (w : Working) (h : IsHeldTrue peers ts w.mail) (v : Working) → polling w ≡ Some v → ChangesTrue peers ts w.mail v.mail h.few.machine
  polling_true w h v e = by (nat_lt (length w.mail.channels) w.next) refl e
    where
      by : (b : Bool) → nat_lt (length w.mail.channels) w.next ≡ b → (if b then None else Some (polled w.next (asking w.mail (poll_event w.next)))) ≡ Some v → ChangesTrue peers ts w.mail v.mail h.few.machine
      by true past f = cc
      by false below f =
          let few = ltb-false (length w.mail.channels) w.next below in
          let long = h.few.senders in
          subst (λ (x : Working). ChangesTrue peers ts w.mail x.mail h.few.machine) (same_Some (polled w.next (asking w.mail (poll_event w.next))) v f)
          (poll_true follow peers small ts w.mail h.few (h.errors h.few.machine h.few.stands) w.next (omega (arith, few, long)))

  doing_true : (w : Working) (h : IsHeldTrue peers ts w.mail) (k : ℕ) → position (may_be_done w.mail.world) w.mail.owed ≡ Some k → ChangesTrue peers ts w.mail (doing_at w k (slice_get w.mail.owed k)).mail h.few.machine
  doing_true w h k first =
      let none : Due = due.PostFree 0 in
      let found = position-Some (may_be_done w.mail.world) w.mail.owed k none first in
      let at : slice_get w.mail.owed k ≡ Some (get_or w.mail.owed k (due.PostFree 0)) = slice_get-get_or w.mail.owed k none found.0 in
      subst (λ (o : Option Due). ChangesTrue peers ts w.mail (doing_at w k o).mail h.few.machine) (sym at) (due_true follow peers small ts w.mail h.few k (get_or w.mail.owed k none) at)

  step_true : (w : Working) → IsHeldTrue peers ts w.mail → (v : Working) → work_step w ≡ Some v → IsHeldTrue peers ts v.mail
  unfolding work_step
  step_true w h v e = then_true peers ts ts w.mail v.mail h (step_few follow peers small ts w h.few v e) (λ i. omega arith) (by (position (may_be_done w.mail.world) w.mail.owed) refl e)
    where
      by : (o : Option ℕ) → position (may_be_done w.mail.world) w.mail.owed ≡ o → stepping w o ≡ Some v → ChangesTrue peers ts w.mail v.mail h.few.machine
      by None none f = polling_true w h v f
      by (Some k) first f = subst (λ (x : Working). ChangesTrue peers ts w.mail x.mail h.few.machine) (same_Some (doing_at w k (slice_get w.mail.owed k)) v f) (doing_true w h k first)

  steps_true : (n : ℕ) (w : Working) → IsHeldTrue peers ts w.mail → IsHeldTrue peers ts (worked n w).mail
  steps_true zero w h = subst (λ (x : Working). IsHeldTrue peers ts x.mail) (sym (no_step follow peers small ts w)) h
  steps_true (suc n) w h = by (λ v. steps_true n v) (work_step w) refl
    where
      by : ((v : Working) → IsHeldTrue peers ts v.mail → IsHeldTrue peers ts (worked n v).mail) → (o : Option Working) → work_step w ≡ o → IsHeldTrue peers ts (worked (suc n) w).mail
      by rest None e = subst (λ (x : Working). IsHeldTrue peers ts x.mail) (sym (stops_there follow peers small ts n w e)) h
      by rest (Some v) e = subst (λ (x : Working). IsHeldTrue peers ts x.mail) (sym (goes_further follow peers small ts n w v e)) (rest v (step_true w h v e))

  pub works_true : (m : Mail) (n : ℕ) → IsHeldTrue peers ts m → IsHeldTrue peers ts (worked n (begun m)).mail
  works_true m n h = steps_true n (begun m) h
