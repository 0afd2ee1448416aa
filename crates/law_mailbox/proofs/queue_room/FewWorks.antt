-- Any number of steps of work keep it that few completions stand in the receiver's queue and few of its places are reserved.
use Rattle.std.proofs.Common.{arith, ◌≡◌, ◌≢◌, ℕ, zero, suc, ◌+◌, ◌*◌, ◌<◌, ◌≤◌, List, [], ◌∷◌, ◌++◌, drop, get_or, length, true, false, Bool, refl, sym, subst, ap, Some, None, Option, ltb-false}
use Rattle.std.specs.Prelude.{All, count_by, if◌then◌else◌, nat_lt, option_to_list, position, slice_get}
use Rattle.std.proofs.lemmas.List.Elements.{All-cons, All-nil}
use Rattle.std.proofs.lemmas.List.Quantifiers.{position-Some}
use Rattle.std.proofs.lemmas.Option.{same_Some, slice_get-get_or}
use Rattle.rdma_types.specs.declared.answers.Answer.{Answer}
use Rattle.rdma_types.specs.declared.requests.Kind.TheVariants as kind
use Rattle.rdma_types.specs.declared.requests.Request.{Request}
use Rattle.rdma_types.specs.declared.verbs.Verb.{Verb}
use Rattle.rdma_types.specs.declared.verbs.Verb.TheVariants as verbs
use Rattle.rdma_types.specs.Memory.{cut}
use Rattle.protocol.specs.declared.events.Event.{Event}
use Rattle.packetless_machine.specs.Machine.{Machine, end_of, used_count}
use Rattle.packetless_machine.specs.Verbs.{after_verb, region_of}
use Rattle.law_simulation.specs.Kept.{verb_in}
use Rattle.law_simulation.specs.Law.{IsEventInRange}
use Rattle.law_simulation.specs.Named.{EventsFollowByName, turn_steps}
use Rattle.law_simulation.specs.Stands.{Stands}
use Rattle.mailbox_rules.specs.declared.due.Due.{Due}
use Rattle.mailbox_rules.specs.declared.due.Due.TheVariants as due
use Rattle.mailbox_rules.specs.declared.due.Fetch.{Fetch}
use Rattle.mailbox_rules.specs.declared.due.Side.{Side}
use Rattle.mailbox_rules.specs.declared.due.Side.TheVariants.{AtReceiver, AtSender}
use Rattle.mailbox_rules.specs.Histories.{Turn, fetched_before, placed_letters, sent_letters}
use Rattle.mailbox_rules.specs.Letters.{header_of}
use Rattle.mailbox_rules.specs.Opening.{connection_of, landing_address, place_address, place_bytes, receiver, receiver_end, receiver_key, receiver_receive, receiver_receives, receiver_region, sender_end, sender_receive, sender_receives, slot_address}
use Rattle.mailbox_rules.specs.State.{Channel, Mail, channel, ending, has_ended, is_away, is_sender, with_channel}
use Rattle.mailbox_rules.specs.Working.{Working, arriving, asking, begun, bytes_in, doing, doing_at, due_next, fetch_of, filling, free_event, freeing, is_too_many, loads, may_be_done, poll_event, polled, polling, posted, posting, read_due, read_event, request, stepping, work_step, worked}
use Rattle.law_mailbox.specs.Few.{AreFew, IsFewOn, IsHeldFew, WorksKeepFew, is_receive_of, is_request_of}
use Rattle.law_mailbox.specs.Held.{IsHeld, connection_in}
use Rattle.law_mailbox.specs.Kept.{HoldMessages, IsKept, copies, copy_in, sight_of, standing}
use Rattle.law_mailbox.specs.Works.{IsCopied, Line}
use Rattle.law_mailbox.proofs.work.Asking.{Asks, Made, Unmade, asks}
use Rattle.law_mailbox.proofs.work.Changing.{IsSameFor, same_itself}
use Rattle.law_mailbox.proofs.work.Channels.{changed_elsewhere, changed_there}
use Rattle.law_mailbox.proofs.work.Copying.{changed_here, copy_none, is_copied, loaded_bytes, loaded_stands, others_stay, owed_stays, place_lies}
use Rattle.law_mailbox.proofs.work.Doing.{one_of_senders}
use Rattle.law_mailbox.proofs.work.DueSteps.{fetch_key, free_in_range, next_read_of, read_in_range, receive_verb, send_verb, sender_there}
use Rattle.law_mailbox.proofs.work.Dues.{none_in_front}
use Rattle.law_mailbox.proofs.queue_room.FewCounted.{AreKnown}
use Rattle.law_mailbox.proofs.queue_room.FewDues.{body_amounts, copy_amounts, fetch_amounts, few_goes, free_amounts, no_amounts, read_amounts, repost_amounts}
use Rattle.law_mailbox.proofs.queue_room.FewMachines.{IsFewMore, ends_alike, none_more, receive_more, request_more, sender_receive_more, stands_alike}
use Rattle.law_mailbox.proofs.queue_room.FewPolls.{poll_held_few, to_held}
use Rattle.law_mailbox.proofs.connection.Flags.{ending_seen}
use Rattle.law_mailbox.proofs.settling.Opened.{were_sent}
use Rattle.law_mailbox.proofs.connection.Tells.{not_true}
use Rattle.law_mailbox.proofs.work.WorkSteps.{copied_counted}
use Rattle.law_mailbox.proofs.work.Worked.{goes_further, no_step, step_held, stops_there}

-- ---- a posting

-- what a posting leaves: so many receives and requests more of connection j at most, and of the connections flags at most
pub record IsPostedFew (peers : ℕ) (m m' : Mail) (machine : Machine) (j receives requests : ℕ) : Type 0 where
  pub machine' : Machine
  pub stands : Stands m'.world machine'
  pub more : IsFewMore peers j machine machine' receives requests
  pub owed : m'.owed ≡ m.owed
  pub same : (q : ℕ) → IsSameFor (channel m q) (channel m' q)

module _ (follow : EventsFollowByName) (peers : ℕ) (m : Mail) (machine : Machine) (side : Side) (j : ℕ) (ev : Event) (v : Verb) (receives requests : ℕ)
    (is : verb_in ev ≡ Some v) (quiet : (a : Answer) → turn_steps ev a ≡ []) (range : IsEventInRange ev) (stands : Stands m.world machine) (more : (given : ℕ) → IsFewMore peers j machine (after_verb machine v given) receives requests) where
  after_asking : Asks m.world machine ev v → (b : Bool) → IsPostedFew peers m (if b then with_channel (asking m ev).mail j (ending side) else (asking m ev).mail) machine j receives requests
  unfolding asking
  after_asking (Unmade u x) true = record { machine' = machine; stands = x; more = none_more peers j machine receives requests; owed = refl; same = ending_seen (asking m ev).mail side j }
  after_asking (Unmade u x) false = record { machine' = machine; stands = x; more = none_more peers j machine receives requests; owed = refl; same = λ q. same_itself (channel m q) }
  after_asking (Made given a x) true = record { machine' = after_verb machine v given; stands = x; more = more given; owed = refl; same = ending_seen (asking m ev).mail side j }
  after_asking (Made given a x) false = record { machine' = after_verb machine v given; stands = x; more = more given; owed = refl; same = λ q. same_itself (channel m q) }

  pub posting_few : IsPostedFew peers m (posting m side j ev) machine j receives requests
  unfolding posting
  posting_few = by (has_ended side (channel m j))
    where
      by : (b : Bool) → IsPostedFew peers m (if b then m else posted (asking m ev) side j) machine j receives requests
      by true = record { machine' = machine; stands = stands; more = none_more peers j machine receives requests; owed = refl; same = λ q. same_itself (channel m q) }
      by false = after_asking (asks follow m.world machine ev v is quiet range stands) (is_too_many (asking m ev).answer)

-- ---- each thing that is due

-- the world stands for a machine where few are
pub record IsFewSome (peers : ℕ) (ts : List Turn) (m : Mail) : Type 0 where
  pub machine : Machine
  pub stands : Stands m.world machine
  pub few : AreFew peers ts m machine

module _ (follow : EventsFollowByName) (peers : ℕ) (small : peers ≤ 8) (ts : List Turn) (m : Mail) (h : IsHeldFew peers ts m) (k j : ℕ) where
  abbrev held : IsHeld peers ts m
  held = to_held peers ts m h

  number : (low : 1 ≤ j) (high : j ≤ peers) → connection_of (end_of h.machine (receiver_end j)).number ≡ j
  number low high = (h.all.kept j low high).number

  none_next : All (λ x. connection_in x ≡ j) []
  none_next = All-nil (λ x. connection_in x ≡ j)

  one_next : (x : Due) → connection_in x ≡ j → All (λ y. connection_in y ≡ j) (x ∷ [])
  one_next x e = All-cons (λ y. connection_in y ≡ j) x [] e none_next

  reposts_few : (place : ℕ) (fetch : Option Fetch) → slice_get m.owed k ≡ Some (due.Repost j place fetch) → IsFewSome peers ts (doing m k (due.Repost j place fetch))
  unfolding doing
  reposts_few place fetch at =
      let of_it = next_read_of j place fetch in
      let range : (1 ≤ j) × (j ≤ peers) = one_of_senders peers ts m held k (due.Repost j place fetch) at (read_due j fetch) of_it in
      let x = posting_few follow peers m h.machine AtReceiver j (receiver_receives j place) (verbs.PostRecv (receiver_end j) (receiver_receive j place)) 1 0
      (receive_verb (receiver_end j) (receiver_receive j place)) (λ a. refl) tt h.stands (receive_more peers small h.machine j range.0 range.1 (h.all.opened j range.0 range.1) (number range.0 range.1) (receiver_receive j place)) in
      record {
        machine = x.machine';
        stands = x.stands;
        few = few_goes peers ts m h.machine h.few k (due.Repost j place fetch) at (read_due j fetch) of_it (posting m AtReceiver j (receiver_receives j place)) x.machine' 1 0 x.more x.owed (λ q low apart. (x.same q).receives) (λ q low apart. (x.same q).reads)
            (record no_amounts { reposted = 1; fetched = length (option_to_list fetch) }) (record no_amounts { fetched = length (option_to_list fetch) }) (repost_amounts j place fetch) (read_amounts j fetch) (channel m j) (x.same j).receives (x.same j).reads
            (omega arith) (omega arith);
      }

  fetches_few : (f : Fetch) → slice_get m.owed k ≡ Some (due.PostRead j f) → IsFewSome peers ts (doing m k (due.PostRead j f))
  unfolding doing
  fetches_few f at =
      let range : (1 ≤ j) × (j ≤ peers) = one_of_senders peers ts m held k (due.PostRead j f) at None none_next in
      let high = range.1 in
      let key = fetch_key follow peers small ts m held k j f at range in
      let r : Request = request kind.Read (receiver_key j) (landing_address j) f.length slot_address f.rkey in
      let x = posting_few follow peers m h.machine AtReceiver j (read_event j f) (verbs.PostSend (receiver_end j) r) 0 1
      (send_verb (receiver_end j) r) (λ a. refl) (read_in_range follow peers small ts m held k j f (omega (arith, key, high, small))) h.stands (request_more peers small h.machine j range.0 range.1 (h.all.opened j range.0 range.1) (number range.0 range.1) r) in
      record {
        machine = x.machine';
        stands = x.stands;
        few = few_goes peers ts m h.machine h.few k (due.PostRead j f) at None none_next (posting m AtReceiver j (read_event j f)) x.machine' 0 1 x.more x.owed (λ q low apart. (x.same q).receives) (λ q low apart. (x.same q).reads)
            (record no_amounts { fetched = 1 }) no_amounts (fetch_amounts j f) refl (channel m j) (x.same j).receives (x.same j).reads (omega arith) (omega arith);
      }

  frees_few : slice_get m.owed k ≡ Some (due.PostFree j) → IsFewSome peers ts (doing m k (due.PostFree j))
  unfolding doing
  frees_few at =
      let range : (1 ≤ j) × (j ≤ peers) = one_of_senders peers ts m held k (due.PostFree j) at None none_next in
      let r : Request = request kind.Send 0 0 0 0 0 in
      let x = posting_few follow peers m h.machine AtReceiver j (free_event j) (verbs.PostSend (receiver_end j) r) 0 1
      (send_verb (receiver_end j) r) (λ a. refl) (free_in_range follow peers small ts m held k j) h.stands (request_more peers small h.machine j range.0 range.1 (h.all.opened j range.0 range.1) (number range.0 range.1) r) in
      record {
        machine = x.machine';
        stands = x.stands;
        few = few_goes peers ts m h.machine h.few k (due.PostFree j) at None none_next (posting m AtReceiver j (free_event j)) x.machine' 0 1 x.more x.owed (λ q low apart. (x.same q).receives) (λ q low apart. (x.same q).reads)
            (record no_amounts { freed = 1 }) no_amounts (free_amounts j) refl (channel m j) (x.same j).receives (x.same j).reads (omega arith) (omega arith);
      }

  sender_reposts_few : (place : ℕ) → slice_get m.owed k ≡ Some (due.RepostAtSender j place) → IsFewSome peers ts (doing m k (due.RepostAtSender j place))
  unfolding doing
  sender_reposts_few place at =
      let range : (1 ≤ j) × (j ≤ peers) = one_of_senders peers ts m held k (due.RepostAtSender j place) at None none_next in
      let x = posting_few follow peers m h.machine AtSender j (sender_receives j place) (verbs.PostRecv (sender_end j) (sender_receive place)) 0 0
      (receive_verb (sender_end j) (sender_receive place)) (λ a. refl) tt h.stands (sender_receive_more peers small h.machine j range.0 range.1 (h.all.opened j range.0 range.1) (sender_receive place)) in
      record {
        machine = x.machine';
        stands = x.stands;
        few = few_goes peers ts m h.machine h.few k (due.RepostAtSender j place) at None none_next (posting m AtSender j (sender_receives j place)) x.machine' 0 0 x.more x.owed (λ q low apart. (x.same q).receives) (λ q low apart. (x.same q).reads)
            no_amounts no_amounts refl refl (channel m j) (x.same j).receives (x.same j).reads (omega arith) (omega arith);
      }

  slots_few : (place : ℕ) → slice_get m.owed k ≡ Some (due.FreeSlot j place) → IsFewSome peers ts (doing m k (due.FreeSlot j place))
  unfolding doing
  slots_few place at =
      let next : Option Due = Some (due.RepostAtSender j place) in
      let of_it : All (λ y. connection_in y ≡ j) (due.RepostAtSender j place ∷ []) = one_next (due.RepostAtSender j place) refl in
      let range : (1 ≤ j) × (j ≤ peers) = one_of_senders peers ts m held k (due.FreeSlot j place) at (Some (due.RepostAtSender j place)) of_it in
      let there : is_sender m j ≡ true = sender_there m peers j h.senders range.0 range.1 in
      let other : (q : ℕ) → 1 ≤ q → q ≢ j → channel (with_channel m j freeing) q ≡ channel m q = λ q low apart. changed_elsewhere m j there freeing q low (λ e. apart (sym e)) in
      let here : channel (with_channel m j freeing) j ≡ freeing (channel m j) = changed_there m j there freeing in
      record {
        machine = h.machine;
        stands = h.stands;
        few = few_goes peers ts m h.machine h.few k (due.FreeSlot j place) at (Some (due.RepostAtSender j place)) of_it (with_channel m j freeing) h.machine 0 0 (none_more peers j h.machine 0 0) refl
            (λ q low apart. ap (λ (c : Channel). c.receives) (other q low apart)) (λ q low apart. ap (λ (c : Channel). c.reads) (other q low apart))
            no_amounts no_amounts refl refl (freeing (channel m j)) (ap (λ (c : Channel). c.receives) here) (ap (λ (c : Channel). c.reads) here) (omega arith) (omega arith);
      }

  module _ (home : is_away m.world 0 ≡ false) where
    bodies_few : (size : ℕ) → slice_get m.owed k ≡ Some (due.CopyBody j size) → IsFewSome peers ts (doing m k (due.CopyBody j size))
    unfolding doing
    bodies_few size at =
        let bytes : List ℕ = bytes_in (loads m j (landing_address j) size).answer in
        let of_it : All (λ y. connection_in y ≡ j) (due.PostFree j ∷ []) = one_next (due.PostFree j) refl in
        let range : (1 ≤ j) × (j ≤ peers) = one_of_senders peers ts m held k (due.CopyBody j size) at (Some (due.PostFree j)) of_it in
        let there : is_sender m j ≡ true = sender_there m peers j h.senders range.0 range.1 in
        let here : channel (with_channel (loads m j (landing_address j) size).mail j (filling bytes)) j ≡ filling bytes (channel m j) = changed_here follow peers small ts m held home k j (landing_address j) size there (filling bytes) in
        let other : (q : ℕ) → 1 ≤ q → q ≢ j → IsSameFor (channel m q) (channel (with_channel (loads m j (landing_address j) size).mail j (filling (bytes_in (loads m j (landing_address j) size).answer))) q) = others_stay follow peers small ts m held home k j (landing_address j) size there (filling bytes) in
        record {
          machine = h.machine;
          stands = loaded_stands follow peers small ts m held home k j (landing_address j) size;
          few = few_goes peers ts m h.machine h.few k (due.CopyBody j size) at (Some (due.PostFree j)) of_it (with_channel (loads m j (landing_address j) size).mail j (filling bytes)) h.machine 0 0 (none_more peers j h.machine 0 0)
              (owed_stays follow peers small ts m held home k j (landing_address j) size there (filling bytes)) (λ q low apart. (other q low apart).receives) (λ q low apart. (other q low apart).reads)
              (record no_amounts { bodied = 1 }) (record no_amounts { freed = 1 }) (body_amounts j size) (free_amounts j) (filling bytes (channel m j)) (ap (λ (c : Channel). c.receives) here) (ap (λ (c : Channel). c.reads) here) (omega arith) (omega arith);
        }

    copies_few : (place size : ℕ) → slice_get m.owed k ≡ Some (due.CopyMessage j place size) → ((i : ℕ) → i < k → may_be_done m.world (get_or m.owed i (due.CopyMessage j place size)) ≡ false) →
        IsFewSome peers ts (doing m k (due.CopyMessage j place size))
    unfolding doing
    copies_few place size at before =
        let d : Due = due.CopyMessage j place size in
        let rest : List Due = (sight_of h.machine [] j).dues in
        let bytes : List ℕ = bytes_in (loads m j (place_address j place) size).answer in
        let fetch : Option Fetch = fetch_of (header_of bytes) in
        let next : Option Due = Some (due.Repost j place fetch) in
        let of_it : All (λ y. connection_in y ≡ j) (due.Repost j place fetch ∷ []) = one_next (due.Repost j place fetch) refl in
        let range : (1 ≤ j) × (j ≤ peers) = one_of_senders peers ts m held k d at next of_it in
        let high = range.1 in
        let kept : IsKept j (sight_of h.machine m.owed j) (channel m j) (sent_letters j ts) (placed_letters j ts) = h.all.kept j range.0 range.1 in
        let there : is_sender m j ≡ true = sender_there m peers j h.senders range.0 range.1 in
        let g : IsCopied j (m.owed ++ rest) (due_next m.owed k next ++ rest) place size (option_to_list fetch) =
        is_copied j m.owed rest k place size fetch at (none_in_front (may_be_done m.world) (copy_in j) (copy_none j m.world home) m.owed k d before) in
        let lies : place_bytes * place + size ≤ length (region_of h.machine (receiver_region j)).bytes =
        place_lies j (region_of h.machine (receiver_region j)).bytes place size (copies j (due_next m.owed k next ++ rest)) (drop (channel m j).receives (sent_letters j ts))
        (subst (λ (xs : List (ℕ × ℕ)). HoldMessages j (region_of h.machine (receiver_region j)).bytes xs (drop (channel m j).receives (sent_letters j ts))) g.first kept.messages.places_hold) in
        let is : bytes ≡ cut (place_bytes * place) size (region_of h.machine (receiver_region j)).bytes =
        loaded_bytes follow peers small ts m held home k j (place_address j place) (place_bytes * place) size (h.all.opened j range.0 range.1) (omega arith) lies in
        let line : Line = record { sight = sight_of h.machine m.owed j; channel = channel m j; sent = sent_letters j ts; open' = placed_letters j ts } in
        let long : fetched_before ((channel m j).receives + 1) (sent_letters j ts) ≡ fetched_before (channel m j).receives (sent_letters j ts) + length (option_to_list fetch) =
        copied_counted j line place size bytes (due_next m.owed k next ++ rest) (omega (arith, high, small)) (were_sent j ts) is g kept in
        let here : channel (with_channel (loads m j (place_address j place) size).mail j (arriving bytes)) j ≡ arriving bytes (channel m j) = changed_here follow peers small ts m held home k j (place_address j place) size there (arriving bytes) in
        let other : (q : ℕ) → 1 ≤ q → q ≢ j → IsSameFor (channel m q) (channel (with_channel (loads m j (place_address j place) size).mail j (arriving (bytes_in (loads m j (place_address j place) size).answer))) q) = others_stay follow peers small ts m held home k j (place_address j place) size there (arriving bytes) in
        record {
          machine = h.machine;
          stands = loaded_stands follow peers small ts m held home k j (place_address j place) size;
          few = few_goes peers ts m h.machine h.few k d at next of_it (with_channel (loads m j (place_address j place) size).mail j (arriving bytes)) h.machine 0 0 (none_more peers j h.machine 0 0)
              (owed_stays follow peers small ts m held home k j (place_address j place) size there (arriving bytes)) (λ q low apart. (other q low apart).receives) (λ q low apart. (other q low apart).reads)
              (record no_amounts { copied = 1 }) (record no_amounts { reposted = 1; fetched = length (option_to_list fetch) }) (copy_amounts j place size) (repost_amounts j place fetch) (arriving bytes (channel m j))
              (ap (λ (c : Channel). c.receives) here) (ap (λ (c : Channel). c.reads) here) (omega arith) (omega (arith, long));
        }

module _ (follow : EventsFollowByName) (peers : ℕ) (small : peers ≤ 8) (ts : List Turn) where
  due_few : (m : Mail) → IsHeldFew peers ts m → (k : ℕ) (d : Due) → slice_get m.owed k ≡ Some d → may_be_done m.world d ≡ true → ((i : ℕ) → i < k → may_be_done m.world (get_or m.owed i d) ≡ false) → IsFewSome peers ts (doing m k d)
  due_few m h k (due.CopyMessage j place size) at may before = copies_few follow peers small ts m h k j (not_true _ may) place size at before
  due_few m h k (due.Repost j place fetch) at may before = reposts_few follow peers small ts m h k j place fetch at
  due_few m h k (due.PostRead j f) at may before = fetches_few follow peers small ts m h k j f at
  due_few m h k (due.CopyBody j size) at may before = bodies_few follow peers small ts m h k j (not_true _ may) size at
  due_few m h k (due.PostFree j) at may before = frees_few follow peers small ts m h k j at
  due_few m h k (due.FreeSlot j place) at may before = slots_few follow peers small ts m h k j place at
  due_few m h k (due.RepostAtSender j place) at may before = sender_reposts_few follow peers small ts m h k j place at

  -- ---- one step

  -- few are in each machine that the world stands for
  both_held : (m : Mail) → IsHeld peers ts m → IsFewSome peers ts m → IsHeldFew peers ts m
  both_held m h s = record {
    machine = h.machine;
    stands = h.stands;
    senders = h.senders;
    all = h.all;
    few = record { each = each; known = subst (AreKnown peers) stood s.few.known };
  }
    where
      stood : standing s.machine receiver ≡ standing h.machine receiver
      stood = stands_alike m.world h.machine s.machine h.stands s.stands receiver

      each : (i : ℕ) → 1 ≤ i → i ≤ peers → IsFewOn i (end_of h.machine (receiver_end i)) (standing h.machine receiver) m.owed (channel m i) (sent_letters i ts)
      each i low high =
          let few : IsFewOn i (end_of s.machine (receiver_end i)) (standing s.machine receiver) m.owed (channel m i) (sent_letters i ts) = s.few.each i low high in
          let receives = few.receives in
          let requests = few.requests in
          let a = ends_alike m.world h.machine s.machine h.stands s.stands (receiver_end i) (h.all.opened i low high).receiver_there in
          let untold_same = a.untold_same in
          let used_same : used_count (end_of s.machine (receiver_end i)).in_use + length (end_of s.machine (receiver_end i)).unused ≡ used_count (end_of h.machine (receiver_end i)).in_use + length (end_of h.machine (receiver_end i)).unused =
          λ k. used_count (a.in_use_same k) + length (a.unused_same k) in
          let receives_stood : count_by (is_receive_of i) (standing s.machine receiver) ≡ count_by (is_receive_of i) (standing h.machine receiver) = ap (count_by (is_receive_of i)) stood in
          let requests_stood : count_by (is_request_of i) (standing s.machine receiver) ≡ count_by (is_request_of i) (standing h.machine receiver) = ap (count_by (is_request_of i)) stood in
          record { receives = omega (arith, receives, used_same, receives_stood); requests = omega (arith, requests, untold_same, requests_stood) }

  some_few : (w : Working) → IsHeldFew peers ts w.mail → (k : ℕ) → position (may_be_done w.mail.world) w.mail.owed ≡ Some k → IsFewSome peers ts (doing_at w k (slice_get w.mail.owed k)).mail
  some_few w h k first =
      let none : Due = due.PostFree 0 in
      let found = position-Some (may_be_done w.mail.world) w.mail.owed k none first in
      let d : Due = get_or w.mail.owed k none in
      let at : slice_get w.mail.owed k ≡ Some (get_or w.mail.owed k (due.PostFree 0)) = slice_get-get_or w.mail.owed k none found.0 in
      let before = (position-Some (may_be_done w.mail.world) w.mail.owed k d first).2 in
      subst (λ (o : Option Due). IsFewSome peers ts (doing_at w k o).mail) (sym at) (due_few w.mail h k d at found.1 before)

  poll_few : (w : Working) → IsHeldFew peers ts w.mail → (v : Working) → polling w ≡ Some v → IsHeldFew peers ts v.mail
  poll_few w h v e = by (nat_lt (length w.mail.channels) w.next) refl e
    where
      by : (b : Bool) → nat_lt (length w.mail.channels) w.next ≡ b → (if b then None else Some (polled w.next (asking w.mail (poll_event w.next)))) ≡ Some v → IsHeldFew peers ts v.mail
      by true past f = cc
      by false below f =
          let few = ltb-false (length w.mail.channels) w.next below in
          let long = h.senders in
          subst (λ (x : Working). IsHeldFew peers ts x.mail) (same_Some (polled w.next (asking w.mail (poll_event w.next))) v f) (poll_held_few follow peers small ts w.mail h w.next (omega (arith, few, long)))

  pub step_few : (w : Working) → IsHeldFew peers ts w.mail → (v : Working) → work_step w ≡ Some v → IsHeldFew peers ts v.mail
  unfolding work_step
  step_few w h v e = by (position (may_be_done w.mail.world) w.mail.owed) refl e
    where
      by : (o : Option ℕ) → position (may_be_done w.mail.world) w.mail.owed ≡ o → stepping w o ≡ Some v → IsHeldFew peers ts v.mail
      by None none f = poll_few w h v f
      by (Some k) first f =
          both_held v.mail (step_held follow peers small ts w (to_held peers ts w.mail h) v e) (subst (λ (x : Working). IsFewSome peers ts x.mail) (same_Some (doing_at w k (slice_get w.mail.owed k)) v f) (some_few w h k first))

  -- ---- any number of steps

  steps_few : (n : ℕ) (w : Working) → IsHeldFew peers ts w.mail → IsHeldFew peers ts (worked n w).mail
  steps_few zero w h = subst (λ (x : Working). IsHeldFew peers ts x.mail) (sym (no_step follow peers small ts w)) h
  steps_few (suc n) w h = by (λ v. steps_few n v) (work_step w) refl
    where
      by : ((v : Working) → IsHeldFew peers ts v.mail → IsHeldFew peers ts (worked n v).mail) → (o : Option Working) → work_step w ≡ o → IsHeldFew peers ts (worked (suc n) w).mail
      by rest None e = subst (λ (x : Working). IsHeldFew peers ts x.mail) (sym (stops_there follow peers small ts n w e)) h
      by rest (Some v) e = subst (λ (x : Working). IsHeldFew peers ts x.mail) (sym (goes_further follow peers small ts n w v e)) (rest v (step_few w h v e))

pub works_few : EventsFollowByName → WorksKeepFew
works_few follow peers small ts m n h = steps_few follow peers small ts n (begun m) h
