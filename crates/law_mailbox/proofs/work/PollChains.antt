-- A poll, and any number of steps of work, are seen of each connection as steps of work.
use Rattle.std.proofs.Common.{arith, ◌≡◌, ℕ, zero, suc, ◌-◌, ◌≤◌, List, [], ◌∷◌, ◌++◌, get_or, length, true, false, Bool, refl, sym, subst, ap, ◌∙◌, Some, None, Option, ltb-false}
use Rattle.std.specs.Prelude.{if◌then◌else◌, nat_lt, position, slice_get, slice_set, ◌==◌}
use Rattle.std.proofs.lemmas.List.Quantifiers.{position-Some}
use Rattle.std.proofs.lemmas.Option.{none-some, same_Some, slice_get-get_or}
use Rattle.rdma_types.specs.declared.requests.Completion.{Completion}
use Rattle.protocol.specs.State.{World}
use Rattle.packetless_machine.specs.Machine.{End, Machine}
use Rattle.law_simulation.specs.Named.{EventsFollowByName}
use Rattle.law_simulation.specs.Stands.{Stands}
use Rattle.mailbox_rules.specs.declared.due.Due.{Due}
use Rattle.mailbox_rules.specs.declared.due.Due.TheVariants as due
use Rattle.mailbox_rules.specs.declared.due.Side.{Side}
use Rattle.mailbox_rules.specs.declared.due.Side.TheVariants.{AtReceiver, AtSender}
use Rattle.mailbox_rules.specs.Histories.{Turn, placed_letters, sent_letters}
use Rattle.mailbox_rules.specs.Opening.{connection_of, receiver, receiver_end, receiver_region, sender, sender_end, sender_region}
use Rattle.mailbox_rules.specs.State.{Channel, Mail, channel, context_at, ending, or_fresh, with_channel, with_there}
use Rattle.mailbox_rules.specs.Working.{Working, asking, begun, doing_at, due_of, entries_in, failing, is_success, may_be_done, noting, noting_all, owing, poll_event, polled, polling, stepping, work_step, worked}
use Rattle.law_mailbox.specs.Held.{AreOfSenders}
use Rattle.law_mailbox.specs.Finished.{HasRoomToPost, IsHeldIn, IsWorkSeen, WorksAreSeen, line_of}
use Rattle.law_mailbox.specs.Kept.{dues_of, pending, sight_of, standing}
use Rattle.law_mailbox.specs.Settled.{Flags, IsWorkedOn, Rests, Turns, Worked, Works}
use Rattle.law_mailbox.specs.Works.{Line}
use Rattle.law_mailbox.proofs.settling.Ahead.{works_go_ahead}
use Rattle.law_mailbox.proofs.work.Chains.{to_work, works_then}
use Rattle.law_mailbox.proofs.work.DueChains.{dues_seen}
use Rattle.law_mailbox.proofs.work.Noting.{IsNoted, IsPollNoted, noted_all, poll_noted}
use Rattle.law_mailbox.proofs.settling.Opened.{were_sent}
use Rattle.law_mailbox.proofs.work.Polling.{IsPollAsked, opened_polled, poll_asked}
use Rattle.law_mailbox.proofs.connection.Sights.{region_same}
use Rattle.law_mailbox.proofs.work.Worked.{AreDuesKept, dues_kept, goes_further, heard_is, no_step, stops_there}

-- ---- flags are set, and none is taken back

record IsFlagged (c c' : Channel) : Type 0 where
  at_receiver : c'.receiver_ended ≡ false → c.receiver_ended ≡ false
  at_sender : c'.sender_ended ≡ false → c.sender_ended ≡ false

flagged_itself : (c : Channel) → IsFlagged c c
flagged_itself c = record { at_receiver = λ e. e; at_sender = λ e. e }

flagged_ending : (side : Side) (c : Channel) → IsFlagged c (ending side c)
flagged_ending AtReceiver c = record { at_receiver = λ e. cc; at_sender = λ e. e }
flagged_ending AtSender c = record { at_receiver = λ e. e; at_sender = λ e. cc }

flagged_set : (side : Side) (cs : List Channel) (k q : ℕ) (c : Channel) → slice_get cs k ≡ Some c → IsFlagged (or_fresh (slice_get cs q)) (or_fresh (slice_get (slice_set cs k (ending side c)) q))
flagged_set side [] k q c h = absurd (none-some c h)
flagged_set side (x ∷ xs) zero zero c h = subst (λ (y : Channel). IsFlagged x (ending side y)) (same_Some x c h) (flagged_ending side x)
flagged_set side (x ∷ xs) zero (suc q) c h = flagged_itself (or_fresh (slice_get xs q))
flagged_set side (x ∷ xs) (suc k) zero c h = flagged_itself x
flagged_set side (x ∷ xs) (suc k) (suc q) c h = flagged_set side xs k q c h

flagged_there : (m : Mail) (side : Side) (i q : ℕ) → IsFlagged (channel m q) (channel (with_channel m i (ending side)) q)
flagged_there m side i q = by (slice_get m.channels (i - 1)) refl
  where
    by : (o : Option Channel) → slice_get m.channels (i - 1) ≡ o → IsFlagged (or_fresh (slice_get m.channels (q - 1))) (or_fresh (slice_get (with_there o m.channels i (ending side)) (q - 1)))
    by None e = flagged_itself (or_fresh (slice_get m.channels (q - 1)))
    by (Some c) e = flagged_set side m.channels (i - 1) (q - 1) c e

flagged_owing : (m : Mail) (o : Option Due) (q : ℕ) → IsFlagged (channel m q) (channel (owing m o) q)
flagged_owing m None q = flagged_itself (channel m q)
flagged_owing m (Some d) q = flagged_itself (channel m q)

flagged_failing : (n : ℕ) (m : Mail) (x : Completion) (q : ℕ) → IsFlagged (channel m q) (channel (failing n x m) q)
flagged_failing n m x q = by (n == 0)
  where
    by : (b : Bool) → IsFlagged (channel m q) (channel (if b then with_channel m (connection_of x.qp) (ending AtReceiver) else with_channel m n (ending AtSender)) q)
    by true = flagged_there m AtReceiver (connection_of x.qp) q
    by false = flagged_there m AtSender n q

flagged_one : (n : ℕ) (m : Mail) (x : Completion) (q : ℕ) → IsFlagged (channel m q) (channel (noting n m x) q)
flagged_one n m x q = by (is_success x.status)
  where
    by : (b : Bool) → IsFlagged (channel m q) (channel (if b then owing m (due_of n x) else failing n x m) q)
    by true = flagged_owing m (due_of n x) q
    by false = flagged_failing n m x q

flagged_all : (n : ℕ) (m : Mail) (xs : List Completion) (q : ℕ) → IsFlagged (channel m q) (channel (noting_all n m xs) q)
unfolding noting_all
flagged_all n m [] q = flagged_itself (channel m q)
flagged_all n m (x ∷ xs) q =
    let one = flagged_one n m x q in
    let more = flagged_all n (noting n m x) xs q in
    record { at_receiver = λ e. one.at_receiver (more.at_receiver e); at_sender = λ e. one.at_sender (more.at_sender e) }

-- ---- a poll

module _ (follow : EventsFollowByName) (peers : ℕ) (small : peers ≤ 8) (ts : List Turn) (m : Mail) (machine : Machine) (h : IsHeldIn peers ts m machine) (n : ℕ) (within : n ≤ peers) where
  abbrev xs : List Completion
  xs = entries_in (asking m (poll_event n)).answer

  abbrev m1 : Mail
  m1 = noting_all n (asking m (poll_event n)).mail (entries_in (asking m (poll_event n)).answer)

  p : IsPollAsked m machine n
  p = poll_asked follow m machine n h.stands

  noted : IsNoted n (asking m (poll_event n)).mail m1 (dues_of n xs)
  noted = noted_all n (asking m (poll_event n)).mail xs

  left : IsPollNoted m m1 (dues_of n xs)
  left = poll_noted m n

  flagged_is : (q : ℕ) → IsFlagged (channel m q) (channel m1 q)
  unfolding asking
  flagged_is q = flagged_all n (asking m (poll_event n)).mail xs q

  dues : AreDuesKept peers machine p.machine' m.owed xs n
  dues = dues_kept peers small machine p.machine' m.owed xs n within p.polled

  each_works : (i : ℕ) → i ≤ peers → Works i (line_of machine m ts i) (line_of p.machine' m1 ts i)
  each_works i high =
      let g = p.polled.changed in
      let c : Channel = channel m i in
      let c1 : Channel = channel m1 i in
      let same = left.same i in
      let flagged = flagged_is i in
      let due_is : pending i (m1.owed ++ (sight_of p.machine' [] i).dues) ≡ pending i (m.owed ++ (sight_of machine [] i).dues) =
      ap (λ (ds : List Due). pending i (ds ++ (sight_of p.machine' [] i).dues)) left.owed ∙ dues.due i high in
      let set : Works i (line_of machine m ts i) (record (line_of machine m ts i) { channel = record (channel m i) { receiver_ended = (channel m1 i).receiver_ended; sender_ended = (channel m1 i).sender_ended } }) =
      Worked Rests (Flags c1.receiver_ended c1.sender_ended flagged.at_receiver flagged.at_sender) in
      let turned : Works i (line_of machine m ts i) (record (line_of machine m ts i) {
        sight = record (sight_of machine m.owed i) { dues = m1.owed ++ (sight_of p.machine' [] i).dues };
        channel = record (channel m i) { receiver_ended = (channel m1 i).receiver_ended; sender_ended = (channel m1 i).sender_ended };
      }) =
      Worked set (Turns (m1.owed ++ (sight_of p.machine' [] i).dues) due_is) in
      let seen : record (line_of machine m ts i) {
        sight = record (sight_of machine m.owed i) { dues = m1.owed ++ (sight_of p.machine' [] i).dues };
        channel = record (channel m i) { receiver_ended = (channel m1 i).receiver_ended; sender_ended = (channel m1 i).sender_ended };
      } ≡ line_of p.machine' m1 ts i =
      (λ t. record {
        sight = record {
          sender = sym (g.ends (sender_end i)) t;
          receiver = sym (g.ends (receiver_end i)) t;
          stored = (sym (region_same machine p.machine' (sender_region i) (g.regions (sender i))) t).bytes;
          landed = (sym (region_same machine p.machine' (receiver_region i) (g.regions receiver)) t).bytes;
          dues = m1.owed ++ (sight_of p.machine' [] i).dues;
        };
        channel = record (channel m1 i) { arrived = sym same.arrived t; receives = sym same.receives t; reads = sym same.reads t; slot_in_use = sym same.slot_in_use t };
        sent = sent_letters i ts;
        open' = placed_letters i ts;
      }) in
      subst (λ (x : Line). Works i (line_of machine m ts i) x) seen turned

  poll_seen : IsWorkSeen peers ts m (polled n (asking m (poll_event n))).mail machine
  poll_seen = subst (λ (m2 : Mail). IsWorkSeen peers ts m m2 machine) (sym (heard_is follow peers small ts m (to_work peers ts m machine h) n within (asking m (poll_event n)).mail xs)) (record {
    machine' = p.machine';
    stands = subst (λ (w : World). Stands w p.machine') (sym noted.world) p.stands;
    senders = left.long;
    opened = λ i low high. opened_polled machine p.machine' (context_at n) p.polled.behind p.polled.changed i (h.all.opened i low high);
    joined = λ o connected. h.all.joined o (sym (ap (λ (e : End). e.connected) (p.polled.changed.ends o)) ∙ connected);
    dues = subst (λ (ds : List Due). AreOfSenders peers (ds ++ dues_of 0 (standing p.machine' receiver))) (sym left.owed) (dues.known h.all.dues);
    works = λ i low high. each_works i high;
  })

-- ---- any number of steps

-- where nothing is done
nothing_seen : (peers : ℕ) (ts : List Turn) (m : Mail) (machine : Machine) → IsHeldIn peers ts m machine → IsWorkSeen peers ts m m machine
nothing_seen peers ts m machine h = record { machine' = machine; stands = h.stands; senders = refl; opened = h.all.opened; joined = h.all.joined; dues = h.all.dues; works = λ i low high. Rests }

module _ (follow : EventsFollowByName) (peers : ℕ) (small : peers ≤ 8) (ts : List Turn) where
  -- what is held after work that is seen
  pub seen_held : (m m' : Mail) (machine : Machine) → IsHeldIn peers ts m machine → (s : IsWorkSeen peers ts m m' machine) → IsHeldIn peers ts m' s.machine'
  seen_held m m' machine h s =
      let each : (i : ℕ) → 1 ≤ i → i ≤ peers → IsWorkedOn i (line_of machine m ts i) (line_of s.machine' m' ts i) =
      λ i low high. works_go_ahead i (line_of machine m ts i) (line_of s.machine' m' ts i) (omega (arith, high, small)) (were_sent i ts) (s.works i low high) (h.all.kept i low high) (h.posted i low high) in
      record {
        stands = s.stands;
        senders = s.senders ∙ h.senders;
        all = record { opened = s.opened; joined = s.joined; kept = λ i low high. (each i low high).kept; dues = s.dues };
        posted = λ i low high. (each i low high).posted;
      }

  -- work after work
  seen_then : (m m1 m2 : Mail) (machine : Machine) (a : IsWorkSeen peers ts m m1 machine) → IsWorkSeen peers ts m1 m2 a.machine' → IsWorkSeen peers ts m m2 machine
  seen_then m m1 m2 machine a b = record {
    machine' = b.machine';
    stands = b.stands;
    senders = b.senders ∙ a.senders;
    opened = b.opened;
    joined = b.joined;
    dues = b.dues;
    works = λ i low high. works_then i (line_of machine m ts i) (line_of a.machine' m1 ts i) (a.works i low high) (b.works i low high);
  }

  module _ (w : Working) (machine : Machine) (h : IsHeldIn peers ts w.mail machine) (room : HasRoomToPost w.mail.world) where
    some_seen : (k : ℕ) → position (may_be_done w.mail.world) w.mail.owed ≡ Some k → IsWorkSeen peers ts w.mail (doing_at w k (slice_get w.mail.owed k)).mail machine
    some_seen k first =
        let none : Due = due.PostFree 0 in
        let found = position-Some (may_be_done w.mail.world) w.mail.owed k none first in
        let d : Due = get_or w.mail.owed k none in
        let at : slice_get w.mail.owed k ≡ Some (get_or w.mail.owed k (due.PostFree 0)) = slice_get-get_or w.mail.owed k none found.0 in
        let before = (position-Some (may_be_done w.mail.world) w.mail.owed k d first).2 in
        subst (λ (o : Option Due). IsWorkSeen peers ts w.mail (doing_at w k o).mail machine) (sym at) (dues_seen follow peers small ts w.mail machine k d h at found.1 before (room machine h.stands))

    poll_step_seen : (v : Working) → polling w ≡ Some v → IsWorkSeen peers ts w.mail v.mail machine
    poll_step_seen v e = by (nat_lt (length w.mail.channels) w.next) refl e
      where
        by : (b : Bool) → nat_lt (length w.mail.channels) w.next ≡ b → (if b then None else Some (polled w.next (asking w.mail (poll_event w.next)))) ≡ Some v → IsWorkSeen peers ts w.mail v.mail machine
        by true past f = cc
        by false below f =
            let few = ltb-false (length w.mail.channels) w.next below in
            let long = h.senders in
            subst (λ (x : Working). IsWorkSeen peers ts w.mail x.mail machine) (same_Some (polled w.next (asking w.mail (poll_event w.next))) v f) (poll_seen follow peers small ts w.mail machine h w.next (omega (arith, few, long)))

    step_seen : (v : Working) → work_step w ≡ Some v → IsWorkSeen peers ts w.mail v.mail machine
    unfolding work_step
    step_seen v e = by (position (may_be_done w.mail.world) w.mail.owed) refl e
      where
        by : (o : Option ℕ) → position (may_be_done w.mail.world) w.mail.owed ≡ o → stepping w o ≡ Some v → IsWorkSeen peers ts w.mail v.mail machine
        by None none f = poll_step_seen v f
        by (Some k) first f = subst (λ (x : Working). IsWorkSeen peers ts w.mail x.mail machine) (same_Some (doing_at w k (slice_get w.mail.owed k)) v f) (some_seen k first)

  steps_seen : (n : ℕ) (w : Working) (machine : Machine) → IsHeldIn peers ts w.mail machine → ((k : ℕ) → HasRoomToPost (worked k w).mail.world) → IsWorkSeen peers ts w.mail (worked n w).mail machine
  steps_seen zero w machine h room = subst (λ (x : Working). IsWorkSeen peers ts w.mail x.mail machine) (sym (no_step follow peers small ts w)) (nothing_seen peers ts w.mail machine h)
  steps_seen (suc n) w machine h room = by (λ v machine'. steps_seen n v machine') (work_step w) refl
    where
      by : ((v : Working) (machine' : Machine) → IsHeldIn peers ts v.mail machine' → ((k : ℕ) → HasRoomToPost (worked k v).mail.world) → IsWorkSeen peers ts v.mail (worked n v).mail machine') → (o : Option Working) → work_step w ≡ o → IsWorkSeen peers ts w.mail (worked (suc n) w).mail machine
      by rest None e = subst (λ (x : Working). IsWorkSeen peers ts w.mail x.mail machine) (sym (stops_there follow peers small ts n w e)) (nothing_seen peers ts w.mail machine h)
      by rest (Some v) e =
          let now : HasRoomToPost w.mail.world = subst (λ (x : Working). HasRoomToPost x.mail.world) (no_step follow peers small ts w) (room zero) in
          let one : IsWorkSeen peers ts w.mail v.mail machine = step_seen w machine h now v e in
          let later : (k : ℕ) → HasRoomToPost (worked k v).mail.world = λ k. subst (λ (x : Working). HasRoomToPost x.mail.world) (goes_further follow peers small ts k w v e) (room (suc k)) in
          subst (λ (x : Working). IsWorkSeen peers ts w.mail x.mail machine) (sym (goes_further follow peers small ts n w v e))
          (seen_then w.mail v.mail (worked n v).mail machine one (rest v one.machine' (seen_held w.mail v.mail machine h one) later))

pub works_seen : EventsFollowByName → WorksAreSeen
works_seen follow peers small ts m machine n h room = steps_seen follow peers small ts n (begun m) machine h room
