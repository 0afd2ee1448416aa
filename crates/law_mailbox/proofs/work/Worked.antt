-- Any number of steps of work keep what is held.
use Rattle.std.proofs.Common.{arith, ◌≡◌, ◌≢◌, ℕ, zero, suc, ◌<◌, ◌≤◌, List, [], ◌∷◌, ◌++◌, get_or, length, true, false, Bool, refl, sym, subst, ap, ◌∙◌, Some, None, Option, ltb-false, ne_eqb}
use Rattle.std.specs.Prelude.{if◌then◌else◌, nat_lt, position, slice_get}
use Rattle.std.proofs.lemmas.List.Quantifiers.{position-Some}
use Rattle.std.proofs.lemmas.Option.{same_Some, slice_get-get_or}
use Rattle.rdma_types.specs.declared.names.Name.{Name}
use Rattle.rdma_types.specs.declared.requests.Completion.{Completion}
use Rattle.protocol.specs.State.{World}
use Rattle.packetless_machine.specs.Machine.{End, Machine}
use Rattle.law_simulation.specs.Named.{EventsFollowByName}
use Rattle.law_simulation.specs.Stands.{Stands}
use Rattle.mailbox_rules.specs.declared.due.Due.{Due}
use Rattle.mailbox_rules.specs.declared.due.Due.TheVariants as due
use Rattle.mailbox_rules.specs.Histories.{Turn, placed_letters, sent_letters}
use Rattle.mailbox_rules.specs.Opening.{receiver, receiver_end, receiver_region, sender, sender_end, sender_region}
use Rattle.mailbox_rules.specs.State.{Mail, channel, context_at}
use Rattle.mailbox_rules.specs.Working.{Working, asking, begun, doing, doing_at, entries_in, heard_of, may_be_done, noting_all, poll_event, polled, polling, stepping, work_step, worked}
use Rattle.law_mailbox.specs.Calls.{WorksAreKept}
use Rattle.law_mailbox.specs.Held.{AreOfSenders, IsHeld}
use Rattle.law_mailbox.specs.Kept.{IsKept, IsKeptWith, Pending, Sight, dues_of, pending, sight_of, standing}
use Rattle.law_mailbox.proofs.work.Changing.{flags_unread, one_or_not}
use Rattle.law_mailbox.proofs.work.Copying.{bodies_held, copies_held}
use Rattle.law_mailbox.proofs.work.DueSteps.{fetches_held, frees_held, reposts_held, sender_reposts_held, slots_held}
use Rattle.law_mailbox.proofs.work.Noting.{IsNoted, IsPollNoted, noted_all, poll_noted}
use Rattle.law_mailbox.proofs.work.Polling.{IsPollAsked, IsPolled, opened_polled, poll_asked, receiver_due, receiver_known, sender_due, sender_known}
use Rattle.law_mailbox.proofs.connection.Sights.{region_same}
use Rattle.law_mailbox.proofs.connection.Tells.{not_true}

-- ---- a poll

pub record AreDuesKept (peers : ℕ) (machine machine' : Machine) (owed : List Due) (xs : List Completion) (n : ℕ) : Type 0 where
  pub due : (i : ℕ) → i ≤ peers → pending i ((owed ++ dues_of n xs) ++ (sight_of machine' [] i).dues) ≡ pending i (owed ++ (sight_of machine [] i).dues)
  pub known : AreOfSenders peers (owed ++ dues_of 0 (standing machine receiver)) → AreOfSenders peers ((owed ++ dues_of n xs) ++ dues_of 0 (standing machine' receiver))

pub context_is : (n : ℕ) → 1 ≤ n → context_at n ≡ sender n
context_is n positive = let no_zero : n ≢ 0 = λ e. omega (arith, e, positive) in rw (ne_eqb n 0 no_zero) refl

pub dues_kept : (peers : ℕ) → peers ≤ 8 → (machine machine' : Machine) (owed : List Due) (xs : List Completion) (n : ℕ) → n ≤ peers → IsPolled machine machine' (context_at n) xs → AreDuesKept peers machine machine' owed xs n
dues_kept peers small machine machine' owed xs zero within p = record { due = λ i high. receiver_due peers small machine machine' owed xs p i; known = receiver_known peers small machine machine' owed xs p }
dues_kept peers small machine machine' owed xs (suc n) within p =
    let of_it : IsPolled machine machine' (sender (suc n)) xs = subst (λ (c : Name). IsPolled machine machine' c xs) (context_is (suc n) (omega arith)) p in
    record {
      due = λ i high. sender_due peers small machine machine' owed xs (suc n) (omega arith) within of_it i high (one_or_not (suc n) i);
      known = sender_known peers small machine machine' owed xs (suc n) (omega arith) within of_it;
    }

module _ (follow : EventsFollowByName) (peers : ℕ) (small : peers ≤ 8) (ts : List Turn) (m : Mail) (h : IsHeld peers ts m) (n : ℕ) (within : n ≤ peers) where
  abbrev xs : List Completion
  xs = entries_in (asking m (poll_event n)).answer

  abbrev m1 : Mail
  m1 = noting_all n (asking m (poll_event n)).mail xs

  p : IsPollAsked m h.machine n
  p = poll_asked follow m h.machine n h.stands

  noted : IsNoted n (asking m (poll_event n)).mail m1 (dues_of n xs)
  noted = noted_all n (asking m (poll_event n)).mail xs

  left : IsPollNoted m m1 (dues_of n xs)
  left = poll_noted m n

  dues : AreDuesKept peers h.machine p.machine' m.owed xs n
  dues = dues_kept peers small h.machine p.machine' m.owed xs n within p.polled

  each_kept : (i : ℕ) → 1 ≤ i → i ≤ peers → IsKept i (sight_of p.machine' m1.owed i) (channel m1 i) (sent_letters i ts) (placed_letters i ts)
  each_kept i low high =
      let g = p.polled.changed in
      let old : IsKept i (sight_of h.machine m.owed i) (channel m i) (sent_letters i ts) (placed_letters i ts) = h.all.kept i low high in
      let s : Sight = sight_of h.machine [] i in
      let due_is : pending i (m1.owed ++ (sight_of p.machine' [] i).dues) ≡ pending i (m.owed ++ (sight_of h.machine [] i).dues) =
      ap (λ (ds : List Due). pending i (ds ++ (sight_of p.machine' [] i).dues)) left.owed ∙ dues.due i high in
      let owed : IsKeptWith i s.sender s.receiver s.stored s.landed (pending i (m1.owed ++ (sight_of p.machine' [] i).dues)) (channel m i) (sent_letters i ts) (placed_letters i ts) =
      subst (λ (d : Pending). IsKeptWith i (sight_of h.machine [] i).sender (sight_of h.machine [] i).receiver (sight_of h.machine [] i).stored (sight_of h.machine [] i).landed d (channel m i) (sent_letters i ts) (placed_letters i ts)) (sym due_is) old in
      let flags : IsKept i (record (sight_of h.machine [] i) { dues = m1.owed ++ (sight_of p.machine' [] i).dues }) (channel m1 i) (sent_letters i ts) (placed_letters i ts) =
      flags_unread i s.sender s.receiver s.stored s.landed (pending i (m1.owed ++ (sight_of p.machine' [] i).dues)) (channel m i) (channel m1 i) (sent_letters i ts) (placed_letters i ts) (left.same i) owed in
      let seen : record (sight_of h.machine [] i) { dues = m1.owed ++ (sight_of p.machine' [] i).dues } ≡ sight_of p.machine' m1.owed i =
      (λ k. record {
        sender = sym (g.ends (sender_end i)) k;
        receiver = sym (g.ends (receiver_end i)) k;
        stored = (sym (region_same h.machine p.machine' (sender_region i) (g.regions (sender i))) k).bytes;
        landed = (sym (region_same h.machine p.machine' (receiver_region i) (g.regions receiver)) k).bytes;
        dues = m1.owed ++ (sight_of p.machine' [] i).dues;
      }) in
      subst (λ (x : Sight). IsKept i x (channel m1 i) (sent_letters i ts) (placed_letters i ts)) seen flags

  pub noted_held : IsHeld peers ts m1
  noted_held = record {
    machine = p.machine';
    stands = subst (λ (w : World). Stands w p.machine') (sym noted.world) p.stands;
    senders = left.long ∙ h.senders;
    all = record {
      opened = λ i low high. opened_polled h.machine p.machine' (context_at n) p.polled.behind p.polled.changed i (h.all.opened i low high);
      joined = λ o connected. h.all.joined o (sym (ap (λ (e : End). e.connected) (p.polled.changed.ends o)) ∙ connected);
      kept = each_kept;
      dues = subst (λ (ds : List Due). AreOfSenders peers (ds ++ dues_of 0 (standing p.machine' receiver))) (sym left.owed) (dues.known h.all.dues);
    };
  }

  pub heard_is : (m2 : Mail) (ys : List Completion) → (heard_of n m2 ys).mail ≡ noting_all n m2 ys
  unfolding noting_all
  heard_is m2 [] = refl
  heard_is m2 (y ∷ ys) = refl

  polled_held : IsHeld peers ts (polled n (asking m (poll_event n))).mail
  polled_held = subst (IsHeld peers ts) (sym (heard_is (asking m (poll_event n)).mail xs)) noted_held

-- ---- one step

module _ (follow : EventsFollowByName) (peers : ℕ) (small : peers ≤ 8) (ts : List Turn) where
  due_held : (m : Mail) → IsHeld peers ts m → (k : ℕ) (d : Due) → slice_get m.owed k ≡ Some d → may_be_done m.world d ≡ true → ((i : ℕ) → i < k → may_be_done m.world (get_or m.owed i d) ≡ false) → IsHeld peers ts (doing m k d)
  due_held m h k (due.CopyMessage j place size) at may before = copies_held follow peers small ts m h (not_true _ may) k j place size at before
  due_held m h k (due.Repost j place fetch) at may before = reposts_held follow peers small ts m h k j place fetch at
  due_held m h k (due.PostRead j f) at may before = fetches_held follow peers small ts m h k j f at
  due_held m h k (due.CopyBody j size) at may before = bodies_held follow peers small ts m h (not_true _ may) k j size at
  due_held m h k (due.PostFree j) at may before = frees_held follow peers small ts m h k j at
  due_held m h k (due.FreeSlot j place) at may before = slots_held follow peers small ts m h k j place at
  due_held m h k (due.RepostAtSender j place) at may before = sender_reposts_held follow peers small ts m h k j place at

  some_held : (w : Working) → IsHeld peers ts w.mail → (k : ℕ) → position (may_be_done w.mail.world) w.mail.owed ≡ Some k → IsHeld peers ts (doing_at w k (slice_get w.mail.owed k)).mail
  some_held w h k first =
      let none : Due = due.PostFree 0 in
      let found = position-Some (may_be_done w.mail.world) w.mail.owed k none first in
      let d : Due = get_or w.mail.owed k none in
      let at : slice_get w.mail.owed k ≡ Some (get_or w.mail.owed k (due.PostFree 0)) = slice_get-get_or w.mail.owed k none found.0 in
      let before = (position-Some (may_be_done w.mail.world) w.mail.owed k d first).2 in
      subst (λ (o : Option Due). IsHeld peers ts (doing_at w k o).mail) (sym at) (due_held w.mail h k d at found.1 before)

  poll_held : (w : Working) → IsHeld peers ts w.mail → (v : Working) → polling w ≡ Some v → IsHeld peers ts v.mail
  poll_held w h v e = by (nat_lt (length w.mail.channels) w.next) refl e
    where
      by : (b : Bool) → nat_lt (length w.mail.channels) w.next ≡ b → (if b then None else Some (polled w.next (asking w.mail (poll_event w.next)))) ≡ Some v → IsHeld peers ts v.mail
      by true past f = cc
      by false below f =
          let few = ltb-false (length w.mail.channels) w.next below in
          let long = h.senders in
          subst (λ (x : Working). IsHeld peers ts x.mail) (same_Some (polled w.next (asking w.mail (poll_event w.next))) v f) (polled_held follow peers small ts w.mail h w.next (omega (arith, few, long)))

  pub step_held : (w : Working) → IsHeld peers ts w.mail → (v : Working) → work_step w ≡ Some v → IsHeld peers ts v.mail
  unfolding work_step
  step_held w h v e = by (position (may_be_done w.mail.world) w.mail.owed) refl e
    where
      by : (o : Option ℕ) → position (may_be_done w.mail.world) w.mail.owed ≡ o → stepping w o ≡ Some v → IsHeld peers ts v.mail
      by None none f = poll_held w h v f
      by (Some k) first f = subst (λ (x : Working). IsHeld peers ts x.mail) (same_Some (doing_at w k (slice_get w.mail.owed k)) v f) (some_held w h k first)

  pub stops_there : (n : ℕ) (w : Working) → work_step w ≡ None → worked (suc n) w ≡ w
  unfolding worked
  stops_there n w e = rw (e, worked) refl

  pub goes_further : (n : ℕ) (w v : Working) → work_step w ≡ Some v → worked (suc n) w ≡ worked n v
  unfolding worked
  goes_further n w v e = rw (e, worked) refl

  pub no_step : (w : Working) → worked zero w ≡ w
  unfolding worked
  no_step w = refl

  steps_held : (n : ℕ) (w : Working) → IsHeld peers ts w.mail → IsHeld peers ts (worked n w).mail
  steps_held zero w h = subst (λ (x : Working). IsHeld peers ts x.mail) (sym (no_step w)) h
  steps_held (suc n) w h = by (λ v. steps_held n v) (work_step w) refl
    where
      by : ((v : Working) → IsHeld peers ts v.mail → IsHeld peers ts (worked n v).mail) → (o : Option Working) → work_step w ≡ o → IsHeld peers ts (worked (suc n) w).mail
      by rest None e = subst (λ (x : Working). IsHeld peers ts x.mail) (sym (stops_there n w e)) h
      by rest (Some v) e = subst (λ (x : Working). IsHeld peers ts x.mail) (sym (goes_further n w v e)) (rest v (step_held w h v e))

pub works_kept : EventsFollowByName → WorksAreKept
works_kept follow peers small ts m n h = steps_held follow peers small ts n (begun m) h
