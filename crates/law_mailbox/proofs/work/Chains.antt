-- A thing that is due, where it is done, is seen of each connection as steps of work.
use Rattle.std.proofs.Common.{◌≡◌, ◌≢◌, ℕ, ◌≤◌, List, [], ◌++◌, length, true, false, Bool, refl, sym, subst, ◌∙◌, Some, None, Option, ◌⊎◌, inl, inr}
use Rattle.std.specs.Prelude.{All, if◌then◌else◌, option_to_list, slice_get}
use Rattle.std.proofs.lemmas.List.Elements.{All-append, All-head}
use Rattle.protocol.specs.declared.events.Event.{Event}
use Rattle.packetless_machine.specs.Machine.{Machine}
use Rattle.law_simulation.specs.Stands.{Stands}
use Rattle.mailbox_rules.specs.declared.due.Due.{Due}
use Rattle.mailbox_rules.specs.declared.due.Side.{Side}
use Rattle.mailbox_rules.specs.declared.due.Side.TheVariants.{AtReceiver, AtSender}
use Rattle.mailbox_rules.specs.Histories.{Turn, placed_letters, sent_letters}
use Rattle.mailbox_rules.specs.Opening.{receiver}
use Rattle.mailbox_rules.specs.State.{Channel, Mail, channel, ending, has_ended, is_sender, with_channel}
use Rattle.mailbox_rules.specs.Working.{asking, due_next, going_on, is_too_many, posted, posting}
use Rattle.law_mailbox.specs.Finished.{IsHeldIn, IsWorkSeen, line_of}
use Rattle.law_mailbox.specs.Held.{AreOfSenders, IsHeld, connection_in}
use Rattle.law_mailbox.specs.Kept.{Sight, dues_of, sight_of, standing}
use Rattle.law_mailbox.specs.Settled.{Flags, Rests, Turns, Worked, Works}
use Rattle.law_mailbox.specs.Works.{Line}
use Rattle.law_mailbox.proofs.work.Changing.{IsSeenAt, one_or_not, owed_with, sees_itself}
use Rattle.law_mailbox.proofs.work.Channels.{changed_elsewhere, changed_long, changed_there}
use Rattle.law_mailbox.proofs.work.Doing.{owed_next}
use Rattle.law_mailbox.proofs.work.Dues.{AreElsewhere, nothing_elsewhere, one_elsewhere, pending_stays}
use Rattle.law_mailbox.proofs.connection.Places.{all_back}

-- what is held in a state of the machine is held to work
abbrev pub to_work : (peers : ℕ) (ts : List Turn) (m : Mail) (machine : Machine) → IsHeldIn peers ts m machine → IsHeld peers ts m
to_work peers ts m machine h = record { machine = machine; stands = h.stands; senders = h.senders; all = h.all }

-- connection j where so much is owed, what is seen of it with nothing owed, and what is held of it
abbrev pub line_with : List Turn → ℕ → List Due → Sight → Channel → Line
line_with ts j owed s c = record { sight = owed_with owed s; channel = c; sent = sent_letters j ts; open' = placed_letters j ts }

module _ (peers : ℕ) (ts : List Turn) (m : Mail) (machine : Machine) (h : IsHeldIn peers ts m machine) (k : ℕ) (d : Due) (at : slice_get m.owed k ≡ Some d) (next : Option Due) (of_it : All (λ x. connection_in x ≡ connection_in d) (option_to_list next)) where
  elsewhere : (o : Option Due) → All (λ x. connection_in x ≡ connection_in d) (option_to_list o) → (i : ℕ) → i ≢ connection_in d → AreElsewhere i (option_to_list o)
  elsewhere None all i apart = nothing_elsewhere i
  elsewhere (Some x) all i apart = one_elsewhere i x (λ e. apart (sym e ∙ All-head (λ y. connection_in y ≡ connection_in d) x [] all))

  pub chain_goes : (m1 : Mail) (machine' : Machine) (s : Sight) → Stands m1.world machine' → IsSeenAt peers machine machine' (connection_in d) s → m1.owed ≡ m.owed →
      ((q : ℕ) → 1 ≤ q → q ≢ connection_in d → channel m1 q ≡ channel m q) → length m1.channels ≡ length m.channels →
      Works (connection_in d) (line_of machine m ts (connection_in d)) (line_with ts (connection_in d) (due_next m.owed k next) s (channel m1 (connection_in d))) → IsWorkSeen peers ts m (going_on m1 k next) machine
  chain_goes m1 machine' s stands seen owed same long works = record {
    machine' = machine';
    stands = stands;
    senders = long;
    opened = λ i low high. seen.opened i (h.all.opened i low high);
    joined = λ o connected. h.all.joined o (sym (seen.connected o) ∙ connected);
    dues = All-append (λ x. (1 ≤ connection_in x) × (connection_in x ≤ peers)) (due_next m1.owed k next) (dues_of 0 (standing machine' receiver))
        (subst (λ (xs : List Due). AreOfSenders peers (due_next xs k next)) (sym owed) (owed_next peers ts m (to_work peers ts m machine h) k d at next of_it))
        (subst (AreOfSenders peers) (sym seen.standing_same) (all_back (λ x. (1 ≤ connection_in x) × (connection_in x ≤ peers)) m.owed (dues_of 0 (standing machine receiver)) h.all.dues));
    works = λ i low high. by i low high (one_or_not i (connection_in d));
  }
    where
      here : Works (connection_in d) (line_of machine m ts (connection_in d)) (line_of machine' (going_on m1 k next) ts (connection_in d))
      here =
          let same_line : line_with ts (connection_in d) (due_next m.owed k next) s (channel m1 (connection_in d)) ≡ line_of machine' (going_on m1 k next) ts (connection_in d) =
          λ t. line_with ts (connection_in d) (due_next (sym owed t) k next) (sym seen.here t) (channel m1 (connection_in d)) in
          subst (λ (x : Line). Works (connection_in d) (line_of machine m ts (connection_in d)) x) same_line works

      there : (i : ℕ) → 1 ≤ i → i ≤ peers → i ≢ connection_in d → Works i (line_of machine m ts i) (line_of machine' (going_on m1 k next) ts i)
      there i low high apart =
          let rest : List Due = (sight_of machine [] i).dues in
          let turned : Works i (line_of machine m ts i) (line_with ts i (due_next m.owed k next) (sight_of machine [] i) (channel m i)) =
          Worked Rests (Turns (due_next m.owed k next ++ rest) (pending_stays i m.owed rest k d at next (one_elsewhere i d (λ e. apart (sym e))) (elsewhere next of_it i apart))) in
          let same_line : line_with ts i (due_next m.owed k next) (sight_of machine [] i) (channel m i) ≡ line_of machine' (going_on m1 k next) ts i =
          λ t. line_with ts i (due_next (sym owed t) k next) (sym (seen.others i low high apart) t) (sym (same i low apart) t) in
          subst (λ (x : Line). Works i (line_of machine m ts i) x) same_line turned

      by : (i : ℕ) → 1 ≤ i → i ≤ peers → (i ≡ connection_in d) ⊎ (i ≢ connection_in d) → Works i (line_of machine m ts i) (line_of machine' (going_on m1 k next) ts i)
      by i low high (inl e) = subst (λ (x : ℕ). Works x (line_of machine m ts x) (line_of machine' (going_on m1 k next) ts x)) (sym e) here
      by i low high (inr apart) = there i low high apart

-- ---- a posting

pub works_then : (i : ℕ) (x y : Line) {z : Line} → Works i x y → Works i y z → Works i x z
works_then i x y before Rests = before
works_then i x y before (Worked {x' = a} {x'' = b} more step) = Worked (works_then i x y before more) step

-- what is seen once a posting was asked for: nothing, or something
pub data PostingSees (peers : ℕ) (m : Mail) (machine : Machine) (j : ℕ) (ev : Event) (s : Sight) (Skipped Made : Type 0) : Type 0 where
  SeesNothing : (machine' : Machine) → Stands (asking m ev).mail.world machine' → IsSeenAt peers machine machine' j (sight_of machine [] j) → Skipped → PostingSees peers m machine j ev s Skipped Made
  SeesIt : (machine' : Machine) → Stands (asking m ev).mail.world machine' → IsSeenAt peers machine machine' j s → Made → PostingSees peers m machine j ev s Skipped Made

-- a flag is set
flag_set : (ts : List Turn) (j : ℕ) (owed : List Due) (s : Sight) (side : Side) (c : Channel) → Works j (line_with ts j owed s c) (line_with ts j owed s (ending side c))
flag_set ts j owed s AtReceiver c = Worked Rests (Flags true c.sender_ended (λ e. cc) (λ e. e))
flag_set ts j owed s AtSender c = Worked Rests (Flags c.receiver_ended true (λ e. e) (λ e. cc))

flag_is : (side : Side) (c : Channel) → has_ended side (ending side c) ≡ true
flag_is AtReceiver c = refl
flag_is AtSender c = refl

module _ (peers : ℕ) (ts : List Turn) (m : Mail) (machine : Machine) (h : IsHeldIn peers ts m machine) (k : ℕ) (d : Due) (at : slice_get m.owed k ≡ Some d) (next : Option Due) (of_it : All (λ x. connection_in x ≡ connection_in d) (option_to_list next))
    (side : Side) (ev : Event) (s : Sight) (Skipped Made : Type 0) (there : is_sender m (connection_in d) ≡ true)
    (sees : has_ended side (channel m (connection_in d)) ≡ false → PostingSees peers m machine (connection_in d) ev s Skipped Made)
    (skips : (c : Channel) → (has_ended side c ≡ true) ⊎ (Skipped × (is_too_many (asking m ev).answer ≡ false)) → Works (connection_in d) (line_with ts (connection_in d) m.owed (sight_of machine [] (connection_in d)) c) (line_with ts (connection_in d) (due_next m.owed k next) (sight_of machine [] (connection_in d)) c))
    (makes : (c : Channel) → Made → Works (connection_in d) (line_with ts (connection_in d) m.owed (sight_of machine [] (connection_in d)) c) (line_with ts (connection_in d) (due_next m.owed k next) s c)) where
  -- after it, where a flag was set
  flagged_elsewhere : (q : ℕ) → 1 ≤ q → q ≢ connection_in d → channel (with_channel (asking m ev).mail (connection_in d) (ending side)) q ≡ channel m q
  unfolding asking
  flagged_elsewhere q low apart = changed_elsewhere (asking m ev).mail (connection_in d) there (ending side) q low (λ e. apart (sym e))

  flagged_here : channel (with_channel (asking m ev).mail (connection_in d) (ending side)) (connection_in d) ≡ ending side (channel m (connection_in d))
  unfolding asking
  flagged_here = changed_there (asking m ev).mail (connection_in d) there (ending side)

  flagged_long : length (with_channel (asking m ev).mail (connection_in d) (ending side)).channels ≡ length m.channels
  unfolding asking
  flagged_long = changed_long (asking m ev).mail (connection_in d) there (ending side)

  -- an answer that sets a flag
  goes_flagged : (machine' : Machine) (s' : Sight) → Stands (asking m ev).mail.world machine' → IsSeenAt peers machine machine' (connection_in d) s' →
      ((c : Channel) → has_ended side c ≡ true → Works (connection_in d) (line_with ts (connection_in d) m.owed (sight_of machine [] (connection_in d)) c) (line_with ts (connection_in d) (due_next m.owed k next) s' c)) →
      IsWorkSeen peers ts m (going_on (with_channel (asking m ev).mail (connection_in d) (ending side)) k next) machine
  unfolding asking
  goes_flagged machine' s' stands seen works =
      let set : Works (connection_in d) (line_of machine m ts (connection_in d)) (line_with ts (connection_in d) m.owed (sight_of machine [] (connection_in d)) (ending side (channel m (connection_in d)))) =
      flag_set ts (connection_in d) m.owed (sight_of machine [] (connection_in d)) side (channel m (connection_in d)) in
      chain_goes peers ts m machine h k d at next of_it (with_channel (asking m ev).mail (connection_in d) (ending side)) machine' s' stands seen refl flagged_elsewhere flagged_long
      (subst (λ (x : Channel). Works (connection_in d) (line_of machine m ts (connection_in d)) (line_with ts (connection_in d) (due_next m.owed k next) s' x)) (sym flagged_here)
      (works_then (connection_in d) (line_of machine m ts (connection_in d)) (line_with ts (connection_in d) m.owed (sight_of machine [] (connection_in d)) (ending side (channel m (connection_in d)))) set
      (works (ending side (channel m (connection_in d))) (flag_is side (channel m (connection_in d))))))

  -- .. and one that sets none
  goes_plain : (machine' : Machine) (s' : Sight) → Stands (asking m ev).mail.world machine' → IsSeenAt peers machine machine' (connection_in d) s' →
      Works (connection_in d) (line_of machine m ts (connection_in d)) (line_with ts (connection_in d) (due_next m.owed k next) s' (channel m (connection_in d))) → IsWorkSeen peers ts m (going_on (asking m ev).mail k next) machine
  unfolding asking
  goes_plain machine' s' stands seen works = chain_goes peers ts m machine h k d at next of_it (asking m ev).mail machine' s' stands seen refl (λ q low apart. refl) refl works

  by_answer : (b : Bool) → is_too_many (asking m ev).answer ≡ b → PostingSees peers m machine (connection_in d) ev s Skipped Made →
      IsWorkSeen peers ts m (going_on (if b then with_channel (asking m ev).mail (connection_in d) (ending side) else (asking m ev).mail) k next) machine
  by_answer true e (SeesNothing machine' stands seen why) = goes_flagged machine' (sight_of machine [] (connection_in d)) stands seen (λ c ended. skips c (inl ended))
  by_answer true e (SeesIt machine' stands seen why) = goes_flagged machine' s stands seen (λ c ended. makes c why)
  by_answer false e (SeesNothing machine' stands seen why) = goes_plain machine' (sight_of machine [] (connection_in d)) stands seen (skips (channel m (connection_in d)) (inr (why, e)))
  by_answer false e (SeesIt machine' stands seen why) = goes_plain machine' s stands seen (makes (channel m (connection_in d)) why)

  pub posting_goes : IsWorkSeen peers ts m (going_on (posting m side (connection_in d) ev) k next) machine
  unfolding posting
  posting_goes = by (has_ended side (channel m (connection_in d))) refl
    where
      by : (b : Bool) → has_ended side (channel m (connection_in d)) ≡ b → IsWorkSeen peers ts m (going_on (if b then m else posted (asking m ev) side (connection_in d)) k next) machine
      by true e = chain_goes peers ts m machine h k d at next of_it m machine (sight_of machine [] (connection_in d)) h.stands (sees_itself peers machine (connection_in d)) refl (λ q low apart. refl) refl (skips (channel m (connection_in d)) (inl e))
      by false e = by_answer (is_too_many (asking m ev).answer) refl (sees e)
