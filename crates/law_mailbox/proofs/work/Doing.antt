-- What is held stays held, where a thing that is due is done.
use Rattle.std.proofs.Common.{◌≡◌, ◌≢◌, ℕ, suc, ◌≤◌, List, [], ◌∷◌, ◌++◌, length, take, drop, true, false, Bool, refl, sym, subst, ap, ◌∙◌, Some, None, Option, ◌⊎◌, inl, inr}
use Rattle.std.specs.Prelude.{All, if◌then◌else◌, option_to_list, slice_get}
use Rattle.std.proofs.lemmas.List.Elements.{All-append, All-cons, All-head, All-nil, All-tail}
use Rattle.rdma_types.specs.declared.answers.Answer.{Answer}
use Rattle.rdma_types.specs.declared.verbs.Verb.{Verb}
use Rattle.protocol.specs.declared.events.Event.{Event}
use Rattle.packetless_machine.specs.Machine.{End, Machine}
use Rattle.packetless_machine.specs.Verbs.{after_verb}
use Rattle.law_simulation.specs.Kept.{verb_in}
use Rattle.law_simulation.specs.Law.{IsEventInRange}
use Rattle.law_simulation.specs.Named.{EventsFollowByName, turn_steps}
use Rattle.law_simulation.specs.Stands.{Stands}
use Rattle.mailbox_rules.specs.declared.due.Due.{Due}
use Rattle.mailbox_rules.specs.declared.due.Side.{Side}
use Rattle.mailbox_rules.specs.Histories.{Turn, placed_letters, sent_letters}
use Rattle.mailbox_rules.specs.Opening.{receiver}
use Rattle.mailbox_rules.specs.State.{Channel, Mail, channel, ending, has_ended, with_channel}
use Rattle.mailbox_rules.specs.Working.{asking, due_next, going_on, is_too_many, posted, posting}
use Rattle.law_mailbox.specs.Held.{AreOfSenders, connection_in, IsHeld}
use Rattle.law_mailbox.specs.Kept.{IsKept, Sight, dues_of, pending, sight_of, standing}
use Rattle.law_mailbox.proofs.work.Asking.{Asks, Made, Unmade, asks}
use Rattle.law_mailbox.proofs.work.Changing.{IsSameFor, IsSeenAt, all_kept, flags_unread, owed_with, same_itself, sees_itself}
use Rattle.law_mailbox.proofs.work.Dues.{AreElsewhere, next_is, nothing_elsewhere, one_elsewhere, pending_stays, split_at}
use Rattle.law_mailbox.proofs.connection.Flags.{ending_long, ending_seen}
use Rattle.law_mailbox.proofs.connection.Places.{all_at, all_back, all_front}

-- ---- a posting

-- what a posting leaves: nothing is seen of it, or an end that has not ended is another; and of the connections flags at most
pub record IsPosted (peers : ℕ) (m m' : Mail) (machine : Machine) (j : ℕ) (e : End) (s : Sight) : Type 0 where
  pub machine' : Machine
  pub stands : Stands m'.world machine'
  pub seen : IsSeenAt peers machine machine' j (sight_of machine [] j) ⊎ ((e.ended ≡ false) × IsSeenAt peers machine machine' j s)
  pub owed : m'.owed ≡ m.owed
  pub same : (q : ℕ) → IsSameFor (channel m q) (channel m' q)
  pub long : length m'.channels ≡ length m.channels

module _ (follow : EventsFollowByName) (peers : ℕ) (m : Mail) (machine : Machine) (side : Side) (j : ℕ) (ev : Event) (v : Verb) (e : End) (s : Sight)
    (is : verb_in ev ≡ Some v) (quiet : (a : Answer) → turn_steps ev a ≡ []) (range : IsEventInRange ev) (stands : Stands m.world machine)
    (seen : (given : ℕ) → IsSeenAt peers machine (after_verb machine v given) j (sight_of machine [] j) ⊎ ((e.ended ≡ false) × IsSeenAt peers machine (after_verb machine v given) j s)) where
  after_asking : Asks m.world machine ev v → (b : Bool) → IsPosted peers m (if b then with_channel (asking m ev).mail j (ending side) else (asking m ev).mail) machine j e s
  unfolding asking
  after_asking (Unmade u x) true = record { machine' = machine; stands = x; seen = inl (sees_itself peers machine j); owed = refl; same = ending_seen (asking m ev).mail side j; long = ending_long (asking m ev).mail side j }
  after_asking (Unmade u x) false = record { machine' = machine; stands = x; seen = inl (sees_itself peers machine j); owed = refl; same = λ q. same_itself (channel m q); long = refl }
  after_asking (Made given a x) true = record { machine' = after_verb machine v given; stands = x; seen = seen given; owed = refl; same = ending_seen (asking m ev).mail side j; long = ending_long (asking m ev).mail side j }
  after_asking (Made given a x) false = record { machine' = after_verb machine v given; stands = x; seen = seen given; owed = refl; same = λ q. same_itself (channel m q); long = refl }

  pub posting_leaves : IsPosted peers m (posting m side j ev) machine j e s
  unfolding posting
  posting_leaves = by (has_ended side (channel m j))
    where
      by : (b : Bool) → IsPosted peers m (if b then m else posted (asking m ev) side j) machine j e s
      by true = record { machine' = machine; stands = stands; seen = inl (sees_itself peers machine j); owed = refl; same = λ q. same_itself (channel m q); long = refl }
      by false = after_asking (asks follow m.world machine ev v is quiet range stands) (is_too_many (asking m ev).answer)

-- ---- a thing that is due, where it is done

module _ (peers : ℕ) (ts : List Turn) (m : Mail) (h : IsHeld peers ts m) (k : ℕ) (d : Due) (at : slice_get m.owed k ≡ Some d) (next : Option Due) (of_it : All (λ x. connection_in x ≡ connection_in d) (option_to_list next)) where
  owed_of : AreOfSenders peers m.owed
  owed_of = all_front (λ x. (1 ≤ connection_in x) × (connection_in x ≤ peers)) m.owed (dues_of 0 (standing h.machine receiver)) h.all.dues

  pub one_of_senders : (1 ≤ connection_in d) × (connection_in d ≤ peers)
  one_of_senders = all_at (λ x. (1 ≤ connection_in x) × (connection_in x ≤ peers)) m.owed k d owed_of at

  next_of : (o : Option Due) → All (λ x. connection_in x ≡ connection_in d) (option_to_list o) → AreOfSenders peers (option_to_list o)
  next_of None all = All-nil (λ x. (1 ≤ connection_in x) × (connection_in x ≤ peers))
  next_of (Some x) all =
      let same : connection_in d ≡ connection_in x = sym (All-head (λ y. connection_in y ≡ connection_in d) x [] all) in
      All-cons (λ y. (1 ≤ connection_in y) × (connection_in y ≤ peers)) x [] (subst (λ (i : ℕ). (1 ≤ i) × (i ≤ peers)) same one_of_senders) (All-nil (λ y. (1 ≤ connection_in y) × (connection_in y ≤ peers)))

  pub owed_next : AreOfSenders peers (due_next m.owed k next)
  owed_next =
      let whole : AreOfSenders peers (take k m.owed ++ (d ∷ drop (suc k) m.owed)) = subst (AreOfSenders peers) (split_at m.owed k d at) owed_of in
      let behind : AreOfSenders peers (drop (suc k) m.owed) =
      All-tail (λ x. (1 ≤ connection_in x) × (connection_in x ≤ peers)) d (drop (suc k) m.owed) (all_back (λ x. (1 ≤ connection_in x) × (connection_in x ≤ peers)) (take k m.owed) (d ∷ drop (suc k) m.owed) whole) in
      subst (AreOfSenders peers) (sym (next_is m.owed k d at next))
      (All-append (λ x. (1 ≤ connection_in x) × (connection_in x ≤ peers)) (take k m.owed) (option_to_list next ++ drop (suc k) m.owed)
      (all_front (λ x. (1 ≤ connection_in x) × (connection_in x ≤ peers)) (take k m.owed) (d ∷ drop (suc k) m.owed) whole)
      (All-append (λ x. (1 ≤ connection_in x) × (connection_in x ≤ peers)) (option_to_list next) (drop (suc k) m.owed) (next_of next of_it) behind))

  elsewhere : (o : Option Due) → All (λ x. connection_in x ≡ connection_in d) (option_to_list o) → (i : ℕ) → i ≢ connection_in d → AreElsewhere i (option_to_list o)
  elsewhere None all i apart = nothing_elsewhere i
  elsewhere (Some x) all i apart = one_elsewhere i x (λ e. apart (sym e ∙ All-head (λ y. connection_in y ≡ connection_in d) x [] all))

  abbrev pub IsKeptThen : Sight → Channel → Type 0
  IsKeptThen s c = IsKept (connection_in d) (owed_with (due_next m.owed k next) s) c (sent_letters (connection_in d) ts) (placed_letters (connection_in d) ts)

  pub goes_on : (m1 : Mail) (machine' : Machine) (s : Sight) → Stands m1.world machine' → IsSeenAt peers h.machine machine' (connection_in d) s → m1.owed ≡ m.owed →
      ((q : ℕ) → 1 ≤ q → q ≢ connection_in d → IsSameFor (channel m q) (channel m1 q)) → length m1.channels ≡ length m.channels → IsKeptThen s (channel m1 (connection_in d)) → IsHeld peers ts (going_on m1 k next)
  goes_on m1 machine' s stands seen owed same long kept =
      let next_same : due_next m1.owed k next ≡ due_next m.owed k next = ap (λ (xs : List Due). due_next xs k next) owed in
      record {
        machine = machine';
        stands = stands;
        senders = long ∙ h.senders;
        all = all_kept peers ts ts m (going_on m1 k next) h.machine machine' (connection_in d) s h.all seen
            (λ i low high apart. same i low apart)
            (λ i low high apart. ap (λ (xs : List Due). pending i (xs ++ (sight_of h.machine [] i).dues)) next_same ∙ pending_stays i m.owed (sight_of h.machine [] i).dues k d at next (one_elsewhere i d (λ e. apart (sym e))) (elsewhere next of_it i apart))
            (λ i low high apart. (refl, refl))
            (subst (λ (xs : List Due). IsKept (connection_in d) (owed_with xs s) (channel m1 (connection_in d)) (sent_letters (connection_in d) ts) (placed_letters (connection_in d) ts)) (sym next_same) kept)
            (All-append (λ x. (1 ≤ connection_in x) × (connection_in x ≤ peers)) (due_next m1.owed k next) (dues_of 0 (standing machine' receiver))
            (subst (AreOfSenders peers) (sym next_same) owed_next)
            (subst (AreOfSenders peers) (sym seen.standing_same) (all_back (λ x. (1 ≤ connection_in x) × (connection_in x ≤ peers)) m.owed (dues_of 0 (standing h.machine receiver)) h.all.dues)));
      }

  -- .. where something was posted
  pub goes_on_posted : (m1 : Mail) (e : End) (s : Sight) → IsPosted peers m m1 h.machine (connection_in d) e s → IsKeptThen (sight_of h.machine [] (connection_in d)) (channel m (connection_in d)) →
      (e.ended ≡ false → IsKeptThen s (channel m (connection_in d))) → IsHeld peers ts (going_on m1 k next)
  goes_on_posted m1 e s p plain changed = by p.seen
    where
      flagged : (x : Sight) → IsKeptThen x (channel m (connection_in d)) → IsKeptThen x (channel m1 (connection_in d))
      flagged x kept = flags_unread (connection_in d) x.sender x.receiver x.stored x.landed (pending (connection_in d) (due_next m.owed k next ++ x.dues)) (channel m (connection_in d)) (channel m1 (connection_in d)) (sent_letters (connection_in d) ts) (placed_letters (connection_in d) ts) (p.same (connection_in d)) kept

      by : IsSeenAt peers h.machine p.machine' (connection_in d) (sight_of h.machine [] (connection_in d)) ⊎ ((e.ended ≡ false) × IsSeenAt peers h.machine p.machine' (connection_in d) s) → IsHeld peers ts (going_on m1 k next)
      by (inl seen) = goes_on m1 p.machine' (sight_of h.machine [] (connection_in d)) p.stands seen p.owed (λ q low apart. p.same q) p.long (flagged (sight_of h.machine [] (connection_in d)) plain)
      by (inr seen) = goes_on m1 p.machine' s p.stands seen.1 p.owed (λ q low apart. p.same q) p.long (flagged s (changed seen.0))
