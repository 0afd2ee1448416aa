-- A letter is accepted exactly where nothing stands against it.
use Rattle.std.proofs.Common.{arith, ◌≡◌, ℕ, ◌+◌, ◌<◌, ◌≤◌, List, [], ◌∷◌, length, true, false, Bool, refl, sym, subst, ap, ◌∙◌, Some, None, Option, ◌⊎◌, inl, inr, le-ltb}
use Rattle.std.specs.Prelude.{if◌then◌else◌, map, nat_le, nat_lt, not, ◌&&◌, ◌↔◌}
use Rattle.std.proofs.lemmas.Bool.{lt-leb}
use Rattle.rdma_types.specs.declared.names.Name.{Name}
use Rattle.rdma_types.specs.Limits.{most_bytes}
use Rattle.protocol.specs.WorldStep.{is_live}
use Rattle.packetless_machine.specs.Machine.{Machine, context_of, end_of, has_context, untold_count}
use Rattle.law_simulation.specs.Named.{EventsFollowByName}
use Rattle.mailbox_rules.specs.declared.due.Side.TheVariants.{AtSender}
use Rattle.mailbox_rules.specs.declared.faults.MailFault.{MailFault}
use Rattle.mailbox_rules.specs.declared.faults.MailFault.TheVariants as fault
use Rattle.mailbox_rules.specs.declared.letters.Letter.{Letter}
use Rattle.mailbox_rules.specs.Calls.{IsSent, Refused, by_fault, is_full, message_of, posts_letter, replies, send_event, send_fault, sending, sends, staged, untold_at}
use Rattle.mailbox_rules.specs.Histories.{Turn, placed_letters, sent_letters}
use Rattle.mailbox_rules.specs.Letters.{is_rendezvous}
use Rattle.mailbox_rules.specs.Opening.{depth, end_name, receiver_end, sender, sender_end}
use Rattle.mailbox_rules.specs.State.{Mail, channel, is_away, is_sender, with_channel}
use Rattle.mailbox_rules.specs.Working.{asking, is_too_many, posted}
use Rattle.law_mailbox.specs.Accepted.{MayGo}
use Rattle.law_mailbox.specs.Answered.{IsFurnishedFor, Plan}
use Rattle.law_mailbox.specs.Flagged.{IsOverSince, most_letters}
use Rattle.law_mailbox.specs.Held.{MayBeSent}
use Rattle.law_mailbox.specs.Kept.{IsKept, frees_in, long_letters, sight_of, slots}
use Rattle.law_mailbox.specs.Over.{IsWorkOver}
use Rattle.law_mailbox.proofs.connection.Sights.{context_there}
use Rattle.law_mailbox.proofs.flags.Reaching.{used}
use Rattle.law_mailbox.proofs.flags.Truth.{IsHeldTrue, failed_is}
use Rattle.law_mailbox.proofs.opening.Furnishing.{furnished_machine}
use Rattle.law_mailbox.proofs.settling.Answering.{untold_is}
use Rattle.law_mailbox.proofs.settling.Finishing.{sender_over}
use Rattle.law_mailbox.proofs.work.Asking.{lives}
use Rattle.law_mailbox.proofs.work.Channels.{sender_is}
use Rattle.law_mailbox.proofs.work.Staged.{MaySend, may_send}
use Rattle.law_mailbox.proofs.work.Worked.{context_is}

-- ---- why a letter is refused, or not

-- the table of refusals
abbrev table : Bool → Bool → Bool → Bool → Bool → Option MailFault
table no_sender long away ended full =
    if no_sender then Some fault.NoSender else if long then Some fault.TooLong else if away then Some fault.Moving else if ended then Some fault.Ended else if full then Some fault.Full else None

ended_only : (a b c d e : Bool) → table a b c d e ≡ Some fault.Ended → d ≡ true
ended_only true b c d e h = cc
ended_only false true c d e h = cc
ended_only false false true d e h = cc
ended_only false false false true e h = refl
ended_only false false false false true h = cc
ended_only false false false false false h = cc

known_then : (a b c d e : Bool) → table a b c d e ≡ Some fault.Ended → a ≡ false
known_then true b c d e h = cc
known_then false b c d e h = refl

-- what is answered where no fault is found
posted_reply : (m : Mail) (i : ℕ) (l : Letter) (b : Bool) → is_too_many (asking (staged m i l) (send_event i (length (message_of i l)))).answer ≡ b → (posts_letter m i l).reply ≡ (if b then Refused fault.Ended else IsSent)
unfolding posts_letter
posted_reply m i l b e = by (is_too_many (asking (staged m i l) (send_event i (length (message_of i l)))).answer) b e
  where
    by : (x y : Bool) → x ≡ y →
        (if x then replies (posted (asking (staged m i l) (send_event i (length (message_of i l)))) AtSender i) (Refused fault.Ended) else replies (with_channel (posted (asking (staged m i l) (send_event i (length (message_of i l)))) AtSender i) i (sending l)) IsSent).reply ≡ (if y then Refused fault.Ended else IsSent)
    by true true f = refl
    by true false f = cc
    by false true f = cc
    by false false f = refl

module _ (follow : EventsFollowByName) (peers : ℕ) (positive : 1 ≤ peers) (small : peers ≤ 8) (ts : List Turn) (m : Mail) (h : IsHeldTrue peers ts m) (over : IsWorkOver peers m) (furnished : IsFurnishedFor peers m.world) where
  abbrev machine : Machine
  machine = h.few.machine

  -- ---- a sender

  module _ (i : ℕ) (there : is_sender m i ≡ true) where
    low : 1 ≤ i
    low = (sender_is m i there).from_one

    high : i ≤ peers
    high = subst (λ (n : ℕ). i ≤ n) h.few.senders (sender_is m i there).within

    kept : IsKept i (sight_of machine m.owed i) (channel m i) (sent_letters i ts) (placed_letters i ts)
    kept = h.few.all.kept i low high

    names : map (λ e. e.name) (context_of machine (sender i)).ends ≡ end_name ∷ []
    names = ap (λ (p : Plan). p.ends) ((furnished_machine peers m.world machine h.few.stands furnished).at_sender i low high)

    untold_same : is_away m.world i ≡ false → untold_at m.world i ≡ untold_count (end_of machine (sender_end i))
    untold_same home =
        let context : has_context machine (sender i) ≡ true = context_there machine (sender_end i) (h.few.all.opened i low high).sender_there in
        let live : is_live m.world (sender i) ≡ true =
        subst (λ (c : Name). is_live m.world c ≡ true) (context_is i low) (lives m.world machine i h.few.stands (subst (λ (c : Name). has_context machine c ≡ true) (sym (context_is i low)) context) home) in
        untold_is m.world machine i h.few.stands live names

    -- the slot is in use exactly until each long letter's Send of no bytes acted
    slot_is : is_away m.world i ≡ false → length (long_letters (sent_letters i ts)) ≡ frees_in (end_of machine (receiver_end i)).acted + (if (channel m i).slot_in_use then 1 else 0)
    slot_is home =
        let freed = kept.counts.slot_freed in
        let none : length (slots i (sight_of machine m.owed i).dues) ≡ 0 = ap length (sender_over peers m machine h.few.stands over i low high home) in
        omega (arith, freed, none)

    free_then : (b : Bool) (long freed : ℕ) → long ≡ freed + (if b then 1 else 0) → freed ≡ long → b ≡ false
    free_then true long freed e f = absurd (omega (arith, e, f))
    free_then false long freed e f = refl

    -- why the flag is set
    flagged : (channel m i).sender_ended ≡ true → ((end_of machine (sender_end i)).ended ≡ true) ⊎ (most_letters ≤ length (sent_letters i ts))
    flagged set = by (h.flags.at_sender i low high set)
      where
        by : IsOverSince m.world (sender_end i) (sent_letters i ts) → ((end_of machine (sender_end i)).ended ≡ true) ⊎ (most_letters ≤ length (sent_letters i ts))
        by (inl failed) = inl (failed_is m.world machine (sender_end i) h.few.stands (h.few.all.opened i low high).sender_there ∙ failed)
        by (inr many) = inr many

    unflagged : (end_of machine (sender_end i)).ended ≡ false → length (sent_letters i ts) < most_letters → (b : Bool) → (channel m i).sender_ended ≡ b → b ≡ false
    unflagged live few false e = refl
    unflagged live few true e = by (flagged e)
      where
        by : ((end_of machine (sender_end i)).ended ≡ true) ⊎ (most_letters ≤ length (sent_letters i ts)) → true ≡ false
        by (inl ended) = sym ended ∙ live
        by (inr many) = absurd (omega (arith, few, many))

  -- ---- a letter

  module _ (i : ℕ) (l : Letter) (may : MayBeSent l) where
    abbrev Goes : Type 0
    Goes = MayGo m i l.body (sent_letters i ts) (end_of machine (sender_end i)) (end_of machine (receiver_end i))

    goes_then : send_fault m i l.body ≡ None → Goes
    goes_then none =
        let s : MaySend m i l.body = may_send m i l.body none in
        let same = untold_same i s.there s.home in
        let few = s.few in
        record {
          known = s.there;
          fits = s.short;
          lives = s.home;
          room = omega (arith, few, same);
          slot = λ long.
              let is = slot_is i s.there s.home in
              let zero' : ◌≡◌ {A = ℕ} (if (channel m i).slot_in_use then 1 else 0) 0 = ap (λ (b : Bool). if b then 1 else 0) (s.free long) in
              omega (arith, is, zero');
        }

    no_fault : Goes → (channel m i).sender_ended ≡ false → send_fault m i l.body ≡ None
    no_fault g unset =
        let same = untold_same i g.known g.lives in
        let room = g.room in
        let fits = g.fits in
        let short : nat_lt most_bytes (length l.body) ≡ false = le-ltb most_bytes (length l.body) fits in
        let few : nat_le depth (untold_at m.world i) ≡ false = lt-leb depth (untold_at m.world i) (omega (arith, room, same)) in
        rw (g.known, short, g.lives, unset, few) (by (is_rendezvous l.body) refl)
      where
        by : (b : Bool) → is_rendezvous l.body ≡ b → ◌≡◌ {A = Option MailFault} (if b && (channel m i).slot_in_use then Some fault.Full else None) None
        by true long = rw (free_then i g.known (channel m i).slot_in_use _ _ (slot_is i g.known g.lives) (g.slot long)) refl
        by false long = refl

    -- the answer of the call
    sent_if : (x : Option MailFault) → send_fault m i l.body ≡ x → (by_fault m x (posts_letter m i l)).reply ≡ IsSent → Goes
    sent_if (Some f) e reply = cc
    sent_if None e reply = goes_then e

    never_used_up : (free : MaySend m i l.body) → length (sent_letters i ts) < most_letters → (b : Bool) → is_too_many (asking (staged m i l) (send_event i (length (message_of i l)))).answer ≡ b → b ≡ false
    never_used_up free few false e = refl
    never_used_up free few true e = let many = used follow peers small ts m h.few i l may free e in absurd (omega (arith, few, many))

    then_sent : (end_of machine (sender_end i)).ended ≡ false → length (sent_letters i ts) < most_letters → Goes → (sends m i l).reply ≡ IsSent
    unfolding sends
    then_sent live few g =
        let none : send_fault m i l.body ≡ None = no_fault g (unflagged i g.known live few (channel m i).sender_ended refl) in
        let not_many : is_too_many (asking (staged m i l) (send_event i (length (message_of i l)))).answer ≡ false = never_used_up (may_send m i l.body none) few (is_too_many (asking (staged m i l) (send_event i (length (message_of i l)))).answer) refl in
        ap (λ (x : Option MailFault). (by_fault m x (posts_letter m i l)).reply) none ∙ posted_reply m i l false not_many

    pub accepted : (end_of machine (sender_end i)).ended ≡ false → length (sent_letters i ts) < most_letters → ((sends m i l).reply ≡ IsSent) ↔ MayGo m i l.body (sent_letters i ts) (end_of h.few.machine (sender_end i)) (end_of h.few.machine (receiver_end i))
    unfolding sends
    accepted live few = (λ reply. sent_if (send_fault m i l.body) refl reply, λ g. then_sent live few g)

    pub ended : (sends m i l).reply ≡ Refused fault.Ended → ((end_of h.few.machine (sender_end i)).ended ≡ true) ⊎ (most_letters ≤ length (sent_letters i ts))
    unfolding sends
    ended reply = by (send_fault m i l.body) refl reply
      where
        same_fault : (f : MailFault) → Refused f ≡ Refused fault.Ended → f ≡ fault.Ended
        same_fault f e = cc

        there_if : (b : Bool) → not b ≡ false → b ≡ true
        there_if true e = refl
        there_if false e = cc

        by : (x : Option MailFault) → send_fault m i l.body ≡ x → (by_fault m x (posts_letter m i l)).reply ≡ Refused fault.Ended → ((end_of machine (sender_end i)).ended ≡ true) ⊎ (most_letters ≤ length (sent_letters i ts))
        by (Some f) e r =
            let is : table (not (is_sender m i)) (nat_lt most_bytes (length l.body)) (is_away m.world i) (channel m i).sender_ended (is_full m i l.body) ≡ Some fault.Ended = e ∙ ap Some (same_fault f r) in
            let there : is_sender m i ≡ true = there_if (is_sender m i) (known_then (not (is_sender m i)) (nat_lt most_bytes (length l.body)) (is_away m.world i) (channel m i).sender_ended (is_full m i l.body) is) in
            flagged i there (ended_only (not (is_sender m i)) (nat_lt most_bytes (length l.body)) (is_away m.world i) (channel m i).sender_ended (is_full m i l.body) is)
        by None e r = inr (used follow peers small ts m h.few i l may (may_send m i l.body e) (many (is_too_many (asking (staged m i l) (send_event i (length (message_of i l)))).answer) refl))
          where
            many : (b : Bool) → is_too_many (asking (staged m i l) (send_event i (length (message_of i l)))).answer ≡ b → is_too_many (asking (staged m i l) (send_event i (length (message_of i l)))).answer ≡ true
            many true f = f
            many false f = let no : IsSent ≡ Refused fault.Ended = sym (posted_reply m i l false f) ∙ r in cc
