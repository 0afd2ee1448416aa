-- What is held stays held, where a letter is stored and posted.
use Rattle.std.proofs.Common.{arith, ◌≡◌, ◌≢◌, ℕ, ◌+◌, ◌≤◌, List, [], ◌∷◌, ◌++◌, length, true, false, Bool, refl, sym, subst, ap, ◌∙◌, Some, None, Option, ◌⊎◌, inl, inr, append-nil, eq-eqb, ne_eqb}
use Rattle.std.specs.Prelude.{if◌then◌else◌, ◌==◌}
use Rattle.rdma_types.specs.declared.answers.Answer.{Answer}
use Rattle.rdma_types.specs.declared.answers.Answer.TheVariants as answers
use Rattle.rdma_types.specs.declared.answers.Refusal.{Refusal}
use Rattle.rdma_types.specs.declared.requests.Kind.TheVariants as kind
use Rattle.rdma_types.specs.declared.requests.Request.{Request}
use Rattle.rdma_types.specs.declared.verbs.Verb.TheVariants as verbs
use Rattle.rdma_types.specs.Limits.{most_bytes}
use Rattle.rdma_types.specs.Memory.{cut, local_key}
use Rattle.protocol.specs.declared.events.WorldEvent.TheVariants as world_events
use Rattle.protocol.specs.WorldStep.{world_step}
use Rattle.packetless_machine.specs.Machine.{Machine, end_of, regions_of}
use Rattle.packetless_machine.specs.Verbs.{after_answer, answered, posted, refusal_of, region_of, taken}
use Rattle.law_simulation.specs.Kept.{is_unmade}
use Rattle.law_simulation.specs.Law.{IsRequestInRange}
use Rattle.law_simulation.specs.Named.{EventsFollowByName}
use Rattle.law_simulation.specs.Stands.{Stands}
use Rattle.mailbox_rules.specs.declared.due.Due.{Due}
use Rattle.mailbox_rules.specs.declared.due.Side.TheVariants.{AtSender}
use Rattle.mailbox_rules.specs.declared.faults.MailFault.TheVariants as fault
use Rattle.mailbox_rules.specs.declared.letters.Letter.{Letter}
use Rattle.mailbox_rules.specs.Calls.{After, IsSent, Refused, Send, message_of, posts_letter, replies, send_event, sending, staged}
use Rattle.mailbox_rules.specs.Histories.{Placed, Turn, placed_letters, sent_letters}
use Rattle.mailbox_rules.specs.Letters.{is_rendezvous}
use Rattle.mailbox_rules.specs.Opening.{place_bytes, receiver, sender, sender_end, sender_key, sender_region, staging_address}
use Rattle.mailbox_rules.specs.State.{Channel, Mail, channel, ending, is_sender, with_channel}
use Rattle.mailbox_rules.specs.Working.{asking, is_too_many, request, working}
use Rattle.mailbox_rules.specs.Working as in_working
use Rattle.law_mailbox.specs.Calls.{IsSendAnswered, SendsAreKept}
use Rattle.law_mailbox.specs.Held.{AreOfSenders, IsHeld, MayBeSent}
use Rattle.law_mailbox.specs.Headers.{IsLetter}
use Rattle.law_mailbox.specs.Kept.{IsKept, IsOpened, Sight, dues_of, pending, sent_as, sight_of, slot_offset, standing}
use Rattle.law_mailbox.specs.Works.{IsKeptLine, Line, Sends, SendsEnded, WorksTo}
use Rattle.law_mailbox.proofs.work.Asking.{Asks, Made, Unmade, asks}
use Rattle.law_mailbox.proofs.work.Changing.{AreLettersSame, IsSameFor, IsSeenAt, all_kept, flags_unread, one_or_not, owed_with, same_itself, sees_itself}
use Rattle.law_mailbox.proofs.work.Channels.{changed_elsewhere, changed_long, changed_there}
use Rattle.law_mailbox.proofs.work.DueSteps.{send_verb, sender_there}
use Rattle.law_mailbox.proofs.connection.Flags.{ending_long, ending_seen}
use Rattle.law_mailbox.proofs.connection.Keyed.{bytes_by_key}
use Rattle.law_mailbox.proofs.settling.Opened.{placed_more, sent_more, were_sent}
use Rattle.law_mailbox.proofs.work.PostedAs.{IsHeldAs, as_both, copied_of, copied_stays}
use Rattle.law_mailbox.proofs.connection.Posting.{request_at_sender, sent_standing, with_sent}
use Rattle.law_mailbox.proofs.connection.Regions.{region_holds, region_offset}
use Rattle.law_mailbox.proofs.work.Staged.{IsStaged, MaySend, channel_same, is_staged, may_send, message_fits, sender_among, staged_as, worked_before}
use Rattle.law_mailbox.proofs.connection.Storing.{standing_stays}
use Rattle.law_mailbox.proofs.work.WorkSteps.{work_keeps}

-- ---- the request of a letter

abbrev pub letter_request : ℕ → Letter → Request
letter_request i l = request kind.Send (sender_key i) staging_address (length (message_of i l)) 0 0

pub send_in_range : (i : ℕ) (l : Letter) → IsRequestInRange (letter_request i l)
send_in_range i l = record { remote = omega arith; rkey = omega arith; swap_add = omega arith; compare = omega arith; no_compare = λ e. refl; imm = tt; word = λ e. cc }

-- it takes the message from the staging bytes
letter_taken : (m : Machine) (i : ℕ) (l : Letter) → IsOpened m i → cut 0 (length (message_of i l)) (region_of m (sender_region i)).bytes ≡ message_of i l → taken m (sender_end i) (letter_request i l) ≡ sent_as i l
unfolding taken region_of
letter_taken m i l opened message =
    let is = opened.sender_region_is in
    let whole = is.whole in
    let fits = message_fits i l in
    let key = ap (λ k. k.local) is.keyed in
    let at : staging_address ≡ staging_address + 0 = omega arith in
    let held = region_holds (region_of m (sender_region i)) staging_address (place_bytes + most_bytes) 5 (sender_key i) is staging_address 0 (length (message_of i l)) at (omega (arith, whole, fits)) in
    let found = bytes_by_key local_key (sender_key i) (sender_region i).name staging_address (length (message_of i l)) (regions_of m (sender i)) opened.sender_region_there key opened.sender_keyed.local_once held in
    ap (λ (bs : List ℕ). record { request = letter_request i l; payload = bs })
    (found ∙ (ap (λ (n : ℕ). cut n (length (message_of i l)) (region_of m (sender_region i)).bytes) (region_offset (region_of m (sender_region i)) staging_address (place_bytes + most_bytes) 5 (sender_key i) is staging_address 0 at) ∙ message))

-- ---- what the posting leaves

-- it was refused, and nothing changed, or it was done
data Posts (m : Machine) (a : Answer) (r : Request) (i : ℕ) (w : Mail) : Type 0 where
  Refuses : (a ≡ answers.Done → ⊥) → Stands w.world m → Posts m a r i w
  HasPosted : (is_too_many a ≡ true → ⊥) → Stands w.world (posted m (sender_end i) r) → Posts m a r i w

done_made : (a : Answer) → is_unmade a ≡ true → a ≡ answers.Done → ⊥
unfolding is_unmade
done_made a u e = let no : false ≡ true = ap is_unmade (sym e) ∙ u in cc

module _ (follow : EventsFollowByName) (m : Mail) (machine : Machine) (i : ℕ) (l : Letter) (stands : Stands m.world machine) where
  posts : Posts machine (asking m (send_event i (length (message_of i l)))).answer (letter_request i l) i (asking m (send_event i (length (message_of i l)))).mail
  unfolding asking
  posts = by (asks follow m.world machine (send_event i (length (message_of i l))) (verbs.PostSend (sender_end i) (letter_request i l)) (send_verb (sender_end i) (letter_request i l)) (λ a. refl) (send_in_range i l) stands)
    where
      made : (given : ℕ) (r : Option Refusal) → (world_step m.world (world_events.At (send_event i (length (message_of i l))))).answer ≡ answered r machine (verbs.PostSend (sender_end i) (letter_request i l)) given →
          Stands (world_step m.world (world_events.At (send_event i (length (message_of i l))))).world (after_answer r machine (verbs.PostSend (sender_end i) (letter_request i l)) given) →
          Posts machine (asking m (send_event i (length (message_of i l)))).answer (letter_request i l) i (asking m (send_event i (length (message_of i l)))).mail
      made given None a s = HasPosted (λ e. let no : false ≡ true = ap is_too_many (sym a) ∙ e in cc) s
      made given (Some r) a s = Refuses (λ e. let no : answers.Refused r ≡ answers.Done = sym a ∙ e in cc) s

      by : Asks m.world machine (send_event i (length (message_of i l))) (verbs.PostSend (sender_end i) (letter_request i l)) → Posts machine (asking m (send_event i (length (message_of i l)))).answer (letter_request i l) i (asking m (send_event i (length (message_of i l)))).mail
      by (Unmade u s) = Refuses (done_made _ u) s
      by (Made given a s) = made given (refusal_of machine (verbs.PostSend (sender_end i) (letter_request i l))) a s

-- ---- the letters that were sent then

module _ (i : ℕ) (l : Letter) (ts : List Turn) where
  -- none more, where the end ended
  refused_same : (q : ℕ) → AreLettersSame q ts (ts ++ record { call = Send i l.tag l.body; reply = Refused fault.Ended } ∷ [])
  refused_same q =
      let t : Turn = record { call = Send i l.tag l.body; reply = Refused fault.Ended } in
      (sent_more q ts t ∙ append-nil (sent_letters q ts), placed_more q ts t)

  -- one more on this connection
  sent_here : sent_letters i (ts ++ record { call = Send i l.tag l.body; reply = IsSent } ∷ []) ≡ sent_letters i ts ++ l ∷ []
  sent_here =
      sent_more i ts (record { call = Send i l.tag l.body; reply = IsSent })
      ∙ ap (λ (b : Bool). sent_letters i ts ++ (if b then l ∷ [] else [])) (eq-eqb i i refl)

  placed_here : placed_letters i (ts ++ record { call = Send i l.tag l.body; reply = IsSent } ∷ []) ≡ placed_letters i ts ++ record { place = length (sent_letters i ts); letter = l } ∷ []
  placed_here =
      placed_more i ts (record { call = Send i l.tag l.body; reply = IsSent })
      ∙ ap (λ (b : Bool). if b then placed_letters i ts ++ record { place = length (sent_letters i ts); letter = l } ∷ [] else placed_letters i ts) (eq-eqb i i refl)

  -- and none on another
  sent_elsewhere : (q : ℕ) → q ≢ i → AreLettersSame q ts (ts ++ record { call = Send i l.tag l.body; reply = IsSent } ∷ [])
  sent_elsewhere q apart =
      let t : Turn = record { call = Send i l.tag l.body; reply = IsSent } in
      let other : (i == q) ≡ false = ne_eqb i q (λ e. apart (sym e)) in (
        sent_more q ts t ∙ (ap (λ (b : Bool). sent_letters q ts ++ (if b then l ∷ [] else [])) other ∙ append-nil (sent_letters q ts)),
        placed_more q ts t ∙ ap (λ (b : Bool). if b then placed_letters q ts ++ record { place = length (sent_letters q ts); letter = l } ∷ [] else placed_letters q ts) other,
      )

-- ---- the law

module _ (follow : EventsFollowByName) (peers : ℕ) (small : peers ≤ 8) (ts : List Turn) (m : Mail) (h : IsHeld peers ts m) (i : ℕ) (l : Letter) (may : MayBeSent l) (free : MaySend m i l.body) where
  among : (1 ≤ i) × (i ≤ peers)
  among = sender_among peers ts m i h free.there

  abbrev m2 : Mail
  m2 = staged m i l

  g : IsStaged peers ts h.machine m (staged m i l) i l
  g = is_staged follow peers small ts m h i among.0 among.1 l may free

  abbrev a : in_working.Asked
  a = asking (staged m i l) (send_event i (length (message_of i l)))

  leaves : Posts g.held.machine (asking (staged m i l) (send_event i (length (message_of i l)))).answer (letter_request i l) i (asking (staged m i l) (send_event i (length (message_of i l)))).mail
  leaves = posts follow (staged m i l) g.held.machine i l g.held.stands

  there : is_sender m2 i ≡ true
  there = sender_there m2 peers i g.held.senders among.0 among.1

  -- the end ended
  ended_held : (m3 : Mail) → Stands m3.world g.held.machine → m3.owed ≡ m2.owed → ((q : ℕ) → IsSameFor (channel m2 q) (channel m3 q)) → length m3.channels ≡ length m2.channels →
      ((q : ℕ) → 1 ≤ q → copied_of (channel m3 q) ≡ copied_of (channel m2 q)) → IsHeldAs peers (ts ++ record { call = Send i l.tag l.body; reply = Refused fault.Ended } ∷ []) m2 m3 g.held.machine
  ended_held m3 stands owed same long copied =
      let t : Turn = record { call = Send i l.tag l.body; reply = Refused fault.Ended } in
      let s : Sight = sight_of g.held.machine [] i in
      let old : IsKept i (owed_with m2.owed (sight_of g.held.machine [] i)) (channel m3 i) (sent_letters i ts) (placed_letters i ts) =
      flags_unread i s.sender s.receiver s.stored s.landed (pending i (m2.owed ++ s.dues)) (channel m2 i) (channel m3 i) (sent_letters i ts) (placed_letters i ts) (same i) (g.held.all.kept i among.0 among.1) in
      let sent : IsKept i (owed_with m2.owed (sight_of g.held.machine [] i)) (channel m3 i) (sent_letters i (ts ++ t ∷ [])) (placed_letters i ts) =
      subst (λ (ls : List Letter). IsKept i (owed_with m2.owed (sight_of g.held.machine [] i)) (channel m3 i) ls (placed_letters i ts)) (sym (refused_same i l ts i).0) old in
      let placed : IsKept i (owed_with m2.owed (sight_of g.held.machine [] i)) (channel m3 i) (sent_letters i (ts ++ t ∷ [])) (placed_letters i (ts ++ t ∷ [])) =
      subst (λ (ls : List Placed). IsKept i (owed_with m2.owed (sight_of g.held.machine [] i)) (channel m3 i) (sent_letters i (ts ++ record { call = Send i l.tag l.body; reply = Refused fault.Ended } ∷ [])) ls) (sym (refused_same i l ts i).1) sent in
      record {
        held = record {
          machine = g.held.machine;
          stands = stands;
          senders = long ∙ g.held.senders;
          all = all_kept peers ts (ts ++ t ∷ []) m2 m3 g.held.machine g.held.machine i (sight_of g.held.machine [] i) g.held.all (sees_itself peers g.held.machine i)
              (λ q low high apart. same q)
              (λ q low high apart. ap (λ (ds : List Due). pending q (ds ++ (sight_of g.held.machine [] q).dues)) owed)
              (λ q low high apart. refused_same i l ts q)
              (subst (λ (ds : List Due). IsKept i (owed_with ds (sight_of g.held.machine [] i)) (channel m3 i) (sent_letters i (ts ++ record { call = Send i l.tag l.body; reply = Refused fault.Ended } ∷ [])) (placed_letters i (ts ++ record { call = Send i l.tag l.body; reply = Refused fault.Ended } ∷ []))) (sym owed) placed)
              (subst (λ (ds : List Due). AreOfSenders peers (ds ++ dues_of 0 (standing g.held.machine receiver))) (sym owed) g.held.all.dues);
        };
        as_posted = λ q low high. record { receiver_same = refl; dues_same = refl; owed_same = owed; copied_same = copied q low };
        standing_same = refl;
      }

  -- what is posted and due at the receivers' ends is as before
  seen_as : (machine' : Machine) (s : Sight) → IsSeenAt peers g.held.machine machine' i s → s.receiver ≡ (sight_of g.held.machine [] i).receiver → s.dues ≡ (sight_of g.held.machine [] i).dues →
      (q : ℕ) → 1 ≤ q → q ≤ peers → (q ≡ i) ⊎ (q ≢ i) → ((sight_of machine' [] q).receiver ≡ (sight_of g.held.machine [] q).receiver) × ((sight_of machine' [] q).dues ≡ (sight_of g.held.machine [] q).dues)
  seen_as machine' s seen receiver_is dues_are q low high (inl e) =
      subst (λ (j : ℕ). ((sight_of machine' [] j).receiver ≡ (sight_of g.held.machine [] j).receiver) × ((sight_of machine' [] j).dues ≡ (sight_of g.held.machine [] j).dues)) (sym e)
      (ap (λ (x : Sight). x.receiver) seen.here ∙ receiver_is, ap (λ (x : Sight). x.dues) seen.here ∙ dues_are)
  seen_as machine' s seen receiver_is dues_are q low high (inr apart) = (ap (λ (x : Sight). x.receiver) (seen.others q low high apart), ap (λ (x : Sight). x.dues) (seen.others q low high apart))

  -- the letter was posted
  posted_held : (m3 : Mail) (machine' : Machine) (s : Sight) → Stands m3.world machine' → IsSeenAt peers g.held.machine machine' i s → standing machine' receiver ≡ standing g.held.machine receiver → m3.owed ≡ m2.owed → ((q : ℕ) → 1 ≤ q → q ≢ i → IsSameFor (channel m2 q) (channel m3 q)) → length m3.channels ≡ length m2.channels →
      channel m3 i ≡ sending l (channel m2 i) → IsKept i (owed_with m2.owed s) (sending l (channel m2 i)) (sent_letters i ts ++ l ∷ []) (placed_letters i ts ++ record { place = length (sent_letters i ts); letter = l } ∷ []) →
      s.receiver ≡ (sight_of g.held.machine [] i).receiver → s.dues ≡ (sight_of g.held.machine [] i).dues → ((q : ℕ) → 1 ≤ q → copied_of (channel m3 q) ≡ copied_of (channel m2 q)) →
      IsHeldAs peers (ts ++ record { call = Send i l.tag l.body; reply = IsSent } ∷ []) m2 m3 g.held.machine
  posted_held m3 machine' s stands seen standing_is owed same long is kept receiver_is dues_are copied =
      let t : Turn = record { call = Send i l.tag l.body; reply = IsSent } in
      let sent : IsKept i (owed_with m2.owed s) (sending l (channel m2 i)) (sent_letters i (ts ++ t ∷ [])) (placed_letters i ts ++ record { place = length (sent_letters i ts); letter = l } ∷ []) =
      subst (λ (ls : List Letter). IsKept i (owed_with m2.owed s) (sending l (channel m2 i)) ls (placed_letters i ts ++ record { place = length (sent_letters i ts); letter = l } ∷ [])) (sym (sent_here i l ts)) kept in
      let placed : IsKept i (owed_with m2.owed s) (sending l (channel m2 i)) (sent_letters i (ts ++ t ∷ [])) (placed_letters i (ts ++ t ∷ [])) =
      subst (λ (ls : List Placed). IsKept i (owed_with m2.owed s) (sending l (channel m2 i)) (sent_letters i (ts ++ record { call = Send i l.tag l.body; reply = IsSent } ∷ [])) ls) (sym (placed_here i l ts)) sent in
      let channeled : IsKept i (owed_with m2.owed s) (channel m3 i) (sent_letters i (ts ++ t ∷ [])) (placed_letters i (ts ++ t ∷ [])) =
      subst (λ (c : Channel). IsKept i (owed_with m2.owed s) c (sent_letters i (ts ++ record { call = Send i l.tag l.body; reply = IsSent } ∷ [])) (placed_letters i (ts ++ record { call = Send i l.tag l.body; reply = IsSent } ∷ []))) (sym is) placed in
      record {
        held = record {
          machine = machine';
          stands = stands;
          senders = long ∙ g.held.senders;
          all = all_kept peers ts (ts ++ t ∷ []) m2 m3 g.held.machine machine' i s g.held.all seen
              (λ q low high apart. same q low apart)
              (λ q low high apart. ap (λ (ds : List Due). pending q (ds ++ (sight_of g.held.machine [] q).dues)) owed)
              (λ q low high apart. sent_elsewhere i l ts q apart)
              (subst (λ (ds : List Due). IsKept i (owed_with ds s) (channel m3 i) (sent_letters i (ts ++ record { call = Send i l.tag l.body; reply = IsSent } ∷ [])) (placed_letters i (ts ++ record { call = Send i l.tag l.body; reply = IsSent } ∷ []))) (sym owed) channeled)
              (subst (λ (ds : List Due). AreOfSenders peers (ds ++ dues_of 0 (standing machine' receiver))) (sym owed)
              (subst (λ (ds : List Due). AreOfSenders peers (m2.owed ++ ds)) (sym seen.standing_same) g.held.all.dues));
        };
        as_posted = λ q low high. let d = seen_as machine' s seen receiver_is dues_are q low high (one_or_not q i) in record { receiver_same = d.0; dues_same = d.1; owed_same = owed; copied_same = copied q low };
        standing_same = standing_is;
      }

  -- ---- by the answer

  abbrev line : Line
  line = record { sight = sight_of g.held.machine m2.owed i; channel = channel m2 i; sent = sent_letters i ts; open' = placed_letters i ts }

  ends_now : is_too_many (asking (staged m i l) (send_event i (length (message_of i l)))).answer ≡ true →
      IsHeldAs peers (ts ++ record { call = Send i l.tag l.body; reply = Refused fault.Ended } ∷ []) m2 (with_channel (asking (staged m i l) (send_event i (length (message_of i l)))).mail i (ending AtSender)) g.held.machine
  unfolding asking
  ends_now many = by leaves
    where
      by : Posts g.held.machine (asking (staged m i l) (send_event i (length (message_of i l)))).answer (letter_request i l) i (asking (staged m i l) (send_event i (length (message_of i l)))).mail →
          IsHeldAs peers (ts ++ record { call = Send i l.tag l.body; reply = Refused fault.Ended } ∷ []) m2 (with_channel (asking (staged m i l) (send_event i (length (message_of i l)))).mail i (ending AtSender)) g.held.machine
      by (Refuses never s) =
          ended_held (with_channel (asking (staged m i l) (send_event i (length (message_of i l)))).mail i (ending AtSender)) s refl (ending_seen (asking (staged m i l) (send_event i (length (message_of i l)))).mail AtSender i) (ending_long (asking (staged m i l) (send_event i (length (message_of i l)))).mail AtSender i)
          (copied_stays (asking (staged m i l) (send_event i (length (message_of i l)))).mail i there (ending AtSender) (λ c. refl))
      by (HasPosted never s) = absurd (never many)

  -- the slot is free, where the body is in it
  in_slot : is_rendezvous l.body ≡ true → ((channel m2 i).slot_in_use ≡ false) × (cut slot_offset (length l.body) (region_of g.held.machine (sender_region i)).bytes ≡ l.body)
  in_slot long = (ap (λ (c : Channel). c.slot_in_use) (channel_same m m2 i g.channels) ∙ free.free long, g.body long)

  is_letter : IsLetter l
  is_letter = record { tag_fits = may.tag_fits; body_fits = free.short }

  works_to : (x' : Line) → WorksTo i line x' → IsKeptLine i x'
  works_to x' works = let high = among.1 in work_keeps i line x' (omega (arith, high, small)) (were_sent i ts) works (g.held.all.kept i among.0 among.1)

  sent_now : (asking (staged m i l) (send_event i (length (message_of i l)))).answer ≡ answers.Done →
      IsHeldAs peers (ts ++ record { call = Send i l.tag l.body; reply = IsSent } ∷ []) m2 (with_channel (asking (staged m i l) (send_event i (length (message_of i l)))).mail i (sending l)) g.held.machine
  unfolding asking
  sent_now done = by leaves
    where
      goes : (machine' : Machine) (s : Sight) → s.receiver ≡ (sight_of g.held.machine [] i).receiver → s.dues ≡ (sight_of g.held.machine [] i).dues → Stands (asking (staged m i l) (send_event i (length (message_of i l)))).mail.world machine' → IsSeenAt peers g.held.machine machine' i s →
          standing machine' receiver ≡ standing g.held.machine receiver → IsKept i (owed_with m2.owed s) (sending l (channel m2 i)) (sent_letters i ts ++ l ∷ []) (placed_letters i ts ++ record { place = length (sent_letters i ts); letter = l } ∷ []) →
          IsHeldAs peers (ts ++ record { call = Send i l.tag l.body; reply = IsSent } ∷ []) m2 (with_channel (asking (staged m i l) (send_event i (length (message_of i l)))).mail i (sending l)) g.held.machine
      goes machine' s receiver_is dues_are stands seen standing_is kept =
          posted_held (with_channel (asking (staged m i l) (send_event i (length (message_of i l)))).mail i (sending l)) machine' s stands seen standing_is refl
          (λ q low apart. subst (λ (c : Channel). IsSameFor (channel m2 q) c) (sym (changed_elsewhere (asking (staged m i l) (send_event i (length (message_of i l)))).mail i there (sending l) q low (λ e. apart (sym e)))) (same_itself (channel m2 q)))
          (changed_long (asking (staged m i l) (send_event i (length (message_of i l)))).mail i there (sending l))
          (changed_there (asking (staged m i l) (send_event i (length (message_of i l)))).mail i there (sending l))
          kept receiver_is dues_are
          (copied_stays (asking (staged m i l) (send_event i (length (message_of i l)))).mail i there (sending l) (λ c. refl))

      opened : IsOpened g.held.machine i
      opened = g.held.all.opened i among.0 among.1

      standing_is : standing (posted g.held.machine (sender_end i) (letter_request i l)) receiver ≡ standing g.held.machine receiver
      standing_is = sent_standing peers small g.held.machine i among.1 opened (letter_request i l)

      either : Stands (asking (staged m i l) (send_event i (length (message_of i l)))).mail.world (posted g.held.machine (sender_end i) (letter_request i l)) →
          (((end_of g.held.machine (sender_end i)).ended ≡ true) × IsSeenAt peers g.held.machine (posted g.held.machine (sender_end i) (letter_request i l)) i (sight_of g.held.machine [] i))
          ⊎ (((end_of g.held.machine (sender_end i)).ended ≡ false) × IsSeenAt peers g.held.machine (posted g.held.machine (sender_end i) (letter_request i l)) i (with_sent peers small g.held.machine i among.1 opened (sent_as i l))) →
          IsHeldAs peers (ts ++ record { call = Send i l.tag l.body; reply = IsSent } ∷ []) m2 (with_channel (asking (staged m i l) (send_event i (length (message_of i l)))).mail i (sending l)) g.held.machine
      either s (inl x) = goes _ (sight_of g.held.machine [] i) refl refl s x.1 standing_is (works_to _ (SendsEnded l is_letter x.0 in_slot))
      either s (inr x) = goes _ (with_sent peers small g.held.machine i among.1 opened (sent_as i l)) refl refl s x.1 standing_is (works_to _ (Sends l is_letter x.0 in_slot))

      by : Posts g.held.machine (asking (staged m i l) (send_event i (length (message_of i l)))).answer (letter_request i l) i (asking (staged m i l) (send_event i (length (message_of i l)))).mail →
          IsHeldAs peers (ts ++ record { call = Send i l.tag l.body; reply = IsSent } ∷ []) m2 (with_channel (asking (staged m i l) (send_event i (length (message_of i l)))).mail i (sending l)) g.held.machine
      by (Refuses never s) = absurd (never done)
      by (HasPosted never s) = either s (request_at_sender peers small g.held.machine i among.1 opened (letter_request i l) (sent_as i l) (letter_taken g.held.machine i l opened g.message))

  many_is : is_too_many (asking (staged m i l) (send_event i (length (message_of i l)))).answer ≡ true → posts_letter m i l ≡ replies (with_channel (asking (staged m i l) (send_event i (length (message_of i l)))).mail i (ending AtSender)) (Refused fault.Ended)
  unfolding posts_letter
  many_is many =
      ap (λ (b : Bool). if b then replies (if b then with_channel (asking (staged m i l) (send_event i (length (message_of i l)))).mail i (ending AtSender) else (asking (staged m i l) (send_event i (length (message_of i l)))).mail) (Refused fault.Ended)
      else replies (with_channel (if b then with_channel (asking (staged m i l) (send_event i (length (message_of i l)))).mail i (ending AtSender) else (asking (staged m i l) (send_event i (length (message_of i l)))).mail) i (sending l)) IsSent) many

  done_is : (asking (staged m i l) (send_event i (length (message_of i l)))).answer ≡ answers.Done → posts_letter m i l ≡ replies (with_channel (asking (staged m i l) (send_event i (length (message_of i l)))).mail i (sending l)) IsSent
  unfolding posts_letter
  done_is done =
      ap (λ (b : Bool). if b then replies (if b then with_channel (asking (staged m i l) (send_event i (length (message_of i l)))).mail i (ending AtSender) else (asking (staged m i l) (send_event i (length (message_of i l)))).mail) (Refused fault.Ended)
      else replies (with_channel (if b then with_channel (asking (staged m i l) (send_event i (length (message_of i l)))).mail i (ending AtSender) else (asking (staged m i l) (send_event i (length (message_of i l)))).mail) i (sending l)) IsSent) (ap is_too_many done)

  by_answer : IsSendAnswered m i l → IsHeldAs peers (ts ++ record { call = Send i l.tag l.body; reply = (posts_letter m i l).reply } ∷ []) m2 (posts_letter m i l).mail g.held.machine
  by_answer (inl done) = subst (λ (x : After). IsHeldAs peers (ts ++ record { call = Send i l.tag l.body; reply = x.reply } ∷ []) m2 x.mail g.held.machine) (sym (done_is done)) (sent_now done)
  by_answer (inr many) = subst (λ (x : After). IsHeldAs peers (ts ++ record { call = Send i l.tag l.body; reply = x.reply } ∷ []) m2 x.mail g.held.machine) (sym (many_is many)) (ends_now many)

  pub sent_held_as : IsSendAnswered m i l → IsHeldAs peers (ts ++ record { call = Send i l.tag l.body; reply = (posts_letter m i l).reply } ∷ []) m (posts_letter m i l).mail h.machine
  sent_held_as answered =
      let a = by_answer answered in
      record {
        held = a.held;
        as_posted = λ q low high. as_both q m m2 (posts_letter m i l).mail h.machine g.held.machine a.held.machine (staged_as peers ts m h.machine i l g q) (a.as_posted q low high);
        standing_same = a.standing_same ∙ standing_stays h.machine g.held.machine g.like receiver;
      }

pub sends_kept : EventsFollowByName → SendsAreKept
sends_kept follow peers small ts m i l may h fault answered = (sent_held_as follow peers small ts (working m) (worked_before follow peers small ts m h) i l may (may_send (working m) i l.body fault) answered).held
