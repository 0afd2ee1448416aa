-- After any calls each flag is set for a reason.
use Rattle.std.proofs.Common.{arith, ◌≡◌, ℕ, ◌≤◌, List, [], ◌∷◌, ◌++◌, length, true, false, Bool, refl, sym, subst, ap, ◌∙◌, Some, None, Option, length-append}
use Rattle.std.specs.Prelude.{if◌then◌else◌, slice_get}
use Rattle.rdma_types.specs.declared.verbs.Verb.TheVariants as verbs
use Rattle.protocol.specs.declared.events.WorldEvent.{WorldEvent}
use Rattle.protocol.specs.State.{World, empty_world}
use Rattle.protocol.specs.WorldStep.{world_step}
use Rattle.packetless_machine.specs.declared.steps.MachineStep.{MachineStep}
use Rattle.packetless_machine.specs.Legal.{IsRun, after, effect, is_enabled, seen, seen_of}
use Rattle.packetless_machine.specs.Machine.{Machine, empty}
use Rattle.packetless_machine.specs.Verbs.{after_verb}
use Rattle.law_settling.specs.Settling.{SettlingHasEvents}
use Rattle.law_simulation.specs.Law.{AlwaysFollows, Follows}
use Rattle.law_simulation.specs.Named.{EventsFollowByName, RunsFollowByName}
use Rattle.law_simulation.specs.Stands.{Stands}
use Rattle.mailbox_rules.specs.declared.due.Side.TheVariants.{AtSender}
use Rattle.mailbox_rules.specs.declared.faults.MailFault.TheVariants as fault
use Rattle.mailbox_rules.specs.declared.letters.Arrival.{Arrival}
use Rattle.mailbox_rules.specs.declared.letters.Letter.{Letter}
use Rattle.mailbox_rules.specs.Calls.{Call, IsSent, Refused, Reply, Send, Take, by_fault, first_asked, gives, gives_at, gives_body, is_of_network, message_of, posts_letter, replies, send_event, send_fault, sending, staged, storing, takes, taking}
use Rattle.mailbox_rules.specs.Histories.{Turn, sent_by, sent_letters}
use Rattle.mailbox_rules.specs.Opening.{sender_end, slot_address}
use Rattle.mailbox_rules.specs.State.{Mail, channel, ending, is_sender, made, with_channel, with_world}
use Rattle.mailbox_rules.specs.Theorem.{Begins, IsReached, Replied, WasCut}
use Rattle.mailbox_rules.specs.Wanting.{AllStored, BodyStored, IsPartlyStored, NotStored}
use Rattle.mailbox_rules.specs.Working.{asking, is_too_many, working}
use Rattle.law_mailbox.specs.AlwaysFew.{BeginningIsFew}
use Rattle.law_mailbox.specs.Few.{IsHeldFew, StepsKeepFew, WorksKeepFew}
use Rattle.law_mailbox.specs.Flagged.{FlagsAreTrue, most_letters}
use Rattle.law_mailbox.specs.Held.{AreAllKept, AtReceiverOf, AtSenderOf, IsAllKept, IsEndOf, IsHeld, MayBeSent}
use Rattle.law_mailbox.specs.Over.{SendsAreAnsweredAfterWork}
use Rattle.law_mailbox.specs.Ready.{IsReadyMail}
use Rattle.law_mailbox.specs.Seen.{IsOf}
use Rattle.law_mailbox.specs.Stops.{WorkStopsInTime}
use Rattle.law_mailbox.specs.Whole.{AllIsKept}
use Rattle.std.proofs.Common.{inl, inr}
use Rattle.law_mailbox.proofs.connection.Connected.{stepping, stepping_connected}
use Rattle.law_mailbox.proofs.connection.Sights.{context_there}
use Rattle.law_mailbox.proofs.flags.Errors.{GoesTrue, goes_itself, goes_then, like_goes, sender_request_verb_goes, steps_go}
use Rattle.law_mailbox.proofs.flags.First.{begins_true}
use Rattle.law_mailbox.proofs.flags.Setting.{FlagsFrom, flags_left, flags_same, flags_set, flags_then}
use Rattle.law_mailbox.proofs.flags.Truth.{ChangesTrue, IsHeldTrue, ReceiverReason, SenderReason, then_true}
use Rattle.law_mailbox.proofs.flags.UsedUp.{sender_used_up}
use Rattle.law_mailbox.proofs.flags.Works.{works_true}
use Rattle.law_mailbox.proofs.queue_room.FewAs.{held_of}
use Rattle.law_mailbox.proofs.queue_room.FewReaching.{event_few, idle_few, sent_few, stored_few, taken_few}
use Rattle.law_mailbox.proofs.settling.Opened.{sent_more}
use Rattle.law_mailbox.proofs.work.Asking.{Asks, Made, Unmade, asks}
use Rattle.law_mailbox.proofs.work.Channels.{IsSender, sender_is}
use Rattle.law_mailbox.proofs.work.DueSteps.{send_verb}
use Rattle.law_mailbox.proofs.work.EachCall.{IsIdle, after_call, after_cut, and_then}
use Rattle.law_mailbox.proofs.work.Held.{in_range, is_inner, no_parts, unheard}
use Rattle.law_mailbox.proofs.work.Sent.{letter_request, send_in_range}
use Rattle.law_mailbox.proofs.work.Staged.{IsStaged, MaySend, body_stored, is_staged, may_send, message_fits, sender_among}

-- ---- more letters after a turn

more_sent : (i : ℕ) (ts : List Turn) (c : Call) (r : Reply) → length (sent_letters i ts) ≤ length (sent_letters i (and_then ts c r))
more_sent i ts c r =
    let t : Turn = record { call = c; reply = r } in
    let long : length (sent_letters i (ts ++ t ∷ [])) ≡ length (sent_letters i ts ++ sent_by i c r) = ap length (sent_more i ts t) in
    omega (arith, long, length-append (sent_letters i ts) (sent_by i c r))

-- ---- a change of no machine

module _ (peers : ℕ) (ts : List Turn) (m : Mail) (h : IsHeldFew peers ts m) where
  -- whatever turns come then
  nothing_changes : (us : List Turn) → ChangesTrue peers us m m h.machine
  nothing_changes us = record { machine' = h.machine; stands = h.stands; goes = goes_itself peers h.machine; flags = flags_same peers (ReceiverReason m.world us) (SenderReason m.world us) m m refl }

  take_changes : (us : List Turn) (i : ℕ) (tag : Option ℕ) → ChangesTrue peers us m (takes m i tag).mail h.machine
  unfolding takes
  take_changes us i tag = by (is_sender m i) refl
    where
      taken : (k : ℕ) → is_sender m i ≡ true → ChangesTrue peers us m (with_channel m i (taking k)) h.machine
      taken k there =
          let s : IsSender m i = sender_is m i there in
          let most : i ≤ peers = subst (λ (n : ℕ). i ≤ n) h.senders s.within in
          record { machine' = h.machine; stands = h.stands; goes = goes_itself peers h.machine; flags = flags_left peers (ReceiverReason m.world us) (SenderReason m.world us) m h.senders i s.from_one most (taking k) (λ c. refl) (λ c. refl) }

      body : (k t : ℕ) (b : Option (List ℕ)) → is_sender m i ≡ true → ChangesTrue peers us m (gives_body m i k t b).mail h.machine
      body k t None there = nothing_changes us
      body k t (Some b) there = taken k there

      at : (k : ℕ) (a : Option Arrival) → is_sender m i ≡ true → ChangesTrue peers us m (gives_at m i k a).mail h.machine
      at k None there = nothing_changes us
      at k (Some a) there = body k a.tag a.body there

      place : (k : Option ℕ) → is_sender m i ≡ true → ChangesTrue peers us m (gives m i k).mail h.machine
      place None there = nothing_changes us
      place (Some k) there = at k (slice_get (channel m i).arrived k) there

      by : (b : Bool) → is_sender m i ≡ b → ChangesTrue peers us m (by_fault m (if b then None else Some fault.NoSender) (gives m i (first_asked m i tag))).mail h.machine
      by true there = place (first_asked m i tag) there
      by false there = nothing_changes us

-- ---- a letter that is stored, or posted

module _ (follow : EventsFollowByName) (peers : ℕ) (small : peers ≤ 8) (ts : List Turn) (m : Mail) (h : IsHeldFew peers ts m) (i : ℕ) (l : Letter) (may : MayBeSent l) (free : MaySend m i l.body) where
  abbrev held : IsHeld peers ts m
  held = held_of h

  among : (1 ≤ i) × (i ≤ peers)
  among = sender_among peers ts m i held free.there

  store_changes : (m' : Mail) → IsPartlyStored m i l m' → ChangesTrue peers ts m m' h.machine
  store_changes m' NotStored = nothing_changes peers ts m h ts
  store_changes m' (BodyStored long) =
      let s = body_stored follow peers small ts m held i among.0 among.1 l may free long in
      record {
        machine' = s.held.machine;
        stands = s.held.stands;
        goes = like_goes peers h.machine s.held.machine s.like;
        flags = flags_same peers (ReceiverReason (storing m i slot_address l.body).world ts) (SenderReason (storing m i slot_address l.body).world ts) m (storing m i slot_address l.body) s.channels;
      }
  store_changes m' AllStored =
      let s = is_staged follow peers small ts m held i among.0 among.1 l may free in
      record {
        machine' = s.held.machine;
        stands = s.held.stands;
        goes = like_goes peers h.machine s.held.machine s.like;
        flags = flags_same peers (ReceiverReason (staged m i l).world ts) (SenderReason (staged m i l).world ts) m (staged m i l) s.channels;
      }

  -- ---- the posting

  abbrev m2 : Mail
  m2 = staged m i l

  g : IsStaged peers ts h.machine m (staged m i l) i l
  g = is_staged follow peers small ts m held i among.0 among.1 l may free

  abbrev m3 : Mail
  m3 = (asking (staged m i l) (send_event i (length (message_of i l)))).mail

  record AsksOn : Type 0 where
    machine' : Machine
    stands : Stands m3.world machine'
    goes : GoesTrue peers g.held.machine machine'

  asks_on : AsksOn
  unfolding asking
  asks_on = by (asks follow (staged m i l).world g.held.machine (send_event i (length (message_of i l))) (verbs.PostSend (sender_end i) (letter_request i l)) (send_verb (sender_end i) (letter_request i l)) (λ a. refl) (send_in_range i l) g.held.stands)
    where
      by : Asks (staged m i l).world g.held.machine (send_event i (length (message_of i l))) (verbs.PostSend (sender_end i) (letter_request i l)) → AsksOn
      by (Unmade u s) = record { machine' = g.held.machine; stands = s; goes = goes_itself peers g.held.machine }
      by (Made given a s) =
          record {
            machine' = after_verb g.held.machine (verbs.PostSend (sender_end i) (letter_request i l)) given;
            stands = s;
            goes = sender_request_verb_goes peers small g.held.machine i among.0 among.1 (g.held.all.opened i among.0 among.1) (g.held.all.kept i among.0 among.1).number (letter_request i l) given;
          }

  pub used : is_too_many (asking (staged m i l) (send_event i (length (message_of i l)))).answer ≡ true → most_letters ≤ length (sent_letters i ts)
  unfolding asking
  used many =
      let there = (g.held.all.opened i among.0 among.1).sender_there in
      let fits = message_fits i l in
      sender_used_up (staged m i l).world g.held.machine g.held.stands (sender_end i) (context_there g.held.machine (sender_end i) there) there i (sent_letters i ts) (letter_request i l) (omega (arith, fits)) many
      _ _ (g.held.all.kept i among.0 among.1).sends

  -- to any mail whose world is that, and whose flags are so
  posts_to : (us : List Turn) (m4 : Mail) → m4.world ≡ m3.world → FlagsFrom peers (ReceiverReason m4.world us) (SenderReason m4.world us) m m4 → ChangesTrue peers us m m4 h.machine
  posts_to us m4 same flags = record {
    machine' = asks_on.machine';
    stands = subst (λ (w : World). Stands w asks_on.machine') (sym same) asks_on.stands;
    goes = goes_then peers h.machine g.held.machine asks_on.machine' (like_goes peers h.machine g.held.machine g.like) asks_on.goes;
    flags = flags;
  }

  module _ (us : List Turn) (more : length (sent_letters i ts) ≤ length (sent_letters i us)) where
    abbrev R : ℕ → Type 0
    R = ReceiverReason m3.world us

    abbrev S : ℕ → Type 0
    S = SenderReason m3.world us

    until : FlagsFrom peers (ReceiverReason m3.world us) (SenderReason m3.world us) m m3
    unfolding asking
    until = flags_same peers (ReceiverReason m3.world us) (SenderReason m3.world us) m m3 g.channels

    senders3 : length m3.channels ≡ peers
    senders3 = until.long ∙ h.senders

    post_changes : ChangesTrue peers us m (posts_letter m i l).mail h.machine
    unfolding posts_letter
    post_changes = by (is_too_many (asking (staged m i l) (send_event i (length (message_of i l)))).answer) refl
      where
        by : (b : Bool) → is_too_many (asking (staged m i l) (send_event i (length (message_of i l)))).answer ≡ b →
            ChangesTrue peers us m
            (if b then replies (if b then with_channel m3 i (ending AtSender) else m3) (Refused fault.Ended) else replies (with_channel (if b then with_channel m3 i (ending AtSender) else m3) i (sending l)) IsSent).mail h.machine
        by true many =
            let count = used many in
            posts_to us (with_channel m3 i (ending AtSender)) refl
            (flags_then peers R S m m3 (with_channel m3 i (ending AtSender)) until (flags_set peers R S m3 senders3 i among.0 among.1 AtSender (inr (omega (arith, count, more)))))
        by false few = posts_to us (with_channel m3 i (sending l)) refl (flags_then peers R S m m3 (with_channel m3 i (sending l)) until (flags_left peers R S m3 senders3 i among.0 among.1 (sending l) (λ c. refl) (λ c. refl)))

-- ---- any calls

module _ (steps : StepsKeepFew) (works : WorksKeepFew) (begins : BeginningIsFew) (answered : SendsAreAnsweredAfterWork) (keeps : AllIsKept) (by_name : EventsFollowByName) (follow : (e : WorldEvent) → AlwaysFollows e) (named : SettlingHasEvents)
    (stops : WorkStopsInTime) (runs : RunsFollowByName) (start : Stands empty_world empty) (peers : ℕ) (low : 1 ≤ peers) (small : peers ≤ 8) where
  keep : IsAllKept peers (IsReadyMail peers)
  keep = keeps peers low small

  -- ---- events of the network

  step_goes : (ts : List Turn) (m : Mail) (machine : Machine) (s : MachineStep) → is_enabled machine s ≡ true → seen_of machine s ≡ [] → AreAllKept peers ts m machine → GoesTrue peers machine (effect machine s)
  step_goes ts m machine s may quiet all = by (all.joined (stepping s) (stepping_connected machine s (is_inner machine s quiet) may))
    where
      of_connection : (j : ℕ) → 1 ≤ j → j ≤ peers → IsOf j (stepping s) → GoesTrue peers machine (effect machine s)
      of_connection j one most of = steps_go peers small machine j one most (all.opened j one most) (all.kept j one most).number s (is_inner machine s quiet) of may

      by : IsEndOf peers (stepping s) → GoesTrue peers machine (effect machine s)
      by (AtSenderOf j one most e) = of_connection j one most (inl e)
      by (AtReceiverOf j one most e) = of_connection j one most (inr e)

  run_goes : (ts : List Turn) (m : Mail) (machine : Machine) (ss : List MachineStep) → IsRun machine ss → seen machine ss ≡ [] → AreAllKept peers ts m machine → GoesTrue peers machine (after machine ss)
  run_goes ts m machine [] run quiet all = goes_itself peers machine
  run_goes ts m machine (s ∷ ss) run quiet all =
      let both : (seen_of machine s ≡ []) × (seen (effect machine s) ss ≡ []) = no_parts (seen_of machine s) (seen (effect machine s) ss) quiet in
      goes_then peers machine (effect machine s) (after (effect machine s) ss) (step_goes ts m machine s run.0 both.0 all)
      (run_goes ts m (effect machine s) ss run.1 both.1 (keep.steps ts m machine s (is_inner machine s both.0) run.0 all))

  event_true : (ts : List Turn) (m : Mail) (e : WorldEvent) → is_of_network e ≡ true → IsHeldTrue peers ts m → IsHeldTrue peers ts (with_world m (world_step m.world e).world)
  event_true ts m e net h =
      let f : Follows m.world h.few.machine e = follow e m.world h.few.machine (in_range e net) h.few.stands in
      let w : World = (world_step m.world e).world in
      then_true peers ts ts m (with_world m w) h (event_few steps works begins answered keeps by_name follow named stops peers low small ts m e net h.few) (λ i. omega arith)
      (record {
        machine' = after h.few.machine f.steps;
        stands = f.stands;
        goes = run_goes ts m h.few.machine f.steps f.is_run (f.heard ∙ unheard m.world e (world_step m.world e).answer net) h.few.all;
        flags = flags_same peers (ReceiverReason (world_step m.world e).world ts) (SenderReason (world_step m.world e).world ts) m (with_world m (world_step m.world e).world) refl;
      })

  -- ---- letters

  idle_true : (ts : List Turn) (m : Mail) (c : Call) (r : Reply) → IsIdle c r → IsHeldTrue peers ts m → IsHeldTrue peers (and_then ts c r) m
  idle_true ts m c r idle h =
      then_true peers ts (and_then ts c r) m m h (idle_few steps works begins answered keeps by_name follow named stops peers low small ts m c r idle h.few) (λ i. more_sent i ts c r) (nothing_changes peers ts m h.few (and_then ts c r))

  taken_true : (ts : List Turn) (m : Mail) (i : ℕ) (tag : Option ℕ) → IsHeldTrue peers ts m → IsHeldTrue peers (and_then ts (Take i tag) (takes m i tag).reply) (takes m i tag).mail
  taken_true ts m i tag h =
      let us : List Turn = and_then ts (Take i tag) (takes m i tag).reply in
      then_true peers ts us m (takes m i tag).mail h (taken_few steps works begins answered keeps by_name follow named stops peers low small ts m i tag h.few) (λ q. more_sent q ts (Take i tag) (takes m i tag).reply)
      (take_changes peers ts m h.few us i tag)

  stored_true : (ts : List Turn) (m : Mail) (i : ℕ) (l : Letter) (m' : Mail) → MayBeSent l → send_fault (working m) i l.body ≡ None → IsPartlyStored (working m) i l m' → IsReadyMail peers m → IsHeldTrue peers ts m → IsHeldTrue peers ts (working m) → IsHeldTrue peers ts m'
  stored_true ts m i l m' may e part ready h w =
      then_true peers ts ts (working m) m' w (stored_few steps works begins answered keeps by_name follow named stops peers low small ts m i l m' may e part ready h.few w.few) (λ q. omega arith)
      (store_changes by_name peers small ts (working m) w.few i l may (may_send (working m) i l.body e) m' part)

  sent_true : (ts : List Turn) (m : Mail) (i : ℕ) (l : Letter) → MayBeSent l → send_fault (working m) i l.body ≡ None → IsReadyMail peers m → IsHeldTrue peers ts m → IsHeldTrue peers ts (working m) →
      IsHeldTrue peers (and_then ts (Send i l.tag l.body) (posts_letter (working m) i l).reply) (posts_letter (working m) i l).mail
  sent_true ts m i l may e ready h w =
      let r : Reply = (posts_letter (working m) i l).reply in
      let us : List Turn = and_then ts (Send i l.tag l.body) (posts_letter (working m) i l).reply in
      then_true peers ts us (working m) (posts_letter (working m) i l).mail w (sent_few steps works begins answered keeps by_name follow named stops peers low small ts m i l may e ready h.few w.few) (λ q. more_sent q ts (Send i l.tag l.body) r)
      (post_changes by_name peers small ts (working m) w.few i l may (may_send (working m) i l.body e) us (more_sent i ts (Send i l.tag l.body) r))

  -- ---- any calls

  pub reached_true : {ts : List Turn} {m : Mail} → IsReached (made peers) ts m → IsHeldTrue peers ts m × IsReadyMail peers m
  reached_true Begins = (begins_true runs start peers low small begins, keep.also_begins)
  reached_true (Replied {ts = ts} {m = m} c may r) =
      let b = reached_true r in
      (after_call (IsHeldTrue peers) (λ us. IsReadyMail peers) event_true (λ us n k ready. works_true by_name peers small us n k) idle_true taken_true stored_true sent_true named ts m c may b.1 b.0, keep.also_called ts m c may (held_of b.0.few) b.1)
  reached_true (WasCut {ts = ts} {m = m} {m' = m'} c may r cut) =
      let b = reached_true r in
      (after_cut (IsHeldTrue peers) (λ us. IsReadyMail peers) event_true (λ us n k ready. works_true by_name peers small us n k) idle_true taken_true stored_true sent_true named ts m cut may b.1 b.0, keep.also_cut ts m c m' cut may (held_of b.0.few) b.1)

pub flags_true : StepsKeepFew → WorksKeepFew → BeginningIsFew → SendsAreAnsweredAfterWork → AllIsKept → EventsFollowByName → ((e : WorldEvent) → AlwaysFollows e) → SettlingHasEvents → WorkStopsInTime → RunsFollowByName → Stands empty_world empty → FlagsAreTrue
flags_true steps works begins answered keeps by_name follow named stops runs start peers low small ts m reached = (reached_true steps works begins answered keeps by_name follow named stops runs start peers low small reached).0.flags
