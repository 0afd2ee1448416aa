-- After any calls few completions stand in the receiver's queue.
use Rattle.std.proofs.Common.{◌≡◌, ℕ, ◌≤◌, List, [], ◌∷◌, ◌++◌, true, sym, None, Option, append-nil, ◌∙◌}
use Rattle.protocol.specs.declared.events.WorldEvent.{WorldEvent}
use Rattle.protocol.specs.WorldStep.{world_step}
use Rattle.packetless_machine.specs.declared.steps.MachineStep.{MachineStep}
use Rattle.packetless_machine.specs.Legal.{IsRun, after, effect, seen, seen_of}
use Rattle.packetless_machine.specs.Machine.{Machine}
use Rattle.law_settling.specs.Settling.{SettlingHasEvents}
use Rattle.law_simulation.specs.Law.{AlwaysFollows, Follows}
use Rattle.law_simulation.specs.Named.{EventsFollowByName}
use Rattle.mailbox_rules.specs.declared.letters.Letter.{Letter}
use Rattle.mailbox_rules.specs.Calls.{Call, Reply, Send, Take, Work, calls, is_of_network, posts_letter, send_fault, takes}
use Rattle.mailbox_rules.specs.Histories.{Turn, sent_by, sent_letters}
use Rattle.mailbox_rules.specs.State.{Mail, made, with_world}
use Rattle.mailbox_rules.specs.Theorem.{Begins, IsReached, Replied, WasCut}
use Rattle.mailbox_rules.specs.Wanting.{IsPartlyStored}
use Rattle.mailbox_rules.specs.Working.{working}
use Rattle.law_mailbox.specs.AlwaysFew.{BeginningIsFew, QueueEntriesAreBounded}
use Rattle.law_mailbox.specs.Few.{AreFew, IsHeldFew, StepsKeepFew, WorksKeepFew}
use Rattle.law_mailbox.specs.Held.{AreAllKept, IsAllKept, IsHeld, MayBeSent}
use Rattle.law_mailbox.specs.Over.{SendsAreAnsweredAfterWork}
use Rattle.law_mailbox.specs.Ready.{IsReadyMail}
use Rattle.law_mailbox.specs.Stops.{WorkStopsInTime}
use Rattle.law_mailbox.specs.Whole.{AllIsKept}
use Rattle.law_mailbox.proofs.work.EachCall.{IsIdle, after_call, after_cut, and_then}
use Rattle.law_mailbox.proofs.queue_room.FewAs.{few_as, held_of}
use Rattle.law_mailbox.proofs.opening.Furnishing.{queues_short}
use Rattle.law_mailbox.proofs.work.Held.{idle_as, in_range, is_inner, no_parts, take_as, unheard}
use Rattle.law_mailbox.proofs.settling.Opened.{sent_more}
use Rattle.law_mailbox.proofs.work.PostedAs.{IsHeldAs}
use Rattle.law_mailbox.proofs.work.Sent.{sent_held_as}
use Rattle.law_mailbox.proofs.work.Staged.{may_send, stored_as}

-- ---- one turn more

turn_few : (peers : ℕ) (ts : List Turn) (m m' : Mail) (c : Call) (r : Reply) (h : IsHeldFew peers ts m) → IsHeldAs peers (and_then ts c r) m m' h.machine → IsHeldFew peers (and_then ts c r) m'
turn_few peers ts m m' c r h a = let t : Turn = record { call = c; reply = r } in few_as peers ts (ts ++ t ∷ []) m m' (λ q. sent_by q c r) (λ q. sent_more q ts t) h a

module _ (steps : StepsKeepFew) (works : WorksKeepFew) (begins : BeginningIsFew) (answered : SendsAreAnsweredAfterWork) (keeps : AllIsKept) (by_name : EventsFollowByName) (follow : (e : WorldEvent) → AlwaysFollows e) (named : SettlingHasEvents)
    (stops : WorkStopsInTime) (peers : ℕ) (low : 1 ≤ peers) (small : peers ≤ 8) where
  keep : IsAllKept peers (IsReadyMail peers)
  keep = keeps peers low small

  -- ---- events of the network

  run_few : (ts : List Turn) (m : Mail) (machine : Machine) (ss : List MachineStep) → IsRun machine ss → seen machine ss ≡ [] → AreAllKept peers ts m machine → AreFew peers ts m machine → AreAllKept peers ts m (after machine ss) × AreFew peers ts m (after machine ss)
  run_few ts m machine [] run quiet all few = (all, few)
  run_few ts m machine (s ∷ ss) run quiet all few =
      let both : (seen_of machine s ≡ []) × (seen (effect machine s) ss ≡ []) = no_parts (seen_of machine s) (seen (effect machine s) ss) quiet in
      let inner = is_inner machine s both.0 in
      run_few ts m (effect machine s) ss run.1 both.1 (keep.steps ts m machine s inner run.0 all) (steps peers ts m machine s inner run.0 all few)

  pub event_few : (ts : List Turn) (m : Mail) (e : WorldEvent) → is_of_network e ≡ true → IsHeldFew peers ts m → IsHeldFew peers ts (with_world m (world_step m.world e).world)
  event_few ts m e net h =
      let f : Follows m.world h.machine e = follow e m.world h.machine (in_range e net) h.stands in
      let both = run_few ts m h.machine f.steps f.is_run (f.heard ∙ unheard m.world e (world_step m.world e).answer net) h.all h.few in
      let all = both.0 in
      let few = both.1 in
      record {
        machine = after h.machine f.steps;
        stands = f.stands;
        senders = h.senders;
        all = record { opened = all.opened; joined = all.joined; kept = all.kept; dues = all.dues };
        few = record { each = few.each; known = few.known };
      }

  -- ---- letters

  pub idle_few : (ts : List Turn) (m : Mail) (c : Call) (r : Reply) → IsIdle c r → IsHeldFew peers ts m → IsHeldFew peers (and_then ts c r) m
  idle_few ts m c r idle h = turn_few peers ts m m c r h (idle_as peers ts m c r idle (held_of h))

  pub taken_few : (ts : List Turn) (m : Mail) (i : ℕ) (tag : Option ℕ) → IsHeldFew peers ts m → IsHeldFew peers (and_then ts (Take i tag) (takes m i tag).reply) (takes m i tag).mail
  taken_few ts m i tag h = turn_few peers ts m (takes m i tag).mail (Take i tag) (takes m i tag).reply h (take_as peers ts m i tag (held_of h))

  pub stored_few : (ts : List Turn) (m : Mail) (i : ℕ) (l : Letter) (m' : Mail) → MayBeSent l → send_fault (working m) i l.body ≡ None → IsPartlyStored (working m) i l m' → IsReadyMail peers m → IsHeldFew peers ts m → IsHeldFew peers ts (working m) → IsHeldFew peers ts m'
  stored_few ts m i l m' may e part ready h w =
      few_as peers ts ts (working m) m' (λ q. []) (λ q. sym (append-nil (sent_letters q ts))) w (stored_as by_name peers small ts (working m) i l may (held_of w) (may_send (working m) i l.body e) part)

  pub worked_ready : (ts : List Turn) (m : Mail) → IsHeld peers ts m → IsReadyMail peers m → IsReadyMail peers (working m)
  unfolding calls
  worked_ready ts m h ready = keep.also_called ts m Work tt h ready

  pub sent_few : (ts : List Turn) (m : Mail) (i : ℕ) (l : Letter) → MayBeSent l → send_fault (working m) i l.body ≡ None → IsReadyMail peers m → IsHeldFew peers ts m → IsHeldFew peers ts (working m) →
      IsHeldFew peers (and_then ts (Send i l.tag l.body) (posts_letter (working m) i l).reply) (posts_letter (working m) i l).mail
  sent_few ts m i l may e ready h w =
      let stopped = stops peers low small ts m (held_of h) ready.little (queues_short peers m ready.furnished) in
      turn_few peers ts (working m) (posts_letter (working m) i l).mail (Send i l.tag l.body) (posts_letter (working m) i l).reply w
      (sent_held_as by_name peers small ts (working m) (held_of w) i l may (may_send (working m) i l.body e) (answered peers low small ts m i l may (held_of h) (worked_ready ts m (held_of h) ready).furnished stopped e))

  -- ---- any calls

  reached_few : {ts : List Turn} {m : Mail} → IsReached (made peers) ts m → IsHeldFew peers ts m × IsReadyMail peers m
  reached_few Begins = (begins peers low small, keep.also_begins)
  reached_few (Replied {ts = ts} {m = m} c may r) =
      let b = reached_few r in
      (after_call (IsHeldFew peers) (λ us. IsReadyMail peers) event_few (λ us n k ready. works peers small us n k) idle_few taken_few stored_few sent_few named ts m c may b.1 b.0, keep.also_called ts m c may (held_of b.0) b.1)
  reached_few (WasCut {ts = ts} {m = m} {m' = m'} c may r cut) =
      let b = reached_few r in
      (after_cut (IsHeldFew peers) (λ us. IsReadyMail peers) event_few (λ us n k ready. works peers small us n k) idle_few taken_few stored_few sent_few named ts m cut may b.1 b.0, keep.also_cut ts m c m' cut may (held_of b.0) b.1)

pub entries_bounded : StepsKeepFew → WorksKeepFew → BeginningIsFew → SendsAreAnsweredAfterWork → AllIsKept → EventsFollowByName → ((e : WorldEvent) → AlwaysFollows e) → SettlingHasEvents → WorkStopsInTime → QueueEntriesAreBounded
entries_bounded steps works begins answered keeps by_name follow named stops peers low small ts m reached = (reached_few steps works begins answered keeps by_name follow named stops peers low small reached).0
