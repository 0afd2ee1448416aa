-- What `send` answers after any calls.
use Rattle.std.proofs.Common.{◌≡◌, ℕ, ◌≤◌, List, sym, subst, ap, ◌∙◌}
use Rattle.std.specs.Prelude.{◌↔◌}
use Rattle.protocol.specs.declared.events.WorldEvent.{WorldEvent}
use Rattle.protocol.specs.State.{empty_world}
use Rattle.packetless_machine.specs.Machine.{empty, end_of}
use Rattle.law_settling.specs.Settling.{SettlingHasEvents}
use Rattle.law_simulation.specs.Law.{AlwaysFollows}
use Rattle.law_simulation.specs.Named.{EventsFollowByName, RunsFollowByName}
use Rattle.law_simulation.specs.Stands.{Stands}
use Rattle.mailbox_rules.specs.Calls.{After, IsSent, Reply, Send, calls, sends}
use Rattle.mailbox_rules.specs.Histories.{Turn, sent_letters}
use Rattle.mailbox_rules.specs.Opening.{receiver_end, sender_end}
use Rattle.mailbox_rules.specs.State.{Mail}
use Rattle.mailbox_rules.specs.Working.{most_steps, working}
use Rattle.law_mailbox.specs.Accepted.{AreAccepted, MayGo, SendsAreAccepted}
use Rattle.law_mailbox.specs.AlwaysFew.{BeginningIsFew}
use Rattle.law_mailbox.specs.Answered.{IsFurnishedFor}
use Rattle.law_mailbox.specs.Few.{StepsKeepFew, WorksKeepFew}
use Rattle.law_mailbox.specs.Held.{IsHeld}
use Rattle.law_mailbox.specs.Over.{IsWorkOver, SendsAreAnsweredAfterWork, StoppedWorkIsOver}
use Rattle.law_mailbox.specs.Stops.{WorkStopsInTime}
use Rattle.law_mailbox.specs.Whole.{AllIsKept}
use Rattle.law_mailbox.proofs.flags.Accepted.{accepted, ended}
use Rattle.law_mailbox.proofs.flags.Reaching.{reached_true}
use Rattle.law_mailbox.proofs.flags.Truth.{IsHeldTrue}
use Rattle.law_mailbox.proofs.flags.Works.{works_true}
use Rattle.law_mailbox.proofs.opening.Furnishing.{queues_short}
use Rattle.law_mailbox.proofs.queue_room.FewAs.{held_of}
use Rattle.law_mailbox.proofs.queue_room.FewReaching.{worked_ready}
use Rattle.law_mailbox.proofs.settling.Finishing.{sent_after}
use Rattle.law_mailbox.proofs.work.Staged.{is_worked}

module _ (follow : EventsFollowByName) (peers : ℕ) (positive : 1 ≤ peers) (small : peers ≤ 8) (ts : List Turn) (m : Mail) (h : IsHeldTrue peers ts (working m)) (over : IsWorkOver peers (working m)) (furnished : IsFurnishedFor peers (working m).world) where
  replies_same : (i tag : ℕ) (body : List ℕ) → (sends (working m) i (record { tag = tag; body = body })).reply ≡ (calls m (Send i tag body)).reply
  replies_same i tag body = ap (λ (a : After). a.reply) (sym (sent_after m i tag body))

  are_accepted : AreAccepted peers ts m
  are_accepted = record {
    machine = h.few.machine;
    stands = h.few.stands;
    accepted = λ i tag body may live few.
        subst (λ (r : Reply). (r ≡ IsSent) ↔ MayGo (working m) i body (sent_letters i ts) (end_of h.few.machine (sender_end i)) (end_of h.few.machine (receiver_end i))) (replies_same i tag body)
        (accepted follow peers positive small ts (working m) h over furnished i (record { tag = tag; body = body }) (record { tag_fits = may.0; bytes = may.1 }) live few);
    ended = λ i tag body may refused.
        ended follow peers positive small ts (working m) h over furnished i (record { tag = tag; body = body }) (record { tag_fits = may.0; bytes = may.1 }) (replies_same i tag body ∙ refused);
  }

pub sends_accepted : StepsKeepFew → WorksKeepFew → BeginningIsFew → SendsAreAnsweredAfterWork → AllIsKept → EventsFollowByName → ((e : WorldEvent) → AlwaysFollows e) → SettlingHasEvents → WorkStopsInTime → RunsFollowByName → Stands empty_world empty → StoppedWorkIsOver → SendsAreAccepted
sends_accepted steps works begins answered keeps by_name follow named stops runs start over peers low small ts m reached =
    let b = reached_true steps works begins answered keeps by_name follow named stops runs start peers low small reached in
    let held : IsHeld peers ts m = held_of b.0.few in
    let h : IsHeldTrue peers ts (working m) = subst (IsHeldTrue peers ts) (sym (is_worked m)) (works_true by_name peers small ts m most_steps b.0) in
    let done : IsWorkOver peers (working m) = subst (IsWorkOver peers) (sym (is_worked m)) (over peers low small ts m most_steps held (stops peers low small ts m held b.1.little (queues_short peers m b.1.furnished))) in
    are_accepted by_name peers low small ts m h done (worked_ready steps works begins answered keeps by_name follow named stops peers low small ts m held b.1).furnished
