use Rattle.law_mailbox.proofs.flags.AfterWork.{sends_accepted}
use Rattle.law_mailbox.proofs.sends_are_accepted.Goals as goal

pub returns : goal.returns
returns c =
    sends_accepted c.steps_keep_few.ensures c.works_keep_few.ensures c.beginning_is_held.ensures.few c.sends_are_answered_after_work.ensures c.all_is_kept.ensures c.steps_are_named.ensures.events c.events_follow.ensures c.settling_is_named.ensures.events
    c.work_stops_in_time.ensures c.steps_are_named.ensures.runs c.starts.ensures c.stopped_work_is_over.ensures
