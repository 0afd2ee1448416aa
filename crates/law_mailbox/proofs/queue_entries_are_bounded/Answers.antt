use Rattle.law_mailbox.proofs.queue_room.FewReaching.{entries_bounded}
use Rattle.law_mailbox.proofs.queue_entries_are_bounded.Goals as goal

pub returns : goal.returns
returns c =
    entries_bounded c.steps_keep_few.ensures c.works_keep_few.ensures c.beginning_is_held.ensures.few c.sends_are_answered_after_work.ensures c.all_is_kept.ensures c.steps_are_named.ensures.events c.events_follow.ensures c.settling_is_named.ensures.events
    c.work_stops_in_time.ensures
