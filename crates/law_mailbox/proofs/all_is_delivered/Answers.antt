use Rattle.law_mailbox.proofs.flags.Delivered.{delivered}
use Rattle.law_mailbox.proofs.all_is_delivered.Goals as goal

pub returns : goal.returns
returns c =
    delivered c.all_is_posted.ensures c.work_finds_room.ensures c.work_stops_in_time.ensures c.stopped_work_is_over.ensures c.settling_is_named.ensures.events c.events_follow.ensures c.steps_are_named.ensures.events c.flags_are_true.ensures
