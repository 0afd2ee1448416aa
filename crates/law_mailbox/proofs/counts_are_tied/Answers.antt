use Rattle.law_mailbox.proofs.settling.Tied.{counts_tied}
use Rattle.law_mailbox.proofs.counts_are_tied.Goals as goal

pub returns : goal.returns
returns c = counts_tied c.all_is_posted.ensures c.work_finds_room.ensures c.work_stops_in_time.ensures c.stopped_work_is_over.ensures c.works_are_kept.ensures
