use Rattle.law_mailbox.proofs.settling.Reaching.{all_posted}
use Rattle.law_mailbox.proofs.all_is_posted.Goals as goal

pub returns : goal.returns
returns c =
    all_posted c.posting_goes_on.ensures.begins c.posting_goes_on.ensures.events c.posting_goes_on.ensures.works c.sends_are_answered_after_work.ensures c.all_is_kept.ensures c.steps_are_named.ensures.events
    c.settling_is_named.ensures.events c.work_stops_in_time.ensures
