use Rattle.law_mailbox.proofs.settling.Whole as whole
use Rattle.law_mailbox.proofs.all_is_kept.Goals as goal

pub returns : goal.returns
returns c =
    whole.all_is_kept c.beginning_is_held.ensures.held c.inner_steps_keep.ensures.kept c.works_are_kept.ensures c.sends_are_kept.ensures c.stores_are_kept.ensures c.contexts_stay_furnished.ensures.first c.contexts_stay_furnished.ensures.events
    c.contexts_stay_furnished.ensures.works c.contexts_stay_furnished.ensures.stores c.contexts_stay_furnished.ensures.sends c.sends_are_answered_after_work.ensures c.settling_is_named.ensures.events c.due_work_is_bounded.ensures c.work_stops_in_time.ensures
