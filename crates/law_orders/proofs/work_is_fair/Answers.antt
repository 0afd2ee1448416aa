use Rattle.law_orders.proofs.Working.{work_fair}
use Rattle.law_orders.proofs.work_is_fair.Goals as goal

pub returns : goal.returns
returns c = work_fair c.events_follow.ensures c.runs_follow.ensures.run c.copies_stand.ensures c.devices_open_apart.ensures c.prepared_worlds_are_openings.ensures
