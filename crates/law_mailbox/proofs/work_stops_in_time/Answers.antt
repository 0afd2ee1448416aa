use Rattle.law_mailbox.proofs.settling.Stops.{stops_in_time}
use Rattle.law_mailbox.proofs.work_stops_in_time.Goals as goal

pub returns : goal.returns
returns c = stops_in_time c.steps_are_named.ensures.events
