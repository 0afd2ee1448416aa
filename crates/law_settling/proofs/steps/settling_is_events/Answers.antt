use Rattle.law_settling.proofs.steps.Made.{made}
use Rattle.law_settling.proofs.steps.settling_is_events.Goals as goal

pub returns : goal.returns
returns c = made
