use Rattle.law_settling.proofs.steps.Following.{all_follow}
use Rattle.law_settling.proofs.steps.settling_follows.Goals as goal

pub returns : goal.returns
returns c = all_follow c.runs_follow.ensures.run c.events_follow.ensures
