use Rattle.trace_rules.proofs.Heard.{all_is_heard}
use Rattle.trace_rules.proofs.all_is_heard.Goals as goal

pub returns : goal.returns
returns c = all_is_heard
