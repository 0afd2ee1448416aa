use Rattle.law_machine_runs.proofs.Putting.{put_once}
use Rattle.law_machine_runs.proofs.bytes_are_put_once.Goals as goal

pub returns : goal.returns
returns c = put_once
