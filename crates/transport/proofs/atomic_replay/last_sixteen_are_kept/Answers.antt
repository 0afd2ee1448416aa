use Rattle.transport.proofs.Replies.{last_kept}
use Rattle.transport.proofs.atomic_replay.last_sixteen_are_kept.Goals as goal

pub returns : goal.returns
returns c = last_kept
