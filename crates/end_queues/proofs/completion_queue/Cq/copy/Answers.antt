use Rattle.std.proofs.Common.{arith}
use Rattle.std.proofs.lemmas.Grind.{common_steps}
use Rattle.end_queues.proofs.CopiedCompletions.{taken_at}
use Rattle.end_queues.proofs.completion_queue.Cq.copy.Goals as goal

pub loop-i-preserved : goal.loop-i-preserved
loop-i-preserved c = grind (arith, common_steps, taken_at)
