use Rattle.std.proofs.Common.{arith}
use Rattle.std.proofs.lemmas.Grind.{common_steps}
use Rattle.end_queues.proofs.CopiedCompletions.{copied_more}
use Rattle.end_queues.proofs.completion_queue.Cq.poll_into.Goals as goal

pub loop-n-preserved : goal.loop-n-preserved
loop-n-preserved c = grind (arith, common_steps, copied_more)
