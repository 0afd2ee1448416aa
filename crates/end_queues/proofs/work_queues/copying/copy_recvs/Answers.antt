use Rattle.std.proofs.Common.{ap, sym, ◌∙◌}
use Rattle.std.specs.Option.{option_copied}
use Rattle.end_queues.proofs.CopiedPostings.{posted_more}
use Rattle.end_queues.proofs.work_queues.copying.copy_recvs.Goals as goal

pub loop-i-preserved : goal.loop-i-preserved
loop-i-preserved c = posted_more _ _ _ _ _ _ (sym c.at.ensures ∙ ap option_copied c.unwrap.ensures) c.loop-i.invariant c.unwrap-in-loop-i.ensures c.post.ensures.ok
