use Rattle.std.proofs.Common.{ap, sym, ◌∙◌}
use Rattle.std.specs.Option.{option_copied}
use Rattle.end_queues.proofs.CopiedPostings.{posted_more}
use Rattle.end_queues.proofs.work_queues.copying.copy_sends.Goals as goal

pub loop-i-preserved : goal.loop-i-preserved
loop-i-preserved c = posted_more _ _ _ _ _ _ (rw c.in_copied_pool.ensures (sym c.at.ensures ∙ ap option_copied c.unwrap-posted.ensures)) c.loop-i.invariant c.unwrap.ensures c.post.ensures.ok
