use Rattle.context_core.proofs.PageCounts.{counts-more, counts-none}
use Rattle.protocol.specs.Memory.{pages_of_request}
use Rattle.context_core.proofs.counting.less_requests.Goals as goal

pub loop-posted-preserved : goal.loop-posted-preserved
loop-posted-preserved c = λ k domains e. counts-more (λ p. pages_of_request k p.request) c.args.untold.now c.loop-posted.posted-index c.posted-item.result c.loop-posted.left c.args.free c.pages_of.result c.in_ok-left.left c.loop-posted-test.true c.posted-item.is (c.loop-posted.invariant k domains e) (c.pages_of.ensures k domains e) c.in_ok-left.ensures.0 c.in_ok-left.ensures.1

pub returns-in_err-left : goal.returns-in_err-left
returns-in_err-left c = λ k domains e. rw c.from_residual.ensures (counts-none (λ p. pages_of_request k p.request) c.args.untold.now c.loop-posted.posted-index c.posted-item.result c.loop-posted.left c.args.free c.pages_of.result c.loop-posted-test.true c.posted-item.is (c.loop-posted.invariant k domains e) (c.pages_of.ensures k domains e) c.in_err-left.ensures)
