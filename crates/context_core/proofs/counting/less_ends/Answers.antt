use Rattle.std.proofs.Common.{◌∙◌, ◌+◌, ◌<◌, ap, sym, subst}
use Rattle.std.specs.Prelude.{sum_by}
use Rattle.protocol.specs.Memory.{pages_of_request}
use Rattle.context_core.proofs.PageCounts.{sums-more, sums-none}
use Rattle.context_core.proofs.counting.less_ends.Goals as goal

pub loop-end-preserved : goal.loop-end-preserved
loop-end-preserved c = λ k domains e.
    let here = ap (λ ps. sum_by (λ p. pages_of_request k p.request) ps) c.as_slice.ensures in
    sums-more (λ e. sum_by (λ p. pages_of_request k p.request) e.untold) c.args.ends.now c.loop-end.end-index c.end-item.result c.loop-end.left c.args.free c.in_ok-left.left c.loop-end-test.true c.end-item.is (c.loop-end.invariant k domains e) (ap (λ n. c.in_ok-left.left + n) (sym here) ∙ c.in_ok-left.ensures k domains e)

pub returns-in_err-left : goal.returns-in_err-left
returns-in_err-left c = λ k domains e. rw c.from_residual.ensures (
    let here = ap (λ ps. sum_by (λ p. pages_of_request k p.request) ps) c.as_slice.ensures in
    sums-none (λ e. sum_by (λ p. pages_of_request k p.request) e.untold) c.args.ends.now c.loop-end.end-index c.end-item.result c.loop-end.left c.args.free c.loop-end-test.true c.end-item.is (c.loop-end.invariant k domains e) (subst (λ n. c.loop-end.left < n) here (c.in_err-left.ensures k domains e)))
