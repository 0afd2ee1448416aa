use Rattle.std.proofs.Common.{◌≡◌, ◌∙◌}
use Rattle.protocol.specs.Memory.{pages_of_length}
use Rattle.context_core.proofs.PageCounts.{ceil-is, counts-more, counts-none}
use Rattle.context_core.proofs.counting.less_regions.Goals as goal

pub loop-region-preserved : goal.loop-region-preserved
loop-region-preserved c =
    let pages : c.div_ceil.result ≡ pages_of_length c.region-item.result.length = c.div_ceil.ensures ∙ ceil-is c.region-item.result.length in
    counts-more (λ r. pages_of_length r.length) c.args.regions.now c.loop-region.region-index c.region-item.result c.loop-region.left c.args.free c.div_ceil.result c.in_ok-left.left c.loop-region-test.true c.region-item.is c.loop-region.invariant pages c.in_ok-left.ensures.0 c.in_ok-left.ensures.1

pub returns-in_err-left : goal.returns-in_err-left
returns-in_err-left c =
    let pages : c.div_ceil.result ≡ pages_of_length c.region-item.result.length = c.div_ceil.ensures ∙ ceil-is c.region-item.result.length in
    rw c.from_residual.ensures (counts-none (λ r. pages_of_length r.length) c.args.regions.now c.loop-region.region-index c.region-item.result c.loop-region.left c.args.free c.div_ceil.result c.loop-region-test.true c.region-item.is c.loop-region.invariant pages c.in_err-left.ensures)
