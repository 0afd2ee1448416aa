use Rattle.std.proofs.Common.{◌∙◌, ap, refl, sym}
use Rattle.context_core.proofs.PageCounts.{at-end, at-found, at-later}
use Rattle.context_core.proofs.counting.base_of.Goals as goal

pub loop-region-init : goal.loop-region-init
loop-region-init c = λ domains. refl

pub loop-region-preserved : goal.loop-region-preserved
loop-region-preserved c = λ domains. c.loop-region.invariant domains ∙ at-later domains c.args.key c.args.regions.now c.loop-region.region-index c.region-item.result c.loop-region-test.true c.region-item.is c.if-region-key.false

pub returns-then-region-key : goal.returns-then-region-key
returns-then-region-key c = λ domains. sym (ap (λ r. r.base) (c.loop-region.invariant domains ∙ at-found domains c.args.key c.args.regions.now c.loop-region.region-index c.region-item.result c.loop-region-test.true c.region-item.is c.if-region-key.true))

pub returns : goal.returns
returns c = λ domains. sym (ap (λ r. r.base) (c.loop-region.invariant domains ∙ at-end domains c.args.key c.args.regions.now c.loop-region.region-index c.loop-region-test.false))
