-- The greatest so far.
use Rattle.std.proofs.Common.{◌∙◌, ◌/◌, sym, ap}
use Rattle.std.proofs.lemmas.List.{take_all}
use Rattle.protocol.specs.declared.images.RegionImage.{RegionImage}
use Rattle.protocol.specs.DeviceStep.{highest}
use Rattle.device_core.specs.Coming.{higher, pairs_of}
use Rattle.device_core.proofs.Brought.{highest-next, highest-none}
use Rattle.device_core.proofs.coming.highest_pair.Goals as goal

pub loop-region-init : goal.loop-region-init
loop-region-init c = sym (highest-none c.args.id 8388608 c.args.count)

pub loop-region-preserved : goal.loop-region-preserved
loop-region-preserved c = highest-next (λ (r : RegionImage). r.keys.local / 2) c.args.id 8388608 c.args.regions.now c.loop-region.region-index c.loop-region-test.true c.region-item.result c.args.count c.loop-region.highest c.higher-highest.result c.loop-region.invariant (c.higher-highest.ensures ∙ ap (λ (e : RegionImage). higher c.args.id 8388608 (e.keys.local / 2) c.loop-region.highest) c.region-item.is)

pub returns : goal.returns
returns c = c.loop-region.invariant ∙ ap (λ es. highest c.args.id 8388608 (pairs_of es) c.args.count) (take_all c.loop-region.region-index c.args.regions.now c.loop-region-test.false)
