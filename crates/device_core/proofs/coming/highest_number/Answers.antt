-- The greatest so far.
use Rattle.std.proofs.Common.{◌∙◌, sym, ap}
use Rattle.std.proofs.lemmas.List.{take_all}
use Rattle.protocol.specs.declared.images.EndImage.{EndImage}
use Rattle.protocol.specs.DeviceStep.{highest}
use Rattle.device_core.specs.Coming.{higher, numbers_of_ends}
use Rattle.device_core.proofs.Brought.{highest-next, highest-none}
use Rattle.device_core.proofs.coming.highest_number.Goals as goal

pub loop-end-init : goal.loop-end-init
loop-end-init c = sym (highest-none c.args.id 65536 c.args.count)

pub loop-end-preserved : goal.loop-end-preserved
loop-end-preserved c = highest-next (λ (e : EndImage). e.number) c.args.id 65536 c.args.ends.now c.loop-end.end-index c.loop-end-test.true c.end-item.result c.args.count c.loop-end.highest c.higher-highest.result c.loop-end.invariant (c.higher-highest.ensures ∙ ap (λ (e : EndImage). higher c.args.id 65536 (e.number) c.loop-end.highest) c.end-item.is)

pub returns : goal.returns
returns c = c.loop-end.invariant ∙ ap (λ es. highest c.args.id 65536 (numbers_of_ends es) c.args.count) (take_all c.loop-end.end-index c.args.ends.now c.loop-end-test.false)
