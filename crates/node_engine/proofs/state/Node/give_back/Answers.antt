-- A datagram that is given back leaves the device, and so the node, as it is.
use Rattle.std.proofs.Common.{◌∙◌, ap, refl}
use Rattle.node_engine.proofs.state.Node.give_back.Goals as goal

pub loop-datagram-init : goal.loop-datagram-init
loop-datagram-init c = (tt, tt, refl)

pub loop-datagram-preserved : goal.loop-datagram-preserved
loop-datagram-preserved c = (tt, tt, ap (λ d. record c.loop-datagram.self-inside { device = d }) c.give_back.ensures ∙ c.loop-datagram.invariant.2)
