use Rattle.std.proofs.Common.{◌∙◌, ◌<◌, ap, length, arith}
use Rattle.protocol.specs.Fabric.{pending}
use Rattle.fabric.proofs.Stores.{pending-some, pending-none, settled_within}
use Rattle.fabric.proofs.Fabric.pending.Goals as goal

pub overflow_add-result : goal.overflow_add-result
overflow_add-result c =
    let f = c.self.inside in
    omega (arith, settled_within f.gone f.settled f.ring.items c.self.invariant.0, c.self.invariant.0.few)

pub overflow_add-result-else-self-len : goal.overflow_add-result-else-self-len
overflow_add-result-else-self-len c =
    let f = c.self.inside in
    omega (arith, settled_within f.gone f.settled f.ring.items c.self.invariant.0, c.self.invariant.0.few)

pub returns-then-self-len : goal.returns-then-self-len
returns-then-self-len c =
    let f = c.self.inside in
    pending-none f.gone f.settled f.ring.items c.self.invariant.0 (omega arith) ∙ ap pending c.self.view_is

pub returns-else-self-len : goal.returns-else-self-len
returns-else-self-len c =
    let f = c.self.inside in
    let within : f.settled < length f.ring.items = omega (arith, settled_within f.gone f.settled f.ring.items c.self.invariant.0) in
    pending-some f.gone f.settled f.ring.items c.self.invariant.0 within ∙ ap pending c.self.view_is
