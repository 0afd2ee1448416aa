use Rattle.std.proofs.Common.{ap, ◌++◌, subst}
use Rattle.law_simulation.specs.Law.{kept}
use Rattle.packetless_machine.specs.Legal.{IsLegal}
use Rattle.protocol.specs.State.{empty_world}
use Rattle.example_nodes.specs.Composition.{events, nodes, order}
use Rattle.example_nodes.proofs.composition.a_live_move_is_followed.Goals as goal

pub returns : goal.returns
returns c =
    let composed = c.a_live_move_is_composed.ensures in
    subst IsLegal (ap (λ vs. kept empty_world events ++ vs) composed.heard) (c.nodes_are_followed.ensures nodes events order composed.composed)
