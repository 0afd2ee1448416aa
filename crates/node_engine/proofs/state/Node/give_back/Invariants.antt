-- The node stays as it is.
use Rattle.std.proofs.Common.{◌≡◌}
use Rattle.node_engine.proofs.state.Node.give_back.Given as goal

abbrev pub invariant-loop-datagram : goal.invariant-loop-datagram
invariant-loop-datagram l =
    (goal.iterator-loop-datagram).can_next l.datagram-iterator ×
    (goal.iterator-loop-datagram).is_finite l.datagram-iterator ×
    (l.self-inside ≡ l.initial.self-inside)
