-- A request has no more numbers than its message has pieces.
use Rattle.std.proofs.Common.{arith}
use Rattle.rdma_types.proofs.Places.{span_within}
use Rattle.requester.proofs.responses.landing.Goals as goal

pub piece_at-off-requires-clause-inside : goal.piece_at-off-requires-clause-inside
piece_at-off-requires-clause-inside c =
    let w = span_within c.args.shape.now c.args.mtu in
    omega (arith, w, c.requires.inside)
