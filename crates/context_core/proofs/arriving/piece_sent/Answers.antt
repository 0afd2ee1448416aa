use Rattle.std.proofs.Common.{◌≡◌, ◌+◌, ◌*◌, length, take, ap, arith}
use Rattle.std.proofs.lemmas.List.{length-take}
use Rattle.rdma_types.specs.Lists.{at}
use Rattle.rdma_types.specs.Objects.{no_region}
use Rattle.rdma_types.specs.Spans.{piece_length}
use Rattle.memory_keys.specs.Regions.{regions_of}
use Rattle.context_core.proofs.ReadResponses.{cut-few, payload-few, payload-is}
use Rattle.context_core.proofs.TransmittedPackets.{mtu-small}
use Rattle.context_core.proofs.arriving.piece_sent.Goals as goal

pub response-requires-clause-few : goal.response-requires-clause-few
response-requires-clause-few c =
    let pool = c.args.pool.now in
    let held = c.args.regions.now in
    let link = c.args.link.now in
    let due = c.args.due.now in
    let few = mtu-small link.terms.mtu c.requires.terms.mtu in
    let size : c.piece_at-from.result.1 ≡ length (take c.piece_at-from.result.1 c.args.page.now) = omega (arith, length-take c.piece_at-from.result.1 c.args.page.now, c.requires.page, c.piece_at-from.ensures.length, few) in
    let payload = payload-is pool held due.spot c.args.k link.terms.mtu c.piece_at-from.result.0 c.piece_at-from.result.1 _ c.bytes_of-payload.result.now c.requires.spot c.bytes_of-payload.ensures size c.piece_at-from.ensures.offset c.piece_at-from.ensures.length c.piece_at-from.ensures.within in
    omega (arith, payload-few _ link.terms.mtu _ c.bytes_of-payload.result.now _ payload, few)

pub response-requires-clause-room : goal.response-requires-clause-room
response-requires-clause-room c =
    let pool = c.args.pool.now in
    let held = c.args.regions.now in
    let link = c.args.link.now in
    let due = c.args.due.now in
    let few = mtu-small link.terms.mtu c.requires.terms.mtu in
    let size : c.piece_at-from.result.1 ≡ length (take c.piece_at-from.result.1 c.args.page.now) = omega (arith, length-take c.piece_at-from.result.1 c.args.page.now, c.requires.page, c.piece_at-from.ensures.length, few) in
    let payload = payload-is pool held due.spot c.args.k link.terms.mtu c.piece_at-from.result.0 c.piece_at-from.result.1 _ c.bytes_of-payload.result.now c.requires.spot c.bytes_of-payload.ensures size c.piece_at-from.ensures.offset c.piece_at-from.ensures.length c.piece_at-from.ensures.within in
    omega (arith, ap length payload, cut-few (due.spot.off + c.args.k * link.terms.mtu) (piece_length due.spot.length c.args.k link.terms.mtu) (at (λ r. r.keys.local) no_region due.spot.region (regions_of pool held)).bytes, c.requires.room)

pub returns : goal.returns
returns c =
    let pool = c.args.pool.now in
    let held = c.args.regions.now in
    let link = c.args.link.now in
    let due = c.args.due.now in
    let few = mtu-small link.terms.mtu c.requires.terms.mtu in
    let size : c.piece_at-from.result.1 ≡ length (take c.piece_at-from.result.1 c.args.page.now) = omega (arith, length-take c.piece_at-from.result.1 c.args.page.now, c.requires.page, c.piece_at-from.ensures.length, few) in
    let payload = payload-is pool held due.spot c.args.k link.terms.mtu c.piece_at-from.result.0 c.piece_at-from.result.1 _ c.bytes_of-payload.result.now c.requires.spot c.bytes_of-payload.ensures size c.piece_at-from.ensures.offset c.piece_at-from.ensures.length c.piece_at-from.ensures.within in
    c.response.ensures pool (at (λ r. r.keys.local) no_region due.spot.region (regions_of pool held)) payload
