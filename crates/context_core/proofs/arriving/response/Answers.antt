use Rattle.std.proofs.Common.{◌+◌, ◌*◌, ℕ, List, length, ap, ◌∙◌, arith}
use Rattle.std.specs.Prelude.{Some}
use Rattle.rdma_types.specs.Memory.{cut}
use Rattle.rdma_types.specs.Spans.{piece_length}
use Rattle.protocol.specs.Responder.{read_response}
use Rattle.protocol.specs.Wire.{wire_of}
use Rattle.endpoint_core.specs.Due.{telling}
use Rattle.endpoint_core.specs.Ends.{link_in}
use Rattle.roce_headers.specs.Packets.{packet}
use Rattle.context_core.proofs.PacketSizes.{wire-addressed, wire-length}
use Rattle.context_core.proofs.arriving.response.Goals as goal

pub written-requires-clause-room : goal.written-requires-clause-room
written-requires-clause-room c = omega (arith, wire-length (packet c.read_datagram-d.result), ap length c.read_datagram-d.ensures.loaded, c.requires.room)

pub returns : goal.returns
returns c = λ pool r payload.
    let l = telling (link_in pool c.args.link.now) c.args.due.now.msn in
    let mtu : ℕ = c.args.link.now.terms.mtu in
    let n : ℕ = c.args.due.now.first + c.args.k in
    ap {A = List ℕ} (λ bs. record { to = c.args.link.now.moves.partner; number = Some n; bytes = bs })
    (c.written.ensures
    ∙ (ap wire_of (c.read_datagram-d.ensures.says pool)
    ∙ (wire-addressed (read_response l n c.args.k c.args.count c.args.payload.now)
    ∙ (ap (λ bs. wire_of (read_response l n c.args.k c.args.count bs)) payload
    ∙ ap (λ m. wire_of (read_response l n c.args.k m (cut (c.args.due.now.spot.off + c.args.k * mtu) (piece_length c.args.due.now.spot.length c.args.k mtu) r.bytes))) c.requires.all))))
