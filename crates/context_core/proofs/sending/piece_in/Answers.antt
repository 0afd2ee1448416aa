use Rattle.std.proofs.Common.{◌≡◌, ◌+◌, ◌-◌, ◌%◌, take, arith, sym, ap, ◌∙◌}
use Rattle.page_pool.specs.Pool.{bytes_in}
use Rattle.rdma_types.specs.Memory.{cut}
use Rattle.byte_run.proofs.Runs.{take-cut}
use Rattle.context_core.proofs.ByteParts.{packet-bytes}
use Rattle.context_core.proofs.sending.piece_in.Goals as goal

pub returns : goal.returns
returns c =
    let at : c.from.result + c.from-2.result ≡ c.args.payload.now.first + c.span_in-off.result.0 = omega (arith, c.from.ensures, c.from-2.ensures) in
    let bytes = packet-bytes c.args.pool.now c.args.payload.now c.args.head.now.off c.args.head.now.length c.span_in-off.result.0 c.span_in-off.result.1 c.requires.held c.span_in-off.ensures.off c.span_in-off.ensures.count in
    ap (take c.span_in-off.result.1) c.piece-piece.ensures.bytes
    ∙ (take-cut (c.from.result + c.from-2.result) c.span_in-off.result.1 (4096 - (c.from.result + c.from-2.result) % 4096) (bytes_in c.args.pool.now c.args.payload.now.list) (omega (arith, c.piece-piece.ensures.length, c.if-piece-count.false))
    ∙ (ap (λ k. cut k c.span_in-off.result.1 (bytes_in c.args.pool.now c.args.payload.now.list)) at ∙ sym bytes))
