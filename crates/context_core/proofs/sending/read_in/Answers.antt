use Rattle.std.proofs.Common.{◌≡◌, ◌+◌, ◌-◌, length, take, arith, sym, ap, ◌∙◌}
use Rattle.std.specs.Prelude.{min}
use Rattle.std.proofs.lemmas.List.{length-take}
use Rattle.page_pool.specs.Pool.{bytes_in}
use Rattle.rdma_types.specs.Memory.{cut}
use Rattle.context_core.proofs.ByteParts.{packet-bytes, packet-size}
use Rattle.context_core.proofs.sending.read_in.Goals as goal

pub slice_bounds-out-end : goal.slice_bounds-out-end
slice_bounds-out-end c =
    let a : c.span_in-off.result.0 ≡ min c.args.head.now.off c.args.payload.now.length = c.span_in-off.ensures.off in
    let b : c.span_in-off.result.1 ≡ min c.args.head.now.length (c.args.payload.now.length - c.span_in-off.result.0) = c.span_in-off.ensures.count in
    let size = packet-size c.args.pool.now c.args.payload.now c.args.head.now.off c.args.head.now.length c.span_in-off.result.0 c.span_in-off.result.1 c.requires.held a b in
    omega (arith, size, c.requires.room, length-take c.span_in-off.result.1 c.args.memory.now)

pub returns : goal.returns
returns c =
    let a : c.span_in-off.result.0 ≡ min c.args.head.now.off c.args.payload.now.length = c.span_in-off.ensures.off in
    let b : c.span_in-off.result.1 ≡ min c.args.head.now.length (c.args.payload.now.length - c.span_in-off.result.0) = c.span_in-off.ensures.count in
    let size = packet-size c.args.pool.now c.args.payload.now c.args.head.now.off c.args.head.now.length c.span_in-off.result.0 c.span_in-off.result.1 c.requires.held a b in
    let bytes = packet-bytes c.args.pool.now c.args.payload.now c.args.head.now.off c.args.head.now.length c.span_in-off.result.0 c.span_in-off.result.1 c.requires.held a b in
    let count : length (take c.span_in-off.result.1 c.args.memory.now) ≡ c.span_in-off.result.1 = omega (arith, size, c.requires.room, length-take c.span_in-off.result.1 c.args.memory.now) in
    let from : c.from.result + c.from-2.result ≡ c.args.payload.now.first + c.span_in-off.result.0 = omega (arith, c.from.ensures, c.from-2.ensures) in
    c.read.ensures
    ∙ (ap (λ k. cut k (length (take c.span_in-off.result.1 c.args.memory.now)) (bytes_in c.args.pool.now c.args.payload.now.list)) from
    ∙ (ap (λ k. cut (c.args.payload.now.first + c.span_in-off.result.0) k (bytes_in c.args.pool.now c.args.payload.now.list)) count ∙ sym bytes))
