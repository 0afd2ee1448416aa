use Rattle.std.proofs.Common.{arith, ◌≡◌, ◌+◌, ◌≤◌, drop}
use Rattle.rdma_types.specs.Spans.{next_landing, span_of}
use Rattle.packetless_machine.proofs.Spans.{lands_past}
use Rattle.packetless_machine.proofs.numbers.next_landing.Goals as goal

pub overflow_add-before : goal.overflow_add-before
overflow_add-before c =
    let past : span_of c.r-item.result c.args.mtu ≤ c.loop-r.left = rw (← c.span_of-span.ensures) c.if-left-span.true in
    let here = lands_past c.args.posted.now c.args.mtu c.loop-r.left c.loop-r.r-index c.r-item.result c.loop-r-test.true c.r-item.is past in
    let whole : c.loop-r.before + next_landing (drop c.loop-r.r-index c.args.posted.now) c.args.mtu c.loop-r.left ≡ next_landing c.args.posted.now c.args.mtu c.args.n = c.loop-r.invariant in
    omega (arith, here, whole, c.requires.fits, c.span_of-span.ensures)
