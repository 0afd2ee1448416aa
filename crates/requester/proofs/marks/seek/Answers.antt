-- Each request passed moves the mark, and the mark found is that of the number.
use Rattle.std.proofs.Common.{◌≡◌, ◌≤◌, arith, length, sym, ◌∙◌}
use Rattle.std.specs.Prelude.{Some, slice_get}
use Rattle.rdma_types.proofs.Numbers.{ends}
use Rattle.requester.specs.Sending.{bare, bares}
use Rattle.requester.proofs.Bares.{bare_at, bare_none, length-bares, step}
use Rattle.rdma_types.proofs.Places.{at_end, request_here, request_past}
use Rattle.requester.proofs.marks.seek.Goals as goal

pub overflow_add-past : goal.overflow_add-past
overflow_add-past c =
    let s = step (bares c.args.queue.now.items) c.args.mtu c.loop-at.at (bare c.in-Some.p.now) c.loop-at.invariant.0 (bare_at c.args.queue.now.items c.loop-at.at.index c.in-Some.p.now (sym c.in-Some.ensures)) in
    omega (arith, s.within, c.requires.limit, c.span_of.ensures.rule)

pub overflow_add-at : goal.overflow_add-at
overflow_add-at c =
    let s = step (bares c.args.queue.now.items) c.args.mtu c.loop-at.at (bare c.in-Some.p.now) c.loop-at.invariant.0 (bare_at c.args.queue.now.items c.loop-at.at.index c.in-Some.p.now (sym c.in-Some.ensures)) in
    omega (arith, s.within, s.few, c.requires.limit)

pub loop-at-smaller : goal.loop-at-smaller
loop-at-smaller c =
    let s = step (bares c.args.queue.now.items) c.args.mtu c.loop-at.at (bare c.in-Some.p.now) c.loop-at.invariant.0 (bare_at c.args.queue.now.items c.loop-at.at.index c.in-Some.p.now (sym c.in-Some.ensures)) in
    let there = s.there in
    let same = length-bares c.args.queue.now.items in
    omega (arith, there, same)

pub loop-at-preserved : goal.loop-at-preserved
loop-at-preserved c =
    let s = step (bares c.args.queue.now.items) c.args.mtu c.loop-at.at (bare c.in-Some.p.now) c.loop-at.invariant.0 (bare_at c.args.queue.now.items c.loop-at.at.index c.in-Some.p.now (sym c.in-Some.ensures)) in
    (rw c.span_of.ensures.rule s.after, omega (arith, c.if-n-past.false))

pub returns-then-n-past-clause-index : goal.returns-then-n-past-clause-index
returns-then-n-past-clause-index c =
    let found = bare_at c.args.queue.now.items c.loop-at.at.index c.in-Some.p.now (sym c.in-Some.ensures) in
    let off = c.loop-at.invariant.0.offset in
    sym (request_here (bares c.args.queue.now.items) c.args.mtu c.loop-at.at.index c.args.n (bare c.in-Some.p.now) found (omega (arith, off, c.loop-at.invariant.1)) (omega (arith, off, c.if-n-past.true, c.span_of.ensures.rule)))

pub returns-in_default-clause-index : goal.returns-in_default-clause-index
returns-in_default-clause-index c =
    let none = bare_none c.args.queue.now.items c.loop-at.at.index (sym c.in_default.ensures) in
    let last = at_end (bares c.args.queue.now.items) c.loop-at.at.index none c.loop-at.invariant.0.within in
    let off = rw last at c.loop-at.invariant.0.offset in
    let whole = ends (bares c.args.queue.now.items) c.args.mtu in
    last ∙ sym (request_past (bares c.args.queue.now.items) c.args.mtu c.args.n (omega (arith, off, whole, c.loop-at.invariant.1)))
