-- A request for which nothing lands is passed, and the mark found is of a Read, of an atomic or of the end.
use Rattle.std.proofs.Common.{◌≡◌, ◌+◌, arith, sym, ap, ◌∙◌, add-one}
use Rattle.std.specs.Prelude.{Some, slice_get}
use Rattle.rdma_types.specs.Spans.{next_landing}
use Rattle.rdma_types.proofs.Numbers.{ends, landing_after, landing_before_end}
use Rattle.requester.specs.Sending.{bare, bares}
use Rattle.requester.proofs.Bares.{bare_at, bare_none, length-bares, step}
use Rattle.rdma_types.proofs.Places.{at_end, landing_here, landing_skips, piece_here, request_here, request_past, span_positive}
use Rattle.requester.proofs.marks.seek_landing.Goals as goal

pub overflow_add-at : goal.overflow_add-at
overflow_add-at c =
    let s = step (bares c.args.queue.now.items) c.args.mtu c.loop-at.at (bare c.in-Some.p.now) c.loop-at.invariant.0 (bare_at c.args.queue.now.items c.loop-at.at.index c.in-Some.p.now (sym c.in-Some.ensures)) in
    omega (arith, s.within, s.few, c.requires.limit)

pub overflow_add-at-in-Some : goal.overflow_add-at-in-Some
overflow_add-at-in-Some c =
    let s = step (bares c.args.queue.now.items) c.args.mtu c.loop-at.at (bare c.in-Some.p.now) c.loop-at.invariant.0 (bare_at c.args.queue.now.items c.loop-at.at.index c.in-Some.p.now (sym c.in-Some.ensures)) in
    omega (arith, s.within, c.requires.limit, c.span_of.ensures.rule)

pub loop-at-smaller : goal.loop-at-smaller
loop-at-smaller c =
    let s = step (bares c.args.queue.now.items) c.args.mtu c.loop-at.at (bare c.in-Some.p.now) c.loop-at.invariant.0 (bare_at c.args.queue.now.items c.loop-at.at.index c.in-Some.p.now (sym c.in-Some.ensures)) in
    let there = s.there in
    let same = length-bares c.args.queue.now.items in
    omega (arith, there, same)

pub loop-at-preserved : goal.loop-at-preserved
loop-at-preserved c =
    let found = bare_at c.args.queue.now.items c.loop-at.at.index c.in-Some.p.now (sym c.in-Some.ensures) in
    let s = step (bares c.args.queue.now.items) c.args.mtu c.loop-at.at (bare c.in-Some.p.now) c.loop-at.invariant.0 found in
    let skip = landing_skips (bares c.args.queue.now.items) c.args.mtu c.loop-at.at.index (bare c.in-Some.p.now) found (sym c.lands.ensures ∙ c.if-lands.false) in
    let here = c.loop-at.invariant.0.offset in
    let after = s.after.offset in
    let to : next_landing (bares c.args.queue.now.items) c.args.mtu (c.loop-at.at.offset + c.span_of.result) ≡ next_landing (bares c.args.queue.now.items) c.args.mtu c.loop-at.at.offset =
    rw c.span_of.ensures.rule (ap (λ n. next_landing (bares c.args.queue.now.items) c.args.mtu n) (rw add-one at after) ∙ (sym skip ∙ ap (λ n. next_landing (bares c.args.queue.now.items) c.args.mtu n) (sym here))) in
    (rw c.span_of.ensures.rule s.after, to ∙ c.loop-at.invariant.1)

pub returns-then-lands-clause-landing : goal.returns-then-lands-clause-landing
returns-then-lands-clause-landing c =
    let found = bare_at c.args.queue.now.items c.loop-at.at.index c.in-Some.p.now (sym c.in-Some.ensures) in
    let some = span_positive c.in-Some.p.now.request.shape c.args.mtu in
    let off = c.loop-at.invariant.0.offset in
    let piece = piece_here (bares c.args.queue.now.items) c.args.mtu c.loop-at.at.index c.loop-at.at.offset (bare c.in-Some.p.now) found (omega (arith, off)) (omega (arith, off, some)) in
    sym (landing_here (bares c.args.queue.now.items) c.args.mtu c.loop-at.at.offset _ piece (sym c.lands.ensures ∙ c.if-lands.true)) ∙ c.loop-at.invariant.1

pub returns-then-lands-clause-index : goal.returns-then-lands-clause-index
returns-then-lands-clause-index c =
    let found = bare_at c.args.queue.now.items c.loop-at.at.index c.in-Some.p.now (sym c.in-Some.ensures) in
    let some = span_positive c.in-Some.p.now.request.shape c.args.mtu in
    let off = c.loop-at.invariant.0.offset in
    sym (request_here (bares c.args.queue.now.items) c.args.mtu c.loop-at.at.index c.loop-at.at.offset (bare c.in-Some.p.now) found (omega (arith, off)) (omega (arith, off, some)))

pub returns-in_default-clause-landing : goal.returns-in_default-clause-landing
returns-in_default-clause-landing c =
    let none = bare_none c.args.queue.now.items c.loop-at.at.index (sym c.in_default.ensures) in
    let last = at_end (bares c.args.queue.now.items) c.loop-at.at.index none c.loop-at.invariant.0.within in
    let off = rw last at c.loop-at.invariant.0.offset in
    let whole = ends (bares c.args.queue.now.items) c.args.mtu in
    let after = landing_after (bares c.args.queue.now.items) c.args.mtu c.loop-at.at.offset in
    let before = landing_before_end (bares c.args.queue.now.items) c.args.mtu c.loop-at.at.offset (omega (arith, off, whole)) in
    omega (arith, off, whole, after, before, c.loop-at.invariant.1)

pub returns-in_default-clause-index : goal.returns-in_default-clause-index
returns-in_default-clause-index c =
    let none = bare_none c.args.queue.now.items c.loop-at.at.index (sym c.in_default.ensures) in
    let last = at_end (bares c.args.queue.now.items) c.loop-at.at.index none c.loop-at.invariant.0.within in
    let off = rw last at c.loop-at.invariant.0.offset in
    let whole = ends (bares c.args.queue.now.items) c.args.mtu in
    last ∙ sym (request_past (bares c.args.queue.now.items) c.args.mtu c.loop-at.at.offset (omega (arith, off, whole)))
