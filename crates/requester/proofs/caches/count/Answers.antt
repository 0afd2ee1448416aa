-- Each request counted takes its numbers and its packets from the rest.
use Rattle.std.proofs.Common.{◌≡◌, ◌+◌, ◌-◌, ◌≤◌, ◌<◌, ℕ, List, min, max, length, drop, arith, refl, sym, ap, ◌∙◌}
use Rattle.std.specs.Prelude.{Some, slice_get, if◌then◌else◌}
use Rattle.rdma_types.specs.declared.requests.Kind.{Kind}
use Rattle.rdma_types.specs.Kinds.{is_read, kind_of, lands}
use Rattle.rdma_types.specs.Objects.{Posted}
use Rattle.rdma_types.specs.Spans.{end_number, first_number, span_of}
use Rattle.rdma_types.proofs.Numbers.{ends}
use Rattle.protocol.specs.Requester.{overlap, packets_in_flight, packets_of, reads_in_flight}
use Rattle.end_queues.specs.declared.work_queues.posted.QueuedRequest as queued
use Rattle.requester.specs.Sending.{bare, bares}
use Rattle.requester.proofs.Bares.{bare_at, bare_none, drop_all, length-bares, packets_more, reads_more, step}
use Rattle.requester.proofs.Flight.{packets_few, reads_few, reads_of}
use Rattle.rdma_types.proofs.Places.{at_end, first-zero}
use Rattle.requester.proofs.caches.count.Goals as goal

-- what one more request does to the counts
record More (us : List Posted) (mtu i first low una next high packets reads counted read : ℕ) : Type 0 where
  pub within : high ≤ first + end_number us mtu
  pub index : i + 1 ≤ end_number us mtu
  pub there : i < length us
  pub end : high ≡ first + first_number us mtu (i + 1)
  pub packets-few : counted + packets ≤ end_number us mtu
  pub reads-few : read + reads ≤ end_number us mtu
  pub packets-left : counted + packets + packets_in_flight (drop (i + 1) us) mtu high una next ≡ packets_in_flight us mtu first una next
  pub reads-left : read + reads + reads_in_flight (drop (i + 1) us) mtu high una next ≡ reads_in_flight us mtu first una next

more : (us : List Posted) (mtu i first low una next span packets reads counted read : ℕ) (p : Posted) → slice_get us i ≡ Some p → i ≤ length us → low ≡ first + first_number us mtu i → span ≡ span_of p mtu
    → packets ≡ packets_of (kind_of p) (overlap low (low + span) una next) → reads ≡ reads_of (kind_of p) (overlap low (low + span) una next)
    → counted + packets_in_flight (drop i us) mtu low una next ≡ packets_in_flight us mtu first una next
    → read + reads_in_flight (drop i us) mtu low una next ≡ reads_in_flight us mtu first una next
    → More us mtu i first low una next (low + span) packets reads counted read
more us mtu i first low una next span packets reads counted read p found within at size ps rs left left' =
    let s = step us mtu (record { index = i; offset = first_number us mtu i }) p (record { within = within; offset = refl }) found in
    let e = packets_more us mtu i low una next p found in
    let e' = reads_more us mtu i low una next p found in
    let f = packets_few us mtu first una next in
    let f' = reads_few us mtu first una next in
    let ps' : packets ≡ packets_of (kind_of p) (overlap low (low + span_of p mtu) una next) = rw (← size) ps in
    let rs' : reads ≡ reads_of (kind_of p) (overlap low (low + span_of p mtu) una next) = rw (← size) rs in
    rw size (record {
      within = omega (arith, s.within, at);
      index = omega (arith, s.within, s.few);
      there = s.there;
      end = omega (arith, s.after.offset, at);
      packets-few = omega (arith, e, f, left, ps');
      reads-few = omega (arith, e', f', left', rs');
      packets-left = omega (arith, e, left, ps');
      reads-left = omega (arith, e', left', rs');
    })

within : (ps : List queued.QueuedRequest) (i : ℕ) → i ≤ length ps → i ≤ length (bares ps)
within ps i h = let same = length-bares ps in omega (arith, same)

pub loop-p-init : goal.loop-p-init
loop-p-init c = (omega arith, omega (arith, first-zero (bares c.args.queue.now.items) c.args.terms.now.mtu), omega arith, omega arith)

pub overflow_add-high : goal.overflow_add-high
overflow_add-high c =
    let s = step (bares c.args.queue.now.items) c.args.terms.now.mtu (record { index = c.loop-p.index; offset = first_number (bares c.args.queue.now.items) c.args.terms.now.mtu c.loop-p.index }) (bare c.in-Some.p.now) (record { within = within c.args.queue.now.items c.loop-p.index c.loop-p.invariant.0; offset = refl }) (bare_at c.args.queue.now.items c.loop-p.index c.in-Some.p.now (sym c.in-Some.ensures)) in
    omega (arith, s.within, c.loop-p.invariant.1, c.requires.order.limit, c.span_of.ensures.rule)

pub overflow_add-counts : goal.overflow_add-counts
overflow_add-counts c =
    let m = more (bares c.args.queue.now.items) c.args.terms.now.mtu c.loop-p.index c.args.numbers.now.first c.loop-p.counts.end c.args.numbers.now.una c.args.numbers.now.next c.span_of.result c.packets_of.result (reads_of c.in-Some.p.now.request.shape.kind (overlap c.loop-p.counts.end (c.loop-p.counts.end + c.span_of.result) c.args.numbers.now.una c.args.numbers.now.next)) c.loop-p.counts.packets c.loop-p.counts.reads (bare c.in-Some.p.now) (bare_at c.args.queue.now.items c.loop-p.index c.in-Some.p.now (sym c.in-Some.ensures)) (within c.args.queue.now.items c.loop-p.index c.loop-p.invariant.0) c.loop-p.invariant.1 c.span_of.ensures.rule (c.packets_of.ensures ∙ ap (λ o. packets_of c.in-Some.p.now.request.shape.kind o) c.overlap-inside.ensures) refl c.loop-p.invariant.2 c.loop-p.invariant.3 in
    omega (arith, m.packets-few, c.requires.order.limit)

pub overflow_add-counts-in-Some : goal.overflow_add-counts-in-Some
overflow_add-counts-in-Some c =
    let m = more (bares c.args.queue.now.items) c.args.terms.now.mtu c.loop-p.index c.args.numbers.now.first c.loop-p.counts.end c.args.numbers.now.una c.args.numbers.now.next c.span_of.result c.packets_of.result c.reads_of.result c.loop-p.counts.packets c.loop-p.counts.reads (bare c.in-Some.p.now) (bare_at c.args.queue.now.items c.loop-p.index c.in-Some.p.now (sym c.in-Some.ensures)) (within c.args.queue.now.items c.loop-p.index c.loop-p.invariant.0) c.loop-p.invariant.1 c.span_of.ensures.rule (c.packets_of.ensures ∙ ap (λ o. packets_of c.in-Some.p.now.request.shape.kind o) c.overlap-inside.ensures) (c.reads_of.ensures ∙ ap (λ o. reads_of c.in-Some.p.now.request.shape.kind o) c.overlap-inside.ensures) c.loop-p.invariant.2 c.loop-p.invariant.3 in
    omega (arith, m.reads-few, c.requires.order.limit)

pub overflow_add-index : goal.overflow_add-index
overflow_add-index c =
    let m = more (bares c.args.queue.now.items) c.args.terms.now.mtu c.loop-p.index c.args.numbers.now.first c.loop-p.counts.end c.args.numbers.now.una c.args.numbers.now.next c.span_of.result c.packets_of.result c.reads_of.result c.loop-p.counts.packets c.loop-p.counts.reads (bare c.in-Some.p.now) (bare_at c.args.queue.now.items c.loop-p.index c.in-Some.p.now (sym c.in-Some.ensures)) (within c.args.queue.now.items c.loop-p.index c.loop-p.invariant.0) c.loop-p.invariant.1 c.span_of.ensures.rule (c.packets_of.ensures ∙ ap (λ o. packets_of c.in-Some.p.now.request.shape.kind o) c.overlap-inside.ensures) (c.reads_of.ensures ∙ ap (λ o. reads_of c.in-Some.p.now.request.shape.kind o) c.overlap-inside.ensures) c.loop-p.invariant.2 c.loop-p.invariant.3 in
    omega (arith, m.index, c.requires.order.limit)

pub loop-p-smaller : goal.loop-p-smaller
loop-p-smaller c =
    let m = more (bares c.args.queue.now.items) c.args.terms.now.mtu c.loop-p.index c.args.numbers.now.first c.loop-p.counts.end c.args.numbers.now.una c.args.numbers.now.next c.span_of.result c.packets_of.result c.reads_of.result c.loop-p.counts.packets c.loop-p.counts.reads (bare c.in-Some.p.now) (bare_at c.args.queue.now.items c.loop-p.index c.in-Some.p.now (sym c.in-Some.ensures)) (within c.args.queue.now.items c.loop-p.index c.loop-p.invariant.0) c.loop-p.invariant.1 c.span_of.ensures.rule (c.packets_of.ensures ∙ ap (λ o. packets_of c.in-Some.p.now.request.shape.kind o) c.overlap-inside.ensures) (c.reads_of.ensures ∙ ap (λ o. reads_of c.in-Some.p.now.request.shape.kind o) c.overlap-inside.ensures) c.loop-p.invariant.2 c.loop-p.invariant.3 in
    let there = m.there in
    let same = length-bares c.args.queue.now.items in
    omega (arith, there, same)

pub loop-p-preserved : goal.loop-p-preserved
loop-p-preserved c =
    let m = more (bares c.args.queue.now.items) c.args.terms.now.mtu c.loop-p.index c.args.numbers.now.first c.loop-p.counts.end c.args.numbers.now.una c.args.numbers.now.next c.span_of.result c.packets_of.result c.reads_of.result c.loop-p.counts.packets c.loop-p.counts.reads (bare c.in-Some.p.now) (bare_at c.args.queue.now.items c.loop-p.index c.in-Some.p.now (sym c.in-Some.ensures)) (within c.args.queue.now.items c.loop-p.index c.loop-p.invariant.0) c.loop-p.invariant.1 c.span_of.ensures.rule (c.packets_of.ensures ∙ ap (λ o. packets_of c.in-Some.p.now.request.shape.kind o) c.overlap-inside.ensures) (c.reads_of.ensures ∙ ap (λ o. reads_of c.in-Some.p.now.request.shape.kind o) c.overlap-inside.ensures) c.loop-p.invariant.2 c.loop-p.invariant.3 in
    let same = length-bares c.args.queue.now.items in
    (omega (arith, m.there, same), m.end, m.packets-left, m.reads-left)

pub returns-clause-end : goal.returns-clause-end
returns-clause-end c =
    let none = bare_none c.args.queue.now.items c.loop-p.index (sym c.in_default.ensures) in
    let last = at_end (bares c.args.queue.now.items) c.loop-p.index none (within c.args.queue.now.items c.loop-p.index c.loop-p.invariant.0) in
    let at = rw last at c.loop-p.invariant.1 in
    let whole = ends (bares c.args.queue.now.items) c.args.terms.now.mtu in
    omega (arith, at, whole)

pub returns-clause-packets : goal.returns-clause-packets
unfolding packets_in_flight
returns-clause-packets c =
    let none = bare_none c.args.queue.now.items c.loop-p.index (sym c.in_default.ensures) in
    let left = rw (drop_all (bares c.args.queue.now.items) c.loop-p.index none) at c.loop-p.invariant.2 in
    omega (arith, left)

pub returns-clause-reads : goal.returns-clause-reads
unfolding reads_in_flight
returns-clause-reads c =
    let none = bare_none c.args.queue.now.items c.loop-p.index (sym c.in_default.ensures) in
    let left = rw (drop_all (bares c.args.queue.now.items) c.loop-p.index none) at c.loop-p.invariant.3 in
    omega (arith, left)
