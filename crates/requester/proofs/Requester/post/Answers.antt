-- The request stands at the end, and the barrier stays or goes past it.
use Rattle.std.proofs.Common.{◌≤◌, ◌<◌, ◌≡◌, ◌+◌, arith, sym, ap, ◌∙◌}
use Rattle.rdma_types.specs.Spans.{span, span_of}
use Rattle.end_queues.specs.Postings.{Queue}
use Rattle.end_queues.specs.declared.work_queues.posted.QueuedRequest.{QueuedRequest}
use Rattle.requester.specs.Sending.{bare, bares, sender_with}
use Rattle.requester.proofs.Bares.{bares-push, index_few, length-bares}
use Rattle.requester.proofs.Keeping.{barrier_within, held_posted}
use Rattle.rdma_types.proofs.Places.{first_within}
use Rattle.requester.proofs.Tables.{end_is}
use Rattle.requester.proofs.Requester.post.Goals as goal

pub posted-self-inside-requires-clause-end : goal.posted-self-inside-requires-clause-end
posted-self-inside-requires-clause-end c =
    let room = rw (end_is c.self.inside.terms (sender_with (bares c.self.inside.queue.items) c.self.inside.numbers) c.self.inside.caches c.self.invariant) at (rw (← c.self.view_is) at c.requires.below_limit) in
    rw c.span_of-span.ensures.rule room

pub posted-self-inside-requires-clause-barrier : goal.posted-self-inside-requires-clause-barrier
posted-self-inside-requires-clause-barrier c = barrier_within c.self.inside.terms (sender_with (bares c.self.inside.queue.items) c.self.inside.numbers) c.self.inside.caches c.self.invariant

pub posted-self-inside-requires-clause-offset : goal.posted-self-inside-requires-clause-offset
posted-self-inside-requires-clause-offset c =
    let w = first_within (bares c.self.inside.queue.items) c.self.inside.terms.mtu c.self.inside.caches.barrier_at.index in
    omega (arith, w, c.self.invariant.barrier_mark.offset, c.self.invariant.end)

pub posted-self-inside-requires-clause-index : goal.posted-self-inside-requires-clause-index
posted-self-inside-requires-clause-index c =
    let few = index_few (bares c.self.inside.queue.items) c.self.inside.terms.mtu c.self.inside.caches.barrier_at.index c.self.invariant.barrier_mark.within in
    let w = first_within (bares c.self.inside.queue.items) c.self.inside.terms.mtu c.self.inside.caches.barrier_at.index in
    let o = c.self.invariant.order in
    omega (arith, few, w, o.limit)

pub invariant_of-self-2 : goal.invariant_of-self-2
invariant_of-self-2 c =
    let room = rw (end_is c.self.inside.terms (sender_with (bares c.self.inside.queue.items) c.self.inside.numbers) c.self.inside.caches c.self.invariant) at (rw (← c.self.view_is) at c.requires.below_limit) in
    let items = ap (λ (q : Queue QueuedRequest). q.items) c.in_ok-post.ensures.ok in
    rw (items, bares-push c.self.inside.queue.items c.args.p, c.posted-self-inside.ensures, c.barrier_stays-stays.ensures, c.len.ensures.len, ← length-bares c.self.inside.queue.items, c.span_of-span.ensures.rule)
    (held_posted c.self.inside.terms (sender_with (bares c.self.inside.queue.items) c.self.inside.numbers) c.self.inside.caches c.self.invariant (bare c.args.p) room)
