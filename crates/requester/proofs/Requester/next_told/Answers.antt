-- The oldest request is told where all its numbers are acknowledged.
use Rattle.std.proofs.Common.{◌≤◌, ◌<◌, ◌≡◌, ◌+◌, ◌-◌, arith, sym, ap, ◌∙◌, refl}
use Rattle.rdma_types.specs.Spans.{span, span_of}
use Rattle.end_queues.specs.Postings.{Queue}
use Rattle.end_queues.specs.declared.work_queues.posted.QueuedRequest.{QueuedRequest}
use Rattle.requester.specs.Sending.{bare, bares, sender_with}
use Rattle.requester.proofs.Bares.{bare_at, bares-drop}
use Rattle.rdma_types.proofs.Places.{first-one}
use Rattle.requester.proofs.Keeping.{held_told, none_told, some_told}
use Rattle.requester.proofs.Requester.next_told.Goals as goal

pub returns-then-self-span-clause-told : goal.returns-then-self-span-clause-told
returns-then-self-span-clause-told c =
    let none = none_told (bares c.self.inside.queue.items) c.self.inside.terms.mtu (c.self.inside.numbers.una - c.self.inside.numbers.first) (bare c.in_ok-at.field-0.now) (bare_at c.self.inside.queue.items 0 c.in_ok-at.field-0.now (sym c.in_ok-at.ensures)) (omega (arith, c.if-self-span.true, c.span_of-span.ensures.rule)) in
    rw (← c.self.view_is, none) refl

pub invariant_of-self : goal.invariant_of-self
invariant_of-self c =
    let items = ap (λ (q : Queue QueuedRequest). q.items) c.drop_front-told.ensures.rest in
    let past : c.self.inside.numbers.first + span_of (bare c.in_ok-at.field-0.now) c.self.inside.terms.mtu ≤ c.self.inside.numbers.una = omega (arith, c.if-self-span.false, c.span_of-span.ensures.rule, c.span_of-span.ensures.positive) in
    rw (items, bares-drop c.self.inside.queue.items, c.without_first-self-inside.ensures, c.span_of-span.ensures.rule)
    (held_told c.self.inside.terms (bares c.self.inside.queue.items) c.self.inside.numbers c.self.inside.caches (bare c.in_ok-at.field-0.now) (bare_at c.self.inside.queue.items 0 c.in_ok-at.field-0.now (sym c.in_ok-at.ensures)) c.self.invariant past)

pub returns-clause-told : goal.returns-clause-told
returns-clause-told c =
    let some = some_told (bares c.self.inside.queue.items) c.self.inside.terms.mtu (c.self.inside.numbers.una - c.self.inside.numbers.first) (bare c.in_ok-at.field-0.now) (bare_at c.self.inside.queue.items 0 c.in_ok-at.field-0.now (sym c.in_ok-at.ensures)) (omega (arith, c.if-self-span.false, c.span_of-span.ensures.rule)) in
    rw (← c.self.view_is, some) c.drop_front-told.ensures.front

pub returns-clause-numbers : goal.returns-clause-numbers
returns-clause-numbers c =
    let items = ap (λ (q : Queue QueuedRequest). q.items) c.drop_front-told.ensures.rest in
    let one = first-one (bares c.self.inside.queue.items) c.self.inside.terms.mtu (bare c.in_ok-at.field-0.now) (bare_at c.self.inside.queue.items 0 c.in_ok-at.field-0.now (sym c.in_ok-at.ensures)) in
    rw (c.drop_front-told.ensures.front ∙ sym c.in_ok-at.ensures, items, bares-drop c.self.inside.queue.items, c.span_of-span.ensures.rule, ← c.self.view_is, one) refl
