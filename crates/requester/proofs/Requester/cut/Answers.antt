-- The oldest request is cut off, and nothing is in flight.
use Rattle.std.proofs.Common.{◌≤◌, ◌<◌, ◌≡◌, ◌+◌, ◌-◌, arith, sym, ap, ◌∙◌, refl, List, [], ◌∷◌, drop, length}
use Rattle.std.specs.Prelude.{None, slice_get}
use Rattle.rdma_types.specs.Spans.{end_number, first_number, span, span_of}
use Rattle.end_queues.specs.Postings.{Queue}
use Rattle.end_queues.specs.declared.work_queues.posted.QueuedRequest.{QueuedRequest}
use Rattle.requester.specs.Sending.{bare, bares, sender_with}
use Rattle.requester.proofs.Bares.{bare_at, bares-drop, length-bares}
use Rattle.requester.proofs.Keeping.{end-drop, end-none, first-none, failed, held_failed}
use Rattle.rdma_types.proofs.Places.{first-one, first-zero, span_inside}
use Rattle.requester.proofs.Tables.{failing_is}
use Rattle.requester.proofs.Requester.cut.Goals as goal

nothing_left_items : (ps : List QueuedRequest) → slice_get ps 0 ≡ None → ps ≡ []
nothing_left_items [] h = refl
nothing_left_items (p ∷ ps) h = absurd (cc)

pub invariant_of-self : goal.invariant_of-self
invariant_of-self c =
    let none = nothing_left_items c.self.inside.queue.items (sym c.in_default.ensures) in
    let zero' = end-none c.self.inside.terms.mtu in
    let o = c.self.invariant.order in
    rw (c.failed_numbers-self-inside.ensures, c.failed_caches-self-inside.ensures, none)
    (held_failed c.self.inside.terms [] c.self.inside.caches.end c.self.inside.caches.end c.self.invariant.mtu (omega (arith, zero')) (omega (arith, o.limit, c.self.invariant.end)))

pub returns-in_default-clause-numbers : goal.returns-in_default-clause-numbers
returns-in_default-clause-numbers c =
    let none = ap bares (nothing_left_items c.self.inside.queue.items (sym c.in_default.ensures)) in
    let zero' = end-none c.self.inside.terms.mtu in
    let first : c.self.inside.caches.end ≡ c.self.inside.numbers.first + first_number (bares c.self.inside.queue.items) c.self.inside.terms.mtu 1 = rw none (omega (arith, rw none at c.self.invariant.end, zero', first-none c.self.inside.terms.mtu 1)) in
    let e = failing_is c.self.inside.terms (sender_with (bares c.self.inside.queue.items) c.self.inside.numbers) c.self.inside.caches c.self.invariant c.self.inside.caches.end first in
    rw (c.failed_numbers-self-inside.ensures, ← c.self.view_is) (ap (λ us. sender_with us (failed c.self.inside.caches.end c.self.inside.caches.end)) (none ∙ ap (λ us. drop 1 us) (sym none)) ∙ e)

pub overflow_add-first : goal.overflow_add-first
overflow_add-first c =
    let inside = span_inside (bares c.self.inside.queue.items) c.self.inside.terms.mtu 0 (bare c.in-Some.p.now) (bare_at c.self.inside.queue.items 0 c.in-Some.p.now (sym c.in-Some.ensures)) in
    let o = c.self.invariant.order in
    omega (arith, inside, o.limit, c.span_of.ensures.rule)

pub failed_caches-self-inside-requires-2 : goal.failed_caches-self-inside-requires-2
failed_caches-self-inside-requires-2 c =
    let inside = span_inside (bares c.self.inside.queue.items) c.self.inside.terms.mtu 0 (bare c.in-Some.p.now) (bare_at c.self.inside.queue.items 0 c.in-Some.p.now (sym c.in-Some.ensures)) in
    omega (arith, inside, c.self.invariant.end, c.span_of.ensures.rule)

pub invariant_of-self-2 : goal.invariant_of-self-2
invariant_of-self-2 c =
    let items = ap (λ (q : Queue QueuedRequest). q.items) c.drop_front-cut.ensures.rest in
    let more = end-drop (bares c.self.inside.queue.items) c.self.inside.terms.mtu (bare c.in-Some.p.now) (bare_at c.self.inside.queue.items 0 c.in-Some.p.now (sym c.in-Some.ensures)) in
    let o = c.self.invariant.order in
    rw (c.failed_numbers-self-inside-2.ensures, c.failed_caches-self-inside-2.ensures, c.len.ensures.len, items, ← length-bares (drop 1 c.self.inside.queue.items), bares-drop c.self.inside.queue.items, c.span_of.ensures.rule)
    (held_failed c.self.inside.terms (drop 1 (bares c.self.inside.queue.items)) (c.self.inside.numbers.first + span_of (bare c.in-Some.p.now) c.self.inside.terms.mtu) c.self.inside.caches.end c.self.invariant.mtu (omega (arith, more, c.self.invariant.end)) (omega (arith, o.limit, c.self.invariant.end)))

pub returns-clause-numbers : goal.returns-clause-numbers
returns-clause-numbers c =
    let items = ap (λ (q : Queue QueuedRequest). q.items) c.drop_front-cut.ensures.rest in
    let one = first-one (bares c.self.inside.queue.items) c.self.inside.terms.mtu (bare c.in-Some.p.now) (bare_at c.self.inside.queue.items 0 c.in-Some.p.now (sym c.in-Some.ensures)) in
    let e = failing_is c.self.inside.terms (sender_with (bares c.self.inside.queue.items) c.self.inside.numbers) c.self.inside.caches c.self.invariant (c.self.inside.numbers.first + span_of (bare c.in-Some.p.now) c.self.inside.terms.mtu) (ap (λ n. c.self.inside.numbers.first + n) (sym one)) in
    rw (c.failed_numbers-self-inside-2.ensures, items, bares-drop c.self.inside.queue.items, c.span_of.ensures.rule, ← c.self.view_is) e
