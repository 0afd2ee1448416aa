-- The response at the barrier lands.
use Rattle.std.proofs.Common.{◌≤◌, ◌<◌, ◌≡◌, ◌+◌, ◌-◌, arith, sym, ap, ◌∙◌}
use Rattle.std.specs.Prelude.{Some, slice_get}
use Rattle.rdma_types.proofs.Numbers.{landing_before_end}
use Rattle.requester.specs.Sending.{bare, bares, sender_with}
use Rattle.requester.proofs.Bares.{bare_at, bare_none}
use Rattle.requester.proofs.Keeping.{barrier_above, barrier_within, held_landed, landed_few}
use Rattle.requester.proofs.Tables.{advanced_moves, barrier_is, here, inside, some_there}
use Rattle.requester.proofs.Requester.land.Goals as goal

pub unreachable-requires : goal.unreachable-requires
unreachable-requires c =
    let below : c.self.inside.caches.barrier < c.self.inside.numbers.top = rw (barrier_is c.self.inside.terms (sender_with (bares c.self.inside.queue.items) c.self.inside.numbers) c.self.inside.caches c.self.invariant) at (rw (← c.self.view_is) at c.requires) in
    some_there c.self.inside.terms (sender_with (bares c.self.inside.queue.items) c.self.inside.numbers) c.self.inside.caches c.self.invariant below (bare_none c.self.inside.queue.items c.self.inside.caches.barrier_at.index (sym c.in_default.ensures))

pub overflow_add-una : goal.overflow_add-una
overflow_add-una c =
    let w = barrier_within c.self.inside.terms (sender_with (bares c.self.inside.queue.items) c.self.inside.numbers) c.self.inside.caches c.self.invariant in
    let o = c.self.invariant.order in
    omega (arith, w, c.self.invariant.end, o.limit)

pub landed-self-inside-requires-clause-una : goal.landed-self-inside-requires-clause-una
landed-self-inside-requires-clause-una c = barrier_above c.self.inside.terms (sender_with (bares c.self.inside.queue.items) c.self.inside.numbers) c.self.inside.caches c.self.invariant

pub overflow_sub-last : goal.overflow_sub-last
overflow_sub-last c =
    let r = here c.self.inside.terms (sender_with (bares c.self.inside.queue.items) c.self.inside.numbers) c.self.inside.caches c.self.invariant (bare c.in-Some.p.now) (bare_at c.self.inside.queue.items c.self.inside.caches.barrier_at.index c.in-Some.p.now (sym c.in-Some.ensures)) in
    r.low

pub overflow_add-last : goal.overflow_add-last
overflow_add-last c =
    let r = here c.self.inside.terms (sender_with (bares c.self.inside.queue.items) c.self.inside.numbers) c.self.inside.caches c.self.invariant (bare c.in-Some.p.now) (bare_at c.self.inside.queue.items c.self.inside.caches.barrier_at.index c.in-Some.p.now (sym c.in-Some.ensures)) in
    let o = c.self.invariant.order in
    omega (arith, r.high, r.within, o.limit)

pub barrier_behind-barrier-requires-clause-before : goal.barrier_behind-barrier-requires-clause-before
barrier_behind-barrier-requires-clause-before c =
    let r = here c.self.inside.terms (sender_with (bares c.self.inside.queue.items) c.self.inside.numbers) c.self.inside.caches c.self.invariant (bare c.in-Some.p.now) (bare_at c.self.inside.queue.items c.self.inside.caches.barrier_at.index c.in-Some.p.now (sym c.in-Some.ensures)) in
    omega (arith, r.low)

pub barrier_behind-barrier-requires-clause-within : goal.barrier_behind-barrier-requires-clause-within
barrier_behind-barrier-requires-clause-within c =
    let r = here c.self.inside.terms (sender_with (bares c.self.inside.queue.items) c.self.inside.numbers) c.self.inside.caches c.self.invariant (bare c.in-Some.p.now) (bare_at c.self.inside.queue.items c.self.inside.caches.barrier_at.index c.in-Some.p.now (sym c.in-Some.ensures)) in
    omega (arith, r.high, r.within)

pub barrier_behind-barrier-requires-clause-number : goal.barrier_behind-barrier-requires-clause-number
barrier_behind-barrier-requires-clause-number c = λ more. (inside c.self.inside.terms (sender_with (bares c.self.inside.queue.items) c.self.inside.numbers) c.self.inside.caches c.self.invariant (bare c.in-Some.p.now) (bare_at c.self.inside.queue.items c.self.inside.caches.barrier_at.index c.in-Some.p.now (sym c.in-Some.ensures)) (rw c.span_of.ensures.rule at more)).0

pub barrier_behind-barrier-requires-clause-index : goal.barrier_behind-barrier-requires-clause-index
barrier_behind-barrier-requires-clause-index c = λ more. (inside c.self.inside.terms (sender_with (bares c.self.inside.queue.items) c.self.inside.numbers) c.self.inside.caches c.self.invariant (bare c.in-Some.p.now) (bare_at c.self.inside.queue.items c.self.inside.caches.barrier_at.index c.in-Some.p.now (sym c.in-Some.ensures)) (rw c.span_of.ensures.rule at more)).1

pub overflow_add-number : goal.overflow_add-number
overflow_add-number c =
    let r = here c.self.inside.terms (sender_with (bares c.self.inside.queue.items) c.self.inside.numbers) c.self.inside.caches c.self.invariant (bare c.in-Some.p.now) (bare_at c.self.inside.queue.items c.self.inside.caches.barrier_at.index c.in-Some.p.now (sym c.in-Some.ensures)) in
    let o = c.self.invariant.order in
    let w = landing_before_end (bares c.self.inside.queue.items) c.self.inside.terms.mtu (c.self.inside.caches.barrier - c.self.inside.numbers.first + 1) (omega (arith, r.high, r.within)) in
    omega (arith, w, c.barrier_behind-barrier.ensures.number, o.limit)

pub landed-self-inside-requires-clause-packets : goal.landed-self-inside-requires-clause-packets
landed-self-inside-requires-clause-packets c = λ below.
    let r = here c.self.inside.terms (sender_with (bares c.self.inside.queue.items) c.self.inside.numbers) c.self.inside.caches c.self.invariant (bare c.in-Some.p.now) (bare_at c.self.inside.queue.items c.self.inside.caches.barrier_at.index c.in-Some.p.now (sym c.in-Some.ensures)) in
    let f = landed_few c.self.inside.terms (sender_with (bares c.self.inside.queue.items) c.self.inside.numbers) c.self.inside.caches c.self.invariant (record { posted = bare c.in-Some.p.now; k = c.self.inside.caches.barrier - c.self.inside.numbers.first - c.self.inside.caches.barrier_at.offset }) r.piece below in
    rw c.span_of.ensures.rule f.packets

pub landed-self-inside-requires-clause-reads : goal.landed-self-inside-requires-clause-reads
landed-self-inside-requires-clause-reads c = λ below.
    let r = here c.self.inside.terms (sender_with (bares c.self.inside.queue.items) c.self.inside.numbers) c.self.inside.caches c.self.invariant (bare c.in-Some.p.now) (bare_at c.self.inside.queue.items c.self.inside.caches.barrier_at.index c.in-Some.p.now (sym c.in-Some.ensures)) in
    let f = landed_few c.self.inside.terms (sender_with (bares c.self.inside.queue.items) c.self.inside.numbers) c.self.inside.caches c.self.invariant (record { posted = bare c.in-Some.p.now; k = c.self.inside.caches.barrier - c.self.inside.numbers.first - c.self.inside.caches.barrier_at.offset }) r.piece below in
    rw c.span_of.ensures.rule f.reads

pub invariant_of-self : goal.invariant_of-self
invariant_of-self c =
    let r = here c.self.inside.terms (sender_with (bares c.self.inside.queue.items) c.self.inside.numbers) c.self.inside.caches c.self.invariant (bare c.in-Some.p.now) (bare_at c.self.inside.queue.items c.self.inside.caches.barrier_at.index c.in-Some.p.now (sym c.in-Some.ensures)) in
    let below : c.self.inside.caches.barrier < c.self.inside.numbers.top = rw (barrier_is c.self.inside.terms (sender_with (bares c.self.inside.queue.items) c.self.inside.numbers) c.self.inside.caches c.self.invariant) at (rw (← c.self.view_is) at c.requires) in
    rw (c.landed-self-inside.ensures, c.with_una-self-inside.ensures, c.span_of.ensures.rule)
    (held_landed c.self.inside.terms (sender_with (bares c.self.inside.queue.items) c.self.inside.numbers) c.self.inside.caches c.self.invariant (record { posted = bare c.in-Some.p.now; k = c.self.inside.caches.barrier - c.self.inside.numbers.first - c.self.inside.caches.barrier_at.offset }) r.piece below c.barrier_behind-barrier.result.number c.barrier_behind-barrier.result.at c.barrier_behind-barrier.ensures.number c.barrier_behind-barrier.ensures.mark c.barrier_behind-barrier.ensures.index)

pub returns-clause-numbers : goal.returns-clause-numbers
returns-clause-numbers c =
    let above = barrier_above c.self.inside.terms (sender_with (bares c.self.inside.queue.items) c.self.inside.numbers) c.self.inside.caches c.self.invariant in
    rw (c.with_una-self-inside.ensures, ← c.self.view_is, barrier_is c.self.inside.terms (sender_with (bares c.self.inside.queue.items) c.self.inside.numbers) c.self.inside.caches c.self.invariant) (sym (advanced_moves (sender_with (bares c.self.inside.queue.items) c.self.inside.numbers) (c.self.inside.caches.barrier + 1) (omega (arith, above))))
