-- A response lands at the barrier, where it is this piece's.
use Rattle.std.proofs.Common.{◌≡◌, ◌≤◌, ◌<◌, ◌-◌, ◌+◌, arith, sym, ap, ◌∙◌}
use Rattle.std.specs.Prelude.{Some, None}
use Rattle.protocol.specs.Requester.{advanced}
use Rattle.roce_headers.specs.Packets.{packet}
use Rattle.requester.specs.Sending.{bare, bares, sender_of, sender_with}
use Rattle.requester.specs.Taking.{Taking}
use Rattle.requester.proofs.Bares.{bare_at, bare_none}
use Rattle.requester.proofs.Tables.{barrier_is, due_is, here, landed_by, landed_said, landing_none, landing_row, landing_some, landing_undue, some_there}
use Rattle.requester.proofs.Requester.take_landing.Goals as goal

pub returns-then-not-is_due-clause-answer : goal.returns-then-not-is_due-clause-answer
returns-then-not-is_due-clause-answer c =
    let row = landing_undue c.self.inside.terms (sender_with (bares c.self.inside.queue.items) c.self.inside.numbers) c.self.inside.caches c.self.invariant (packet c.args.d.now) c.args.n (sym c.is_due.ensures ∙ c.if-not-is_due.true) in
    rw (← c.self.view_is) (ap (λ (t : Taking). t.taken) (sym row))

pub returns-then-not-is_due-clause-numbers : goal.returns-then-not-is_due-clause-numbers
returns-then-not-is_due-clause-numbers c =
    let row = landing_undue c.self.inside.terms (sender_with (bares c.self.inside.queue.items) c.self.inside.numbers) c.self.inside.caches c.self.invariant (packet c.args.d.now) c.args.n (sym c.is_due.ensures ∙ c.if-not-is_due.true) in
    rw (← c.self.view_is) (ap (λ (t : Taking). t.sender) (sym row))

pub unreachable-requires : goal.unreachable-requires
unreachable-requires c =
    let due = sym c.is_due.ensures ∙ c.if-not-is_due.false in
    let same = due_is c.args.n c.self.inside.caches.barrier c.self.inside.numbers.top due in
    some_there c.self.inside.terms (sender_with (bares c.self.inside.queue.items) c.self.inside.numbers) c.self.inside.caches c.self.invariant (omega (arith, same.0, same.1)) (bare_none c.self.inside.queue.items c.self.inside.caches.barrier_at.index (sym c.in_default.ensures))

pub overflow_sub-k-2 : goal.overflow_sub-k-2
overflow_sub-k-2 c =
    let r = here c.self.inside.terms (sender_with (bares c.self.inside.queue.items) c.self.inside.numbers) c.self.inside.caches c.self.invariant (bare c.in-Some.p.now) (bare_at c.self.inside.queue.items c.self.inside.caches.barrier_at.index c.in-Some.p.now (sym c.in-Some.ensures)) in
    let due = sym c.is_due.ensures ∙ c.if-not-is_due.false in
    let same = due_is c.args.n c.self.inside.caches.barrier c.self.inside.numbers.top due in
    omega (arith, r.low, same.0)

pub landing-requires-clause-inside : goal.landing-requires-clause-inside
landing-requires-clause-inside c =
    let r = here c.self.inside.terms (sender_with (bares c.self.inside.queue.items) c.self.inside.numbers) c.self.inside.caches c.self.invariant (bare c.in-Some.p.now) (bare_at c.self.inside.queue.items c.self.inside.caches.barrier_at.index c.in-Some.p.now (sym c.in-Some.ensures)) in
    let due = sym c.is_due.ensures ∙ c.if-not-is_due.false in
    let same = due_is c.args.n c.self.inside.caches.barrier c.self.inside.numbers.top due in
    omega (arith, r.low, r.high, same.0)

pub land-requires : goal.land-requires
land-requires c =
    let due = sym c.is_due.ensures ∙ c.if-not-is_due.false in
    let same = due_is c.args.n c.self.inside.caches.barrier c.self.inside.numbers.top due in
    rw (← c.self.view_is, barrier_is c.self.inside.terms (sender_with (bares c.self.inside.queue.items) c.self.inside.numbers) c.self.inside.caches c.self.invariant) (omega (arith, same.0, same.1))

pub returns-in_default-landing-clause-answer : goal.returns-in_default-landing-clause-answer
returns-in_default-landing-clause-answer c =
    let r = here c.self.inside.terms (sender_with (bares c.self.inside.queue.items) c.self.inside.numbers) c.self.inside.caches c.self.invariant (bare c.in-Some.p.now) (bare_at c.self.inside.queue.items c.self.inside.caches.barrier_at.index c.in-Some.p.now (sym c.in-Some.ensures)) in
    let due = sym c.is_due.ensures ∙ c.if-not-is_due.false in
    let same = due_is c.args.n c.self.inside.caches.barrier c.self.inside.numbers.top due in
    let row = landing_row c.self.inside.terms (sender_with (bares c.self.inside.queue.items) c.self.inside.numbers) c.self.inside.caches c.self.invariant (packet c.args.d.now) c.args.n (bare c.in-Some.p.now) r due same.0 in
    let none = landing_none c.self.inside.terms (sender_with (bares c.self.inside.queue.items) c.self.inside.numbers) (advanced (sender_with (bares c.self.inside.queue.items) c.self.inside.numbers) (c.args.n + 1)) (packet c.args.d.now) c.self.inside.caches.barrier_at.index (record { posted = bare c.in-Some.p.now; k = c.args.n - c.self.inside.numbers.first - c.self.inside.caches.barrier_at.offset }) (sym c.in_default-landing.is ∙ (c.landing.ensures ∙ landed_said c.self.inside.terms (packet c.args.d.now) c.self.inside.caches.barrier_at.index (record { posted = bare c.in-Some.p.now; k = c.args.n - c.self.inside.numbers.first - c.self.inside.caches.barrier_at.offset }))) in
    rw (← c.self.view_is) (ap (λ (t : Taking). t.taken) (sym (row ∙ none)))

pub returns-in_default-landing-clause-numbers : goal.returns-in_default-landing-clause-numbers
returns-in_default-landing-clause-numbers c =
    let r = here c.self.inside.terms (sender_with (bares c.self.inside.queue.items) c.self.inside.numbers) c.self.inside.caches c.self.invariant (bare c.in-Some.p.now) (bare_at c.self.inside.queue.items c.self.inside.caches.barrier_at.index c.in-Some.p.now (sym c.in-Some.ensures)) in
    let due = sym c.is_due.ensures ∙ c.if-not-is_due.false in
    let same = due_is c.args.n c.self.inside.caches.barrier c.self.inside.numbers.top due in
    let row = landing_row c.self.inside.terms (sender_with (bares c.self.inside.queue.items) c.self.inside.numbers) c.self.inside.caches c.self.invariant (packet c.args.d.now) c.args.n (bare c.in-Some.p.now) r due same.0 in
    let none = landing_none c.self.inside.terms (sender_with (bares c.self.inside.queue.items) c.self.inside.numbers) (advanced (sender_with (bares c.self.inside.queue.items) c.self.inside.numbers) (c.args.n + 1)) (packet c.args.d.now) c.self.inside.caches.barrier_at.index (record { posted = bare c.in-Some.p.now; k = c.args.n - c.self.inside.numbers.first - c.self.inside.caches.barrier_at.offset }) (sym c.in_default-landing.is ∙ (c.landing.ensures ∙ landed_said c.self.inside.terms (packet c.args.d.now) c.self.inside.caches.barrier_at.index (record { posted = bare c.in-Some.p.now; k = c.args.n - c.self.inside.numbers.first - c.self.inside.caches.barrier_at.offset }))) in
    rw (← c.self.view_is) (ap (λ (t : Taking). t.sender) (sym (row ∙ none)))

pub returns-clause-answer : goal.returns-clause-answer
returns-clause-answer c =
    let r = here c.self.inside.terms (sender_with (bares c.self.inside.queue.items) c.self.inside.numbers) c.self.inside.caches c.self.invariant (bare c.in-Some.p.now) (bare_at c.self.inside.queue.items c.self.inside.caches.barrier_at.index c.in-Some.p.now (sym c.in-Some.ensures)) in
    let due = sym c.is_due.ensures ∙ c.if-not-is_due.false in
    let same = due_is c.args.n c.self.inside.caches.barrier c.self.inside.numbers.top due in
    let row = landing_row c.self.inside.terms (sender_with (bares c.self.inside.queue.items) c.self.inside.numbers) c.self.inside.caches c.self.invariant (packet c.args.d.now) c.args.n (bare c.in-Some.p.now) r due same.0 in
    let some = landing_some c.self.inside.terms (sender_with (bares c.self.inside.queue.items) c.self.inside.numbers) (advanced (sender_with (bares c.self.inside.queue.items) c.self.inside.numbers) (c.args.n + 1)) (packet c.args.d.now) c.self.inside.caches.barrier_at.index (record { posted = bare c.in-Some.p.now; k = c.args.n - c.self.inside.numbers.first - c.self.inside.caches.barrier_at.offset }) c.in-Some-landing.landing (sym c.in-Some-landing.is ∙ (c.landing.ensures ∙ landed_said c.self.inside.terms (packet c.args.d.now) c.self.inside.caches.barrier_at.index (record { posted = bare c.in-Some.p.now; k = c.args.n - c.self.inside.numbers.first - c.self.inside.caches.barrier_at.offset }))) in
    rw (← c.self.view_is) (ap (λ (t : Taking). t.taken) (sym (row ∙ some)))

pub returns-clause-numbers : goal.returns-clause-numbers
returns-clause-numbers c =
    let r = here c.self.inside.terms (sender_with (bares c.self.inside.queue.items) c.self.inside.numbers) c.self.inside.caches c.self.invariant (bare c.in-Some.p.now) (bare_at c.self.inside.queue.items c.self.inside.caches.barrier_at.index c.in-Some.p.now (sym c.in-Some.ensures)) in
    let due = sym c.is_due.ensures ∙ c.if-not-is_due.false in
    let same = due_is c.args.n c.self.inside.caches.barrier c.self.inside.numbers.top due in
    let row = landing_row c.self.inside.terms (sender_with (bares c.self.inside.queue.items) c.self.inside.numbers) c.self.inside.caches c.self.invariant (packet c.args.d.now) c.args.n (bare c.in-Some.p.now) r due same.0 in
    let some = landing_some c.self.inside.terms (sender_with (bares c.self.inside.queue.items) c.self.inside.numbers) (advanced (sender_with (bares c.self.inside.queue.items) c.self.inside.numbers) (c.args.n + 1)) (packet c.args.d.now) c.self.inside.caches.barrier_at.index (record { posted = bare c.in-Some.p.now; k = c.args.n - c.self.inside.numbers.first - c.self.inside.caches.barrier_at.offset }) c.in-Some-landing.landing (sym c.in-Some-landing.is ∙ (c.landing.ensures ∙ landed_said c.self.inside.terms (packet c.args.d.now) c.self.inside.caches.barrier_at.index (record { posted = bare c.in-Some.p.now; k = c.args.n - c.self.inside.numbers.first - c.self.inside.caches.barrier_at.offset }))) in
    c.land.ensures.numbers ∙ rw (← c.self.view_is, barrier_is c.self.inside.terms (sender_with (bares c.self.inside.queue.items) c.self.inside.numbers) c.self.inside.caches c.self.invariant, ← same.0) (ap (λ (t : Taking). t.sender) (sym (row ∙ some)))
