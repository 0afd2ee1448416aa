use Rattle.std.proofs.Common.{◌≡◌, ◌≢◌, ◌<◌, length, sym, subst}
use Rattle.std.proofs.lemmas.Option.{slice_get_within}
use Rattle.order_rules.specs.Order.{HasArrived}
use Rattle.run_check.specs.Checks.{HasNoHead}
use Rattle.run_check.specs.Gathered.{Tells}
use Rattle.run_check.proofs.Faults.{IsUndue, arrival_undue, count_undue, no_head_undue, step_undue, told_on}
use Rattle.run_check.proofs.Finders.{not_where, same_heads}
use Rattle.run_check.proofs.gathering.advance.Goals as goal

pub returns-in_default-find_head-clause-err : goal.returns-in_default-find_head-clause-err
returns-in_default-find_head-clause-err c =
    no_head_undue c.args.books.now c.args.receipts.now c.args.entry.now c.args.places.now.items c.args.heads.now.items c.args.flights.now c.args.stops.now.items c.no_head.result c.no_head.ensures
    (subst (λ h. HasNoHead c.args.receipts.now h c.args.entry.now) c.as_slice.ensures.value (c.find_head.ensures.none c.in_default-find_head.is))

pub returns-in_err-same-3-clause-err : goal.returns-in_err-same-3-clause-err
returns-in_err-same-3-clause-err c =
    let is = same_heads c.args.receipts.now c.as_slice.result.now c.args.heads.now.items c.args.entry.now c.in-Some-find_head.worker c.in-Some-find_head.head c.in-Some-find_head.receipt.now c.as_slice.ensures.value c.in-Some-find_head.ensures.some in
    let sent : c.as_slice-sent.result.now ≡ c.in-Some-find_head.receipt.now.outcome.sent = cc in
    told_on (IsUndue c.args.books.now c.args.receipts.now c.args.entry.now c.args.places.now.items c.args.heads.now.items c.args.flights.now c.args.stops.now.items) c.from_residual-in_err-same-3.result c.in_err-same-3.field-0.0 c.from_residual-in_err-same-3.ensures.1
    (count_undue c.args.books.now c.args.receipts.now c.args.entry.now c.args.places.now.items c.args.heads.now.items c.args.flights.now c.args.stops.now.items c.in-Some-find_head.worker c.in-Some-find_head.head c.in-Some-find_head.receipt.now is c.in_err-same-3.field-0.0
    (subst (λ s. Tells (c.args.entry.now.count ≢ length s) c.in_err-same-3.field-0.0) sent c.in_err-same-3.ensures.err))

pub returns-then-not-has_arrived-clause-err : goal.returns-then-not-has_arrived-clause-err
returns-then-not-has_arrived-clause-err c =
    let is = same_heads c.args.receipts.now c.as_slice.result.now c.args.heads.now.items c.args.entry.now c.in-Some-find_head.worker c.in-Some-find_head.head c.in-Some-find_head.receipt.now c.as_slice.ensures.value c.in-Some-find_head.ensures.some in
    let never = not_where c.has_arrived.result c.if-not-has_arrived.true c.has_arrived.ensures.arrived in
    arrival_undue c.args.books.now c.args.receipts.now c.args.entry.now c.args.places.now.items c.args.heads.now.items c.args.flights.now c.args.stops.now.items c.in-Some-find_head.worker c.in-Some-find_head.head c.in-Some-find_head.receipt.now is c.missing-then-not-has_arrived.result c.args.entry.now.place c.in-Some.i c.in-Some.address c.missing-then-not-has_arrived.ensures c.in-Some.ensures.some
    (subst (λ e. HasArrived c.args.flights.now c.in-Some.address e → ⊥) c.event.ensures never)

pub next_head-requires-clause-worker : goal.next_head-requires-clause-worker
next_head-requires-clause-worker c =
    let is = same_heads c.args.receipts.now c.as_slice.result.now c.args.heads.now.items c.args.entry.now c.in-Some-find_head.worker c.in-Some-find_head.head c.in-Some-find_head.receipt.now c.as_slice.ensures.value c.in-Some-find_head.ensures.some in
    slice_get_within c.args.heads.now.items c.in-Some-find_head.worker c.in-Some-find_head.head is.1

pub meet_at-requires-clause-book : goal.meet_at-requires-clause-book
meet_at-requires-clause-book c = let named = c.in-Some.ensures.some in slice_get_within c.args.books.now c.in-Some.i named.0 named.1

pub meet_at-requires-clause-place : goal.meet_at-requires-clause-place
meet_at-requires-clause-place c = let named = c.in-Some.ensures.some in subst (λ n. c.in-Some.i < n) (sym c.requires.places) (slice_get_within c.args.books.now c.in-Some.i named.0 named.1)

pub returns-in_err-meet_at-clause-err : goal.returns-in_err-meet_at-clause-err
returns-in_err-meet_at-clause-err c =
    let is = same_heads c.args.receipts.now c.as_slice.result.now c.args.heads.now.items c.args.entry.now c.in-Some-find_head.worker c.in-Some-find_head.head c.in-Some-find_head.receipt.now c.as_slice.ensures.value c.in-Some-find_head.ensures.some in
    told_on (IsUndue c.args.books.now c.args.receipts.now c.args.entry.now c.args.places.now.items c.args.heads.now.items c.args.flights.now c.args.stops.now.items) c.from_residual-in_err-meet_at.result c.in_err-meet_at.field-0.0 c.from_residual-in_err-meet_at.ensures.1
    (step_undue c.args.books.now c.args.receipts.now c.args.entry.now c.args.places.now.items c.args.heads.now.items c.args.flights.now c.args.stops.now.items c.in-Some-find_head.worker c.in-Some-find_head.head c.in-Some-find_head.receipt.now is c.in_err-meet_at.field-0.0 c.in-Some.i c.in-Some.address c.in-Some.ensures.some c.in_err-meet_at.ensures.err)
