-- The first row that holds is answered.
use Rattle.std.proofs.Common.{◌≤◌, ◌<◌, ◌≡◌, ◌+◌, ◌-◌, arith, sym, ap, ◌∙◌, refl}
use Rattle.std.specs.Prelude.{Some, if◌then◌else◌}
use Rattle.rdma_types.specs.Objects.{Posted}
use Rattle.rdma_types.specs.Spans.{Piece, piece_at, span, span_of}
use Rattle.protocol.specs.Requester as rows
use Rattle.protocol.specs.Requester.{IsFenced, IsIdle, ReadsAreFull, Sends, WindowIsFull}
use Rattle.requester.specs.Sending.{bare, bares, sender_of, sender_with}
use Rattle.requester.specs.Taking.{request_at}
use Rattle.requester.specs.Transmitting.{after_row}
use Rattle.requester.proofs.Bares.{bare_at, bare_none, length-bares}
use Rattle.requester.proofs.Tables.{counted_is, next_is, next_there, row_idle, row_next, row_stays, row_waits, row_window}
use Rattle.requester.proofs.Requester.transmit.Goals as goal

pub returns-then-self-clause-row : goal.returns-then-self-clause-row
returns-then-self-clause-row c = rw (← c.self.view_is) (sym (row_waits c.self.inside.terms (sender_with (bares c.self.inside.queue.items) c.self.inside.numbers) c.if-self.true))

pub returns-then-self-clause-numbers : goal.returns-then-self-clause-numbers
returns-then-self-clause-numbers c = rw (← c.self.view_is) (row_stays c.self.inside.terms (sender_with (bares c.self.inside.queue.items) c.self.inside.numbers) rows.Waits (row_waits c.self.inside.terms (sender_with (bares c.self.inside.queue.items) c.self.inside.numbers) c.if-self.true) refl)

pub returns-then-self-2-clause-row : goal.returns-then-self-2-clause-row
returns-then-self-2-clause-row c = rw (← c.self.view_is) (sym (row_idle c.self.inside.terms (sender_with (bares c.self.inside.queue.items) c.self.inside.numbers) c.self.inside.caches c.self.invariant c.if-self.false c.if-self-2.true))

pub returns-then-self-2-clause-numbers : goal.returns-then-self-2-clause-numbers
returns-then-self-2-clause-numbers c = rw (← c.self.view_is) (row_stays c.self.inside.terms (sender_with (bares c.self.inside.queue.items) c.self.inside.numbers) IsIdle (row_idle c.self.inside.terms (sender_with (bares c.self.inside.queue.items) c.self.inside.numbers) c.self.inside.caches c.self.invariant c.if-self.false c.if-self-2.true) refl)

pub returns-then-self-ge-WINDOW-clause-row : goal.returns-then-self-ge-WINDOW-clause-row
returns-then-self-ge-WINDOW-clause-row c = rw (← c.self.view_is) (sym (row_window c.self.inside.terms (sender_with (bares c.self.inside.queue.items) c.self.inside.numbers) c.self.inside.caches c.self.invariant c.if-self.false c.if-self-2.false c.if-self-ge-WINDOW.true))

pub returns-then-self-ge-WINDOW-clause-numbers : goal.returns-then-self-ge-WINDOW-clause-numbers
returns-then-self-ge-WINDOW-clause-numbers c = rw (← c.self.view_is) (row_stays c.self.inside.terms (sender_with (bares c.self.inside.queue.items) c.self.inside.numbers) WindowIsFull (row_window c.self.inside.terms (sender_with (bares c.self.inside.queue.items) c.self.inside.numbers) c.self.inside.caches c.self.invariant c.if-self.false c.if-self-2.false c.if-self-ge-WINDOW.true) refl)

pub unreachable-requires : goal.unreachable-requires
unreachable-requires c = next_there c.self.inside.terms (sender_with (bares c.self.inside.queue.items) c.self.inside.numbers) c.self.inside.caches c.mark_of-at.result.index c.self.invariant c.if-self-2.false c.mark_of-at.ensures.index c.mark_of-at.ensures.mark.within (bare_none c.self.inside.queue.items c.mark_of-at.result.index (sym c.in_default.ensures))

pub packet_of-head-requires-clause-inside : goal.packet_of-head-requires-clause-inside
packet_of-head-requires-clause-inside c =
    let n = next_is c.self.inside.terms (sender_with (bares c.self.inside.queue.items) c.self.inside.numbers) c.mark_of-at.result (bare c.in-Some.p.now) c.mark_of-at.ensures.mark c.mark_of-at.ensures.index (bare_at c.self.inside.queue.items c.mark_of-at.result.index c.in-Some.p.now (sym c.in-Some.ensures)) in
    n.inside

pub count_at-count-requires-clause-past : goal.count_at-count-requires-clause-past
count_at-count-requires-clause-past c = λ below. counted_is c.self.inside.terms (sender_with (bares c.self.inside.queue.items) c.self.inside.numbers) c.self.inside.caches c.mark_of-at.result (bare c.in-Some.p.now) c.self.invariant c.mark_of-at.ensures.mark c.mark_of-at.ensures.index (bare_at c.self.inside.queue.items c.mark_of-at.result.index c.in-Some.p.now (sym c.in-Some.ensures)) below

pub pass-requires-clause-shape : goal.pass-requires-clause-shape
pass-requires-clause-shape c =
    let n = next_is c.self.inside.terms (sender_with (bares c.self.inside.queue.items) c.self.inside.numbers) c.mark_of-at.result (bare c.in-Some.p.now) c.mark_of-at.ensures.mark c.mark_of-at.ensures.index (bare_at c.self.inside.queue.items c.mark_of-at.result.index c.in-Some.p.now (sym c.in-Some.ensures)) in
    rw (← c.self.view_is) (ap (λ (q : Posted). q.request.shape) (sym n.said))

pub pass-requires-clause-piece : goal.pass-requires-clause-piece
pass-requires-clause-piece c =
    let n = next_is c.self.inside.terms (sender_with (bares c.self.inside.queue.items) c.self.inside.numbers) c.mark_of-at.result (bare c.in-Some.p.now) c.mark_of-at.ensures.mark c.mark_of-at.ensures.index (bare_at c.self.inside.queue.items c.mark_of-at.result.index c.in-Some.p.now (sym c.in-Some.ensures)) in
    rw (← c.self.view_is, n.said) n.piece

pub returns-then-reads_full-clause-row : goal.returns-then-reads_full-clause-row
returns-then-reads_full-clause-row c =
    let n = next_is c.self.inside.terms (sender_with (bares c.self.inside.queue.items) c.self.inside.numbers) c.mark_of-at.result (bare c.in-Some.p.now) c.mark_of-at.ensures.mark c.mark_of-at.ensures.index (bare_at c.self.inside.queue.items c.mark_of-at.result.index c.in-Some.p.now (sym c.in-Some.ensures)) in
    let packets : c.self.inside.caches.packets < 64 = omega (arith, c.if-self-ge-WINDOW.false) in
    let row = row_next c.self.inside.terms (sender_with (bares c.self.inside.queue.items) c.self.inside.numbers) c.self.inside.caches c.self.invariant c.if-self.false c.if-self-2.false packets (record { posted = bare c.in-Some.p.now; k = c.self.inside.numbers.next - c.self.inside.numbers.first - c.mark_of-at.result.offset }) n.piece in
    let full = sym c.reads_full.ensures ∙ c.if-reads_full.true in
    rw (← c.self.view_is) (sym (rw full at row))

pub returns-then-reads_full-clause-numbers : goal.returns-then-reads_full-clause-numbers
returns-then-reads_full-clause-numbers c =
    let n = next_is c.self.inside.terms (sender_with (bares c.self.inside.queue.items) c.self.inside.numbers) c.mark_of-at.result (bare c.in-Some.p.now) c.mark_of-at.ensures.mark c.mark_of-at.ensures.index (bare_at c.self.inside.queue.items c.mark_of-at.result.index c.in-Some.p.now (sym c.in-Some.ensures)) in
    let packets : c.self.inside.caches.packets < 64 = omega (arith, c.if-self-ge-WINDOW.false) in
    let row = row_next c.self.inside.terms (sender_with (bares c.self.inside.queue.items) c.self.inside.numbers) c.self.inside.caches c.self.invariant c.if-self.false c.if-self-2.false packets (record { posted = bare c.in-Some.p.now; k = c.self.inside.numbers.next - c.self.inside.numbers.first - c.mark_of-at.result.offset }) n.piece in
    let full = sym c.reads_full.ensures ∙ c.if-reads_full.true in
    rw (← c.self.view_is) (row_stays c.self.inside.terms (sender_with (bares c.self.inside.queue.items) c.self.inside.numbers) ReadsAreFull (rw full at row) refl)

pub returns-then-is_fenced-clause-row : goal.returns-then-is_fenced-clause-row
returns-then-is_fenced-clause-row c =
    let n = next_is c.self.inside.terms (sender_with (bares c.self.inside.queue.items) c.self.inside.numbers) c.mark_of-at.result (bare c.in-Some.p.now) c.mark_of-at.ensures.mark c.mark_of-at.ensures.index (bare_at c.self.inside.queue.items c.mark_of-at.result.index c.in-Some.p.now (sym c.in-Some.ensures)) in
    let packets : c.self.inside.caches.packets < 64 = omega (arith, c.if-self-ge-WINDOW.false) in
    let row = row_next c.self.inside.terms (sender_with (bares c.self.inside.queue.items) c.self.inside.numbers) c.self.inside.caches c.self.invariant c.if-self.false c.if-self-2.false packets (record { posted = bare c.in-Some.p.now; k = c.self.inside.numbers.next - c.self.inside.numbers.first - c.mark_of-at.result.offset }) n.piece in
    let free = sym c.reads_full.ensures ∙ c.if-reads_full.false in
    let fenced = sym c.is_fenced.ensures ∙ c.if-is_fenced.true in
    rw (← c.self.view_is) (sym (rw (free, fenced) at row))

pub returns-then-is_fenced-clause-numbers : goal.returns-then-is_fenced-clause-numbers
returns-then-is_fenced-clause-numbers c =
    let n = next_is c.self.inside.terms (sender_with (bares c.self.inside.queue.items) c.self.inside.numbers) c.mark_of-at.result (bare c.in-Some.p.now) c.mark_of-at.ensures.mark c.mark_of-at.ensures.index (bare_at c.self.inside.queue.items c.mark_of-at.result.index c.in-Some.p.now (sym c.in-Some.ensures)) in
    let packets : c.self.inside.caches.packets < 64 = omega (arith, c.if-self-ge-WINDOW.false) in
    let row = row_next c.self.inside.terms (sender_with (bares c.self.inside.queue.items) c.self.inside.numbers) c.self.inside.caches c.self.invariant c.if-self.false c.if-self-2.false packets (record { posted = bare c.in-Some.p.now; k = c.self.inside.numbers.next - c.self.inside.numbers.first - c.mark_of-at.result.offset }) n.piece in
    let free = sym c.reads_full.ensures ∙ c.if-reads_full.false in
    let fenced = sym c.is_fenced.ensures ∙ c.if-is_fenced.true in
    rw (← c.self.view_is) (row_stays c.self.inside.terms (sender_with (bares c.self.inside.queue.items) c.self.inside.numbers) IsFenced (rw (free, fenced) at row) refl)

pub returns-clause-row : goal.returns-clause-row
returns-clause-row c =
    let n = next_is c.self.inside.terms (sender_with (bares c.self.inside.queue.items) c.self.inside.numbers) c.mark_of-at.result (bare c.in-Some.p.now) c.mark_of-at.ensures.mark c.mark_of-at.ensures.index (bare_at c.self.inside.queue.items c.mark_of-at.result.index c.in-Some.p.now (sym c.in-Some.ensures)) in
    let packets : c.self.inside.caches.packets < 64 = omega (arith, c.if-self-ge-WINDOW.false) in
    let row = row_next c.self.inside.terms (sender_with (bares c.self.inside.queue.items) c.self.inside.numbers) c.self.inside.caches c.self.invariant c.if-self.false c.if-self-2.false packets (record { posted = bare c.in-Some.p.now; k = c.self.inside.numbers.next - c.self.inside.numbers.first - c.mark_of-at.result.offset }) n.piece in
    let free = sym c.reads_full.ensures ∙ c.if-reads_full.false in
    let open' = sym c.is_fenced.ensures ∙ c.if-is_fenced.false in
    rw (← c.self.view_is, n.said, n.k) (sym (rw (free, open') at row))

pub returns-clause-head : goal.returns-clause-head
returns-clause-head c =
    let n = next_is c.self.inside.terms (sender_with (bares c.self.inside.queue.items) c.self.inside.numbers) c.mark_of-at.result (bare c.in-Some.p.now) c.mark_of-at.ensures.mark c.mark_of-at.ensures.index (bare_at c.self.inside.queue.items c.mark_of-at.result.index c.in-Some.p.now (sym c.in-Some.ensures)) in
    rw (← c.self.view_is, n.said, n.k) (refl, c.mark_of-at.ensures.index, c.packet_of-head.ensures.rule)

pub returns-clause-numbers : goal.returns-clause-numbers
returns-clause-numbers c =
    let n = next_is c.self.inside.terms (sender_with (bares c.self.inside.queue.items) c.self.inside.numbers) c.mark_of-at.result (bare c.in-Some.p.now) c.mark_of-at.ensures.mark c.mark_of-at.ensures.index (bare_at c.self.inside.queue.items c.mark_of-at.result.index c.in-Some.p.now (sym c.in-Some.ensures)) in
    let packets : c.self.inside.caches.packets < 64 = omega (arith, c.if-self-ge-WINDOW.false) in
    let row = row_next c.self.inside.terms (sender_with (bares c.self.inside.queue.items) c.self.inside.numbers) c.self.inside.caches c.self.invariant c.if-self.false c.if-self-2.false packets (record { posted = bare c.in-Some.p.now; k = c.self.inside.numbers.next - c.self.inside.numbers.first - c.mark_of-at.result.offset }) n.piece in
    let free = sym c.reads_full.ensures ∙ c.if-reads_full.false in
    let open' = sym c.is_fenced.ensures ∙ c.if-is_fenced.false in
    let sent = rw (free, open') at row in
    c.pass.ensures.numbers ∙ rw (← c.self.view_is, n.said, sent) refl
