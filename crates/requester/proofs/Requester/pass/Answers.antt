-- The piece is sent.
use Rattle.std.proofs.Common.{◌≤◌, ◌<◌, ◌≡◌, ◌+◌, ◌-◌, arith, sym, ap, ◌∙◌, refl}
use Rattle.std.specs.Prelude.{Some}
use Rattle.rdma_types.specs.Kinds.{lands}
use Rattle.rdma_types.specs.Spans.{Piece, piece_at, span, span_of}
use Rattle.requester.specs.Sending.{bares, sender_of, sender_with}
use Rattle.requester.specs.Taking.{request_at}
use Rattle.requester.proofs.Flight.{packets_few, reads_few}
use Rattle.rdma_types.proofs.Places.{piece_below_span, piece_ends}
use Rattle.requester.proofs.Keeping.{held_sent}
use Rattle.requester.proofs.Requester.pass.Goals as goal

pub past-next-requires-clause-inside : goal.past-next-requires-clause-inside
past-next-requires-clause-inside c =
    let found = rw (← c.self.view_is) at c.requires.piece in
    let sizes = piece_below_span (bares c.self.inside.queue.items) c.self.inside.terms.mtu (c.self.inside.numbers.next - c.self.inside.numbers.first) (record { posted = request_at (sender_with (bares c.self.inside.queue.items) c.self.inside.numbers) c.args.at.index; k = c.args.k }) found in
    let same = rw (← c.self.view_is) at c.requires.shape in
    let count = rw (← c.self.view_is) at c.requires.count in
    rw (count, same) sizes.1

pub past-next-requires-clause-limit : goal.past-next-requires-clause-limit
past-next-requires-clause-limit c =
    let found = rw (← c.self.view_is) at c.requires.piece in
    let ends = piece_ends (bares c.self.inside.queue.items) c.self.inside.terms.mtu (c.self.inside.numbers.next - c.self.inside.numbers.first) (record { posted = request_at (sender_with (bares c.self.inside.queue.items) c.self.inside.numbers) c.args.at.index; k = c.args.k }) found in
    let sizes = piece_below_span (bares c.self.inside.queue.items) c.self.inside.terms.mtu (c.self.inside.numbers.next - c.self.inside.numbers.first) (record { posted = request_at (sender_with (bares c.self.inside.queue.items) c.self.inside.numbers) c.args.at.index; k = c.args.k }) found in
    let same = rw (← c.self.view_is) at c.requires.shape in
    let o = c.self.invariant.order in
    let count = rw (← c.self.view_is) at c.requires.count in
    rw (count, same) (omega (arith, ends, sizes.0, o.limit, o.una, o.next))

pub overflow_add-at : goal.overflow_add-at
overflow_add-at c =
    let found = rw (← c.self.view_is) at c.requires.piece in
    let at = rw (← c.self.view_is) at c.requires.here in
    let ends = piece_ends (bares c.self.inside.queue.items) c.self.inside.terms.mtu (c.self.inside.numbers.next - c.self.inside.numbers.first) (record { posted = request_at (sender_with (bares c.self.inside.queue.items) c.self.inside.numbers) c.args.at.index; k = c.args.k }) found in
    let same = rw (← c.self.view_is) at c.requires.shape in
    let count = rw (← c.self.view_is) at c.requires.count in
    rw (count, same) (omega (arith, at, ends, c.self.invariant.order.limit))

pub sent-self-inside-requires-clause-packets : goal.sent-self-inside-requires-clause-packets
sent-self-inside-requires-clause-packets c =
    let few = packets_few (bares c.self.inside.queue.items) c.self.inside.terms.mtu c.self.inside.numbers.first c.self.inside.numbers.una c.self.inside.numbers.next in
    let o = c.self.invariant.order in
    omega (arith, few, c.self.invariant.packets, o.limit)

pub sent-self-inside-requires-clause-reads : goal.sent-self-inside-requires-clause-reads
sent-self-inside-requires-clause-reads c =
    let few = reads_few (bares c.self.inside.queue.items) c.self.inside.terms.mtu c.self.inside.numbers.first c.self.inside.numbers.una c.self.inside.numbers.next in
    let o = c.self.invariant.order in
    omega (arith, few, c.self.invariant.reads, o.limit)

pub invariant_of-self : goal.invariant_of-self
invariant_of-self c =
    let found = rw (← c.self.view_is) at c.requires.piece in
    let mark = rw (← c.self.view_is) at c.requires.mark in
    let at = rw (← c.self.view_is) at c.requires.here in
    let same = rw (← c.self.view_is) at c.requires.shape in
    let count = rw (← c.self.view_is) at c.requires.count in
    let index = rw (← c.self.view_is) at c.requires.index in
    rw (c.sent-self-inside.ensures, c.with_next-self-inside.ensures, c.past-next.ensures, c.lands-lands.ensures, count, same)
    (held_sent c.self.inside.terms (sender_with (bares c.self.inside.queue.items) c.self.inside.numbers) c.self.inside.caches c.self.invariant (record { posted = request_at (sender_with (bares c.self.inside.queue.items) c.self.inside.numbers) c.args.at.index; k = c.args.k }) c.args.at found mark index (omega (arith, at)))
