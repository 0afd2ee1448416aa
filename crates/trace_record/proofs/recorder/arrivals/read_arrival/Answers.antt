use Rattle.std.proofs.Common.{ap, length, ◌∙◌, ◌*◌}
use Rattle.std.proofs.lemmas.List.{nil_from_length}
use Rattle.trace_record.proofs.Arrived.{offered_at, read_bytes, read_nothing}
use Rattle.trace_record.proofs.recorder.arrivals.read_arrival.Goals as goal

pub returns-then-bytes-eq0-clause-named : goal.returns-then-bytes-eq0-clause-named
returns-then-bytes-eq0-clause-named c paused = read_nothing c.args.machine.now c.args.q.now c.args.n c.args.bytes.now paused (nil_from_length c.args.bytes.now c.if-bytes-eq0.true)

pub returns-clause-named : goal.returns-clause-named
returns-clause-named c paused =
    read_bytes c.args.machine.now c.args.q.now c.args.n c.args.bytes.now paused c.offer_place-offer.result (λ e. c.if-bytes-eq0.false (ap length e))
    (offered_at c.args.machine.now c.args.q.now c.args.n c.args.bytes.now c.place_of-place.result.0 c.in_ok-offset.offset c.offer_place-offer.result c.place_of-place.ensures.request (c.in_ok-offset.ensures ∙ λ j. c.place_of-place.ensures.piece j * c.mtu.ensures j) c.offer_place-offer.ensures)
