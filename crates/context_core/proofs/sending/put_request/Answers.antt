use Rattle.std.proofs.Common.{ℕ, List, [], ◌∷◌, ap, sym, ◌∙◌, refl, arith}
use Rattle.std.specs.Prelude.{Some}
use Rattle.end_queues.specs.Untold.{posted_in}
use Rattle.roce_headers.specs.Packets.{packet}
use Rattle.context_core.proofs.RoomSizes.{room-for}
use Rattle.context_core.proofs.TransmittedPackets.{few, fits, posted-is, sent-is, short}
use Rattle.context_core.proofs.sending.put_request.Goals as goal

pub bytes_for-payload-requires-clause-held : goal.bytes_for-payload-requires-clause-held
bytes_for-payload-requires-clause-held c = (posted-is c.args.pool.now c.args.endpoint.now c.args.way.now c.args.number c.args.index c.args.head.now c.requires.sending.0 c.requires.sending.1 c.posted_at-posted.result.now c.posted_at-posted.ensures).payload.holds

pub bytes_for-payload-requires-clause-room : goal.bytes_for-payload-requires-clause-room
bytes_for-payload-requires-clause-room c =
    omega (arith, c.requires.payload, few c.args.pool.now c.args.endpoint.now c.args.way.now c.args.number c.args.index c.args.head.now c.requires.sending.0 c.requires.sending.1 c.posted_at-posted.result.now c.posted_at-posted.ensures)

pub write-bytes-requires-clause-fits : goal.write-bytes-requires-clause-fits
write-bytes-requires-clause-fits c =
    fits c.args.pool.now c.args.endpoint.now c.args.way.now c.args.number c.args.index c.args.head.now c.requires.sending.0 c.requires.sending.1 c.posted_at-posted.result.now c.posted_at-posted.ensures
    (packet c.request-d.result) c.wire_of-psn.result c.are_in_range.ensures c.wire_of-psn.ensures.fits (c.request-d.ensures (posted_in c.args.pool.now c.posted_at-posted.result.now) refl (sym c.bytes_for-payload.ensures))

pub write-bytes-requires-clause-room : goal.write-bytes-requires-clause-room
write-bytes-requires-clause-room c =
    room-for c.args.room.now _ _ c.requires.room
    (short c.args.pool.now c.args.endpoint.now c.args.way.now c.args.number c.args.index c.args.head.now c.requires.sending.0 c.requires.sending.1 c.posted_at-posted.result.now c.posted_at-posted.ensures
    (packet c.request-d.result) c.wire_of-psn.result (c.request-d.ensures (posted_in c.args.pool.now c.posted_at-posted.result.now) refl (sym c.bytes_for-payload.ensures)))

pub returns : goal.returns
returns c = λ l own s.
    ap {A = List ℕ} (λ bs. record { to = c.args.way.now.to; number = Some c.args.number; bytes = bs } ∷ []) c.write-bytes.ensures
    ∙ sent-is c.args.pool.now c.args.endpoint.now c.args.way.now c.args.number c.args.index c.args.head.now l s c.posted_at-posted.result.now c.posted_at-posted.ensures
    (packet c.request-d.result) c.wire_of-psn.result own c.wire_of-psn.ensures.spelled (c.request-d.ensures (posted_in c.args.pool.now c.posted_at-posted.result.now) refl (sym c.bytes_for-payload.ensures))
