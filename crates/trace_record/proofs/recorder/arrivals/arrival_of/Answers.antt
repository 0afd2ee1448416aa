use Rattle.std.proofs.Common.{◌∙◌, Some, ap, sym, subst}
use Rattle.std.proofs.lemmas.Result.{IfOk-weaker}
use Rattle.protocol.specs.Wire.{packet_of}
use Rattle.law_simulation.specs.Packets.{class_of}
use Rattle.roce_headers.specs.Packets.{packet}
use Rattle.trace_record.specs.Arrivals.{IsArrivalAt, sort_of}
use Rattle.trace_record.proofs.Arrived.{arrived, gone, no_datagram, no_end, no_number, not_live, numbered}
use Rattle.trace_record.proofs.recorder.arrivals.arrival_of.Goals as goal

pub returns-in_default-clause-named : goal.returns-in_default-clause-named
returns-in_default-clause-named c = gone c.args.world.now c.args.machine.now c.args.k (sym c.in_default.ensures)

pub returns-in_default-number-clause-named : goal.returns-in_default-number-clause-named
returns-in_default-number-clause-named c = no_number c.args.world.now c.args.machine.now c.args.k _ (sym c.in-Some.ensures ∙ ap Some (sym c.datagram.view_is)) c.in_default-number.is

pub returns-in_default-decode-clause-named : goal.returns-in_default-decode-clause-named
returns-in_default-decode-clause-named c = no_datagram c.args.world.now c.args.machine.now c.args.k _ (sym c.in-Some.ensures ∙ ap Some (sym c.datagram.view_is)) (ap packet_of (sym c.as_slice.ensures) ∙ c.in_default-decode.ensures.nothing)

pub returns-in_default-end_reached-clause-named : goal.returns-in_default-end_reached-clause-named
returns-in_default-end_reached-clause-named c =
    no_end c.args.world.now c.args.machine.now c.args.k _ (sym c.in-Some.ensures ∙ ap Some (sym c.datagram.view_is)) (packet c.in-Ok.d) (ap packet_of (sym c.as_slice.ensures) ∙ c.in-Ok.ensures.exact) (sym c.in_default-end_reached.ensures)

pub returns-then-not-live-clause-named : goal.returns-then-not-live-clause-named
returns-then-not-live-clause-named c =
    not_live c.args.world.now c.args.machine.now c.args.k _ (sym c.in-Some.ensures ∙ ap Some (sym c.datagram.view_is)) (packet c.in-Ok.d) (ap packet_of (sym c.as_slice.ensures) ∙ c.in-Ok.ensures.exact) c.in-Some-end_reached.end (sym c.in-Some-end_reached.ensures) (sym c.is_live-live.ensures ∙ c.if-not-live.true)

pub arrival_at-requires-clause-numbers : goal.arrival_at-requires-clause-numbers
arrival_at-requires-clause-numbers c =
    (numbered c.args.world.now c.args.machine.now c.args.k _ (sym c.in-Some.ensures ∙ ap Some (sym c.datagram.view_is)) (packet c.in-Ok.d) (ap packet_of (sym c.as_slice.ensures) ∙ c.in-Ok.ensures.exact) c.in-Some-end_reached.end (sym c.in-Some-end_reached.ensures) c.requires (sym c.is_live-live.ensures ∙ c.if-not-live.false)).0

pub arrival_at-requires-clause-peer : goal.arrival_at-requires-clause-peer
arrival_at-requires-clause-peer c =
    (numbered c.args.world.now c.args.machine.now c.args.k _ (sym c.in-Some.ensures ∙ ap Some (sym c.datagram.view_is)) (packet c.in-Ok.d) (ap packet_of (sym c.as_slice.ensures) ∙ c.in-Ok.ensures.exact) c.in-Some-end_reached.end (sym c.in-Some-end_reached.ensures) c.requires (sym c.is_live-live.ensures ∙ c.if-not-live.false)).1

pub returns-clause-named : goal.returns-clause-named
returns-clause-named c =
    IfOk-weaker c.arrival_at.result _ _
    (λ a named.
    arrived c.args.world.now c.args.machine.now c.args.k _ (sym c.in-Some.ensures ∙ ap Some (sym c.datagram.view_is)) (packet c.in-Ok.d) (ap packet_of (sym c.as_slice.ensures) ∙ c.in-Ok.ensures.exact) c.in-Some-end_reached.end (sym c.in-Some-end_reached.ensures) c.in-Some-number.n a c.in-Some-number.is (sym c.is_live-live.ensures ∙ c.if-not-live.false)
    (subst (λ p. IsArrivalAt c.args.machine.now p c.in-Some-end_reached.end.name c.in-Some-number.n c.in-Ok.d.payload.now (sort_of (class_of (packet c.in-Ok.d))) a) c.is_paused.ensures named))
    c.arrival_at.ensures.named
