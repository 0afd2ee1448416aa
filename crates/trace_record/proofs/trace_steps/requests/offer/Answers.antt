use Rattle.std.proofs.Common.{arith, ◌≡◌, ◌-◌, ◌*◌, ◌∙◌}
use Rattle.std.specs.Prelude.{min}
use Rattle.packetless_machine.specs.declared.steps.MachineStep.TheVariants as steps
use Rattle.packetless_machine.specs.Machine.{end_of}
use Rattle.trace_record.proofs.Offers.{offer_added, offers_all, offers_none, piece_of_read}
use Rattle.trace_record.proofs.trace_steps.requests.offer.Goals as goal

pub loop-piece-init : goal.loop-piece-init
loop-piece-init c = record {
  offered = offers_none c.args.q.now (end_of c.args.machine.now c.args.q.now) c.args.i c.args.from c.args.steps.now.items;
  within = omega arith;
}

pub loop-piece-preserved : goal.loop-piece-preserved
loop-piece-preserved c =
    let is : c.in_ok-piece_offer.field-0 ≡ piece_of_read c.args.q.now (end_of c.args.machine.now c.args.q.now) c.args.i c.loop-piece.piece =
    c.in_ok-piece_offer.ensures ∙ (λ j. steps.Offer c.args.q.now c.args.i (c.loop-piece.piece * c.mtu-mtu.ensures j) (min (c.mtu-mtu.ensures j) (c.length_at-length.ensures j - c.loop-piece.piece * c.mtu-mtu.ensures j))) in
    record {
      offered = offer_added c.args.q.now (end_of c.args.machine.now c.args.q.now) c.args.i c.args.from c.loop-piece.piece c.in_ok-piece_offer.field-0 c.args.steps.now.items c.loop-piece.steps.items c.push.new.self.items (omega (arith, c.loop-piece.auto.piece)) c.loop-piece.invariant.offered is c.in_ok-push.ensures.items;
      within = omega (arith, c.loop-piece.invariant.within, c.loop-piece-test.true);
    }

pub returns : goal.returns
returns c =
    offers_all c.args.q.now (end_of c.args.machine.now c.args.q.now) c.args.i c.args.from c.loop-piece.piece c.args.steps.now.items c.loop-piece.steps.items
    (omega (arith, c.span_at-piece-end.ensures, c.loop-piece-test.false, c.loop-piece.invariant.within)) c.loop-piece.invariant.offered
