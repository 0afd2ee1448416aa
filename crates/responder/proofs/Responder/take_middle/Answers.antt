use Rattle.std.proofs.Common.{◌≡◌, ◌+◌, length, refl, ap, ◌∙◌, arith}
use Rattle.std.specs.Prelude.{if◌then◌else◌, false}
use Rattle.memory_keys.specs.Regions.{regions_of}
use Rattle.protocol.specs.State.{InWrite, Receiver}
use Rattle.roce_headers.specs.Packets.{packet}
use Rattle.responder.specs.declared.answers.Reply.TheVariants.{Ack, Acted}
use Rattle.responder.specs.declared.answers.ResponderParts.{ResponderParts}
use Rattle.responder.specs.declared.answers.Flow.TheVariants.{Write}
use Rattle.responder.proofs.Middles.{middle-taken}
use Rattle.responder.proofs.Views.{seen}
use Rattle.responder.proofs.Responder.take_middle.Goals as goal
use Rattle.responder.proofs.Responder.take_middle.Goals.{then-d, else-d}

pub returns-clause-taken : goal.returns-clause-taken
returns-clause-taken c = λ domain qp recvs cq.
    let now = c.args.self.now in
    let d = packet c.args.d.now in
    let done = c.args.done + length d.payload in
    let parts : ResponderParts = record c.self.inside.parts { expected = c.self.inside.parts.expected + 1; nak_sent = false; flow = Write c.args.spot done } in
    let r : Receiver = record now.receiver { expected = now.receiver.expected + 1; nak_sent = false; progress = InWrite c.args.spot.region c.args.spot.off c.args.spot.length done } in
    let number = ap (λ v. v.receiver.expected) c.self.view_is in
    let msn = ap (λ v. v.receiver.msn) c.self.view_is in
    let kept = ap (λ v. v.receiver.kept) c.self.view_is in
    let new = seen c.self.inside.terms parts c.self.inside.kept r now (ap (λ v. v.terms) c.self.view_is) (cc (number, msn, kept)) in
    let reply : c.if-d.result ≡ (if d.ack_request then Ack else Acted) = elim c.if-d.branch [
      | then-d w ↦ w.result-is ∙ rw w.if-d.true refl
      | else-d w ↦ w.result-is ∙ rw w.if-d.false refl
    ] in
    middle-taken now _ domain qp (regions_of c.args.pool.now c.args.regions.now) (regions_of c.write.new.pool c.write.new.regions) recvs cq d c.if-d.result c.args.spot c.args.done c.requires.fits c.requires.middle c.requires.few (omega (arith, msn, c.self.invariant.msn)) reply c.write.ensures.written new
