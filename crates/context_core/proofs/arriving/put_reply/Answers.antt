use Rattle.std.proofs.Common.{◌<◌, ◌^◌, ap, sym, subst, ◌∙◌, refl, arith}
use Rattle.std.specs.Option.{option_to_list}
use Rattle.roce_headers.specs.Packets.{packet}
use Rattle.endpoint_core.specs.declared.answers.EndReply.{EndReply}
use Rattle.endpoint_core.specs.Answers.{IsReply, sent_by}
use Rattle.endpoint_core.specs.Ends.{link_in}
use Rattle.context_core.proofs.ReplyPackets.{acknowledge-fits, acknowledge-sent, old-fits, old-sent, resume-sent, short}
use Rattle.context_core.proofs.arriving.put_reply.Goals as goal

pub put-requires-clause-fits : goal.put-requires-clause-fits
put-requires-clause-fits c =
    acknowledge-fits (packet c.answer-d.result) c.args.link.now.peer c.args.link.now.terms.peer_start c.in-Acknowledge.number c.parts-msn.result.msn c.in-Acknowledge.syndrome c.answer-d.ensures
    (subst (λ (r : EndReply). IsReply c.requires.reply.0 c.args.link.now r) c.in-Acknowledge.is c.requires.reply.1)
    (subst (λ p. p.msn < 2 ^ 24) (sym c.parts-msn.ensures.parts) c.parts-msn.ensures.held.msn)

pub put-requires-clause-short : goal.put-requires-clause-short
put-requires-clause-short c = omega (arith, short (packet c.answer-d.result) _ c.answer-d.ensures refl)

pub put-requires-in-Old-clause-fits : goal.put-requires-in-Old-clause-fits
put-requires-in-Old-clause-fits c =
    old-fits (packet c.answer-d-in-Old.result) c.args.link.now.peer c.args.link.now.terms.peer_start c.in-Old.number c.parts-msn.result.msn c.in-Old.old c.answer-d-in-Old.ensures
    (omega arith)
    (subst (λ p. p.msn < 2 ^ 24) (sym c.parts-msn.ensures.parts) c.parts-msn.ensures.held.msn)

pub put-requires-in-Old-clause-short : goal.put-requires-in-Old-clause-short
put-requires-in-Old-clause-short c = omega (arith, short (packet c.answer-d-in-Old.result) _ c.answer-d-in-Old.ensures refl)

pub put-requires-in-ResumeAck-clause-short : goal.put-requires-in-ResumeAck-clause-short
put-requires-in-ResumeAck-clause-short c = omega (arith, short (packet c.moving-d.result) _ c.moving-d.ensures.says refl)

pub returns-in-Acknowledge : goal.returns-in-Acknowledge
returns-in-Acknowledge c = λ pool regions.
    ap option_to_list c.put.ensures
    ∙ (acknowledge-sent pool regions c.args.link.now (packet c.answer-d.result) c.in-Acknowledge.number c.parts-msn.result.msn c.in-Acknowledge.syndrome c.answer-d.ensures (ap (λ p. p.msn) c.parts-msn.ensures.parts)
    ∙ ap (sent_by regions (link_in pool c.args.link.now)) (sym c.in-Acknowledge.is))

pub returns-in-Old : goal.returns-in-Old
returns-in-Old c = λ pool regions.
    ap option_to_list c.put-in-Old.ensures
    ∙ (old-sent pool regions c.args.link.now (packet c.answer-d-in-Old.result) c.in-Old.number c.parts-msn.result.msn c.in-Old.old c.answer-d-in-Old.ensures (ap (λ p. p.msn) c.parts-msn.ensures.parts)
    ∙ ap (sent_by regions (link_in pool c.args.link.now)) (sym c.in-Old.is))

pub returns-in-ResumeAck : goal.returns-in-ResumeAck
returns-in-ResumeAck c = λ pool regions.
    ap option_to_list c.put-in-ResumeAck.ensures
    ∙ (resume-sent pool regions c.args.link.now (packet c.moving-d.result) c.in-ResumeAck.count c.in-ResumeAck.address c.moving-d.ensures.says
    ∙ ap (sent_by regions (link_in pool c.args.link.now)) (sym c.in-ResumeAck.is))
