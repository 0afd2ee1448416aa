use Rattle.std.proofs.Common.{◌≡◌, ap, sym, subst, ◌∙◌}
use Rattle.std.specs.Prelude.{Some}
use Rattle.requester.specs.declared.answers.Transmit.TheVariants.{Sent as IsSent}
use Rattle.endpoint_core.specs.declared.answers.EndSend.TheVariants as send
use Rattle.endpoint_core.specs.Answers.{row_in}
use Rattle.endpoint_core.specs.Ends.{link_in}
use Rattle.context_core.specs.Sending.{row_sent}
use Rattle.context_core.specs.Transmitting.{IsSending}
use Rattle.context_core.proofs.sending.put_sent.Goals as goal

pub returns-in-Resume : goal.returns-in-Resume
returns-in-Resume c = λ l s.
    c.put_resume.ensures c.args.pool.now c.args.endpoint.now l (subst (λ x. IsSending c.args.pool.now c.args.endpoint.now c.args.way.now x l) c.in-Resume.is s)
    ∙ ap (λ x. row_sent (link_in c.args.pool.now l) c.args.own (row_in c.args.pool.now (Some l) x)) (sym c.in-Resume.is)

pub put_request-requires-clause-sending : goal.put_request-requires-clause-sending
put_request-requires-clause-sending c =
    let e : c.args.send ≡ send.Transmit (IsSent c.in-Sent.number c.in-Sent.index c.in-Sent.head) = c.in-Transmit.is ∙ ap send.Transmit c.in-Sent.is in
    (c.requires.sending.0, subst (λ x. IsSending c.args.pool.now c.args.endpoint.now c.args.way.now x c.requires.sending.0) e c.requires.sending.1)

pub returns-in-Sent : goal.returns-in-Sent
returns-in-Sent c = λ l s.
    let e : c.args.send ≡ send.Transmit (IsSent c.in-Sent.number c.in-Sent.index c.in-Sent.head) = c.in-Transmit.is ∙ ap send.Transmit c.in-Sent.is in
    c.put_request.ensures l c.args.own (subst (λ x. IsSending c.args.pool.now c.args.endpoint.now c.args.way.now x l) e s)
    ∙ ap (λ x. row_sent (link_in c.args.pool.now l) c.args.own (row_in c.args.pool.now (Some l) x)) (sym e)
