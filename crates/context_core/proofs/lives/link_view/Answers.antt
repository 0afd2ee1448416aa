use Rattle.std.proofs.Common.{◌≡◌, ap, arith, sym, ◌∙◌}
use Rattle.std.proofs.lemmas.Grind.{common_steps}
use Rattle.protocol.specs.Requester.{end_of_queue}
use Rattle.requester.specs.Sending.{sender_in, sender_of}
use Rattle.endpoint_core.proofs.Rows.{end_of_same}
use Rattle.context_core.proofs.lives.link_view.Goals as goal

pub returns : goal.returns
returns c = λ pool.
    let l = c.args.link.now in
    let last : c.end.result ≡ end_of_queue l.terms (sender_in pool l.requester) = c.end.ensures ∙ (ap (λ t. end_of_queue t (sender_of l.requester)) c.requires ∙ sym (end_of_same l.terms pool l.requester)) in
    grind (arith, common_steps, last)
