use Rattle.std.proofs.Common.{ap, ◌∙◌}
use Rattle.std.proofs.lemmas.Result.{IfOk-weaker}
use Rattle.mailbox_rules.specs.Command.{letters_sent, mail_replies}
use Rattle.tools.specs.Mails.{line_with}
use Rattle.tools.proofs.mail_calls.running.text_of.Goals as goal

pub returns : goal.returns
returns c = IfOk-weaker c.line_of.result _ _ (λ text is.
    is
    ∙ (ap (λ n. line_with c.args.plan.now n c.in_ok-sum.sum.taken) c.in_ok-sum.ensures.sent
    ∙ ap (λ n. line_with c.args.plan.now (letters_sent (mail_replies c.args.plan.now)) n) c.in_ok-sum.ensures.taken)) c.line_of.ensures
