use Rattle.std.proofs.Common.{sym, ◌∙◌}
use Rattle.std.proofs.lemmas.Result.{on_ok_weaker}
use Rattle.mailbox_rules.specs.declared.faults.MailFault.TheVariants as fault
use Rattle.mailbox_rules.specs.Calls.{IsSent, Refused}
use Rattle.mailbox.proofs.Refusals.{by_fault_weaker, by_refusal, if_err_is, if_err_weaker, never_out, no_sender_fault}
use Rattle.mailbox.proofs.Sent.{cut_at, refused_at, refused_call, sent_ok, work_cut}
use Rattle.mailbox.proofs.mail.Mailbox.send.Goals as goal

pub returns-in_err-work-clause-err : goal.returns-in_err-work-clause-err
returns-in_err-work-clause-err c = if_err_is _ c.from_residual.result fault.OutOfMemory c.from_residual.ensures.1 (λ m shows.
    work_cut m c.args.from (record { tag = c.args.tag; body = c.args.body.now }) c.work.new.self (c.in_err-work.ensures.cut m shows))

pub returns-in_default-clause-err : goal.returns-in_default-clause-err
returns-in_default-clause-err c = λ m shows.
    refused_call m c.args.from (record { tag = c.args.tag; body = c.args.body.now }) c.work.new.self fault.NoSender (c.in_ok-work.ensures.ok m shows) (no_sender_fault c.work.new.self c.args.from c.args.body.now c.in_default.ensures.none)

pub returns-in-Some-refusal-clause-err : goal.returns-in-Some-refusal-clause-err
returns-in-Some-refusal-clause-err c = by_refusal c.in-Some-refusal.fault _ _ (never_out c.work.new.self c.in-Some.i c.args.body.now c.in-Some-refusal.fault (sym c.refusal.ensures ∙ c.in-Some-refusal.is))
    (λ m shows. refused_at c.work.new.self m c.in-Some.i c.args.from (record { tag = c.args.tag; body = c.args.body.now }) c.in-Some-refusal.fault c.in-Some.ensures.some.0 (c.in_ok-work.ensures.ok m shows) (sym c.refusal.ensures ∙ c.in-Some-refusal.is))

pub returns-in-None-clause-ok : goal.returns-in-None-clause-ok
returns-in-None-clause-ok c = on_ok_weaker c.post_letter.result (λ posts m shows.
    sent_ok c.work.new.self c.post_letter.new.self m c.in-Some.i c.args.from (record { tag = c.args.tag; body = c.args.body.now }) c.in-Some.ensures.some.0 (c.in_ok-work.ensures.ok m shows) (sym c.refusal.ensures ∙ c.in-None.is) IsSent posts) c.post_letter.ensures.ok

pub returns-in-None-clause-err : goal.returns-in-None-clause-err
returns-in-None-clause-err c = if_err_weaker c.post_letter.result _ _ (λ why h. by_fault_weaker why _ _ _ _
    (λ stored m shows. cut_at c.work.new.self c.post_letter.new.self m c.in-Some.i c.args.from (record { tag = c.args.tag; body = c.args.body.now }) c.in-Some.ensures.some.0 (c.in_ok-work.ensures.ok m shows) (sym c.refusal.ensures ∙ c.in-None.is) stored)
    (λ posts m shows. sent_ok c.work.new.self c.post_letter.new.self m c.in-Some.i c.args.from (record { tag = c.args.tag; body = c.args.body.now }) c.in-Some.ensures.some.0 (c.in_ok-work.ensures.ok m shows) (sym c.refusal.ensures ∙ c.in-None.is) (Refused why) posts) h) c.post_letter.ensures.err
