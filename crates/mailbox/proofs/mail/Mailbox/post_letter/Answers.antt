use Rattle.std.proofs.Common.{ap}
use Rattle.std.proofs.lemmas.Result.{on_ok_weaker}
use Rattle.mailbox_rules.specs.declared.faults.MailFault.TheVariants as fault
use Rattle.mailbox_rules.specs.declared.letters.Header.{Header}
use Rattle.mailbox_rules.specs.Calls.{IsSent, Refused}
use Rattle.mailbox.proofs.Refusals.{by_fault_weaker, if_err_is, if_err_weaker}
use Rattle.mailbox.proofs.Sent.{all_stored, body_stored, none_stored, posts_all, staged_shown}
use Rattle.mailbox.proofs.mail.Mailbox.post_letter.Goals as goal

pub returns-in_err-store_body-clause-err : goal.returns-in_err-store_body-clause-err
returns-in_err-store_body-clause-err c = if_err_is _ c.from_residual.result fault.OutOfMemory c.from_residual.ensures.1 (λ m shows.
    none_stored c.args.self.now m c.args.i (record { tag = c.args.tag; body = c.args.body.now }) shows c.store_body.new.self c.in_err-store_body.ensures.err)

pub returns-in_err-length-clause-err : goal.returns-in_err-length-clause-err
returns-in_err-length-clause-err c = if_err_is _ c.from_residual-in_err-length.result fault.OutOfMemory c.from_residual-in_err-length.ensures.1 (λ m shows.
    body_stored c.args.self.now m c.args.i (record { tag = c.args.tag; body = c.args.body.now }) shows c.header_for-header.result.fetched c.store_body.new.self c.store_message.new.self
    (ap (λ (h : Header). h.fetched) c.header_for-header.ensures) c.in_ok-store_body.ensures.ok c.in_err-length.ensures.err)

pub returns-clause-ok : goal.returns-clause-ok
returns-clause-ok c = on_ok_weaker c.post_message.result (λ posts m shows.
    posts_all c.args.self.now c.store_body.new.self c.store_message.new.self m c.args.i (record { tag = c.args.tag; body = c.args.body.now }) c.header_for-header.result shows c.header_for-header.ensures c.in_ok-store_body.ensures.ok
    (c.in_ok-length.ensures.ok) c.post_message.new.self c.in_ok-length.length IsSent c.in_ok-length.ensures.length posts) c.post_message.ensures.ok

pub returns-clause-err : goal.returns-clause-err
returns-clause-err c = if_err_weaker c.post_message.result _ _ (λ why h. by_fault_weaker why _ _ _ _
    (λ same m shows. all_stored c.args.self.now m c.args.i (record { tag = c.args.tag; body = c.args.body.now }) shows c.store_message.new.self c.post_message.new.self
    (staged_shown c.args.self.now c.store_body.new.self c.store_message.new.self m c.args.i (record { tag = c.args.tag; body = c.args.body.now }) c.header_for-header.result shows c.header_for-header.ensures c.in_ok-store_body.ensures.ok c.in_ok-length.ensures.ok) same)
    (λ posts m shows.
    posts_all c.args.self.now c.store_body.new.self c.store_message.new.self m c.args.i (record { tag = c.args.tag; body = c.args.body.now }) c.header_for-header.result shows c.header_for-header.ensures c.in_ok-store_body.ensures.ok
    (c.in_ok-length.ensures.ok) c.post_message.new.self c.in_ok-length.length (Refused why) c.in_ok-length.ensures.length posts) h) c.post_message.ensures.err
