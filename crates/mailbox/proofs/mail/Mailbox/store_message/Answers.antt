use Rattle.std.proofs.Common.{◌≡◌, ◌++◌, ◌∙◌, ap, arith, length}
use Rattle.mailbox.specs.Steps.{message_with}
use Rattle.mailbox.proofs.Sent.{few_bytes}
use Rattle.mailbox.proofs.mail.Mailbox.store_message.Goals as goal

pub overflow_cast-length : goal.overflow_cast-length
overflow_cast-length c =
    let all : c.put_message.new.out.items ≡ message_with c.args.header.now c.args.body.now =
    c.in_ok-put_message.ensures ∙ ap (λ xs. xs ++ message_with c.args.header.now c.args.body.now) c.new-message.ensures.items in
    omega (arith, few_bytes c.args.header.now c.args.body.now c.requires, ap (λ xs. length xs) all, c.len-length.ensures)
