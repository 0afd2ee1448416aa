use Rattle.std.proofs.Common.{ap, refl, sym, ◌∙◌}
use Rattle.mailbox_rules.specs.Calls.{Send}
use Rattle.mailbox_rules.specs.Command.{sending_calls}
use Rattle.mailbox.specs.Runs.{count_of}
use Rattle.mailbox.proofs.Running.{run_as, sent_once, tried_once, tried_twice}
use Rattle.mailbox.proofs.mail.Mailbox.send_twice.Goals as goal

pub returns-then-not-is_full : goal.returns-then-not-is_full
returns-then-not-is_full g c = run_as c.args.self.now c.try_send.new.self (sent_once c.in_ok-first.first) 0 (count_of c.was_sent.result) 0 (λ m. sending_calls m (Send c.args.from c.args.tag c.args.body.now)) (λ m. sending_calls m (Send c.args.from c.args.tag c.args.body.now))
    (tried_once c.args.from c.args.tag c.args.body.now c.args.self.now c.try_send.new.self c.in_ok-first.first c.in_ok-first.ensures (sym c.is_full.ensures ∙ c.if-not-is_full.true)) (ap (λ b. count_of b) (sym c.was_sent.ensures)) refl (λ m. refl)

pub returns : goal.returns
returns g c = run_as c.args.self.now c.try_send-2.new.self (sent_once c.in_ok-second.second) 0 (count_of c.was_sent-2.result) 0 (λ m. sending_calls m (Send c.args.from c.args.tag c.args.body.now)) (λ m. sending_calls m (Send c.args.from c.args.tag c.args.body.now))
    (tried_twice c.args.from c.args.tag c.args.body.now c.args.self.now c.try_send.new.self c.settle_thrice.new.self c.try_send-2.new.self c.in_ok-first.first c.in_ok-second.second c.in_ok-first.ensures (sym c.is_full.ensures ∙ c.if-not-is_full.false) c.in_ok-settle_thrice.ensures c.in_ok-second.ensures)
    (ap (λ b. count_of b) (sym c.was_sent-2.ensures)) refl (λ m. refl)
