use Rattle.std.proofs.lemmas.Result.{on_ok_weaker}
use Rattle.mailbox.proofs.Running.{run_transfer}
use Rattle.mailbox.proofs.mail.Mailbox.transfer.Goals as goal

pub returns : goal.returns
returns g c = on_ok_weaker c.have-3.result (λ last.
    run_transfer c.args.self.now c.have.new.self c.have-2.new.self c.settle.new.self c.have-3.new.self c.receiver-context.result c.args.old c.args.new c.in_ok-settle.field-0.unfinished c.receiver-context.ensures
    c.in_ok-have.ensures c.in_ok-have-2.ensures c.in_ok-settle.ensures.ok last) c.have-3.ensures
