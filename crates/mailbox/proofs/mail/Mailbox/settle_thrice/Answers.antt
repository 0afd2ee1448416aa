use Rattle.std.proofs.lemmas.Result.{on_ok_weaker}
use Rattle.mailbox.proofs.Running.{run_thrice}
use Rattle.mailbox.proofs.mail.Mailbox.settle_thrice.Goals as goal

pub returns : goal.returns
returns g c = on_ok_weaker c.settle_and_work-3.result (λ last. run_thrice c.args.self.now c.settle_and_work.new.self c.settle_and_work-2.new.self c.settle_and_work-3.new.self c.in_ok-settle_and_work.ensures c.in_ok-settle_and_work-2.ensures last) c.settle_and_work-3.ensures
