use Rattle.std.proofs.Common.{refl}
use Rattle.std.proofs.lemmas.Result.{on_ok_weaker}
use Rattle.mailbox.proofs.Running.{settle_then_work}
use Rattle.mailbox.proofs.mail.Mailbox.settle_and_work.Goals as goal

pub returns : goal.returns
returns g c = on_ok_weaker c.work.result (λ worked. settle_then_work c.args.self.now c.settle.new.self c.work.new.self c.in_ok-settle.field-0.unfinished c.in_ok-settle.ensures.ok worked) c.work.ensures.ok
