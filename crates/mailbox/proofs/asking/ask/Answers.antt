use Rattle.std.proofs.lemmas.Result.{IfOk-weaker}
use Rattle.mailbox.proofs.Shown.{asked_on}
use Rattle.mailbox.proofs.asking.ask.Goals as goal

pub returns-clause-ok : goal.returns-clause-ok
returns-clause-ok c = IfOk-weaker c.step.result _ _ (λ a made w is. asked_on c.args.world.now c.step.new.self w c.args.event a is made) c.step.ensures.ok
