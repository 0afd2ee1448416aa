use Rattle.std.proofs.Common.{rules}
use Rattle.mailbox.proofs.Made.{made_as, made_one}
use Rattle.mailbox.proofs.making.connect.Goals as goal

pub returns : goal.returns
returns c = made_as c.args.world.now c.step.new.self _ _ (search rules) (made_one c.args.world.now c.step.new.self _ c.in_ok-step.field-0 c.in_ok-step.ensures.ok)
