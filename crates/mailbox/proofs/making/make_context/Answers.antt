use Rattle.mailbox.proofs.Made.{made_one}
use Rattle.mailbox.proofs.making.make_context.Goals as goal

pub returns : goal.returns
returns c = made_one c.args.world.now c.step.new.self _ c.in_ok-step.field-0 c.in_ok-step.ensures.ok
