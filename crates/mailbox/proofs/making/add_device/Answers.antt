use Rattle.std.proofs.Common.{ap, ◌+◌}
use Rattle.protocol.specs.declared.events.WorldEvent.TheVariants.{AddDevice}
use Rattle.mailbox.proofs.Made.{made_as, made_one}
use Rattle.mailbox.proofs.making.add_device.Goals as goal

pub returns : goal.returns
returns c = made_as c.args.world.now c.step.new.self _ _ (ap (λ n. AddDevice c.args.id (record { ip = 167772160 + n; port = 4791 })) c.from.ensures) (made_one c.args.world.now c.step.new.self _ c.in_ok-step.field-0 c.in_ok-step.ensures.ok)
