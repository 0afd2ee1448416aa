-- What is told of the event.
use Rattle.protocol.specs.declared.events.Event.TheVariants as event
use Rattle.device_core.proofs.Steps.{few-sent, told}
use Rattle.device_core.proofs.device.Device.restore.Goals as goal

pub returns-clause-id : goal.returns-clause-id
returns-clause-id c = (told c.args.self.now c.put_image-done.new.self (event.Restore c.args.image.now) c.put_image-done.result c.told_step.result c.told_step.ensures c.put_image-done.ensures (few-sent c.args.self.now c.put_image-done.new.self (event.Restore c.args.image.now) c.put_image-done.result tt c.put_image-done.ensures)).id

pub returns-clause-address : goal.returns-clause-address
returns-clause-address c = (told c.args.self.now c.put_image-done.new.self (event.Restore c.args.image.now) c.put_image-done.result c.told_step.result c.told_step.ensures c.put_image-done.ensures (few-sent c.args.self.now c.put_image-done.new.self (event.Restore c.args.image.now) c.put_image-done.result tt c.put_image-done.ensures)).address

pub returns-clause-bounded : goal.returns-clause-bounded
returns-clause-bounded c = (told c.args.self.now c.put_image-done.new.self (event.Restore c.args.image.now) c.put_image-done.result c.told_step.result c.told_step.ensures c.put_image-done.ensures (few-sent c.args.self.now c.put_image-done.new.self (event.Restore c.args.image.now) c.put_image-done.result tt c.put_image-done.ensures)).few

pub returns-clause-refused_first : goal.returns-clause-refused_first
returns-clause-refused_first c = (told c.args.self.now c.put_image-done.new.self (event.Restore c.args.image.now) c.put_image-done.result c.told_step.result c.told_step.ensures c.put_image-done.ensures (few-sent c.args.self.now c.put_image-done.new.self (event.Restore c.args.image.now) c.put_image-done.result tt c.put_image-done.ensures)).refused_first
