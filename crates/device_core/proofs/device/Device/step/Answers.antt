-- What is told of the event.
use Rattle.device_core.proofs.Steps.{told, told-image}
use Rattle.device_core.proofs.Within.{stepped-within}
use Rattle.device_core.proofs.device.Device.step.Goals as goal

pub returns-clause-id : goal.returns-clause-id
returns-clause-id c = (told c.args.self.now c.run-done.new.self c.args.event.now c.run-done.result c.told_step.result c.told_step.ensures c.run-done.ensures.done c.run-done.ensures.bounded).id

pub returns-clause-address : goal.returns-clause-address
returns-clause-address c = (told c.args.self.now c.run-done.new.self c.args.event.now c.run-done.result c.told_step.result c.told_step.ensures c.run-done.ensures.done c.run-done.ensures.bounded).address

pub returns-clause-image : goal.returns-clause-image
returns-clause-image c = told-image c.run-done.result c.told_step.result c.told_step.ensures c.run-done.ensures.image

pub returns-clause-touched : goal.returns-clause-touched
returns-clause-touched c = stepped-within c.args.self.now c.run-done.new.self c.args.event.now c.run-done.result c.bounds_turns.ensures c.run-done.ensures.done

pub returns-clause-refused_first : goal.returns-clause-refused_first
returns-clause-refused_first c = (told c.args.self.now c.run-done.new.self c.args.event.now c.run-done.result c.told_step.result c.told_step.ensures c.run-done.ensures.done c.run-done.ensures.bounded).refused_first
