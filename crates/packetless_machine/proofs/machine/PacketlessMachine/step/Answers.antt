use Rattle.packetless_machine.proofs.Made.{made_enabled, made_next, made_answer, made_not_enabled, made_unchanged}
use Rattle.packetless_machine.proofs.machine.PacketlessMachine.step.Goals as goal

pub returns-clause-enabled : goal.returns-clause-enabled
returns-clause-enabled c = made_enabled _ _ _ _ _ c.make_step.result c.make_step.ensures

pub returns-clause-next : goal.returns-clause-next
returns-clause-next c = made_next _ _ _ _ _ c.make_step.result c.make_step.ensures

pub returns-clause-answer : goal.returns-clause-answer
returns-clause-answer c = made_answer _ _ _ _ _ c.make_step.result c.make_step.ensures

pub returns-clause-not_enabled : goal.returns-clause-not_enabled
returns-clause-not_enabled c = made_not_enabled _ _ _ _ _ c.make_step.result c.make_step.ensures

pub returns-clause-unchanged : goal.returns-clause-unchanged
returns-clause-unchanged c = made_unchanged _ _ _ _ _ c.make_step.result c.make_step.ensures
