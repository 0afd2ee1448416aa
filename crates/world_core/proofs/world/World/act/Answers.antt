-- Each event is done by its own call.
use Rattle.std.proofs.Common.{◌≡◌, refl, sym, subst}
use Rattle.std.specs.Prelude.{IfOk, IsOk, None, OnErr}
use Rattle.protocol.specs.WorldStep.{world_step}
use Rattle.world_core.specs.Causes.{world_refusal}
use Rattle.world_core.specs.Kept.{Makes, TakesNoMemory}
use Rattle.world_core.specs.Delivered.{DeliversWithin}
use Rattle.world_core.proofs.Delivering.{delivers-other, delivers-otherwise}
use Rattle.world_core.proofs.Lacking.{holds_at_err, never_err}
use Rattle.world_core.proofs.world.World.act.Goals as goal

pub returns-in-AddDevice-clause-ok : goal.returns-in-AddDevice-clause-ok
unfolding world_step
returns-in-AddDevice-clause-ok c = subst (λ e. IfOk c.add_device.result (λ answer. Makes (world_step c.args.self.now e) answer c.add_device.new.self)) (sym c.in-AddDevice.is) c.add_device.ensures.ok

pub returns-in-MakeContext-clause-ok : goal.returns-in-MakeContext-clause-ok
unfolding world_step
returns-in-MakeContext-clause-ok c = subst (λ e. IfOk c.make_context.result (λ answer. Makes (world_step c.args.self.now e) answer c.make_context.new.self)) (sym c.in-MakeContext.is) c.make_context.ensures.ok

pub returns-in-At-clause-ok : goal.returns-in-At-clause-ok
unfolding world_step
returns-in-At-clause-ok c = subst (λ e. IfOk c.step_at.result (λ answer. Makes (world_step c.args.self.now e) answer c.step_at.new.self)) (sym c.in-At.is) c.step_at.ensures.ok

pub returns-in-Connect-clause-ok : goal.returns-in-Connect-clause-ok
unfolding world_step
returns-in-Connect-clause-ok c = subst (λ e. Makes (world_step c.args.self.now e) c.connect.result c.connect.new.self) (sym c.in-Connect.is) c.connect.ensures

pub returns-in-Deliver-clause-ok : goal.returns-in-Deliver-clause-ok
unfolding world_step
returns-in-Deliver-clause-ok c = subst (λ e. IfOk c.deliver.result (λ answer. Makes (world_step c.args.self.now e) answer c.deliver.new.self)) (sym c.in-Deliver.is) c.deliver.ensures.ok

pub returns-in-Lose-clause-ok : goal.returns-in-Lose-clause-ok
unfolding world_step
returns-in-Lose-clause-ok c = subst (λ e. Makes (world_step c.args.self.now e) c.lose.result c.lose.new.self) (sym c.in-Lose.is) c.lose.ensures

pub returns-in-Wire-clause-ok : goal.returns-in-Wire-clause-ok
unfolding world_step
returns-in-Wire-clause-ok c = subst (λ e. IfOk c.wire.result (λ answer. Makes (world_step c.args.self.now e) answer c.args.self.now)) (sym c.in-Wire.is) c.wire.ensures

pub returns-in-Stop-clause-ok : goal.returns-in-Stop-clause-ok
unfolding world_step
returns-in-Stop-clause-ok c = subst (λ e. IfOk c.stop.result (λ answer. Makes (world_step c.args.self.now e) answer c.stop.new.self)) (sym c.in-Stop.is) c.stop.ensures.ok

pub returns-in-Restore-clause-ok : goal.returns-in-Restore-clause-ok
unfolding world_step
returns-in-Restore-clause-ok c = subst (λ e. IfOk c.restore.result (λ answer. Makes (world_step c.args.self.now e) answer c.restore.new.self)) (sym c.in-Restore.is) c.restore.ensures.ok

pub returns-in-Release-clause-ok : goal.returns-in-Release-clause-ok
unfolding world_step
returns-in-Release-clause-ok c = subst (λ e. IfOk c.release.result (λ answer. Makes (world_step c.args.self.now e) answer c.release.new.self)) (sym c.in-Release.is) c.release.ensures.ok

pub returns-in-AddDevice-clause-touched : goal.returns-in-AddDevice-clause-touched
returns-in-AddDevice-clause-touched c = delivers-other _ _ _ _ _ c.in-AddDevice.is tt

pub returns-in-MakeContext-clause-touched : goal.returns-in-MakeContext-clause-touched
returns-in-MakeContext-clause-touched c = delivers-other _ _ _ _ _ c.in-MakeContext.is tt

pub returns-in-At-clause-touched : goal.returns-in-At-clause-touched
returns-in-At-clause-touched c = delivers-other _ _ _ _ _ c.in-At.is tt

pub returns-in-Connect-clause-touched : goal.returns-in-Connect-clause-touched
returns-in-Connect-clause-touched c = delivers-otherwise c.args.event.now _ c.args.self.now c.connect.new.self c.in-Connect.is tt

pub returns-in-Lose-clause-touched : goal.returns-in-Lose-clause-touched
returns-in-Lose-clause-touched c = delivers-otherwise c.args.event.now _ c.args.self.now c.lose.new.self c.in-Lose.is tt

pub returns-in-Wire-clause-touched : goal.returns-in-Wire-clause-touched
returns-in-Wire-clause-touched c = delivers-other _ _ _ _ _ c.in-Wire.is tt

pub returns-in-Stop-clause-touched : goal.returns-in-Stop-clause-touched
returns-in-Stop-clause-touched c = delivers-other _ _ _ _ _ c.in-Stop.is tt

pub returns-in-Restore-clause-touched : goal.returns-in-Restore-clause-touched
returns-in-Restore-clause-touched c = delivers-other _ _ _ _ _ c.in-Restore.is tt

pub returns-in-Release-clause-touched : goal.returns-in-Release-clause-touched
returns-in-Release-clause-touched c = delivers-other _ _ _ _ _ c.in-Release.is tt

pub returns-in-Deliver-clause-touched : goal.returns-in-Deliver-clause-touched
returns-in-Deliver-clause-touched c = subst (λ e. IfOk c.deliver.result (λ answer. DeliversWithin e c.args.self.now c.deliver.new.self)) (sym c.in-Deliver.is) c.deliver.ensures.touched

pub returns-in-AddDevice-clause-refused_first : goal.returns-in-AddDevice-clause-refused_first
returns-in-AddDevice-clause-refused_first c = subst (λ e. OnErr c.add_device.result (world_refusal c.args.self.now e ≡ None)) (sym c.in-AddDevice.is) c.add_device.ensures.refused_first

pub returns-in-MakeContext-clause-refused_first : goal.returns-in-MakeContext-clause-refused_first
returns-in-MakeContext-clause-refused_first c = subst (λ e. OnErr c.make_context.result (world_refusal c.args.self.now e ≡ None)) (sym c.in-MakeContext.is) c.make_context.ensures.refused_first

pub returns-in-At-clause-refused_first : goal.returns-in-At-clause-refused_first
returns-in-At-clause-refused_first c = subst (λ e. OnErr c.step_at.result (world_refusal c.args.self.now e ≡ None)) (sym c.in-At.is) c.step_at.ensures.refused_first

pub returns-in-Deliver-clause-refused_first : goal.returns-in-Deliver-clause-refused_first
returns-in-Deliver-clause-refused_first c = subst (λ e. OnErr c.deliver.result (world_refusal c.args.self.now e ≡ None)) (sym c.in-Deliver.is) (holds_at_err c.deliver.result refl)

pub returns-in-Wire-clause-refused_first : goal.returns-in-Wire-clause-refused_first
returns-in-Wire-clause-refused_first c = subst (λ e. OnErr c.wire.result (world_refusal c.args.self.now e ≡ None)) (sym c.in-Wire.is) (holds_at_err c.wire.result refl)

pub returns-in-Stop-clause-refused_first : goal.returns-in-Stop-clause-refused_first
returns-in-Stop-clause-refused_first c = subst (λ e. OnErr c.stop.result (world_refusal c.args.self.now e ≡ None)) (sym c.in-Stop.is) c.stop.ensures.refused_first

pub returns-in-Restore-clause-refused_first : goal.returns-in-Restore-clause-refused_first
returns-in-Restore-clause-refused_first c = subst (λ e. OnErr c.restore.result (world_refusal c.args.self.now e ≡ None)) (sym c.in-Restore.is) c.restore.ensures.refused_first

pub returns-in-Release-clause-refused_first : goal.returns-in-Release-clause-refused_first
returns-in-Release-clause-refused_first c = subst (λ e. OnErr c.release.result (world_refusal c.args.self.now e ≡ None)) (sym c.in-Release.is) (never_err _ c.release.result c.release.ensures.never_out_of_memory)

pub returns-in-At-clause-never_out_of_memory : goal.returns-in-At-clause-never_out_of_memory
returns-in-At-clause-never_out_of_memory c = subst (λ e. TakesNoMemory c.args.self.now e → IsOk c.step_at.result) (sym c.in-At.is) c.step_at.ensures.never_out_of_memory

pub returns-in-Deliver-clause-never_out_of_memory : goal.returns-in-Deliver-clause-never_out_of_memory
returns-in-Deliver-clause-never_out_of_memory c = subst (λ e. TakesNoMemory c.args.self.now e → IsOk c.deliver.result) (sym c.in-Deliver.is) c.deliver.ensures.never_out_of_memory

pub returns-in-Release-clause-never_out_of_memory : goal.returns-in-Release-clause-never_out_of_memory
returns-in-Release-clause-never_out_of_memory c = λ none. c.release.ensures.never_out_of_memory
