use Rattle.std.proofs.Common.{rules, ◌≡◌, ◌∙◌, refl, sym, true, false}
use Rattle.std.proofs.lemmas.Result.{IfErr-weaker, IfOk-weaker}
use Rattle.evac_plan.specs.declared.fault.EvacFault.{EvacFault}
use Rattle.evac_plan.specs.declared.fault.EvacFault.TheVariants as fault
use Rattle.evac_plan.specs.Answers.{IfNoSuch}
use Rattle.evac_plan.proofs.Cuts.{if_err_is}
use Rattle.evac_plan.proofs.Wholes.{all_moved, no_such, not_all_moved, nothing_done, settling_cut}
use Rattle.evac_plan.proofs.evacuating.empty.Goals as goal

pub returns-in_err-are_devices-clause-err : goal.returns-in_err-are_devices-clause-err
returns-in_err-are_devices-clause-err g c = if_err_is _ c.from_residual.result fault.OutOfMemory c.from_residual.ensures.1 (λ w kept. nothing_done c.args.world.now c.args.from c.args.targets.now w kept c.args.world.now refl)

pub returns-then-not-branch-clause-err : goal.returns-then-not-branch-clause-err
returns-then-not-branch-clause-err g c w kept =
    let none : c.in_ok-are_devices.field-0 ≡ false = search (rules, c.if-not-branch.true) in
    no_such c.args.world.now c.args.from c.args.targets.now w kept c.args.world.now refl (sym c.in_ok-are_devices.ensures ∙ none)

pub returns-in_err-names-clause-err : goal.returns-in_err-names-clause-err
returns-in_err-names-clause-err g c = if_err_is _ c.from_residual-in_err-names.result fault.OutOfMemory c.from_residual-in_err-names.ensures.1 (λ w kept. nothing_done c.args.world.now c.args.from c.args.targets.now w kept c.args.world.now refl)

pub returns-in_err-settle-clause-err : goal.returns-in_err-settle-clause-err
returns-in_err-settle-clause-err g c =
    let there : c.in_ok-are_devices.field-0 ≡ true = search (rules, c.if-not-branch.false) in
    if_err_is _ c.from_residual-in_err-settle.result fault.OutOfMemory c.from_residual-in_err-settle.ensures.1 (λ w kept.
    settling_cut c.args.world.now c.args.from c.args.targets.now w kept (sym c.in_ok-are_devices.ensures ∙ there) c.settle.new.world c.in_err-settle.ensures.cut)

pub returns-clause-ok : goal.returns-clause-ok
returns-clause-ok g c =
    let there : c.in_ok-are_devices.field-0 ≡ true = search (rules, c.if-not-branch.false) in
    IfOk-weaker c.move_each.result _ _ (λ v ends w kept.
    all_moved c.args.world.now c.args.from c.args.targets.now w kept (sym c.in_ok-are_devices.ensures ∙ there) c.as_slice.result.now (c.as_slice.ensures.value ∙ c.in_ok-names.ensures) c.settle.new.world c.move_each.new.world c.in_ok-settle.ensures.ok v.items ends) c.move_each.ensures.ok

pub returns-clause-err : goal.returns-clause-err
returns-clause-err g c =
    let there : c.in_ok-are_devices.field-0 ≡ true = search (rules, c.if-not-branch.false) in
    IfErr-weaker c.move_each.result _ _ (λ e ends w kept.
    not_all_moved c.args.world.now c.args.from c.args.targets.now w kept (sym c.in_ok-are_devices.ensures ∙ there) c.as_slice.result.now (c.as_slice.ensures.value ∙ c.in_ok-names.ensures) c.settle.new.world c.move_each.new.world c.in_ok-settle.ensures.ok e ends) c.move_each.ensures.err

never : (P : Type 0) (e : EvacFault) → IfNoSuch ⊥ e → IfNoSuch P e
never P fault.NoSuch h = absurd h
never P (fault.Stays moved context why) h = tt
never P fault.OutOfMemory h = tt

pub returns-clause-unchanged : goal.returns-clause-unchanged
returns-clause-unchanged g c = IfErr-weaker c.move_each.result (IfNoSuch ⊥) (IfNoSuch (c.move_each.new.world ≡ c.args.world.now)) (never (c.move_each.new.world ≡ c.args.world.now)) c.move_each.ensures.told
