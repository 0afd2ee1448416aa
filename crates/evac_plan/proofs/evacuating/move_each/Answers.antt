use Rattle.std.proofs.Common.{arith, refl, subst}
use Rattle.std.specs.Prelude.{length}
use Rattle.std.proofs.lemmas.Option.{slice_get_read}
use Rattle.evac_plan.specs.declared.fault.EvacFault.TheVariants as fault
use Rattle.evac_plan.proofs.Cuts.{if_err_is}
use Rattle.evac_plan.proofs.Ways.{Moves, way_cut, way_ends, way_on, way_same, way_stays, way_told}
use Rattle.evac_plan.proofs.evacuating.move_each.Goals as goal

pub returns-in_err-reserve-clause-err : goal.returns-in_err-reserve-clause-err
returns-in_err-reserve-clause-err g c = if_err_is _ c.from_residual.result fault.OutOfMemory c.from_residual.ensures.1 (λ s shows fresh.
    way_same s c.args.from c.args.targets.now c.args.names.now c.loop-name.name-index c.loop-name.world c.loop-name.moved.items (c.loop-name.invariant s shows fresh))

pub returns-in_err-target-clause-err : goal.returns-in_err-target-clause-err
returns-in_err-target-clause-err g c = if_err_is _ c.from_residual-in_err-target.result fault.OutOfMemory c.from_residual-in_err-target.ensures.1 (λ s shows fresh.
    way_cut s c.args.from c.args.targets.now c.args.names.now c.loop-name.name-index c.loop-name.world c.loop-name.moved.items (c.loop-name.invariant s shows fresh) c.name-item.result
    (slice_get_read c.args.names.now (length c.args.names.now) c.loop-name.name-index c.name-item.result refl (omega arith) c.name-item.is) c.shift.new.world c.in_err-target.ensures.cut)

pub returns-in-Stays-clause-err : goal.returns-in-Stays-clause-err
returns-in-Stays-clause-err g c s shows fresh =
    way_stays s c.args.from c.args.targets.now c.args.names.now c.loop-name.name-index c.loop-name.world c.reserve.new.self.items
    (way_told s c.args.from c.args.targets.now c.args.names.now c.loop-name.name-index c.loop-name.world c.loop-name.moved.items c.reserve.new.self.items c.reserve.ensures.items (c.loop-name.invariant s shows fresh))
    c.name-item.result (slice_get_read c.args.names.now (length c.args.names.now) c.loop-name.name-index c.name-item.result refl (omega arith) c.name-item.is)
    c.shift.new.world c.in-Stays.why (subst (Moves c.loop-name.world c.shift.new.world c.args.from c.args.targets.now c.name-item.result) c.in-Stays.is c.in_ok-target.ensures.ok)

pub loop-name-preserved : goal.loop-name-preserved
loop-name-preserved g c s shows fresh =
    way_on s c.args.from c.args.targets.now c.args.names.now c.loop-name.name-index c.loop-name.world c.reserve.new.self.items
    (way_told s c.args.from c.args.targets.now c.args.names.now c.loop-name.name-index c.loop-name.world c.loop-name.moved.items c.reserve.new.self.items c.reserve.ensures.items (c.loop-name.invariant s shows fresh))
    c.name-item.result (slice_get_read c.args.names.now (length c.args.names.now) c.loop-name.name-index c.name-item.result refl (omega arith) c.name-item.is)
    c.shift.new.world c.in-On.target c.push_reserved.new.self.items (subst (Moves c.loop-name.world c.shift.new.world c.args.from c.args.targets.now c.name-item.result) c.in-On.is c.in_ok-target.ensures.ok) c.push_reserved.ensures.items

pub returns-clause-ok : goal.returns-clause-ok
returns-clause-ok g c s shows fresh =
    way_ends s c.args.from c.args.targets.now c.args.names.now c.loop-name.name-index c.loop-name.world c.loop-name.moved.items (c.loop-name.invariant s shows fresh) (omega arith)
