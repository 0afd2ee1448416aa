use Rattle.std.proofs.Common.{arith, refl, subst, sym}
use Rattle.protocol.specs.State.{World, empty_world}
use Rattle.packetless_machine.specs.Machine.{Machine, empty}
use Rattle.trace_rules.specs.Recording.{IsFaultOf, IsTraceOf}
use Rattle.script_lang.specs.Scripts.{lines_of}
use Rattle.script_runner.proofs.Prefixes.{if_err_is}
use Rattle.run_traces.specs.declared.trace_audit.verdicts.AuditFault.TheVariants as fault
use Rattle.trace_record.specs.Recorded.{IsLegalText, IsRecordedTo}
use Rattle.trace_record.proofs.Played.{beside, legal, next_number, start, whole}
use Rattle.trace_record.proofs.recorder.recording.record_trace.Goals as goal

pub overflow_add-number : goal.overflow_add-number
overflow_add-number c = omega (arith, next_number c.args.script.now c.loop-line.trace.items c.loop-line.world c.loop-line.machine c.loop-line.number c.loop-line.lines c.next_line.new.self c.in-Some.line.now c.in-Some.ensures.line c.loop-line.invariant)

pub record_line-requires : goal.record_line-requires
record_line-requires c = beside c.args.script.now c.loop-line.trace.items c.loop-line.world c.loop-line.machine c.loop-line.number c.loop-line.lines c.loop-line.invariant

pub loop-line-init : goal.loop-line-init
loop-line-init c =
    subst (IsRecordedTo c.args.script.now c.new-trace.result.items c.in_ok-world.world c.make-machine.result 0) (sym c.new-lines.ensures)
    (subst (λ (m : Machine). IsRecordedTo c.args.script.now c.new-trace.result.items c.in_ok-world.world m 0 (lines_of c.args.script.now)) (sym c.make-machine.ensures)
    (subst (λ (w : World). IsRecordedTo c.args.script.now c.new-trace.result.items w empty 0 (lines_of c.args.script.now)) (sym c.in_ok-world.ensures)
    (subst (λ t. IsRecordedTo c.args.script.now t empty_world empty 0 (lines_of c.args.script.now)) (sym c.new-trace.ensures.items)
    (start c.scripts_are_recorded_line_by_line.ensures.begins c.law_holds.ensures.start c.args.script.now))))

pub loop-line-preserved : goal.loop-line-preserved
loop-line-preserved c =
    let here = subst (IsRecordedTo c.args.script.now c.loop-line.trace.items c.loop-line.world c.loop-line.machine c.loop-line.number) c.in-Some.ensures.line c.loop-line.invariant in
    c.in_ok-record_line.ensures.recorded c.args.script.now c.loop-line.number c.next_line.new.self refl here

pub returns-in_err-record_line-clause-bad : goal.returns-in_err-record_line-clause-bad
returns-in_err-record_line-clause-bad c =
    let here = subst (IsRecordedTo c.args.script.now c.loop-line.trace.items c.loop-line.world c.loop-line.machine c.loop-line.number) c.in-Some.ensures.line c.loop-line.invariant in
    if_err_is c.from_residual-in_err-record_line.result (IsFaultOf c.args.script.now) c.in_err-record_line.field-0.0 c.from_residual-in_err-record_line.ensures.1 (c.in_err-record_line.ensures.bad c.args.script.now c.loop-line.number c.next_line.new.self refl here)

pub returns-in_err-extend_from_slice-clause-bad : goal.returns-in_err-extend_from_slice-clause-bad
returns-in_err-extend_from_slice-clause-bad c = if_err_is c.from_residual-in_err-extend_from_slice.result (IsFaultOf c.args.script.now) fault.OutOfMemory c.from_residual-in_err-extend_from_slice.ensures.1 tt

pub returns-clause-trace : goal.returns-clause-trace
returns-clause-trace c =
    subst (IsTraceOf c.args.script.now) (sym c.in_ok-extend_from_slice.ensures.items)
    (whole c.scripts_are_recorded_line_by_line.ensures.ends c.args.script.now c.loop-line.trace.items c.loop-line.world c.loop-line.machine c.loop-line.number c.loop-line.lines c.in_default.ensures.end c.loop-line.invariant)

pub returns-clause-legal : goal.returns-clause-legal
returns-clause-legal c =
    subst IsLegalText (sym c.in_ok-extend_from_slice.ensures.items)
    (legal c.scripts_are_recorded_line_by_line.ensures.ends c.records_are_said.ensures c.records_are_legal.ensures c.args.script.now c.loop-line.trace.items c.loop-line.world c.loop-line.machine c.loop-line.number c.loop-line.lines c.in_default.ensures.end c.loop-line.invariant)
