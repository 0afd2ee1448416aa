use Rattle.std.proofs.Common.{Err, Ok, ap, refl, subst}
use Rattle.host_ports.specs.declared.reading.ReadAllFault.TheVariants as read
use Rattle.host_ports.specs.Streams.{Puts}
use Rattle.trace_rules.specs.Recording.{IsFaultOf, IsTraceOf}
use Rattle.script_runner.specs.Playing.{PutsPrefix}
use Rattle.script_runner.proofs.Prefixes.{if_err_is}
use Rattle.commands.specs.declared.stop.Stop.TheVariants as stop
use Rattle.commands.specs.Stopping.{RecordStops, counts_of, over, stop_of_audit, stop_of_read}
use Rattle.commands.proofs.Stops.{audited_counts, counted_err, ok_or, output_counts, record_stopped, record_unread, recorded, recorded_in_part, same_err, unread_counts}
use Rattle.commands.proofs.commands.record_input.Goals as goal

pub returns-in_err-script-clause-stops : goal.returns-in_err-script-clause-stops
returns-in_err-script-clause-stops g c r =
    let run = over r (g.S.Source.left c.args.input.now) (g.S.Source.left c.read_all.new.source) (g.K.Sink.held c.args.output.now) (g.K.Sink.held c.args.output.now) in
    if_err_is c.from_residual.result (RecordStops run) (stop_of_read c.in_err-script.field-0.0) c.from_residual.ensures.1
    (record_unread run c.in_err-script.field-0.0 (λ e. c.in_err-script.ensures.long (ap Err e)) (λ e. let part = c.in_err-script.ensures.fault (ap Err e) in record { count = part.0; short = part.1; read = part.2 }) (λ e. let part = c.in_err-script.ensures.memory (ap Err e) in record { count = part.0; short = part.1; read = part.2 }) refl)

pub returns-in_err-script-clause-counts : goal.returns-in_err-script-clause-counts
returns-in_err-script-clause-counts g c link depot = counted_err c.from_residual.result (stop_of_read c.in_err-script.field-0.0) (g.S.Source.faults c.args.input.now) (g.S.Source.faults c.read_all.new.source) (counts_of link depot (g.K.Sink.faults c.args.output.now)) (counts_of link depot (g.K.Sink.faults c.args.output.now)) c.from_residual.ensures.1 (unread_counts c.in_err-script.field-0.0 (g.S.Source.faults c.args.input.now) (g.S.Source.faults c.read_all.new.source) (counts_of link depot (g.K.Sink.faults c.args.output.now)) (λ e. c.in_err-script.ensures.faults_counted (ap Err e)) c.read_all.ensures.faults_monotone (same_err (Err c.in_err-script.field-0.0) c.in_err-script.field-0.0 read.ReadFault refl c.in_err-script.ensures.faults_unchanged))

pub returns-in_err-trace-clause-stops : goal.returns-in_err-trace-clause-stops
returns-in_err-trace-clause-stops g c r =
    let run = over r (g.S.Source.left c.args.input.now) (g.S.Source.left c.read_all.new.source) (g.K.Sink.held c.args.output.now) (g.K.Sink.held c.args.output.now) in
    if_err_is c.from_residual-in_err-trace.result (RecordStops run) (stop_of_audit c.in_err-trace.field-0.0) c.from_residual-in_err-trace.ensures.1
    (record_stopped run c.in_ok-script.script.items c.in_ok-script.ensures.all c.in_ok-script.ensures.short c.in_err-trace.field-0.0 (subst (λ xs. IsFaultOf xs c.in_err-trace.field-0.0) c.as_slice.ensures.value c.in_err-trace.ensures.bad) refl)

pub returns-in_err-trace-clause-counts : goal.returns-in_err-trace-clause-counts
returns-in_err-trace-clause-counts g c link depot = counted_err c.from_residual-in_err-trace.result (stop_of_audit c.in_err-trace.field-0.0) (g.S.Source.faults c.args.input.now) (g.S.Source.faults c.read_all.new.source) (counts_of link depot (g.K.Sink.faults c.args.output.now)) (counts_of link depot (g.K.Sink.faults c.args.output.now)) c.from_residual-in_err-trace.ensures.1 (audited_counts c.in_err-trace.field-0.0 (g.S.Source.faults c.args.input.now) (g.S.Source.faults c.read_all.new.source) (counts_of link depot (g.K.Sink.faults c.args.output.now)) (ok_or (Ok c.in_ok-script.script) c.in_ok-script.script read.ReadFault refl c.in_ok-script.ensures.faults_unchanged))

pub returns-in_err-write_text-clause-stops : goal.returns-in_err-write_text-clause-stops
returns-in_err-write_text-clause-stops g c r =
    let run = over r (g.S.Source.left c.args.input.now) (g.S.Source.left c.read_all.new.source) (g.K.Sink.held c.args.output.now) (g.K.Sink.held c.write_text.new.output) in
    if_err_is c.from_residual-in_err-write_text.result (RecordStops run) stop.WriteFault c.from_residual-in_err-write_text.ensures.1
    (recorded_in_part run c.in_ok-script.script.items c.in_ok-script.ensures.all c.in_ok-script.ensures.short c.audits_are_right.ensures.verdicts c.in_ok-trace.trace.items (subst (λ xs. IsTraceOf xs c.in_ok-trace.trace.items) c.as_slice.ensures.value c.in_ok-trace.ensures.trace) c.in_ok-trace.ensures.legal (subst (PutsPrefix (g.K.Sink.held c.args.output.now) (g.K.Sink.held c.write_text.new.output)) c.as_slice-2.ensures.value c.in_err-write_text.ensures.part))

pub returns-in_err-write_text-clause-counts : goal.returns-in_err-write_text-clause-counts
returns-in_err-write_text-clause-counts g c link depot = counted_err c.from_residual-in_err-write_text.result stop.WriteFault (g.S.Source.faults c.args.input.now) (g.S.Source.faults c.read_all.new.source) (counts_of link depot (g.K.Sink.faults c.args.output.now)) (counts_of link depot (g.K.Sink.faults c.write_text.new.output)) c.from_residual-in_err-write_text.ensures.1 ((ok_or (Ok c.in_ok-script.script) c.in_ok-script.script read.ReadFault refl c.in_ok-script.ensures.faults_unchanged), (c.write_text.ensures.faults_monotone, c.in_err-write_text.ensures.faults_counted), refl)

pub returns-clause-done : goal.returns-clause-done
returns-clause-done g c r =
    recorded (over r (g.S.Source.left c.args.input.now) (g.S.Source.left c.read_all.new.source) (g.K.Sink.held c.args.output.now) (g.K.Sink.held c.write_text.new.output)) c.in_ok-script.script.items c.in_ok-script.ensures.all c.in_ok-script.ensures.short c.audits_are_right.ensures.verdicts c.in_ok-trace.trace.items (subst (λ xs. IsTraceOf xs c.in_ok-trace.trace.items) c.as_slice.ensures.value c.in_ok-trace.ensures.trace) c.in_ok-trace.ensures.legal (subst (Puts (g.K.Sink.held c.args.output.now) (g.K.Sink.held c.write_text.new.output)) c.as_slice-2.ensures.value c.in_ok-write_text.ensures.whole)

pub returns-clause-counts : goal.returns-clause-counts
returns-clause-counts g c link depot = ((ok_or (Ok c.in_ok-script.script) c.in_ok-script.script read.ReadFault refl c.in_ok-script.ensures.faults_unchanged), output_counts link depot (g.K.Sink.faults c.args.output.now) (g.K.Sink.faults c.write_text.new.output) c.in_ok-write_text.ensures.faults_unchanged)
