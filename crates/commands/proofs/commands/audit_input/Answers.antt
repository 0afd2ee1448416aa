use Rattle.std.proofs.Common.{Err, Ok, ap, refl, subst}
use Rattle.host_ports.specs.declared.reading.ReadAllFault.TheVariants as read
use Rattle.script_runner.proofs.Prefixes.{if_err_is}
use Rattle.commands.specs.declared.stop.Stop.TheVariants as stop
use Rattle.run_traces.specs.Verdicts.{Audits}
use Rattle.run_traces.specs.declared.trace_audit.verdicts.Verdict.TheVariants.{Illegal, Legal}
use Rattle.commands.specs.Stopping.{AuditStops, counts_of, over, stop_of_audit, stop_of_read}
use Rattle.commands.proofs.Stops.{audit_stopped, audit_unread, audited, audited_counts, counted_err, judged, judged_in_part, ok_or, output_counts, same_err, unread_counts}
use Rattle.commands.proofs.commands.audit_input.Goals as goal

pub returns-in_err-trace-clause-stops : goal.returns-in_err-trace-clause-stops
returns-in_err-trace-clause-stops g c r =
    let run = over r (g.S.Source.left c.args.input.now) (g.S.Source.left c.read_all.new.source) (g.K.Sink.held c.args.output.now) (g.K.Sink.held c.args.output.now) in
    if_err_is c.from_residual.result (AuditStops run) (stop_of_read c.in_err-trace.field-0.0) c.from_residual.ensures.1
    (audit_unread run c.in_err-trace.field-0.0 (λ e. c.in_err-trace.ensures.long (ap Err e)) (λ e. let part = c.in_err-trace.ensures.fault (ap Err e) in record { count = part.0; short = part.1; read = part.2 }) (λ e. let part = c.in_err-trace.ensures.memory (ap Err e) in record { count = part.0; short = part.1; read = part.2 }) refl)

pub returns-in_err-trace-clause-counts : goal.returns-in_err-trace-clause-counts
returns-in_err-trace-clause-counts g c link depot = counted_err c.from_residual.result (stop_of_read c.in_err-trace.field-0.0) (g.S.Source.faults c.args.input.now) (g.S.Source.faults c.read_all.new.source) (counts_of link depot (g.K.Sink.faults c.args.output.now)) (counts_of link depot (g.K.Sink.faults c.args.output.now)) c.from_residual.ensures.1 (unread_counts c.in_err-trace.field-0.0 (g.S.Source.faults c.args.input.now) (g.S.Source.faults c.read_all.new.source) (counts_of link depot (g.K.Sink.faults c.args.output.now)) (λ e. c.in_err-trace.ensures.faults_counted (ap Err e)) c.read_all.ensures.faults_monotone (same_err (Err c.in_err-trace.field-0.0) c.in_err-trace.field-0.0 read.ReadFault refl c.in_err-trace.ensures.faults_unchanged))

pub returns-in_err-verbs-clause-stops : goal.returns-in_err-verbs-clause-stops
returns-in_err-verbs-clause-stops g c r =
    let run = over r (g.S.Source.left c.args.input.now) (g.S.Source.left c.read_all.new.source) (g.K.Sink.held c.args.output.now) (g.K.Sink.held c.args.output.now) in
    if_err_is c.from_residual-in_err-verbs.result (AuditStops run) (stop_of_audit c.in_err-verbs.field-0.0) c.from_residual-in_err-verbs.ensures.1
    (audit_stopped run c.in_ok-trace.trace.items c.in_ok-trace.ensures.all c.in_ok-trace.ensures.short c.in_err-verbs.field-0.0 (subst (λ xs. Audits xs (Err c.in_err-verbs.field-0.0)) c.as_slice.ensures.value c.in_err-verbs.ensures) refl)

pub returns-in_err-verbs-clause-counts : goal.returns-in_err-verbs-clause-counts
returns-in_err-verbs-clause-counts g c link depot = counted_err c.from_residual-in_err-verbs.result (stop_of_audit c.in_err-verbs.field-0.0) (g.S.Source.faults c.args.input.now) (g.S.Source.faults c.read_all.new.source) (counts_of link depot (g.K.Sink.faults c.args.output.now)) (counts_of link depot (g.K.Sink.faults c.args.output.now)) c.from_residual-in_err-verbs.ensures.1 (audited_counts c.in_err-verbs.field-0.0 (g.S.Source.faults c.args.input.now) (g.S.Source.faults c.read_all.new.source) (counts_of link depot (g.K.Sink.faults c.args.output.now)) (ok_or (Ok c.in_ok-trace.trace) c.in_ok-trace.trace read.ReadFault refl c.in_ok-trace.ensures.faults_unchanged))

pub returns-in-Illegal-clause-stops : goal.returns-in-Illegal-clause-stops
returns-in-Illegal-clause-stops g c r =
    (refl, audited (over r (g.S.Source.left c.args.input.now) (g.S.Source.left c.read_all.new.source) (g.K.Sink.held c.args.output.now) (g.K.Sink.held c.args.output.now)) c.in_ok-trace.trace.items c.in_ok-trace.ensures.all c.in_ok-trace.ensures.short c.audits_are_right.ensures.verdicts (Illegal c.in-Illegal.line c.in-Illegal.why) (subst (λ xs. Audits xs (Ok (Illegal c.in-Illegal.line c.in-Illegal.why))) c.as_slice.ensures.value (subst (λ v. Audits c.as_slice.result.now (Ok v)) c.in-Illegal.is c.in_ok-verbs.ensures)))

pub returns-in-Illegal-clause-counts : goal.returns-in-Illegal-clause-counts
returns-in-Illegal-clause-counts g c link depot = ((ok_or (Ok c.in_ok-trace.trace) c.in_ok-trace.trace read.ReadFault refl c.in_ok-trace.ensures.faults_unchanged), refl)

pub returns-in_err-write_legal-in-Legal-clause-stops : goal.returns-in_err-write_legal-in-Legal-clause-stops
returns-in_err-write_legal-in-Legal-clause-stops g c r =
    let run = over r (g.S.Source.left c.args.input.now) (g.S.Source.left c.read_all.new.source) (g.K.Sink.held c.args.output.now) (g.K.Sink.held c.write_legal.new.output) in
    if_err_is c.from_residual-in_err-write_legal-in-Legal.result (AuditStops run) stop.WriteFault c.from_residual-in_err-write_legal-in-Legal.ensures.1
    (judged_in_part run c.in_ok-trace.trace.items c.in_ok-trace.ensures.all c.in_ok-trace.ensures.short c.audits_are_right.ensures.verdicts c.in-Legal.verbs c.in-Legal.inner (subst (λ xs. Audits xs (Ok (Legal c.in-Legal.verbs c.in-Legal.inner))) c.as_slice.ensures.value (subst (λ v. Audits c.as_slice.result.now (Ok v)) c.in-Legal.is c.in_ok-verbs.ensures)) c.in_err-write_legal-in-Legal.ensures.part)

pub returns-in_err-write_legal-in-Legal-clause-counts : goal.returns-in_err-write_legal-in-Legal-clause-counts
returns-in_err-write_legal-in-Legal-clause-counts g c link depot = counted_err c.from_residual-in_err-write_legal-in-Legal.result stop.WriteFault (g.S.Source.faults c.args.input.now) (g.S.Source.faults c.read_all.new.source) (counts_of link depot (g.K.Sink.faults c.args.output.now)) (counts_of link depot (g.K.Sink.faults c.write_legal.new.output)) c.from_residual-in_err-write_legal-in-Legal.ensures.1 ((ok_or (Ok c.in_ok-trace.trace) c.in_ok-trace.trace read.ReadFault refl c.in_ok-trace.ensures.faults_unchanged), (c.write_legal.ensures.faults_monotone, c.in_err-write_legal-in-Legal.ensures.faults_counted), refl)

pub returns-clause-done : goal.returns-clause-done
returns-clause-done g c r =
    judged (over r (g.S.Source.left c.args.input.now) (g.S.Source.left c.read_all.new.source) (g.K.Sink.held c.args.output.now) (g.K.Sink.held c.write_legal.new.output)) c.in_ok-trace.trace.items c.in_ok-trace.ensures.all c.in_ok-trace.ensures.short c.audits_are_right.ensures.verdicts c.in-Legal.verbs c.in-Legal.inner (subst (λ xs. Audits xs (Ok (Legal c.in-Legal.verbs c.in-Legal.inner))) c.as_slice.ensures.value (subst (λ v. Audits c.as_slice.result.now (Ok v)) c.in-Legal.is c.in_ok-verbs.ensures)) c.in_ok-write_legal-in-Legal.ensures.whole

pub returns-clause-counts : goal.returns-clause-counts
returns-clause-counts g c link depot = ((ok_or (Ok c.in_ok-trace.trace) c.in_ok-trace.trace read.ReadFault refl c.in_ok-trace.ensures.faults_unchanged), output_counts link depot (g.K.Sink.faults c.args.output.now) (g.K.Sink.faults c.write_legal.new.output) c.in_ok-write_legal-in-Legal.ensures.faults_unchanged)
