use Rattle.std.proofs.Common.{Err, Ok, ap, refl}
use Rattle.host_ports.specs.declared.reading.ReadAllFault.TheVariants as read
use Rattle.script_runner.specs.declared.fault.PlayFault.TheVariants as play
use Rattle.script_runner.proofs.Prefixes.{if_err_is}
use Rattle.commands.specs.Stopping.{PlayStops, counts_of, over, stop_of_play, stop_of_read}
use Rattle.commands.proofs.Stops.{counted_err, ok_or, output_counts, played_counts, read_stopped, same_err, unread_counts}
use Rattle.commands.proofs.commands.play_input.Goals as goal

pub returns-in_err-text-clause-stops : goal.returns-in_err-text-clause-stops
returns-in_err-text-clause-stops g c r =
    let run = over r (g.S.Source.left c.args.input.now) (g.S.Source.left c.read_all.new.source) (g.K.Sink.held c.args.output.now) (g.K.Sink.held c.args.output.now) in
    if_err_is c.from_residual.result (PlayStops run) (stop_of_read c.in_err-text.field-0.0) c.from_residual.ensures.1
    (read_stopped run c.in_err-text.field-0.0 (λ e. c.in_err-text.ensures.long (ap Err e)) (λ e. let part = c.in_err-text.ensures.fault (ap Err e) in record { count = part.0; short = part.1; read = part.2 }) (λ e. let part = c.in_err-text.ensures.memory (ap Err e) in record { count = part.0; short = part.1; read = part.2 }) refl)

pub returns-in_err-text-clause-counts : goal.returns-in_err-text-clause-counts
returns-in_err-text-clause-counts g c link depot = counted_err c.from_residual.result (stop_of_read c.in_err-text.field-0.0) (g.S.Source.faults c.args.input.now) (g.S.Source.faults c.read_all.new.source) (counts_of link depot (g.K.Sink.faults c.args.output.now)) (counts_of link depot (g.K.Sink.faults c.args.output.now)) c.from_residual.ensures.1 (unread_counts c.in_err-text.field-0.0 (g.S.Source.faults c.args.input.now) (g.S.Source.faults c.read_all.new.source) (counts_of link depot (g.K.Sink.faults c.args.output.now)) (λ e. c.in_err-text.ensures.faults_counted (ap Err e)) c.read_all.ensures.faults_monotone (same_err (Err c.in_err-text.field-0.0) c.in_err-text.field-0.0 read.ReadFault refl c.in_err-text.ensures.faults_unchanged))

pub returns-in_err-play-clause-counts : goal.returns-in_err-play-clause-counts
returns-in_err-play-clause-counts g c link depot = counted_err c.from_residual-in_err-play.result (stop_of_play c.in_err-play.field-0.0) (g.S.Source.faults c.args.input.now) (g.S.Source.faults c.read_all.new.source) (counts_of link depot (g.K.Sink.faults c.args.output.now)) (counts_of link depot (g.K.Sink.faults c.play.new.output)) c.from_residual-in_err-play.ensures.1 (played_counts c.in_err-play.field-0.0 (g.S.Source.faults c.args.input.now) (g.S.Source.faults c.read_all.new.source) link depot (g.K.Sink.faults c.args.output.now) (g.K.Sink.faults c.play.new.output) (ok_or (Ok c.in_ok-text.text) c.in_ok-text.text read.ReadFault refl c.in_ok-text.ensures.faults_unchanged) (λ e. c.in_err-play.ensures.faults_counted (ap Err e)) c.play.ensures.faults_monotone (same_err (Err c.in_err-play.field-0.0) c.in_err-play.field-0.0 play.WriteFault refl c.in_err-play.ensures.faults_unchanged))

pub returns-clause-counts : goal.returns-clause-counts
returns-clause-counts g c link depot = ((ok_or (Ok c.in_ok-text.text) c.in_ok-text.text read.ReadFault refl c.in_ok-text.ensures.faults_unchanged), output_counts link depot (g.K.Sink.faults c.args.output.now) (g.K.Sink.faults c.play.new.output) (ok_or (Ok tt) tt play.WriteFault refl c.in_ok-play.ensures.faults_unchanged))
