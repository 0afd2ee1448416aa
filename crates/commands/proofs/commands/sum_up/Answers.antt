use Rattle.std.proofs.Common.{refl}
use Rattle.commands.specs.declared.stop.Stop.TheVariants as stop
use Rattle.commands.specs.Stopping.{counts_of}
use Rattle.commands.proofs.Stops.{answers_counts, counted_err, output_counts}
use Rattle.commands.proofs.commands.sum_up.Goals as goal

pub returns-in_err-script-clause-counts : goal.returns-in_err-script-clause-counts
returns-in_err-script-clause-counts g c input link depot = counted_err c.from_residual.result stop.OutOfMemory input input (counts_of link depot (g.K.Sink.faults c.args.output.now)) (counts_of link depot (g.K.Sink.faults c.args.output.now)) c.from_residual.ensures.1 (refl, refl)

pub returns-in_err-answers-clause-counts : goal.returns-in_err-answers-clause-counts
returns-in_err-answers-clause-counts g c input link depot = counted_err c.from_residual-in_err-answers.result c.in_err-answers.field-0.0 input input (counts_of link depot (g.K.Sink.faults c.args.output.now)) (counts_of link depot (g.K.Sink.faults c.args.output.now)) c.from_residual-in_err-answers.ensures.1 (answers_counts _ c.in_err-answers.field-0.0 input (counts_of link depot (g.K.Sink.faults c.args.output.now)) c.in_err-answers.ensures.stops)

pub returns-in_err-line-clause-counts : goal.returns-in_err-line-clause-counts
returns-in_err-line-clause-counts g c input link depot = counted_err c.from_residual-in_err-line.result stop.OutOfMemory input input (counts_of link depot (g.K.Sink.faults c.args.output.now)) (counts_of link depot (g.K.Sink.faults c.args.output.now)) c.from_residual-in_err-line.ensures.1 (refl, refl)

pub returns-in_err-write_text-clause-counts : goal.returns-in_err-write_text-clause-counts
returns-in_err-write_text-clause-counts g c input link depot = counted_err c.from_residual-in_err-write_text.result stop.WriteFault input input (counts_of link depot (g.K.Sink.faults c.args.output.now)) (counts_of link depot (g.K.Sink.faults c.write_text.new.output)) c.from_residual-in_err-write_text.ensures.1 (refl, (c.write_text.ensures.faults_monotone, c.in_err-write_text.ensures.faults_counted), refl)

pub returns-clause-counts : goal.returns-clause-counts
returns-clause-counts g c input link depot = (refl, output_counts link depot (g.K.Sink.faults c.args.output.now) (g.K.Sink.faults c.write_text.new.output) c.in_ok-write_text.ensures.faults_unchanged)
