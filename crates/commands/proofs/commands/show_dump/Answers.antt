use Rattle.std.proofs.Common.{◌≡◌, [], ℕ, ap, length, refl, subst, ◌∙◌}
use Rattle.std.specs.declared.alloc.Global.{Global}
use Rattle.std.specs.declared.vec.Vec.{Vec}
use Rattle.protocol.specs.Dumps.{Good, read_dump}
use Rattle.dump_writer.specs.Text.{text_of}
use Rattle.host_ports.specs.Streams.{Puts}
use Rattle.node_rules.specs.Told.{Counts}
use Rattle.script_runner.specs.Playing.{PutsPrefix}
use Rattle.script_runner.proofs.Prefixes.{if_err_is}
use Rattle.commands.specs.declared.stop.Stop.TheVariants as stop
use Rattle.commands.specs.Stopping.{ShowStops, counts_of, over_depot, stop_of_dump}
use Rattle.commands.proofs.Stops.{counted_err, dump_counts, look_counts, output_counts, show_cut_off, shown}
use Rattle.commands.proofs.commands.show_dump.Goals as goal

pub returns-in_err-write_text-clause-stops : goal.returns-in_err-write_text-clause-stops
returns-in_err-write_text-clause-stops g c r =
    if_err_is c.from_residual-in_err-write_text.result (ShowStops text_of c.args.name (over_depot r (g.K.Sink.held c.args.output.now) (g.K.Sink.held c.write_text.new.output) (g.D.Depot.held c.args.depot.now) (g.D.Depot.held c.look_up.new.depot))) stop.WriteFault c.from_residual-in_err-write_text.ensures.1
    (show_cut_off text_of c.args.name (over_depot r (g.K.Sink.held c.args.output.now) (g.K.Sink.held c.write_text.new.output) (g.D.Depot.held c.args.depot.now) (g.D.Depot.held c.look_up.new.depot)) c.in_ok-bytes.bytes.items c.in_ok-bytes.ensures.found c.in_ok-image.image (length c.as_slice.result.now) [] (subst (λ bs. read_dump bs ≡ Good c.in_ok-image.image (length c.as_slice.result.now) []) c.as_slice.ensures.value c.in_ok-image.ensures.image) (subst (PutsPrefix (g.K.Sink.held c.args.output.now) (g.K.Sink.held c.write_text.new.output)) (c.as_slice-2.ensures.value ∙ c.in_ok-text.ensures) c.in_err-write_text.ensures.part))

pub returns-clause-done : goal.returns-clause-done
returns-clause-done g c r =
    shown text_of c.args.name (over_depot r (g.K.Sink.held c.args.output.now) (g.K.Sink.held c.write_text.new.output) (g.D.Depot.held c.args.depot.now) (g.D.Depot.held c.look_up.new.depot)) c.in_ok-bytes.bytes.items c.in_ok-bytes.ensures.found c.in_ok-image.image (length c.as_slice.result.now) [] (subst (λ bs. read_dump bs ≡ Good c.in_ok-image.image (length c.as_slice.result.now) []) c.as_slice.ensures.value c.in_ok-image.ensures.image) (subst (Puts (g.K.Sink.held c.args.output.now) (g.K.Sink.held c.write_text.new.output)) (c.as_slice-2.ensures.value ∙ c.in_ok-text.ensures) c.in_ok-write_text.ensures.whole)

pub returns-in_err-bytes-clause-counts : goal.returns-in_err-bytes-clause-counts
returns-in_err-bytes-clause-counts g c input link = counted_err c.from_residual.result c.in_err-bytes.field-0.0 input input (counts_of link (g.D.Depot.faults c.args.depot.now) (g.K.Sink.faults c.args.output.now)) (counts_of link (g.D.Depot.faults c.look_up.new.depot) (g.K.Sink.faults c.args.output.now)) c.from_residual.ensures.1 (look_counts (Vec ℕ Global) c.in_err-bytes.field-0.0 input (counts_of link (g.D.Depot.faults c.args.depot.now) (g.K.Sink.faults c.args.output.now)) (counts_of link (g.D.Depot.faults c.look_up.new.depot) (g.K.Sink.faults c.args.output.now)) (c.in_err-bytes.ensures.counts input link (g.K.Sink.faults c.args.output.now)))

pub returns-in_err-image-clause-counts : goal.returns-in_err-image-clause-counts
returns-in_err-image-clause-counts g c input link = counted_err c.from_residual-in_err-image.result (stop_of_dump c.in_err-image.field-0.0) input input (counts_of link (g.D.Depot.faults c.args.depot.now) (g.K.Sink.faults c.args.output.now)) (counts_of link (g.D.Depot.faults c.look_up.new.depot) (g.K.Sink.faults c.args.output.now)) c.from_residual-in_err-image.ensures.1 (dump_counts c.in_err-image.field-0.0 input (counts_of link (g.D.Depot.faults c.args.depot.now) (g.K.Sink.faults c.args.output.now)) (counts_of link (g.D.Depot.faults c.look_up.new.depot) (g.K.Sink.faults c.args.output.now)) (c.in_ok-bytes.ensures.counts input link (g.K.Sink.faults c.args.output.now)).1)

pub returns-in_err-text-clause-counts : goal.returns-in_err-text-clause-counts
returns-in_err-text-clause-counts g c input link = counted_err c.from_residual-in_err-text.result stop.OutOfMemory input input (counts_of link (g.D.Depot.faults c.args.depot.now) (g.K.Sink.faults c.args.output.now)) (counts_of link (g.D.Depot.faults c.look_up.new.depot) (g.K.Sink.faults c.args.output.now)) c.from_residual-in_err-text.ensures.1 (refl, (c.in_ok-bytes.ensures.counts input link (g.K.Sink.faults c.args.output.now)).1)

pub returns-in_err-write_text-clause-counts : goal.returns-in_err-write_text-clause-counts
returns-in_err-write_text-clause-counts g c input link = counted_err c.from_residual-in_err-write_text.result stop.WriteFault input input (counts_of link (g.D.Depot.faults c.args.depot.now) (g.K.Sink.faults c.args.output.now)) (counts_of link (g.D.Depot.faults c.look_up.new.depot) (g.K.Sink.faults c.write_text.new.output)) c.from_residual-in_err-write_text.ensures.1 (refl, (c.write_text.ensures.faults_monotone, c.in_err-write_text.ensures.faults_counted), ap (λ (k : Counts). record k { output = (g.K.Sink.faults c.write_text.new.output) }) ((c.in_ok-bytes.ensures.counts input link (g.K.Sink.faults c.args.output.now)).1))

pub returns-clause-counts : goal.returns-clause-counts
returns-clause-counts g c input link = (refl, output_counts link (g.D.Depot.faults c.look_up.new.depot) (g.K.Sink.faults c.args.output.now) (g.K.Sink.faults c.write_text.new.output) c.in_ok-write_text.ensures.faults_unchanged ∙ (c.in_ok-bytes.ensures.counts input link (g.K.Sink.faults c.args.output.now)).1)
