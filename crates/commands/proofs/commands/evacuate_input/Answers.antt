use Rattle.std.proofs.Common.{rules, ◌≡◌, ◌∙◌, Err, Ok, None, ap, refl, subst, sym}
use Rattle.host_ports.specs.Streams.{Puts}
use Rattle.host_ports.specs.declared.reading.ReadAllFault.TheVariants as read
use Rattle.script_runner.specs.declared.fault.PlayFault.TheVariants as play
use Rattle.law_kept_datagrams.specs.Alike.{with_kept_datagrams}
use Rattle.law_headline.specs.Left.{world_of}
use Rattle.law_headline.specs.Script.{answers_text, bad_line}
use Rattle.law_headline.specs.Follows.{IsFollowed}
use Rattle.script_runner.specs.Playing.{PutsPrefix}
use Rattle.script_runner.proofs.Prefixes.{if_err_is}
use Rattle.commands.specs.Stopping.{EvacuateStops, counts_of, over, stop_of_play, stop_of_read}
use Rattle.node_rules.specs.Stops.{Rises}
use Rattle.commands.specs.declared.stop.Stop.TheVariants as stop
use Rattle.commands.proofs.Stops.{counted_err, evacuate_unread, evacuated, held_back, nothing_told, ok_or, output_counts, played_counts, read_stopped, same_err, told_in_part, unread_counts}
use Rattle.commands.proofs.commands.evacuate_input.Goals as goal

pub returns-in_err-text-clause-stops : goal.returns-in_err-text-clause-stops
returns-in_err-text-clause-stops g c r =
    let run = (over r (g.S.Source.left c.args.input.now) (g.S.Source.left c.read_all.new.source) (g.K.Sink.held c.args.output.now) (g.K.Sink.held c.args.output.now)) in
    if_err_is c.from_residual.result (EvacuateStops c.args.from c.args.targets.now run) (stop_of_read c.in_err-text.field-0.0) c.from_residual.ensures.1
    (evacuate_unread c.args.from c.args.targets.now run c.in_err-text.field-0.0
    (read_stopped run c.in_err-text.field-0.0 (λ e. c.in_err-text.ensures.long (ap Err e)) (λ e. let part = c.in_err-text.ensures.fault (ap Err e) in record { count = part.0; short = part.1; read = part.2 }) (λ e. let part = c.in_err-text.ensures.memory (ap Err e) in record { count = part.0; short = part.1; read = part.2 }) refl))

pub returns-in_err-tale-clause-stops : goal.returns-in_err-tale-clause-stops
returns-in_err-tale-clause-stops g c r =
    let run = (over r (g.S.Source.left c.args.input.now) (g.S.Source.left c.read_all.new.source) (g.K.Sink.held c.args.output.now) (g.K.Sink.held c.play_world.new.output)) in
    if_err_is c.from_residual-in_err-tale.result (EvacuateStops c.args.from c.args.targets.now run) stop.OutOfMemory c.from_residual-in_err-tale.ensures.1
    (nothing_told c.args.from c.args.targets.now run c.evacuations_are_followed.ensures c.in_ok-text.text.items c.in_ok-text.ensures.all c.in_ok-text.ensures.short (subst IsFollowed c.as_slice.ensures.value c.in_ok-world.ensures.followed) (subst (λ xs. Puts (g.K.Sink.held c.args.output.now) (g.K.Sink.held c.play_world.new.output) (answers_text xs)) c.as_slice.ensures.value c.in_ok-world.ensures.whole))

pub returns-in_err-write_text-clause-stops : goal.returns-in_err-write_text-clause-stops
returns-in_err-write_text-clause-stops g c r =
    let run = (over r (g.S.Source.left c.args.input.now) (g.S.Source.left c.read_all.new.source) (g.K.Sink.held c.args.output.now) (g.K.Sink.held c.write_text.new.output)) in
    if_err_is c.from_residual-in_err-write_text.result (EvacuateStops c.args.from c.args.targets.now run) stop.WriteFault c.from_residual-in_err-write_text.ensures.1
    (told_in_part c.args.from c.args.targets.now run c.evacuations_are_followed.ensures c.in_ok-text.text.items c.in_ok-text.ensures.all c.in_ok-text.ensures.short (subst IsFollowed c.as_slice.ensures.value c.in_ok-world.ensures.followed) (subst (λ xs. bad_line xs ≡ None) c.as_slice.ensures.value c.in_ok-world.ensures.good) (g.K.Sink.held c.play_world.new.output) (subst (λ xs. Puts (g.K.Sink.held c.args.output.now) (g.K.Sink.held c.play_world.new.output) (answers_text xs)) c.as_slice.ensures.value c.in_ok-world.ensures.whole) c.in_ok-tale.tale.text.items (c.in_ok-tale.ensures (world_of c.in_ok-text.text.items) (subst (λ xs. c.in_ok-world.world ≡ with_kept_datagrams (world_of xs)) c.as_slice.ensures.value c.in_ok-world.ensures.left.left)).0 (subst (PutsPrefix (g.K.Sink.held c.play_world.new.output) (g.K.Sink.held c.write_text.new.output)) c.as_slice-2.ensures.value c.in_err-write_text.ensures.part))

pub returns-then-not-tale-clause-stops : goal.returns-then-not-tale-clause-stops
returns-then-not-tale-clause-stops g c r =
    held_back c.args.from c.args.targets.now (over r (g.S.Source.left c.args.input.now) (g.S.Source.left c.read_all.new.source) (g.K.Sink.held c.args.output.now) (g.K.Sink.held c.write_text.new.output)) c.evacuations_are_followed.ensures c.in_ok-text.text.items c.in_ok-text.ensures.all c.in_ok-text.ensures.short (subst IsFollowed c.as_slice.ensures.value c.in_ok-world.ensures.followed) (subst (λ xs. bad_line xs ≡ None) c.as_slice.ensures.value c.in_ok-world.ensures.good) (g.K.Sink.held c.play_world.new.output) (subst (λ xs. Puts (g.K.Sink.held c.args.output.now) (g.K.Sink.held c.play_world.new.output) (answers_text xs)) c.as_slice.ensures.value c.in_ok-world.ensures.whole) c.in_ok-tale.tale.text.items (c.in_ok-tale.ensures (world_of c.in_ok-text.text.items) (subst (λ xs. c.in_ok-world.world ≡ with_kept_datagrams (world_of xs)) c.as_slice.ensures.value c.in_ok-world.ensures.left.left)).0 (subst (Puts (g.K.Sink.held c.play_world.new.output) (g.K.Sink.held c.write_text.new.output)) c.as_slice-2.ensures.value c.in_ok-write_text.ensures.whole) (sym (c.in_ok-tale.ensures (world_of c.in_ok-text.text.items) (subst (λ xs. c.in_ok-world.world ≡ with_kept_datagrams (world_of xs)) c.as_slice.ensures.value c.in_ok-world.ensures.left.left)).1 ∙ search (rules, c.if-not-tale.true))

pub returns-clause-done : goal.returns-clause-done
returns-clause-done g c r =
    evacuated c.args.from c.args.targets.now (over r (g.S.Source.left c.args.input.now) (g.S.Source.left c.read_all.new.source) (g.K.Sink.held c.args.output.now) (g.K.Sink.held c.write_text.new.output)) c.evacuations_are_followed.ensures c.in_ok-text.text.items c.in_ok-text.ensures.all c.in_ok-text.ensures.short (subst IsFollowed c.as_slice.ensures.value c.in_ok-world.ensures.followed) (subst (λ xs. bad_line xs ≡ None) c.as_slice.ensures.value c.in_ok-world.ensures.good) (g.K.Sink.held c.play_world.new.output) (subst (λ xs. Puts (g.K.Sink.held c.args.output.now) (g.K.Sink.held c.play_world.new.output) (answers_text xs)) c.as_slice.ensures.value c.in_ok-world.ensures.whole) c.in_ok-tale.tale.text.items (c.in_ok-tale.ensures (world_of c.in_ok-text.text.items) (subst (λ xs. c.in_ok-world.world ≡ with_kept_datagrams (world_of xs)) c.as_slice.ensures.value c.in_ok-world.ensures.left.left)).0 (subst (Puts (g.K.Sink.held c.play_world.new.output) (g.K.Sink.held c.write_text.new.output)) c.as_slice-2.ensures.value c.in_ok-write_text.ensures.whole) (sym (c.in_ok-tale.ensures (world_of c.in_ok-text.text.items) (subst (λ xs. c.in_ok-world.world ≡ with_kept_datagrams (world_of xs)) c.as_slice.ensures.value c.in_ok-world.ensures.left.left)).1 ∙ search (rules, c.if-not-tale.false))

pub returns-in_err-text-clause-counts : goal.returns-in_err-text-clause-counts
returns-in_err-text-clause-counts g c link depot = counted_err c.from_residual.result (stop_of_read c.in_err-text.field-0.0) (g.S.Source.faults c.args.input.now) (g.S.Source.faults c.read_all.new.source) (counts_of link depot (g.K.Sink.faults c.args.output.now)) (counts_of link depot (g.K.Sink.faults c.args.output.now)) c.from_residual.ensures.1 (unread_counts c.in_err-text.field-0.0 (g.S.Source.faults c.args.input.now) (g.S.Source.faults c.read_all.new.source) (counts_of link depot (g.K.Sink.faults c.args.output.now)) (λ e. c.in_err-text.ensures.faults_counted (ap Err e)) c.read_all.ensures.faults_monotone (same_err (Err c.in_err-text.field-0.0) c.in_err-text.field-0.0 read.ReadFault refl c.in_err-text.ensures.faults_unchanged))

pub returns-in_err-world-clause-counts : goal.returns-in_err-world-clause-counts
returns-in_err-world-clause-counts g c link depot = counted_err c.from_residual-in_err-world.result (stop_of_play c.in_err-world.field-0.0) (g.S.Source.faults c.args.input.now) (g.S.Source.faults c.read_all.new.source) (counts_of link depot (g.K.Sink.faults c.args.output.now)) (counts_of link depot (g.K.Sink.faults c.play_world.new.output)) c.from_residual-in_err-world.ensures.1 (played_counts c.in_err-world.field-0.0 (g.S.Source.faults c.args.input.now) (g.S.Source.faults c.read_all.new.source) link depot (g.K.Sink.faults c.args.output.now) (g.K.Sink.faults c.play_world.new.output) (ok_or (Ok c.in_ok-text.text) c.in_ok-text.text read.ReadFault refl c.in_ok-text.ensures.faults_unchanged) (λ e. c.in_err-world.ensures.faults_counted (ap Err e)) c.play_world.ensures.faults_monotone (same_err (Err c.in_err-world.field-0.0) c.in_err-world.field-0.0 play.WriteFault refl c.in_err-world.ensures.faults_unchanged))

pub returns-in_err-tale-clause-counts : goal.returns-in_err-tale-clause-counts
returns-in_err-tale-clause-counts g c link depot = counted_err c.from_residual-in_err-tale.result stop.OutOfMemory (g.S.Source.faults c.args.input.now) (g.S.Source.faults c.read_all.new.source) (counts_of link depot (g.K.Sink.faults c.args.output.now)) (counts_of link depot (g.K.Sink.faults c.play_world.new.output)) c.from_residual-in_err-tale.ensures.1 ((ok_or (Ok c.in_ok-text.text) c.in_ok-text.text read.ReadFault refl c.in_ok-text.ensures.faults_unchanged), output_counts link depot (g.K.Sink.faults c.args.output.now) (g.K.Sink.faults c.play_world.new.output) (ok_or (Ok c.in_ok-world.world) c.in_ok-world.world play.WriteFault refl c.in_ok-world.ensures.faults_unchanged))

pub returns-in_err-write_text-clause-counts : goal.returns-in_err-write_text-clause-counts
returns-in_err-write_text-clause-counts g c link depot = counted_err c.from_residual-in_err-write_text.result stop.WriteFault (g.S.Source.faults c.args.input.now) (g.S.Source.faults c.read_all.new.source) (counts_of link depot (g.K.Sink.faults c.args.output.now)) (counts_of link depot (g.K.Sink.faults c.write_text.new.output)) c.from_residual-in_err-write_text.ensures.1 ((ok_or (Ok c.in_ok-text.text) c.in_ok-text.text read.ReadFault refl c.in_ok-text.ensures.faults_unchanged), subst (λ k. Rises k (g.K.Sink.faults c.write_text.new.output)) (ok_or (Ok c.in_ok-world.world) c.in_ok-world.world play.WriteFault refl c.in_ok-world.ensures.faults_unchanged) (c.write_text.ensures.faults_monotone, c.in_err-write_text.ensures.faults_counted), refl)

pub returns-then-not-tale-clause-counts : goal.returns-then-not-tale-clause-counts
returns-then-not-tale-clause-counts g c link depot = ((ok_or (Ok c.in_ok-text.text) c.in_ok-text.text read.ReadFault refl c.in_ok-text.ensures.faults_unchanged), output_counts link depot (g.K.Sink.faults c.args.output.now) (g.K.Sink.faults c.write_text.new.output) (c.in_ok-write_text.ensures.faults_unchanged ∙ (ok_or (Ok c.in_ok-world.world) c.in_ok-world.world play.WriteFault refl c.in_ok-world.ensures.faults_unchanged)))

pub returns-clause-counts : goal.returns-clause-counts
returns-clause-counts g c link depot = ((ok_or (Ok c.in_ok-text.text) c.in_ok-text.text read.ReadFault refl c.in_ok-text.ensures.faults_unchanged), output_counts link depot (g.K.Sink.faults c.args.output.now) (g.K.Sink.faults c.write_text.new.output) (c.in_ok-write_text.ensures.faults_unchanged ∙ (ok_or (Ok c.in_ok-world.world) c.in_ok-world.world play.WriteFault refl c.in_ok-world.ensures.faults_unchanged)))
