use Rattle.std.proofs.Common.{Err, ap, sym, ◌∙◌}
use Rattle.dump_writer.specs.Text.{text_of}
use Rattle.commands.specs.Stopping.{run_of}
use Rattle.commands.proofs.Ending.{cut_ends, done_ends, stop_4, stop_7, stop_ends}
use Rattle.commands.proofs.serial.run.Goals as goal

pub returns-in-Ok-clause-ends : goal.returns-in-Ok-clause-ends
returns-in-Ok-clause-ends g c =
    let r = run_of c.args.words.now (g.S.Source.left c.args.input.now) (g.S.Source.left c.perform.new.input) (g.S.Source.faults c.args.input.now) (g.S.Source.faults c.perform.new.input) (record { waiting = g.L.Link.waiting c.args.ports.now.link; sent = g.L.Link.sent c.args.ports.now.link; to_come = g.C.Ticks.to_come c.args.ports.now.ticks; held = g.D.Depot.held c.args.ports.now.depot; written = g.K.Sink.held c.args.ports.now.output; faults = record { link = g.L.Link.faults c.args.ports.now.link; depot = g.D.Depot.faults c.args.ports.now.depot; output = g.K.Sink.faults c.args.ports.now.output } }) (record { waiting = g.L.Link.waiting c.perform.new.ports.link; sent = g.L.Link.sent c.perform.new.ports.link; to_come = g.C.Ticks.to_come c.perform.new.ports.ticks; held = g.D.Depot.held c.perform.new.ports.depot; written = g.K.Sink.held c.perform.new.ports.output; faults = record { link = g.L.Link.faults c.perform.new.ports.link; depot = g.D.Depot.faults c.perform.new.ports.depot; output = g.K.Sink.faults c.perform.new.ports.output } }) in
    done_ends text_of r tt c.in-Ok.ensures.performs

pub returns-in-Ok-write_last_line-clause-ends : goal.returns-in-Ok-write_last_line-clause-ends
returns-in-Ok-write_last_line-clause-ends g c =
    let r = run_of c.args.words.now (g.S.Source.left c.args.input.now) (g.S.Source.left c.perform.new.input) (g.S.Source.faults c.args.input.now) (g.S.Source.faults c.perform.new.input) (record { waiting = g.L.Link.waiting c.args.ports.now.link; sent = g.L.Link.sent c.args.ports.now.link; to_come = g.C.Ticks.to_come c.args.ports.now.ticks; held = g.D.Depot.held c.args.ports.now.depot; written = g.K.Sink.held c.args.ports.now.output; faults = record { link = g.L.Link.faults c.args.ports.now.link; depot = g.D.Depot.faults c.args.ports.now.depot; output = g.K.Sink.faults c.args.ports.now.output } }) (record { waiting = g.L.Link.waiting c.perform.new.ports.link; sent = g.L.Link.sent c.perform.new.ports.link; to_come = g.C.Ticks.to_come c.perform.new.ports.ticks; held = g.D.Depot.held c.perform.new.ports.depot; written = g.K.Sink.held c.perform.new.ports.output; faults = record { link = g.L.Link.faults c.perform.new.ports.link; depot = g.D.Depot.faults c.perform.new.ports.depot; output = g.K.Sink.faults c.perform.new.ports.output } }) in
    stop_ends text_of r c.in-Err.stop c.in-Err.ensures.performs (g.K.Sink.held c.write_last_line.new.output) (g.K.Sink.faults c.write_last_line.new.output) c.in-Ok-write_last_line.ensures.whole c.in-Ok-write_last_line.ensures.faults_unchanged c.status.result c.status.ensures

pub returns-in-Err-write_last_line-clause-ends : goal.returns-in-Err-write_last_line-clause-ends
returns-in-Err-write_last_line-clause-ends g c =
    let r = run_of c.args.words.now (g.S.Source.left c.args.input.now) (g.S.Source.left c.perform.new.input) (g.S.Source.faults c.args.input.now) (g.S.Source.faults c.perform.new.input) (record { waiting = g.L.Link.waiting c.args.ports.now.link; sent = g.L.Link.sent c.args.ports.now.link; to_come = g.C.Ticks.to_come c.args.ports.now.ticks; held = g.D.Depot.held c.args.ports.now.depot; written = g.K.Sink.held c.args.ports.now.output; faults = record { link = g.L.Link.faults c.args.ports.now.link; depot = g.D.Depot.faults c.args.ports.now.depot; output = g.K.Sink.faults c.args.ports.now.output } }) (record { waiting = g.L.Link.waiting c.perform.new.ports.link; sent = g.L.Link.sent c.perform.new.ports.link; to_come = g.C.Ticks.to_come c.perform.new.ports.ticks; held = g.D.Depot.held c.perform.new.ports.depot; written = g.K.Sink.held c.perform.new.ports.output; faults = record { link = g.L.Link.faults c.perform.new.ports.link; depot = g.D.Depot.faults c.perform.new.ports.depot; output = g.K.Sink.faults c.perform.new.ports.output } }) in
    cut_ends text_of r c.in-Err.stop c.in-Err.ensures.performs c.in-Err-write_last_line.ensures.speaks.read c.in-Err-write_last_line.ensures.speaks.write (g.K.Sink.held c.write_last_line.new.output) (g.K.Sink.faults c.write_last_line.new.output) c.in-Err-write_last_line.ensures.part (c.write_last_line.ensures.faults_monotone, c.in-Err-write_last_line.ensures.faults_counted)

pub returns-in-Ok-write_last_line-clause-never_fails : goal.returns-in-Ok-write_last_line-clause-never_fails
returns-in-Ok-write_last_line-clause-never_fails g c s e =
    c.in-Err.ensures.never_fails s (ap Err (stop_4 c.in-Err.stop (sym c.status.ensures ∙ e)))

pub returns-in-Ok-write_last_line-clause-depot_never_fails : goal.returns-in-Ok-write_last_line-clause-depot_never_fails
returns-in-Ok-write_last_line-clause-depot_never_fails g c unless s e =
    c.in-Err.ensures.depot_never_fails unless s (ap Err (stop_7 c.in-Err.stop (sym c.status.ensures ∙ e)))
