use Rattle.std.proofs.Common.{Err, Ok, ap, refl, subst}
use Rattle.host_ports.specs.declared.reading.ReadAllFault.TheVariants as read
use Rattle.node_rules.specs.Script.{node_plan}
use Rattle.node_engine.specs.Answered.{Answers}
use Rattle.commands.specs.Stopping.{counts_of, stop_of_node, stop_of_read}
use Rattle.commands.proofs.Stops.{counted_err, node_err, node_stop_counts, node_stopped, node_unread, ok_or, same_err, unread_counts}
use Rattle.commands.proofs.commands.run_device.Goals as goal

pub returns-in_err-script-clause-ends : goal.returns-in_err-script-clause-ends
returns-in_err-script-clause-ends g c r =
    let run = (record r { left = (g.S.Source.left c.args.input.now); left_after = (g.S.Source.left c.read_all.new.source); before = (record { waiting = g.L.Link.waiting c.args.ports.now.link; sent = g.L.Link.sent c.args.ports.now.link; to_come = g.C.Ticks.to_come c.args.ports.now.ticks; held = g.D.Depot.held c.args.ports.now.depot; written = g.K.Sink.held c.args.ports.now.output; faults = record { link = g.L.Link.faults c.args.ports.now.link; depot = g.D.Depot.faults c.args.ports.now.depot; output = g.K.Sink.faults c.args.ports.now.output } }); after = (record { waiting = g.L.Link.waiting c.args.ports.now.link; sent = g.L.Link.sent c.args.ports.now.link; to_come = g.C.Ticks.to_come c.args.ports.now.ticks; held = g.D.Depot.held c.args.ports.now.depot; written = g.K.Sink.held c.args.ports.now.output; faults = record { link = g.L.Link.faults c.args.ports.now.link; depot = g.D.Depot.faults c.args.ports.now.depot; output = g.K.Sink.faults c.args.ports.now.output } }) }) in
    node_err c.args.id c.args.own run c.from_residual.result (stop_of_read c.in_err-script.field-0.0) c.from_residual.ensures.1
    (node_unread c.args.id c.args.own run c.in_err-script.field-0.0 (λ e. c.in_err-script.ensures.long (ap Err e)) (λ e. let part = c.in_err-script.ensures.fault (ap Err e) in record { count = part.0; short = part.1; read = part.2 }) (λ e. let part = c.in_err-script.ensures.memory (ap Err e) in record { count = part.0; short = part.1; read = part.2 }) refl)

pub returns-in_err-script-clause-counts : goal.returns-in_err-script-clause-counts
returns-in_err-script-clause-counts g c = counted_err c.from_residual.result (stop_of_read c.in_err-script.field-0.0) (g.S.Source.faults c.args.input.now) (g.S.Source.faults c.read_all.new.source) (counts_of (g.L.Link.faults c.args.ports.now.link) (g.D.Depot.faults c.args.ports.now.depot) (g.K.Sink.faults c.args.ports.now.output)) (counts_of (g.L.Link.faults c.args.ports.now.link) (g.D.Depot.faults c.args.ports.now.depot) (g.K.Sink.faults c.args.ports.now.output)) c.from_residual.ensures.1 (unread_counts c.in_err-script.field-0.0 (g.S.Source.faults c.args.input.now) (g.S.Source.faults c.read_all.new.source) (counts_of (g.L.Link.faults c.args.ports.now.link) (g.D.Depot.faults c.args.ports.now.depot) (g.K.Sink.faults c.args.ports.now.output)) (λ e. c.in_err-script.ensures.faults_counted (ap Err e)) c.read_all.ensures.faults_monotone (same_err (Err c.in_err-script.field-0.0) c.in_err-script.field-0.0 read.ReadFault refl c.in_err-script.ensures.faults_unchanged))

pub returns-in_err-run_node-clause-ends : goal.returns-in_err-run_node-clause-ends
returns-in_err-run_node-clause-ends g c r =
    let run = (record r { left = (g.S.Source.left c.args.input.now); left_after = (g.S.Source.left c.read_all.new.source); before = (record { waiting = g.L.Link.waiting c.args.ports.now.link; sent = g.L.Link.sent c.args.ports.now.link; to_come = g.C.Ticks.to_come c.args.ports.now.ticks; held = g.D.Depot.held c.args.ports.now.depot; written = g.K.Sink.held c.args.ports.now.output; faults = record { link = g.L.Link.faults c.args.ports.now.link; depot = g.D.Depot.faults c.args.ports.now.depot; output = g.K.Sink.faults c.args.ports.now.output } }); after = (record { waiting = g.L.Link.waiting c.run_node.new.ports.link; sent = g.L.Link.sent c.run_node.new.ports.link; to_come = g.C.Ticks.to_come c.run_node.new.ports.ticks; held = g.D.Depot.held c.run_node.new.ports.depot; written = g.K.Sink.held c.run_node.new.ports.output; faults = record { link = g.L.Link.faults c.run_node.new.ports.link; depot = g.D.Depot.faults c.run_node.new.ports.depot; output = g.K.Sink.faults c.run_node.new.ports.output } }) }) in
    node_err c.args.id c.args.own run c.from_residual-in_err-run_node.result (stop_of_node c.in_err-run_node.field-0.0) c.from_residual-in_err-run_node.ensures.1
    (node_stopped c.args.id c.args.own run c.in_ok-script.script.items c.in_ok-script.ensures.all c.in_ok-script.ensures.short c.in_err-run_node.field-0.0 (subst (λ xs. Answers {U = Unit {0}} (node_plan c.args.id c.args.own xs) (record { waiting = g.L.Link.waiting c.args.ports.now.link; sent = g.L.Link.sent c.args.ports.now.link; to_come = g.C.Ticks.to_come c.args.ports.now.ticks; held = g.D.Depot.held c.args.ports.now.depot; written = g.K.Sink.held c.args.ports.now.output; faults = record { link = g.L.Link.faults c.args.ports.now.link; depot = g.D.Depot.faults c.args.ports.now.depot; output = g.K.Sink.faults c.args.ports.now.output } }) (Err c.in_err-run_node.field-0.0) (record { waiting = g.L.Link.waiting c.run_node.new.ports.link; sent = g.L.Link.sent c.run_node.new.ports.link; to_come = g.C.Ticks.to_come c.run_node.new.ports.ticks; held = g.D.Depot.held c.run_node.new.ports.depot; written = g.K.Sink.held c.run_node.new.ports.output; faults = record { link = g.L.Link.faults c.run_node.new.ports.link; depot = g.D.Depot.faults c.run_node.new.ports.depot; output = g.K.Sink.faults c.run_node.new.ports.output } })) c.as_slice.ensures.value c.in_err-run_node.ensures.run))

pub returns-in_err-run_node-clause-counts : goal.returns-in_err-run_node-clause-counts
returns-in_err-run_node-clause-counts g c = counted_err c.from_residual-in_err-run_node.result (stop_of_node c.in_err-run_node.field-0.0) (g.S.Source.faults c.args.input.now) (g.S.Source.faults c.read_all.new.source) (counts_of (g.L.Link.faults c.args.ports.now.link) (g.D.Depot.faults c.args.ports.now.depot) (g.K.Sink.faults c.args.ports.now.output)) (counts_of (g.L.Link.faults c.run_node.new.ports.link) (g.D.Depot.faults c.run_node.new.ports.depot) (g.K.Sink.faults c.run_node.new.ports.output)) c.from_residual-in_err-run_node.ensures.1 (node_stop_counts c.in_err-run_node.field-0.0 (g.S.Source.faults c.args.input.now) (g.S.Source.faults c.read_all.new.source) (counts_of (g.L.Link.faults c.args.ports.now.link) (g.D.Depot.faults c.args.ports.now.depot) (g.K.Sink.faults c.args.ports.now.output)) (counts_of (g.L.Link.faults c.run_node.new.ports.link) (g.D.Depot.faults c.run_node.new.ports.depot) (g.K.Sink.faults c.run_node.new.ports.output)) (ok_or (Ok c.in_ok-script.script) c.in_ok-script.script read.ReadFault refl c.in_ok-script.ensures.faults_unchanged) c.in_err-run_node.ensures.faults)

pub returns-clause-ends : goal.returns-clause-ends
returns-clause-ends g c r =
    record { text = c.in_ok-script.script.items; read = c.in_ok-script.ensures.all; short = c.in_ok-script.ensures.short; stopped = subst (λ xs. Answers {U = Unit {0}} (node_plan c.args.id c.args.own xs) (record { waiting = g.L.Link.waiting c.args.ports.now.link; sent = g.L.Link.sent c.args.ports.now.link; to_come = g.C.Ticks.to_come c.args.ports.now.ticks; held = g.D.Depot.held c.args.ports.now.depot; written = g.K.Sink.held c.args.ports.now.output; faults = record { link = g.L.Link.faults c.args.ports.now.link; depot = g.D.Depot.faults c.args.ports.now.depot; output = g.K.Sink.faults c.args.ports.now.output } }) (Ok tt) (record { waiting = g.L.Link.waiting c.run_node.new.ports.link; sent = g.L.Link.sent c.run_node.new.ports.link; to_come = g.C.Ticks.to_come c.run_node.new.ports.ticks; held = g.D.Depot.held c.run_node.new.ports.depot; written = g.K.Sink.held c.run_node.new.ports.output; faults = record { link = g.L.Link.faults c.run_node.new.ports.link; depot = g.D.Depot.faults c.run_node.new.ports.depot; output = g.K.Sink.faults c.run_node.new.ports.output } })) c.as_slice.ensures.value c.in_ok-run_node.ensures.run }

pub returns-clause-counts : goal.returns-clause-counts
returns-clause-counts g c = ((ok_or (Ok c.in_ok-script.script) c.in_ok-script.script read.ReadFault refl c.in_ok-script.ensures.faults_unchanged), c.in_ok-run_node.ensures.faults)
