use Rattle.std.proofs.Common.{[], Some, ap, refl, subst, sym, ◌∙◌}
use Rattle.dump_writer.specs.Text.{text_of}
use Rattle.program_rules.specs.Commands as rules
use Rattle.program_rules.specs.Runs.{ReadsInput, UsesDepot, UsesLink}
use Rattle.command_line.specs.Commands.{known}
use Rattle.commands.specs.declared.stop.Stop.TheVariants as stop
use Rattle.commands.specs.Stopping.{AuditStops, BulkStops, EvacuateStops, PlayStops, RecordStops, ShowStops, run_of}
use Rattle.commands.proofs.Stops.{err_holds, node_performs, performs}
use Rattle.commands.proofs.serial.carry_out.Goals as goal

pub returns-in-Play-clause-performs : goal.returns-in-Play-clause-performs
returns-in-Play-clause-performs g c words e =
    let r = run_of words (g.S.Source.left c.args.input.now) (g.S.Source.left c.play_input.new.input) (g.S.Source.faults c.args.input.now) (g.S.Source.faults c.play_input.new.input) (record { waiting = g.L.Link.waiting c.args.ports.now.link; sent = g.L.Link.sent c.args.ports.now.link; to_come = g.C.Ticks.to_come c.args.ports.now.ticks; held = g.D.Depot.held c.args.ports.now.depot; written = g.K.Sink.held c.args.ports.now.output; faults = record { link = g.L.Link.faults c.args.ports.now.link; depot = g.D.Depot.faults c.args.ports.now.depot; output = g.K.Sink.faults c.args.ports.now.output } }) (record { waiting = g.L.Link.waiting c.args.ports.now.link; sent = g.L.Link.sent c.args.ports.now.link; to_come = g.C.Ticks.to_come c.args.ports.now.ticks; held = g.D.Depot.held c.args.ports.now.depot; written = g.K.Sink.held c.play_input.new.output; faults = record { link = g.L.Link.faults c.args.ports.now.link; depot = g.D.Depot.faults c.args.ports.now.depot; output = g.K.Sink.faults c.play_input.new.output } }) in
    performs text_of r rules.Play (e ∙ ap (λ x. Some (known x)) c.in-Play.is) c.play_input.result (c.play_input.ensures.done r) (c.play_input.ensures.stops r) (c.play_input.ensures.counts (g.L.Link.faults c.args.ports.now.link) (g.D.Depot.faults c.args.ports.now.depot)) tt refl

pub returns-in-Play-clause-depot_never_fails : goal.returns-in-Play-clause-depot_never_fails
returns-in-Play-clause-depot_never_fails g c unless s e =
    let r = run_of [] (g.S.Source.left c.args.input.now) (g.S.Source.left c.play_input.new.input) (g.S.Source.faults c.args.input.now) (g.S.Source.faults c.play_input.new.input) (record { waiting = g.L.Link.waiting c.args.ports.now.link; sent = g.L.Link.sent c.args.ports.now.link; to_come = g.C.Ticks.to_come c.args.ports.now.ticks; held = g.D.Depot.held c.args.ports.now.depot; written = g.K.Sink.held c.args.ports.now.output; faults = record { link = g.L.Link.faults c.args.ports.now.link; depot = g.D.Depot.faults c.args.ports.now.depot; output = g.K.Sink.faults c.args.ports.now.output } }) (record { waiting = g.L.Link.waiting c.args.ports.now.link; sent = g.L.Link.sent c.args.ports.now.link; to_come = g.C.Ticks.to_come c.args.ports.now.ticks; held = g.D.Depot.held c.args.ports.now.depot; written = g.K.Sink.held c.play_input.new.output; faults = record { link = g.L.Link.faults c.args.ports.now.link; depot = g.D.Depot.faults c.args.ports.now.depot; output = g.K.Sink.faults c.play_input.new.output } }) in
    err_holds c.play_input.result (PlayStops r) stop.DepotFault (c.play_input.ensures.stops r) e

pub returns-in-Play-clause-kept_input : goal.returns-in-Play-clause-kept_input
returns-in-Play-clause-kept_input g c unless =
    absurd (unless (subst (λ x. ReadsInput (Some (known x))) (sym c.in-Play.is) tt))

pub returns-in-Bulk-clause-performs : goal.returns-in-Bulk-clause-performs
returns-in-Bulk-clause-performs g c words e =
    let r = run_of words (g.S.Source.left c.args.input.now) (g.S.Source.left c.args.input.now) (g.S.Source.faults c.args.input.now) (g.S.Source.faults c.args.input.now) (record { waiting = g.L.Link.waiting c.args.ports.now.link; sent = g.L.Link.sent c.args.ports.now.link; to_come = g.C.Ticks.to_come c.args.ports.now.ticks; held = g.D.Depot.held c.args.ports.now.depot; written = g.K.Sink.held c.args.ports.now.output; faults = record { link = g.L.Link.faults c.args.ports.now.link; depot = g.D.Depot.faults c.args.ports.now.depot; output = g.K.Sink.faults c.args.ports.now.output } }) (record { waiting = g.L.Link.waiting c.args.ports.now.link; sent = g.L.Link.sent c.args.ports.now.link; to_come = g.C.Ticks.to_come c.args.ports.now.ticks; held = g.D.Depot.held c.args.ports.now.depot; written = g.K.Sink.held c.sum_up.new.output; faults = record { link = g.L.Link.faults c.args.ports.now.link; depot = g.D.Depot.faults c.args.ports.now.depot; output = g.K.Sink.faults c.sum_up.new.output } }) in
    performs text_of r (rules.Bulk c.in-Bulk.seed c.in-Bulk.mix) (e ∙ ap (λ x. Some (known x)) c.in-Bulk.is) c.sum_up.result (c.sum_up.ensures.done r) (c.sum_up.ensures.stops r) (c.sum_up.ensures.counts (g.S.Source.faults c.args.input.now) (g.L.Link.faults c.args.ports.now.link) (g.D.Depot.faults c.args.ports.now.depot)) refl refl

pub returns-in-Bulk-clause-never_fails : goal.returns-in-Bulk-clause-never_fails
returns-in-Bulk-clause-never_fails g c s e =
    let r = run_of [] (g.S.Source.left c.args.input.now) (g.S.Source.left c.args.input.now) (g.S.Source.faults c.args.input.now) (g.S.Source.faults c.args.input.now) (record { waiting = g.L.Link.waiting c.args.ports.now.link; sent = g.L.Link.sent c.args.ports.now.link; to_come = g.C.Ticks.to_come c.args.ports.now.ticks; held = g.D.Depot.held c.args.ports.now.depot; written = g.K.Sink.held c.args.ports.now.output; faults = record { link = g.L.Link.faults c.args.ports.now.link; depot = g.D.Depot.faults c.args.ports.now.depot; output = g.K.Sink.faults c.args.ports.now.output } }) (record { waiting = g.L.Link.waiting c.args.ports.now.link; sent = g.L.Link.sent c.args.ports.now.link; to_come = g.C.Ticks.to_come c.args.ports.now.ticks; held = g.D.Depot.held c.args.ports.now.depot; written = g.K.Sink.held c.sum_up.new.output; faults = record { link = g.L.Link.faults c.args.ports.now.link; depot = g.D.Depot.faults c.args.ports.now.depot; output = g.K.Sink.faults c.sum_up.new.output } }) in
    err_holds c.sum_up.result (BulkStops c.in-Bulk.seed c.in-Bulk.mix r) stop.ReadFault (c.sum_up.ensures.stops r) e

pub returns-in-Bulk-clause-depot_never_fails : goal.returns-in-Bulk-clause-depot_never_fails
returns-in-Bulk-clause-depot_never_fails g c unless s e =
    let r = run_of [] (g.S.Source.left c.args.input.now) (g.S.Source.left c.args.input.now) (g.S.Source.faults c.args.input.now) (g.S.Source.faults c.args.input.now) (record { waiting = g.L.Link.waiting c.args.ports.now.link; sent = g.L.Link.sent c.args.ports.now.link; to_come = g.C.Ticks.to_come c.args.ports.now.ticks; held = g.D.Depot.held c.args.ports.now.depot; written = g.K.Sink.held c.args.ports.now.output; faults = record { link = g.L.Link.faults c.args.ports.now.link; depot = g.D.Depot.faults c.args.ports.now.depot; output = g.K.Sink.faults c.args.ports.now.output } }) (record { waiting = g.L.Link.waiting c.args.ports.now.link; sent = g.L.Link.sent c.args.ports.now.link; to_come = g.C.Ticks.to_come c.args.ports.now.ticks; held = g.D.Depot.held c.args.ports.now.depot; written = g.K.Sink.held c.sum_up.new.output; faults = record { link = g.L.Link.faults c.args.ports.now.link; depot = g.D.Depot.faults c.args.ports.now.depot; output = g.K.Sink.faults c.sum_up.new.output } }) in
    err_holds c.sum_up.result (BulkStops c.in-Bulk.seed c.in-Bulk.mix r) stop.DepotFault (c.sum_up.ensures.stops r) e

pub returns-in-ShowDump-clause-performs : goal.returns-in-ShowDump-clause-performs
returns-in-ShowDump-clause-performs g c words e =
    let r = run_of words (g.S.Source.left c.args.input.now) (g.S.Source.left c.args.input.now) (g.S.Source.faults c.args.input.now) (g.S.Source.faults c.args.input.now) (record { waiting = g.L.Link.waiting c.args.ports.now.link; sent = g.L.Link.sent c.args.ports.now.link; to_come = g.C.Ticks.to_come c.args.ports.now.ticks; held = g.D.Depot.held c.args.ports.now.depot; written = g.K.Sink.held c.args.ports.now.output; faults = record { link = g.L.Link.faults c.args.ports.now.link; depot = g.D.Depot.faults c.args.ports.now.depot; output = g.K.Sink.faults c.args.ports.now.output } }) (record { waiting = g.L.Link.waiting c.args.ports.now.link; sent = g.L.Link.sent c.args.ports.now.link; to_come = g.C.Ticks.to_come c.args.ports.now.ticks; held = g.D.Depot.held c.show_dump.new.depot; written = g.K.Sink.held c.show_dump.new.output; faults = record { link = g.L.Link.faults c.args.ports.now.link; depot = g.D.Depot.faults c.show_dump.new.depot; output = g.K.Sink.faults c.show_dump.new.output } }) in
    performs text_of r (rules.ShowDump c.in-ShowDump.name) (e ∙ ap (λ x. Some (known x)) c.in-ShowDump.is) c.show_dump.result (c.show_dump.ensures.done r) (c.show_dump.ensures.stops r) (c.show_dump.ensures.counts (g.S.Source.faults c.args.input.now) (g.L.Link.faults c.args.ports.now.link)) refl (ap (λ h. (record { waiting = g.L.Link.waiting c.args.ports.now.link; sent = g.L.Link.sent c.args.ports.now.link; to_come = g.C.Ticks.to_come c.args.ports.now.ticks; held = h; written = g.K.Sink.held c.show_dump.new.output; faults = record { link = g.L.Link.faults c.args.ports.now.link; depot = g.D.Depot.faults c.show_dump.new.depot; output = g.K.Sink.faults c.show_dump.new.output } })) c.show_dump.ensures.same)

pub returns-in-ShowDump-clause-never_fails : goal.returns-in-ShowDump-clause-never_fails
returns-in-ShowDump-clause-never_fails g c s e =
    let r = run_of [] (g.S.Source.left c.args.input.now) (g.S.Source.left c.args.input.now) (g.S.Source.faults c.args.input.now) (g.S.Source.faults c.args.input.now) (record { waiting = g.L.Link.waiting c.args.ports.now.link; sent = g.L.Link.sent c.args.ports.now.link; to_come = g.C.Ticks.to_come c.args.ports.now.ticks; held = g.D.Depot.held c.args.ports.now.depot; written = g.K.Sink.held c.args.ports.now.output; faults = record { link = g.L.Link.faults c.args.ports.now.link; depot = g.D.Depot.faults c.args.ports.now.depot; output = g.K.Sink.faults c.args.ports.now.output } }) (record { waiting = g.L.Link.waiting c.args.ports.now.link; sent = g.L.Link.sent c.args.ports.now.link; to_come = g.C.Ticks.to_come c.args.ports.now.ticks; held = g.D.Depot.held c.show_dump.new.depot; written = g.K.Sink.held c.show_dump.new.output; faults = record { link = g.L.Link.faults c.args.ports.now.link; depot = g.D.Depot.faults c.show_dump.new.depot; output = g.K.Sink.faults c.show_dump.new.output } }) in
    err_holds c.show_dump.result (ShowStops text_of c.in-ShowDump.name r) stop.ReadFault (c.show_dump.ensures.stops r) e

pub returns-in-ShowDump-clause-kept_depot : goal.returns-in-ShowDump-clause-kept_depot
returns-in-ShowDump-clause-kept_depot g c unless =
    absurd (unless (subst (λ x. UsesDepot (Some (known x))) (sym c.in-ShowDump.is) tt))

pub returns-in-Evacuate-clause-performs : goal.returns-in-Evacuate-clause-performs
returns-in-Evacuate-clause-performs g c words e =
    let r = run_of words (g.S.Source.left c.args.input.now) (g.S.Source.left c.evacuate_input.new.input) (g.S.Source.faults c.args.input.now) (g.S.Source.faults c.evacuate_input.new.input) (record { waiting = g.L.Link.waiting c.args.ports.now.link; sent = g.L.Link.sent c.args.ports.now.link; to_come = g.C.Ticks.to_come c.args.ports.now.ticks; held = g.D.Depot.held c.args.ports.now.depot; written = g.K.Sink.held c.args.ports.now.output; faults = record { link = g.L.Link.faults c.args.ports.now.link; depot = g.D.Depot.faults c.args.ports.now.depot; output = g.K.Sink.faults c.args.ports.now.output } }) (record { waiting = g.L.Link.waiting c.args.ports.now.link; sent = g.L.Link.sent c.args.ports.now.link; to_come = g.C.Ticks.to_come c.args.ports.now.ticks; held = g.D.Depot.held c.args.ports.now.depot; written = g.K.Sink.held c.evacuate_input.new.output; faults = record { link = g.L.Link.faults c.args.ports.now.link; depot = g.D.Depot.faults c.args.ports.now.depot; output = g.K.Sink.faults c.evacuate_input.new.output } }) in
    performs text_of r (rules.Evacuate c.in-Evacuate.from c.as_slice.result.now) ((e ∙ ap (λ x. Some (known x)) c.in-Evacuate.is) ∙ ap (λ ts. Some (rules.Evacuate c.in-Evacuate.from ts)) (sym c.as_slice.ensures.value)) c.evacuate_input.result (c.evacuate_input.ensures.done r) (c.evacuate_input.ensures.stops r) (c.evacuate_input.ensures.counts (g.L.Link.faults c.args.ports.now.link) (g.D.Depot.faults c.args.ports.now.depot)) tt refl

pub returns-in-Evacuate-clause-depot_never_fails : goal.returns-in-Evacuate-clause-depot_never_fails
returns-in-Evacuate-clause-depot_never_fails g c unless s e =
    let r = run_of [] (g.S.Source.left c.args.input.now) (g.S.Source.left c.evacuate_input.new.input) (g.S.Source.faults c.args.input.now) (g.S.Source.faults c.evacuate_input.new.input) (record { waiting = g.L.Link.waiting c.args.ports.now.link; sent = g.L.Link.sent c.args.ports.now.link; to_come = g.C.Ticks.to_come c.args.ports.now.ticks; held = g.D.Depot.held c.args.ports.now.depot; written = g.K.Sink.held c.args.ports.now.output; faults = record { link = g.L.Link.faults c.args.ports.now.link; depot = g.D.Depot.faults c.args.ports.now.depot; output = g.K.Sink.faults c.args.ports.now.output } }) (record { waiting = g.L.Link.waiting c.args.ports.now.link; sent = g.L.Link.sent c.args.ports.now.link; to_come = g.C.Ticks.to_come c.args.ports.now.ticks; held = g.D.Depot.held c.args.ports.now.depot; written = g.K.Sink.held c.evacuate_input.new.output; faults = record { link = g.L.Link.faults c.args.ports.now.link; depot = g.D.Depot.faults c.args.ports.now.depot; output = g.K.Sink.faults c.evacuate_input.new.output } }) in
    err_holds c.evacuate_input.result (EvacuateStops c.in-Evacuate.from c.as_slice.result.now r) stop.DepotFault (c.evacuate_input.ensures.stops r) e

pub returns-in-Evacuate-clause-kept_input : goal.returns-in-Evacuate-clause-kept_input
returns-in-Evacuate-clause-kept_input g c unless =
    absurd (unless (subst (λ x. ReadsInput (Some (known x))) (sym c.in-Evacuate.is) tt))

pub returns-in-Audit-clause-performs : goal.returns-in-Audit-clause-performs
returns-in-Audit-clause-performs g c words e =
    let r = run_of words (g.S.Source.left c.args.input.now) (g.S.Source.left c.audit_input.new.input) (g.S.Source.faults c.args.input.now) (g.S.Source.faults c.audit_input.new.input) (record { waiting = g.L.Link.waiting c.args.ports.now.link; sent = g.L.Link.sent c.args.ports.now.link; to_come = g.C.Ticks.to_come c.args.ports.now.ticks; held = g.D.Depot.held c.args.ports.now.depot; written = g.K.Sink.held c.args.ports.now.output; faults = record { link = g.L.Link.faults c.args.ports.now.link; depot = g.D.Depot.faults c.args.ports.now.depot; output = g.K.Sink.faults c.args.ports.now.output } }) (record { waiting = g.L.Link.waiting c.args.ports.now.link; sent = g.L.Link.sent c.args.ports.now.link; to_come = g.C.Ticks.to_come c.args.ports.now.ticks; held = g.D.Depot.held c.args.ports.now.depot; written = g.K.Sink.held c.audit_input.new.output; faults = record { link = g.L.Link.faults c.args.ports.now.link; depot = g.D.Depot.faults c.args.ports.now.depot; output = g.K.Sink.faults c.audit_input.new.output } }) in
    performs text_of r rules.Audit (e ∙ ap (λ x. Some (known x)) c.in-Audit.is) c.audit_input.result (c.audit_input.ensures.done r) (c.audit_input.ensures.stops r) (c.audit_input.ensures.counts (g.L.Link.faults c.args.ports.now.link) (g.D.Depot.faults c.args.ports.now.depot)) tt refl

pub returns-in-Audit-clause-depot_never_fails : goal.returns-in-Audit-clause-depot_never_fails
returns-in-Audit-clause-depot_never_fails g c unless s e =
    let r = run_of [] (g.S.Source.left c.args.input.now) (g.S.Source.left c.audit_input.new.input) (g.S.Source.faults c.args.input.now) (g.S.Source.faults c.audit_input.new.input) (record { waiting = g.L.Link.waiting c.args.ports.now.link; sent = g.L.Link.sent c.args.ports.now.link; to_come = g.C.Ticks.to_come c.args.ports.now.ticks; held = g.D.Depot.held c.args.ports.now.depot; written = g.K.Sink.held c.args.ports.now.output; faults = record { link = g.L.Link.faults c.args.ports.now.link; depot = g.D.Depot.faults c.args.ports.now.depot; output = g.K.Sink.faults c.args.ports.now.output } }) (record { waiting = g.L.Link.waiting c.args.ports.now.link; sent = g.L.Link.sent c.args.ports.now.link; to_come = g.C.Ticks.to_come c.args.ports.now.ticks; held = g.D.Depot.held c.args.ports.now.depot; written = g.K.Sink.held c.audit_input.new.output; faults = record { link = g.L.Link.faults c.args.ports.now.link; depot = g.D.Depot.faults c.args.ports.now.depot; output = g.K.Sink.faults c.audit_input.new.output } }) in
    err_holds c.audit_input.result (AuditStops r) stop.DepotFault (c.audit_input.ensures.stops r) e

pub returns-in-Audit-clause-kept_input : goal.returns-in-Audit-clause-kept_input
returns-in-Audit-clause-kept_input g c unless =
    absurd (unless (subst (λ x. ReadsInput (Some (known x))) (sym c.in-Audit.is) tt))

pub returns-in-Record-clause-performs : goal.returns-in-Record-clause-performs
returns-in-Record-clause-performs g c words e =
    let r = run_of words (g.S.Source.left c.args.input.now) (g.S.Source.left c.record_input.new.input) (g.S.Source.faults c.args.input.now) (g.S.Source.faults c.record_input.new.input) (record { waiting = g.L.Link.waiting c.args.ports.now.link; sent = g.L.Link.sent c.args.ports.now.link; to_come = g.C.Ticks.to_come c.args.ports.now.ticks; held = g.D.Depot.held c.args.ports.now.depot; written = g.K.Sink.held c.args.ports.now.output; faults = record { link = g.L.Link.faults c.args.ports.now.link; depot = g.D.Depot.faults c.args.ports.now.depot; output = g.K.Sink.faults c.args.ports.now.output } }) (record { waiting = g.L.Link.waiting c.args.ports.now.link; sent = g.L.Link.sent c.args.ports.now.link; to_come = g.C.Ticks.to_come c.args.ports.now.ticks; held = g.D.Depot.held c.args.ports.now.depot; written = g.K.Sink.held c.record_input.new.output; faults = record { link = g.L.Link.faults c.args.ports.now.link; depot = g.D.Depot.faults c.args.ports.now.depot; output = g.K.Sink.faults c.record_input.new.output } }) in
    performs text_of r rules.Record (e ∙ ap (λ x. Some (known x)) c.in-Record.is) c.record_input.result (c.record_input.ensures.done r) (c.record_input.ensures.stops r) (c.record_input.ensures.counts (g.L.Link.faults c.args.ports.now.link) (g.D.Depot.faults c.args.ports.now.depot)) tt refl

pub returns-in-Record-clause-depot_never_fails : goal.returns-in-Record-clause-depot_never_fails
returns-in-Record-clause-depot_never_fails g c unless s e =
    let r = run_of [] (g.S.Source.left c.args.input.now) (g.S.Source.left c.record_input.new.input) (g.S.Source.faults c.args.input.now) (g.S.Source.faults c.record_input.new.input) (record { waiting = g.L.Link.waiting c.args.ports.now.link; sent = g.L.Link.sent c.args.ports.now.link; to_come = g.C.Ticks.to_come c.args.ports.now.ticks; held = g.D.Depot.held c.args.ports.now.depot; written = g.K.Sink.held c.args.ports.now.output; faults = record { link = g.L.Link.faults c.args.ports.now.link; depot = g.D.Depot.faults c.args.ports.now.depot; output = g.K.Sink.faults c.args.ports.now.output } }) (record { waiting = g.L.Link.waiting c.args.ports.now.link; sent = g.L.Link.sent c.args.ports.now.link; to_come = g.C.Ticks.to_come c.args.ports.now.ticks; held = g.D.Depot.held c.args.ports.now.depot; written = g.K.Sink.held c.record_input.new.output; faults = record { link = g.L.Link.faults c.args.ports.now.link; depot = g.D.Depot.faults c.args.ports.now.depot; output = g.K.Sink.faults c.record_input.new.output } }) in
    err_holds c.record_input.result (RecordStops r) stop.DepotFault (c.record_input.ensures.stops r) e

pub returns-in-Record-clause-kept_input : goal.returns-in-Record-clause-kept_input
returns-in-Record-clause-kept_input g c unless =
    absurd (unless (subst (λ x. ReadsInput (Some (known x))) (sym c.in-Record.is) tt))

pub returns-in-Node-clause-performs : goal.returns-in-Node-clause-performs
returns-in-Node-clause-performs g c words e =
    let r = run_of words (g.S.Source.left c.args.input.now) (g.S.Source.left c.run_device.new.input) (g.S.Source.faults c.args.input.now) (g.S.Source.faults c.run_device.new.input) (record { waiting = g.L.Link.waiting c.args.ports.now.link; sent = g.L.Link.sent c.args.ports.now.link; to_come = g.C.Ticks.to_come c.args.ports.now.ticks; held = g.D.Depot.held c.args.ports.now.depot; written = g.K.Sink.held c.args.ports.now.output; faults = record { link = g.L.Link.faults c.args.ports.now.link; depot = g.D.Depot.faults c.args.ports.now.depot; output = g.K.Sink.faults c.args.ports.now.output } }) (record { waiting = g.L.Link.waiting c.run_device.new.ports.link; sent = g.L.Link.sent c.run_device.new.ports.link; to_come = g.C.Ticks.to_come c.run_device.new.ports.ticks; held = g.D.Depot.held c.run_device.new.ports.depot; written = g.K.Sink.held c.run_device.new.ports.output; faults = record { link = g.L.Link.faults c.run_device.new.ports.link; depot = g.D.Depot.faults c.run_device.new.ports.depot; output = g.K.Sink.faults c.run_device.new.ports.output } }) in
    node_performs text_of r c.in-Node.id c.in-Node.own (e ∙ ap (λ x. Some (known x)) c.in-Node.is) c.run_device.result (c.run_device.ensures.ends r) c.run_device.ensures.counts

pub returns-in-Node-clause-depot_never_fails : goal.returns-in-Node-clause-depot_never_fails
returns-in-Node-clause-depot_never_fails g c unless s e =
    absurd (unless (subst (λ x. UsesLink (Some (known x))) (sym c.in-Node.is) tt))

pub returns-in-Node-clause-kept_input : goal.returns-in-Node-clause-kept_input
returns-in-Node-clause-kept_input g c unless =
    absurd (unless (subst (λ x. ReadsInput (Some (known x))) (sym c.in-Node.is) tt))

pub returns-in-Node-clause-kept_link : goal.returns-in-Node-clause-kept_link
returns-in-Node-clause-kept_link g c unless =
    absurd (unless (subst (λ x. UsesLink (Some (known x))) (sym c.in-Node.is) tt))

pub returns-in-Node-clause-kept_depot : goal.returns-in-Node-clause-kept_depot
returns-in-Node-clause-kept_depot g c unless =
    absurd (unless (subst (λ x. UsesDepot (Some (known x))) (sym c.in-Node.is) tt))
