use Rattle.std.proofs.Common.{◌≡◌, ◌∙◌, Some, ap, subst, sym}
use Rattle.std.proofs.lemmas.Result.{on_ok_weaker}
use Rattle.protocol.specs.Script.{Event}
use Rattle.law_headline.specs.Does.{IsWithinOf, happening_of}
use Rattle.script_runner.specs.Actions as actions
use Rattle.trace_record.specs.Recorded.{IsLineRecorded}
use Rattle.trace_record.proofs.Played.{as_line, dump_recorded, event_recorded}
use Rattle.trace_record.proofs.recorder.recording.record_said.Goals as goal

pub returns-in-Some-Event : goal.returns-in-Some-Event
returns-in-Some-Event c w left stands within =
    let m = c.args.machine.now in
    let old = c.args.trace.now.items in
    let same : Some (Event c.in-Some-Event.event) ≡ happening_of c.args.line = ap (λ a. Some (actions.happening_of a)) (sym c.in-Some-Event.field-0-is) ∙ c.in-Some-Event.ensures in
    as_line c.happen.result w c.happen.new.world m c.happen.new.machine c.args.written.now old c.happen.new.out.items (happening_of c.args.line) (Some (Event c.in-Some-Event.event)) same
    (on_ok_weaker c.happen.result (event_recorded w c.happen.new.world m c.happen.new.machine c.args.written.now old c.happen.new.out.items c.in-Some-Event.event)
    (c.happen.ensures w left stands (subst IsWithinOf (sym same) within)))

pub returns-in-Some-Dump : goal.returns-in-Some-Dump
returns-in-Some-Dump c w left stands within =
    let old = c.args.trace.now.items in
    let same = ap (λ a. Some (actions.happening_of a)) (sym c.in-Some-Dump.field-0-is) ∙ c.in-Some-Dump.ensures in
    subst (λ o. IsLineRecorded w c.args.machine.now c.args.written.now o c.args.world.now c.args.machine.now old old) same
    (dump_recorded w c.args.world.now c.args.machine.now c.args.written.now old _ left stands)
