use Rattle.trace_record.proofs.Played.{line_on}
use Rattle.trace_record.proofs.recorder.recording.record_line.Goals as goal

pub returns-in-Ok-record_said-clause-recorded : goal.returns-in-Ok-record_said-clause-recorded
returns-in-Ok-record_said-clause-recorded c script n rest next so_far =
    line_on script c.args.trace.now.items c.record_said.new.trace.items c.args.world.now c.record_said.new.world c.args.machine.now c.record_said.new.machine n c.args.number c.args.line.now rest next so_far c.scripts_are_recorded_line_by_line.ensures.goes_on c.in-Ok.says c.in-Ok.ensures.value
    (c.in-Ok-record_said.ensures so_far.whole so_far.left so_far.stands (c.lines_are_in_range.ensures.read c.args.line.now c.in-Ok.says c.in-Ok.ensures.read))
